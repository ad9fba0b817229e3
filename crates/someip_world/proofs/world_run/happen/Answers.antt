use Rattle.std.proofs.Common.{ap, arith, refl, sym, ◌∙◌}
use Rattle.std.proofs.lemmas.Option.{slice_get_read}
use Rattle.someip_world_rules.specs.Runs.{place_of}
use Rattle.someip_world.proofs.AgainLemmas.{role_kept}
use Rattle.someip_world.proofs.RunLemmas.{happened, nowhere}
use Rattle.someip_world.proofs.world_run.happen.Goals as goal

pub returns-clause-happens : goal.returns-clause-happens
returns-clause-happens g c = λ w shows.
    happened c.args.setup.now c.args.index c.in-Some.place w c.args.step.now c.args.actors.now.items c.args.log.now c.index_mut.result.now _ c.act-given.result _ _
    (ap (place_of c.args.setup.now) (sym (c.as_str.ensures ∙ c.node.ensures)) ∙ sym c.place_of.ensures ∙ c.in-Some.is) shows
    (slice_get_read c.args.actors.now.items _ _ _ refl (omega arith) c.index_mut.ensures.value) c.act-given.ensures.acts c.tell.ensures

pub returns-clause-roles : goal.returns-clause-roles
returns-clause-roles g c =
    role_kept c.args.actors.now.items c.in-Some.place c.index_mut.result.now _
    (slice_get_read c.args.actors.now.items _ _ _ refl (omega arith) c.index_mut.ensures.value) c.act-given.ensures.role

pub returns-then-len-place-clause-happens : goal.returns-then-len-place-clause-happens
returns-then-len-place-clause-happens g c = λ w shows.
    let named = ap (place_of c.args.setup.now) (sym (c.as_str.ensures ∙ c.node.ensures)) ∙ sym c.place_of.ensures ∙ c.in-Some.is in
    rw (named, nowhere c.args.setup.now c.args.index c.in-Some.place w c.args.step.now c.args.actors.now.items c.args.log.now shows (omega (arith, c.if-len-place.true))) (refl, refl)
