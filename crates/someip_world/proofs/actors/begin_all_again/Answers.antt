use Rattle.std.proofs.Common.{arith, refl, ◌∙◌}
use Rattle.std.proofs.lemmas.Option.{slice_get_read}
use Rattle.someip_world.proofs.AgainLemmas.{all_again, are_long, more_again, role_kept, same_are}
use Rattle.someip_world.proofs.actors.begin_all_again.Goals as goal

pub index_mut-requires : goal.index_mut-requires
index_mut-requires g c =
    let all = same_are c.args.nodes.now c.args.places.now.items c.loop-place.places.items c.requires c.loop-place.invariant.roles in
    let long = are_long c.args.nodes.now c.loop-place.places.items all in
    omega (arith, long, c.loop-place-test.true, c.loop-place.places.ok)

pub returns-in_err-begin_again-clause-roles : goal.returns-in_err-begin_again-clause-roles
returns-in_err-begin_again-clause-roles g c =
    let all = same_are c.args.nodes.now c.args.places.now.items c.loop-place.places.items c.requires c.loop-place.invariant.roles in
    let long = are_long c.args.nodes.now c.loop-place.places.items all in
    let here = slice_get_read c.loop-place.places.items _ _ _ refl (omega (arith, long, c.loop-place-test.true)) c.index_mut.ensures.value in
    role_kept c.loop-place.places.items c.loop-place.place c.index_mut.result.now c.begin_again.new.actor here c.in_err-begin_again.ensures.role ∙ c.loop-place.invariant.roles

pub loop-place-preserved : goal.loop-place-preserved
loop-place-preserved g c =
    let all = same_are c.args.nodes.now c.args.places.now.items c.loop-place.places.items c.requires c.loop-place.invariant.roles in
    let long = are_long c.args.nodes.now c.loop-place.places.items all in
    let here = slice_get_read c.loop-place.places.items _ _ _ refl (omega (arith, long, c.loop-place-test.true)) c.index_mut.ensures.value in
    record {
      roles = role_kept c.loop-place.places.items c.loop-place.place c.index_mut.result.now c.begin_again.new.actor here c.in_ok-begin_again.ensures.role
          ∙ c.loop-place.invariant.roles;
      started = more_again c.args.nodes.now c.loop-place.place c.index-nodes-place.result c.loop-place.places.items c.index_mut.result.now c.begin_again.new.actor all
          c.loop-place.invariant.started c.loop-place-test.true c.index-nodes-place.is here c.in_ok-begin_again.ensures.again;
    }

pub returns-clause-started : goal.returns-clause-started
returns-clause-started g c =
    all_again c.args.nodes.now c.loop-place.place c.loop-place.places.items
    (same_are c.args.nodes.now c.args.places.now.items c.loop-place.places.items c.requires c.loop-place.invariant.roles)
    c.loop-place.invariant.started (omega (arith, c.loop-place-test.false))
