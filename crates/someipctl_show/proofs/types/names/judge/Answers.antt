use Rattle.std.proofs.Common.{◌≡◌, List, [], ◌∷◌, ◌++◌, refl, subst, string_bytes}
use Rattle.std.proofs.lemmas.Result.{err_from_is_err_and}
use Rattle.toml.specs.Data.{Data}
use Rattle.someipctl_show.specs.declared.types.names.Step.{Step}
use Rattle.someipctl_show.specs.declared.types.names.Way.{Way}
use Rattle.someipctl_show.specs.types.Judging.{BeginsWith}
use Rattle.toml.specs.View.{view}
use Rattle.someipctl_show.proofs.about_types.WayLemmas.{begins_down, pop_weight, tells_in, way_pop}
use Rattle.someipctl_show.proofs.types.names.judge.Goals as goal

pub go_on-requires-clause-step : goal.go_on-requires-clause-step
go_on-requires-clause-step c =
    (way_pop (view c.args.types.now) c.loop-step.names.shapes c.loop-step.way (record { path = c.pop.new.self; opened = c.loop-step.way.opened }) c.in-Some.step c.loop-step.invariant.way c.in-Some.ensures.items refl).1

pub go_on-requires-clause-way : goal.go_on-requires-clause-way
go_on-requires-clause-way c =
    (way_pop (view c.args.types.now) c.loop-step.names.shapes c.loop-step.way (record { path = c.pop.new.self; opened = c.loop-step.way.opened }) c.in-Some.step c.loop-step.invariant.way c.in-Some.ensures.items refl).0

pub loop-step-smaller : goal.loop-step-smaller
loop-step-smaller c =
    pop_weight (view c.args.types.now) c.loop-step.way (record { path = c.pop.new.self; opened = c.loop-step.way.opened }) c.go_on.new.way c.in-Some.step c.in-Some.ensures.items refl c.in_ok-go_on.ensures.shorter

pub returns-in_err-go_on-clause-err : goal.returns-in_err-go_on-clause-err
returns-in_err-go_on-clause-err c =
    let p = err_from_is_err_and c.from_residual-in_err-go_on.result c.from_residual-in_err-go_on.ensures.1 in
    let types : Data = view c.args.types.now in
    let rest : Way = record { path = c.pop.new.self; opened = c.loop-step.way.opened } in
    let step : Step = c.in-Some.step in
    let items : c.loop-step.way.path.items ≡ c.pop.new.self.items ++ step ∷ [] = c.in-Some.ensures.items in
    let fits = (way_pop types c.loop-step.names.shapes c.loop-step.way rest step c.loop-step.invariant.way items refl).0 in
    let begins = subst (λ (steps : List Step). BeginsWith steps c.args.first.now) items c.loop-step.invariant.begins in
    let down = begins_down types c.loop-step.names.shapes c.pop.new.self.items step c.args.first.now fits.path begins in
    rw (p.1, p.2) (tells_in types c.args.names.now.shapes c.loop-step.names.shapes c.args.first.now (string_bytes step.name) _ c.loop-step.invariant.judged.stand c.loop-step.invariant.more down c.in_err-go_on.ensures.err)
