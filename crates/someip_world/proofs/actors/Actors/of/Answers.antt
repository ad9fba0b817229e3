use Rattle.std.proofs.Common.{subst}
use Rattle.someip_world.specs.Running.{AreStarted}
use Rattle.someip_world.proofs.AgainLemmas.{started_are}
use Rattle.someip_world.proofs.actors.Actors.of.Goals as goal

pub invariant_of-result : goal.invariant_of-result
invariant_of-result g c =
    started_are c.args.setup.now.nodes c.in_ok-places.places.items
    (subst (λ nodes. AreStarted nodes c.in_ok-places.places.items) c.nodes.ensures.nodes c.in_ok-places.ensures)
