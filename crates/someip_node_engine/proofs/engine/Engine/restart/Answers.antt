use Rattle.std.proofs.Common.{ap, ◌∙◌}
use Rattle.someip_node_engine.proofs.engine.Engine.restart.Goals as goal

pub invariant_of-self : goal.invariant_of-self
invariant_of-self g c =
    let before = c.self.invariant in (
      before.0,
      c.clear.ensures.limits ∙ before.1,
      c.clear.ensures.moments _,
      ap (λ peers. peers.limit) c.clear-2.ensures ∙ before.3,
      before.4,
      ap (λ offers. offers.versions) c.start.ensures ∙ before.5,
      ap (λ seek. seek.wanted) c.start-2.ensures ∙ before.6,
    )
