use Rattle.std.proofs.Common.{◌≡◌, ◌++◌, map}
use Rattle.someip_world_schedule.specs.declared.step.Step.TheVariants.{Deliver}
use Rattle.someip_explore.specs.Moves.{numbers_to}
use Rattle.someip_explore.proofs.deliveries.put_deliveries.Given as goal

-- the deliveries of so many datagrams were added
abbrev pub invariant-loop-done : goal.invariant-loop-done
invariant-loop-done l = l.choices.items ≡ l.fn.choices.items ++ map (λ number. Deliver number l.node) (numbers_to l.done)
