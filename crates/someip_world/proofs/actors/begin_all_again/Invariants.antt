use Rattle.std.proofs.Common.{◌≡◌, map, take}
use Rattle.someip_world.specs.Acting.{role_of}
use Rattle.someip_world.specs.Running.{AreStarted}
use Rattle.someip_world.proofs.actors.begin_all_again.Given as goal

-- those so far are started, and all are who they were
abbrev pub invariant-loop-place : goal.invariant-loop-place
invariant-loop-place g l = record {
  roles : map role_of l.places.items ≡ map role_of l.fn.places.items;
  started : AreStarted (take l.place l.nodes) (take l.place l.places.items);
}
