use Rattle.std.proofs.Common.{◌≡◌, ℕ, ◌<◌, ◌≤◌, take, None}
use Rattle.std.specs.Option.{IsSome}
use Rattle.std.specs.FinMap.{get}
use Rattle.someip_reassembly.specs.Slices.{bytes_in}
use Rattle.someip_reassembly.proofs.slices.covered.Given as goal

-- the slices so far hold each place below the end and none from there on
abbrev pub invariant-loop-slice : goal.invariant-loop-slice
invariant-loop-slice l =
    record {
      held : (place : ℕ) → place < l.end → IsSome (get (bytes_in (take l.slice-index l.slices)) place);
      past : (place : ℕ) → l.end ≤ place → get (bytes_in (take l.slice-index l.slices)) place ≡ None;
    }
