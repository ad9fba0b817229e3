use Rattle.std.proofs.Common.{◌≡◌, ℕ, ◌<◌, ◌≤◌, List, ◌++◌, length, slice_get, take, None}
use Rattle.std.specs.FinMap.{get}
use Rattle.someip_reassembly.specs.Slices.{bytes_in}
use Rattle.someip_reassembly.proofs.slices.append_slices.Given as goal

-- the bytes below the end were appended, and the slices so far hold none from there on
abbrev pub invariant-loop-slice : goal.invariant-loop-slice
invariant-loop-slice l =
    record {
      front : (front : List ℕ) × (l.bytes.items ≡ l.fn.bytes.items ++ front) × (length front ≡ l.end) × ((place : ℕ) → place < l.end → get (bytes_in l.slices) place ≡ slice_get front place);
      past : (place : ℕ) → l.end ≤ place → get (bytes_in (take l.slice-index l.slices)) place ≡ None;
    }
