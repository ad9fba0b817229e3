use Rattle.std.proofs.Common.{◌≡◌, ℕ, ◌<◌, ◌&&◌, nat_lt, false, length, get_or}
use Rattle.someip_reassembly.specs.declared.slices.Slice.{Slice}
use Rattle.someip_reassembly.specs.Slices.{end_of}
use Rattle.someip_reassembly.proofs.slices.any_reaches.Given as goal

-- no slice so far has a byte at or past the total
abbrev pub invariant-loop-slice : goal.invariant-loop-slice
invariant-loop-slice l =
    (k : ℕ) (d : Slice) → k < l.slice-index → (nat_lt 0 (length (get_or l.slices k d).bytes.items) && nat_lt l.total (end_of (get_or l.slices k d))) ≡ false
