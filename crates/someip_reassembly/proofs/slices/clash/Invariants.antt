use Rattle.std.proofs.Common.{ℕ, ◌<◌, get_or}
use Rattle.someip_reassembly.specs.declared.slices.Slice.{Slice}
use Rattle.someip_reassembly.specs.Slices.{byte_at, Agree}
use Rattle.someip_reassembly.proofs.slices.clash.Given as goal

-- the slices so far agree with the slice
abbrev pub invariant-loop-slice : goal.invariant-loop-slice
invariant-loop-slice l =
    (k : ℕ) (d : Slice) → k < l.slice-index → Agree (byte_at (get_or l.slices k d).offset (get_or l.slices k d).bytes.items) (byte_at l.offset l.bytes)
