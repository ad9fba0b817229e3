-- What blocks say.
use Rattle.std.proofs.Common.{◌≡◌, ℕ, ◌≤◌, false, ltb, List, length, Some, None, Ok, sym, ap, ◌∙◌}
use Rattle.std.specs.Prelude.{slice_get, slice_range}
use Rattle.std.proofs.lemmas.Bool.{le-ltb}
use Rattle.recording.specs.declared.interface.Interface.{Interface}
use Rattle.recording.specs.declared.number.ByteOrder.{ByteOrder}
use Rattle.recording.specs.declared.format.Format.TheVariants.{Blocks}
use Rattle.recording.specs.Blocks.{BlockValue, block_fault, block_in}
use Rattle.recording.specs.Records.{part_meaning}
use Rattle.recording.specs.Sections.{Meaning, captured_end, timed_of, timed_packet, timed_record, meaning_of}

pub timed_record-given : (interfaces : List Interface) (p : ℕ) (b : BlockValue) (index : ℕ) (i : Interface) → captured_end b ≤ length b.body → slice_get interfaces index ≡ Some i
    → timed_record interfaces p b index ≡ Ok (Some (timed_packet b index i))
timed_record-given interfaces p b index i le is =
    let room : ltb (length b.body) (captured_end b) ≡ false = le-ltb _ _ le in
    rw room (ap (timed_of p b index) is)

pub blocks_meaning : (order : ByteOrder) (interfaces : List Interface) (p : ℕ) (bytes : List ℕ) (b : BlockValue) (meaning : Meaning) → block_fault order p bytes ≡ None → b ≡ block_in order bytes → meaning_of interfaces p b ≡ meaning
    → part_meaning (Blocks order) interfaces p bytes ≡ meaning
blocks_meaning order interfaces p bytes b meaning fault is means = rw fault (ap (meaning_of interfaces p) (sym is) ∙ means)
