use Rattle.std.proofs.Common.{ℕ, List, option_map}
use Rattle.std.specs.Fmt.{HasWritten, IsPlainFormatter}
use Rattle.someip_payload_values.specs.View.{form}
use Rattle.someip_payload_values.specs.ValueText.{or_bool}
use Rattle.someip_payload_values.proofs.ValueTexts.{ElementsGoOn, MembersGoOn, SlotsGoOn}
use Rattle.someip_payload_values.proofs.value_text.+value_text.Given as goal

abbrev pub invariant-write_elements-loop-i : goal.invariant-write_elements-loop-i
invariant-write_elements-loop-i g l =
    IsPlainFormatter l.fn.f
    → (written : List ℕ) × ElementsGoOn (or_bool (option_map (λ s. form s.now) l.element)) l.values l.i written × HasWritten g.W.Write.write_str_gives l.fn.f written l.f

abbrev pub invariant-write_members-loop-i : goal.invariant-write_members-loop-i
invariant-write_members-loop-i g l =
    IsPlainFormatter l.fn.f
    → (written : List ℕ) × MembersGoOn l.shapes l.values l.i written × HasWritten g.W.Write.write_str_gives l.fn.f written l.f

abbrev pub invariant-write_slots-loop-i : goal.invariant-write_slots-loop-i
invariant-write_slots-loop-i g l =
    IsPlainFormatter l.fn.f
    → (written : List ℕ) × SlotsGoOn l.members l.slots l.i written × HasWritten g.W.Write.write_str_gives l.fn.f written l.f
