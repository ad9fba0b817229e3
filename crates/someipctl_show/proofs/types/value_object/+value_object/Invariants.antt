use Rattle.std.proofs.Common.{List, option_map}
use Rattle.json.specs.Token.{Token}
use Rattle.someip_payload_values.specs.View.{form}
use Rattle.someip_payload_values.specs.ValueText.{or_bool}
use Rattle.someipctl_show.specs.types.ValueTokens.{Adds}
use Rattle.someipctl_show.proofs.about_types.ValueTokenLemmas.{ElementsGoOn, MembersGoOn, SlotsGoOn}
use Rattle.someipctl_show.proofs.types.value_object.+value_object.Given as goal

abbrev pub invariant-put_elements-loop-i : goal.invariant-put_elements-loop-i
invariant-put_elements-loop-i l = (written : List Token) × ElementsGoOn (or_bool (option_map (λ s. form s.now) l.element)) l.values l.i written × Adds l.fn.out l.out written

abbrev pub invariant-put_members-loop-i : goal.invariant-put_members-loop-i
invariant-put_members-loop-i l = (written : List Token) × MembersGoOn l.named l.shapes l.values l.i written × Adds l.fn.out l.out written

abbrev pub invariant-put_slots-loop-i : goal.invariant-put_slots-loop-i
invariant-put_slots-loop-i l = (written : List Token) × SlotsGoOn l.named l.members l.slots l.i written × Adds l.fn.out l.out written
