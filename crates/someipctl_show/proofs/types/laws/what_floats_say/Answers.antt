use Rattle.std.proofs.Common.{◌≡◌, ℕ, List, None, codes, ap, refl, ◌∙◌, rules}
use Rattle.std.proofs.lemmas.Float.Parse.{parse_float_on_literals}
use Rattle.someip_payload_values.specs.Check.{checked}
use lib.Ieee.{nan_bits, of_bits}
use Rattle.hex.specs.Hex.{encode_with}
use Rattle.someip_payload_values.specs.declared.number.Order.TheVariants.{Big}
use Rattle.someip_payload_values.specs.Floats.{SaysBits, single}
use Rattle.someip_payload_values.specs.Data.{Form, float, Data, truth, uint, int, real, said, phrase, list, tuple, nothing, chosen, slotted}
use Rattle.someip_payload_values.specs.ToldText.{IsToldOf}
use Rattle.someip_payload_values.specs.ValueText.{data_text}
use Rattle.someip_payload_codec.specs.Reading.{decoded, data_by, ordered_at}
use Rattle.std.specs.Fmt.{digits}
use Rattle.someipctl_show.specs.types.ValueLine.{read_line}
use Rattle.someipctl_show.proofs.types.laws.what_floats_say.Goals as goal

twenty_and_a_half : SaysBits single 0x41a40000 (codes "20.5")
unfolding parse_float_on_literals nan_bits of_bits
twenty_and_a_half = search rules

pub returns-clause-number : goal.returns-clause-number
unfolding checked decoded data_by ordered_at data_text digits IsToldOf
returns-clause-number c = (codes "20.5", (said (codes "20.5"), twenty_and_a_half, refl), refl)

nan_told : (told : Data) (f : Form) → IsToldOf (real single 0x7fc00001) told → data_text f told ≡ codes "nan(7fc00001)"
unfolding IsToldOf data_text encode_with nan_bits
nan_told (said x) f is = is
nan_told (truth b) f is = absurd is
nan_told (uint n) f is = absurd is
nan_told (int z) f is = absurd is
nan_told (real p bits) f is = absurd is
nan_told (phrase x) f is = absurd is
nan_told (list ds) f is = absurd is
nan_told (tuple ds) f is = absurd is
nan_told nothing f is = absurd is
nan_told (chosen kind d) f is = absurd is
nan_told (slotted ss) f is = absurd is

only_nan : (line told_so : List ℕ) (told : Data) → IsToldOf (real single 0x7fc00001) told → told_so ≡ data_text (float Big single) told → line ≡ read_line 3 None told_so 4 4
    → line ≡ codes "3 value nan(7fc00001)\n"
unfolding digits
only_nan line told_so told is says e = e ∙ ap (λ (t : List ℕ). read_line 3 None t 4 4) (says ∙ nan_told told (float Big single) is)

pub returns-clause-nan : goal.returns-clause-nan
unfolding checked decoded data_by ordered_at data_text digits IsToldOf encode_with nan_bits
returns-clause-nan c = λ line. (λ is. only_nan line is.0 is.1.0 is.1.1 is.1.2 is.2, λ e. (codes "nan(7fc00001)", (said (codes "nan(7fc00001)"), refl, refl), e))
