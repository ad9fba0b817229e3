use Rattle.std.proofs.Common.{◌≡◌, List, ℕ, codes, ◌++◌, sym, ap, ◌∙◌, Some}
use Rattle.std.specs.Float.Ieee.{Float}
use Rattle.hex.specs.Hex.{encode_lower}
use Rattle.someip_payload_values.specs.Floats.{double}
use Rattle.someip_payload_values.proofs.FloatsSaid.{says_number, says_nan}
use Rattle.someip_payload_values.proofs.float_text.write_double.Goals as goal

pub returns-then-is_double_nan : goal.returns-then-is_double_nan
returns-then-is_double_nan g c = λ plain done. (
  _,
  says_nan double c.args.bits _ (sym c.is_double_nan.ensures ∙ c.if-is_double_nan.true) (ap (λ (bytes : List ℕ). codes "nan(" ++ (encode_lower bytes ++ codes ")")) c.to_be_bytes.ensures),
  c.write_nan.ensures plain done,
)

pub returns : goal.returns
returns g c = λ plain done. (
  _,
  says_number double c.args.bits _ (sym c.is_double_nan.ensures ∙ c.if-is_double_nan.false) (c.format.ensures.parses ∙ ap (λ (x : Float). Some x) c.double_of.ensures),
  c.write_str.ensures.writes plain done,
)
