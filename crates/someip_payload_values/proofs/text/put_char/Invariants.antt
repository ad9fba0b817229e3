use Rattle.std.proofs.Common.{◌≡◌, ◌++◌, true, drop}
use Rattle.std.specs.Prelude.{flat_map}
use Rattle.std.specs.Char.Escape.{encode_utf16}
use Rattle.someip_payload_values.specs.Texts.{unit_bytes}
use Rattle.someip_payload_values.proofs.text.put_char.Given as goal

abbrev pub invariant-loop-unit : goal.invariant-loop-unit
invariant-loop-unit l =
    l.out.items ++ flat_map (unit_bytes true) (drop l.unit-index l.unit-items) ≡ l.fn.out.items ++ flat_map (unit_bytes true) (encode_utf16 l.fn.c)
