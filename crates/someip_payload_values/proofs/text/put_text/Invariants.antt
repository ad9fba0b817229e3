use Rattle.std.proofs.Common.{◌≡◌, ◌++◌, ◌∷◌, true}
use Rattle.std.specs.Prelude.{flat_map}
use Rattle.std.specs.Char.Escape.{encode_utf16}
use Rattle.std.specs.Str.{chars, IsUtf8}
use Rattle.someip_payload_values.specs.Texts.{unit_bytes}
use Rattle.someip_payload_values.proofs.text.put_text.Given as goal

abbrev pub invariant-loop-c : goal.invariant-loop-c
invariant-loop-c l =
    IsUtf8 l.c-iterator.rest.now
    × (l.out.items ++ flat_map (unit_bytes true) (flat_map encode_utf16 (chars l.c-iterator.rest.now)) ≡ l.fn.out.items ++ (0xFE ∷ 0xFF ∷ flat_map (unit_bytes true) (flat_map encode_utf16 (chars l.fn.text))))
