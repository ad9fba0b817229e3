use Rattle.std.proofs.Common.{◌≡◌, ◌++◌, codes, encode_utf8_all}
use Rattle.std.specs.List.{flat_map}
use Rattle.std.specs.Str.Iter.{chars_rest}
use Rattle.std.specs.Fmt.{HasWritten, IsPlainFormatter}
use Rattle.someip_payload_values.specs.ValueText.{escaped}
use Rattle.someip_payload_values.proofs.value_text.write_quoted.Given as goal

abbrev pub invariant-loop-c : goal.invariant-loop-c
invariant-loop-c g l =
    (encode_utf8_all l.yielded ++ chars_rest l.c-iterator ≡ l.text)
    × (IsPlainFormatter l.fn.f → HasWritten g.W.Write.write_str_gives l.fn.f (codes "\"" ++ flat_map escaped l.yielded) l.f)
