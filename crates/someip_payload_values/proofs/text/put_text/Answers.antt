use Rattle.std.proofs.Common.{rules, ◌≡◌, ◌++◌, true, [], ◌∷◌, ◌∙◌, sym, length, append_assoc, append-nil}
use Rattle.std.specs.Prelude.{flat_map}
use Rattle.std.specs.Char.Escape.{encode_utf16}
use Rattle.std.proofs.lemmas.Str.{IsUtf8-past_char}
use Rattle.std.proofs.lemmas.List.{nil_from_length}
use lib.Utf8.{encode}
use Rattle.someip_payload_values.specs.Texts.{unit_bytes}
use Rattle.someip_payload_values.proofs.Strings.{written, written_more, written_none, written_all}
use Rattle.someip_payload_values.proofs.text.put_text.Goals as goal

pub loop-c-preserved : goal.loop-c-preserved
loop-c-preserved c =
    let (is, so_far) = c.loop-c.invariant in
    let s = c.loop-c.c-iterator.rest.now in
    let rest = c.next.new.self.rest.now in
    let e : s ≡ encode c.in-Some.c ++ rest = search rules in
    let out : c.put_char.new.out.items ≡ c.loop-c.out.items ++ flat_map (unit_bytes true) (encode_utf16 c.in-Some.c) = search rules in
    (IsUtf8-past_char s rest c.in-Some.c is e, rw out (written_more c.loop-c.out.items s rest c.in-Some.c is e) ∙ so_far)

pub returns-in_ok-extend_from_slice-in-Utf16-2 : goal.returns-in_ok-extend_from_slice-in-Utf16-2
returns-in_ok-extend_from_slice-in-Utf16-2 c =
    let (is, so_far) = c.loop-c.invariant in
    let e : length c.loop-c.c-iterator.rest.now ≡ 0 = search rules in
    let none = written_none c.loop-c.c-iterator.rest.now (nil_from_length c.loop-c.c-iterator.rest.now e) in
    let out : c.loop-c.out.items ≡ c.args.out.now.items ++ (0xFE ∷ 0xFF ∷ written c.args.text.now) = sym (append-nil c.loop-c.out.items) ∙ rw none at so_far in
    rw (c.in_ok-extend_from_slice-in-Utf16-2.ensures.items, out, c.in-Utf16.is, written_all c.args.text.now) (append_assoc c.args.out.now.items (0xFE ∷ 0xFF ∷ written c.args.text.now) (0 ∷ 0 ∷ []))
