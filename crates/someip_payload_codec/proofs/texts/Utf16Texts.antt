-- Texts in UTF-16: what is read is spelled so, and the other way round.
use Rattle.std.proofs.Common.{◌≡◌, ◌⊎◌, inl, inr, ℕ, ◌-◌, ◌%◌, ◌≤◌, Bool, true, false, cond, eqb, ◌&&◌, not, List, [], ◌∷◌, ◌++◌, length, take, drop, get_or, Ok, Err, refl, sym, ap, subst, ◌∙◌, append_assoc, arith}
use Rattle.std.specs.Prelude.{flat_map}
use Rattle.std.specs.Char.Escape.{encode_utf16}
use Rattle.std.specs.Char.Utf16.{has_unpaired_surrogate, utf16_lossy_chars}
use Rattle.std.specs.Str.{encode_utf8_all}
use Rattle.std.proofs.lemmas.Bool.{and_parts, eqb-true, lt-ltb}
use Rattle.someip_payload_values.specs.declared.error.PayloadError.{PayloadError}
use Rattle.someip_payload_values.specs.declared.error.PayloadError.TheVariants.{BadText, NoTerminator}
use Rattle.someip_payload_values.specs.declared.shape.Encoding.TheVariants.{Utf16}
use Rattle.someip_payload_values.specs.Texts.{utf16_mark, unit_bytes, units_of_text}
use Rattle.someip_payload_codec.specs.Texts.{SpellsUtf16, IsTerminated}
use Rattle.someip_payload_codec.specs.Reading.{is_ended, is_little, inner, units_of, utf16_in}
use Rattle.someip_payload_codec.proofs.parts.Parts.{IsBytes}
use Rattle.someip_payload_values.proofs.StepLemmas.{passed, passed_err}
use Rattle.someip_payload_values.proofs.Strings.{flat_map-append}
use Rattle.someip_payload_codec.proofs.texts.Utf8Texts.{ended_split, ended_is, ended_front}
use Rattle.someip_payload_codec.proofs.texts.Utf16Units.{IsUnits, tail_units, front_units, units_short, units_again, units_split, units_fit, units_append, bytes_even, none_unpaired, lossy_again, lossy_spells, marked_units}

abbrev pub is_text : List ℕ → Bool
is_text units = eqb (get_or units 0 0) utf16_mark && not (has_unpaired_surrogate (inner units))

-- a mark, the units between, and a zero
marked_split : (t : List ℕ) → get_or (t ++ 0 ∷ []) 0 0 ≡ utf16_mark → t ≡ utf16_mark ∷ drop 1 t
marked_split [] e = absurd (omega arith)
marked_split (u ∷ t) e = ap (λ (x : ℕ). x ∷ t) e

not_true : (b : Bool) → not b ≡ true → b ≡ false
not_true true e = absurd cc
not_true false e = refl

pub text_split : (units : List ℕ) → is_ended units ≡ true → is_text units ≡ true → (units ≡ utf16_mark ∷ (inner units ++ 0 ∷ [])) × (has_unpaired_surrogate (inner units) ≡ false)
text_split units ended good =
    let p = and_parts (eqb (get_or units 0 0) utf16_mark) (not (has_unpaired_surrogate (inner units))) good in
    let t = take (length units - 1) units in
    let e : units ≡ t ++ 0 ∷ [] = ended_split units ended in
    let mark : get_or (t ++ 0 ∷ []) 0 0 ≡ utf16_mark = rw (← e) (eqb-true _ _ p.0) in
    (e ∙ ap (λ (x : List ℕ). x ++ 0 ∷ []) (marked_split t mark), not_true _ p.1)

pub utf16_took : (place : ℕ) (body s : List ℕ) → IsBytes body → utf16_in place (units_of (not (is_little body)) body) ≡ Ok s → SpellsUtf16 s body
unfolding utf16_in
utf16_took place body s fits h =
    let big = not (is_little body) in
    let us = units_of big body in
    let a = passed (is_ended us) (cond (is_text us) (Ok (encode_utf8_all (utf16_lossy_chars (inner us)))) (Err (BadText place))) (NoTerminator place) s h in
    let b = passed (is_text us) (Ok (encode_utf8_all (utf16_lossy_chars (inner us)))) (BadText place) s a.1 in
    let same : encode_utf8_all (utf16_lossy_chars (inner us)) ≡ s = cc (b.1) in
    let parts = text_split us a.0 b.0 in
    let (extra, short, e) = units_split big body fits in
    let cs = utf16_lossy_chars (inner us) in
    let fit : IsUnits (inner us) = front_units (inner us) (0 ∷ []) (tail_units utf16_mark (inner us ++ 0 ∷ []) (subst IsUnits parts.0 (units_fit big body fits))) in
    let spells = lossy_spells (inner us) fit parts.1 in
    let whole : us ≡ units_of_text cs = rw spells.0 (parts.0) in
    (big, cs, extra, spells.1, sym same, short, e ∙ ap (λ (x : List ℕ). flat_map (unit_bytes big) x ++ extra) whole)

-- the order of the bytes is seen at the mark
pub order_seen : (big : Bool) (rest : List ℕ) → not (is_little (unit_bytes big utf16_mark ++ rest)) ≡ big
order_seen true rest = rw (lt-ltb 1 (length (0xFE ∷ 0xFF ∷ rest)) (omega arith)) refl
order_seen false rest = rw (lt-ltb 1 (length (0xFF ∷ 0xFE ∷ rest)) (omega arith)) refl

pub utf16_again : (place : ℕ) (body s : List ℕ) → SpellsUtf16 s body → utf16_in place (units_of (not (is_little body)) body) ≡ Ok s
unfolding utf16_in
utf16_again place body s (big, cs, extra, good, same, short, e) =
    let us = units_of_text cs in
    let parts : body ≡ unit_bytes big utf16_mark ++ (flat_map (unit_bytes big) (flat_map encode_utf16 cs ++ 0 ∷ []) ++ extra) = e ∙ append_assoc (unit_bytes big utf16_mark) (flat_map (unit_bytes big) (flat_map encode_utf16 cs ++ 0 ∷ [])) extra in
    let order : not (is_little body) ≡ big = ap (λ (x : List ℕ). not (is_little x)) parts ∙ order_seen big _ in
    let units : units_of (not (is_little body)) body ≡ (utf16_mark ∷ flat_map encode_utf16 cs) ++ 0 ∷ [] = rw (order, e) (units_again big us extra (marked_units cs good) short) in
    rw (units, ended_is (utf16_mark ∷ flat_map encode_utf16 cs), ended_front (utf16_mark ∷ flat_map encode_utf16 cs), none_unpaired cs good, lossy_again cs good, same) refl

zero_unit : (big : Bool) (extra : List ℕ) → length extra ≤ 1 → units_of big (0 ∷ 0 ∷ extra) ≡ 0 ∷ []
unfolding units_of
zero_unit true extra short = ap (λ (x : List ℕ). 0 ∷ x) (units_short true extra short)
zero_unit false extra short = ap (λ (x : List ℕ). 0 ∷ x) (units_short false extra short)

terminated : (big : Bool) (body front extra : List ℕ) → body ≡ front ++ (0 ∷ 0 ∷ extra) → length front % 2 ≡ 0 → length extra ≤ 1 → is_ended (units_of big body) ≡ true
terminated big body front extra is even short =
    let e : units_of big body ≡ units_of big front ++ 0 ∷ [] = rw (is, units_append big front (0 ∷ 0 ∷ extra) even, zero_unit big extra short) refl in
    rw e (ended_is (units_of big front))

pub zero_bytes : (big : Bool) (t : List ℕ) → flat_map (unit_bytes big) (t ++ 0 ∷ []) ≡ flat_map (unit_bytes big) t ++ (0 ∷ 0 ∷ [])
zero_bytes true t = flat_map-append (unit_bytes true) t (0 ∷ [])
zero_bytes false t = flat_map-append (unit_bytes false) t (0 ∷ [])

ended_bytes : (big : Bool) (body : List ℕ) → IsBytes body → is_ended (units_of big body) ≡ true → IsTerminated Utf16 body
ended_bytes big body fits ended =
    let us = units_of big body in
    let t = take (length us - 1) us in
    let (extra, short, e) = units_split big body fits in
    let front = flat_map (unit_bytes big) t in
    let zero : flat_map (unit_bytes big) us ≡ front ++ (0 ∷ 0 ∷ []) = ap (flat_map (unit_bytes big)) (ended_split us ended) ∙ zero_bytes big t in
    (front, extra, e ∙ ap (λ (x : List ℕ). x ++ extra) zero ∙ append_assoc front (0 ∷ 0 ∷ []) extra, bytes_even big t, short)

pub utf16_failed : (place : ℕ) (body : List ℕ) (e : PayloadError) → IsBytes body → utf16_in place (units_of (not (is_little body)) body) ≡ Err e
    → ((IsTerminated Utf16 body → ⊥) × (e ≡ NoTerminator place)) ⊎ (IsTerminated Utf16 body × (e ≡ BadText place))
unfolding utf16_in
utf16_failed place body e fits h =
    let big = not (is_little body) in
    let us = units_of big body in
    elim (passed_err (is_ended us) (cond (is_text us) (Ok (encode_utf8_all (utf16_lossy_chars (inner us)))) (Err (BadText place))) (NoTerminator place) e h) [
      | inl (open_end, same) ↦ inl (λ (front, extra, is, even, short). let closed : is_ended us ≡ true = terminated big body front extra is even short in absurd cc, sym same)
      | inr (ended, then) ↦ elim (passed_err (is_text us) (Ok (encode_utf8_all (utf16_lossy_chars (inner us)))) (BadText place) e then) [
        | inl (bad, same) ↦ inr (ended_bytes big body fits ended, sym same)
        | inr (good, never) ↦ absurd cc
      ]
    ]
