-- Texts in exactly so many bytes: what is read is spelled so, what is spelled so is read, and what fails.
use Rattle.std.proofs.Common.{◌≡◌, ◌⊎◌, inl, inr, ℕ, ◌+◌, ◌-◌, ◌<◌, ◌≤◌, ◌%◌, ◌/◌, eqb, Bool, true, false, cond, not, ◌||◌, List, [], ◌∷◌, ◌++◌, length, take, drop, get_or, replicate, Result, Ok, Err, refl, sym, ap, subst, ◌∙◌, append_assoc, arith}
use Rattle.std.specs.Prelude.{flat_map}
use Rattle.std.specs.Char.Escape.{encode_utf16}
use Rattle.std.specs.Char.Utf16.{utf16_lossy_chars}
use Rattle.std.specs.Str.{IsUtf8, is_utf8, chars, all_scalars, encode_utf8_all}
use Rattle.std.specs.Char.{encode_utf8}
use Rattle.std.proofs.lemmas.Str.{IsUtf8-from_is_utf8, encodes-chars, scalars-chars}
use Rattle.std.proofs.lemmas.Bool.{cases_lt, eqb-true, ne_eqb}
use Rattle.std.proofs.lemmas.List.{append-nil, length-append, length-replicate, drop_more, drop_all, take_more, take_all}
use Rattle.someip_payload_values.specs.declared.error.PayloadError.{PayloadError}
use Rattle.someip_payload_values.specs.declared.error.PayloadError.TheVariants.{BadText, NoTerminator}
use Rattle.someip_payload_values.specs.declared.shape.Encoding.{Encoding}
use Rattle.someip_payload_values.specs.declared.shape.Encoding.TheVariants.{Utf8, Utf16}
use Rattle.someip_payload_values.specs.Texts.{utf8_mark, utf16_mark, unit_bytes, units_of_text}
use Rattle.someip_payload_values.specs.Writing.{has_zero, text_body}
use Rattle.someip_payload_codec.specs.Texts.{SpellsUtf8, SpellsPadded8, SpellsPadded16, SpellsPadded, HasTerminator}
use Rattle.someip_payload_codec.specs.Reading.{is_ended, is_little, inner, units_of, utf8_at, utf16_in, through_zero, padded_at}
use Rattle.someip_payload_values.proofs.StepLemmas.{passed, passed_err}
use Rattle.someip_payload_values.proofs.Strings.{flat_map-append}
use Rattle.someip_payload_codec.proofs.parts.Parts.{IsBytes}
use Rattle.someip_payload_codec.proofs.texts.Utf8Texts.{ended_split, ended_is, ended_front, utf8_took, utf8_again, utf8_failed}
use Rattle.someip_payload_codec.proofs.texts.Utf16Texts.{is_text, text_split, order_seen, zero_bytes}
use Rattle.someip_payload_codec.proofs.texts.Utf16Units.{IsUnits, tail_units, front_units, units_again, units_split, units_fit, units_append, bytes_even, one_unit, two_units, none_unpaired, lossy_again, lossy_spells, marked_units}

-- ---- zeros

or_split : (a b : Bool) → (a || b) ≡ false → (a ≡ false) × (b ≡ false)
or_split true b e = absurd cc
or_split false b e = (refl, e)

or_none : (a b : Bool) → a ≡ false → b ≡ false → (a || b) ≡ false
or_none true b e f = absurd cc
or_none false b e f = f

or_second : (a b : Bool) → b ≡ true → (a || b) ≡ true
or_second true b e = refl
or_second false b e = e

none_in_both : (a b : List ℕ) → has_zero a ≡ false → has_zero b ≡ false → has_zero (a ++ b) ≡ false
none_in_both [] b e f = f
none_in_both (x ∷ a) b e f = let p = or_split (eqb x 0) (has_zero a) e in or_none (eqb x 0) (has_zero (a ++ b)) p.0 (none_in_both a b p.1 f)

none_in_each : (a b : List ℕ) → has_zero (a ++ b) ≡ false → (has_zero a ≡ false) × (has_zero b ≡ false)
none_in_each [] b e = (refl, e)
none_in_each (x ∷ a) b e =
    let p = or_split (eqb x 0) (has_zero (a ++ b)) e in
    let q = none_in_each a b p.1 in
    (or_none (eqb x 0) (has_zero a) p.0 q.0, q.1)

zero_within : (a b : List ℕ) → has_zero (a ++ 0 ∷ b) ≡ true
zero_within [] b = refl
zero_within (x ∷ a) b = or_second (eqb x 0) (has_zero (a ++ 0 ∷ b)) (zero_within a b)

-- what ends at a first zero, if there is one
abbrev ToZero : List ℕ → Type 0
ToZero xs = ((front rest : List ℕ) × (xs ≡ front ++ 0 ∷ rest) × (has_zero front ≡ false) × (through_zero xs ≡ front ++ 0 ∷ []))
    ⊎ ((has_zero xs ≡ false) × (through_zero xs ≡ xs))

zero_first : (x : ℕ) (xs : List ℕ) → ToZero xs → (t : Bool) → eqb x 0 ≡ t → ToZero (x ∷ xs)
unfolding through_zero
zero_first x xs later true e = let zero : x ≡ 0 = eqb-true x 0 e in inl ([], xs, rw zero refl, refl, rw zero refl)
zero_first x xs (inl (front, rest, parts, none, through)) false e =
    inl (x ∷ front, rest, ap (λ (y : List ℕ). x ∷ y) parts, or_none (eqb x 0) (has_zero front) e none, rw e (ap (λ (y : List ℕ). x ∷ y) through))
zero_first x xs (inr (none, through)) false e = inr (or_none (eqb x 0) (has_zero xs) e none, rw e (ap (λ (y : List ℕ). x ∷ y) through))

to_zero : (xs : List ℕ) → ToZero xs
unfolding through_zero
to_zero [] = inr (refl, refl)
to_zero (x ∷ xs) = zero_first x xs (to_zero xs) (eqb x 0) refl

through_front : (front rest : List ℕ) → has_zero front ≡ false → through_zero (front ++ 0 ∷ rest) ≡ front ++ 0 ∷ []
unfolding through_zero
through_front [] rest none = refl
through_front (x ∷ front) rest none = let p = or_split (eqb x 0) (has_zero front) none in rw p.0 (ap (λ (y : List ℕ). x ∷ y) (through_front front rest p.1))

-- what stands before the same zero at the end
before_end : (a b : List ℕ) → a ++ 0 ∷ [] ≡ b ++ 0 ∷ [] → a ≡ b
before_end a b e = sym (ended_front a) ∙ ap (λ (x : List ℕ). take (length x - 1) x) e ∙ ended_front b

no_zero_at_end : (xs front : List ℕ) → has_zero xs ≡ false → xs ≡ front ++ 0 ∷ [] → ⊥
no_zero_at_end xs front none e = let some : has_zero xs ≡ true = rw e (zero_within front []) in cc

-- ---- UTF-8

padded8_took : (place : ℕ) (bytes s : List ℕ) → utf8_at place (through_zero bytes) ≡ Ok s → SpellsPadded8 s bytes
padded8_took place bytes s h = elim (to_zero bytes) [
  | inl (front, rest, parts, none, through) ↦ spelled front rest parts none (utf8_took place (front ++ 0 ∷ []) s (rw through at h))
  | inr (none, through) ↦ absurd (never none (utf8_took place bytes s (rw through at h)))
]
  where
    spelled : (front rest : List ℕ) → bytes ≡ front ++ 0 ∷ rest → has_zero front ≡ false → SpellsUtf8 s (front ++ 0 ∷ []) → SpellsPadded8 s bytes
    spelled front rest parts none (is, inl e) =
        let same : front ≡ utf8_mark ++ s = before_end front (utf8_mark ++ s) e in
        let p = none_in_each utf8_mark s (rw same at none) in
        (is, p.1, rest, inl (parts ∙ ap (λ (x : List ℕ). x ++ 0 ∷ rest) same))
    spelled front rest parts none (is, inr (e, other)) =
        let same : front ≡ s = before_end front s e in
        (is, rw same at none, rest, inr (parts ∙ ap (λ (x : List ℕ). x ++ 0 ∷ rest) same, other))

    never : has_zero bytes ≡ false → SpellsUtf8 s bytes → ⊥
    never none (is, inl e) = no_zero_at_end bytes (utf8_mark ++ s) none e
    never none (is, inr (e, other)) = no_zero_at_end bytes s none e

padded8_again : (place : ℕ) (bytes s : List ℕ) → SpellsPadded8 s bytes → utf8_at place (through_zero bytes) ≡ Ok s
padded8_again place bytes s (is, none, rest, inl e) =
    let through : through_zero bytes ≡ utf8_mark ++ (s ++ 0 ∷ []) = rw e (through_front (utf8_mark ++ s) rest (none_in_both utf8_mark s refl none)) in
    rw through (utf8_again place (utf8_mark ++ (s ++ 0 ∷ [])) s (is, inl refl))
padded8_again place bytes s (is, none, rest, inr (e, other)) =
    let through : through_zero bytes ≡ s ++ 0 ∷ [] = rw e (through_front s rest none) in
    rw through (utf8_again place (s ++ 0 ∷ []) s (is, inr (refl, other)))

padded8_failed : (place : ℕ) (bytes : List ℕ) (e : PayloadError) → utf8_at place (through_zero bytes) ≡ Err e
    → ((HasTerminator Utf8 bytes → ⊥) × (e ≡ NoTerminator place)) ⊎ (HasTerminator Utf8 bytes × (e ≡ BadText place))
padded8_failed place bytes e h = elim (to_zero bytes) [
  | inl (front, rest, parts, none, through) ↦ elim (utf8_failed place (front ++ 0 ∷ []) e (rw through at h)) [
    | inl (open_end, same) ↦ absurd (open_end front refl)
    | inr (ended, same) ↦ inr ((front, rest, parts), same)
  ]
  | inr (none, through) ↦ elim (utf8_failed place bytes e (rw through at h)) [
    | inl (open_end, same) ↦ inl (λ (front, rest, parts). let some : has_zero bytes ≡ true = rw parts (zero_within front rest) in cc, same)
    | inr ((front, parts), same) ↦ absurd (no_zero_at_end bytes front none parts)
  ]
]

-- ---- UTF-16

-- units that are read are those of the text
units_took : (place : ℕ) (us s : List ℕ) → IsUnits us → utf16_in place us ≡ Ok s → (cs : List ℕ) × (all_scalars cs ≡ true) × (s ≡ encode_utf8_all cs) × (us ≡ units_of_text cs)
unfolding utf16_in
units_took place us s fits h =
    let a = passed (is_ended us) (cond (is_text us) (Ok (encode_utf8_all (utf16_lossy_chars (inner us)))) (Err (BadText place))) (NoTerminator place) s h in
    let b = passed (is_text us) (Ok (encode_utf8_all (utf16_lossy_chars (inner us)))) (BadText place) s a.1 in
    let same : encode_utf8_all (utf16_lossy_chars (inner us)) ≡ s = cc (b.1) in
    let parts = text_split us a.0 b.0 in
    let fit : IsUnits (inner us) = front_units (inner us) (0 ∷ []) (tail_units utf16_mark (inner us ++ 0 ∷ []) (subst IsUnits parts.0 fits)) in
    let spells = lossy_spells (inner us) fit parts.1 in
    (utf16_lossy_chars (inner us), spells.1, sym same, rw spells.0 (parts.0))

units_ended : (place : ℕ) (us s : List ℕ) → utf16_in place us ≡ Ok s → is_ended us ≡ true
unfolding utf16_in
units_ended place us s h = (passed (is_ended us) (cond (is_text us) (Ok (encode_utf8_all (utf16_lossy_chars (inner us)))) (Err (BadText place))) (NoTerminator place) s h).0

-- a character that is not zero has no unit that is
unit_not_zero : (c : ℕ) → (eqb c 0 ≡ false) → has_zero (encode_utf16 c) ≡ false
unit_not_zero c some = elim (cases_lt c 0x1_0000) [
  | inl small ↦ rw (one_unit c small, some) refl
  | inr large ↦
      let high : eqb (0xD800 + (c - 0x1_0000) / 0x400) 0 ≡ false = ne_eqb _ _ (λ none. omega (arith, none)) in
      let low : eqb (0xDC00 + (c - 0x1_0000) % 0x400) 0 ≡ false = ne_eqb _ _ (λ none. omega (arith, none)) in
      rw (two_units c large, high, low) refl
]

units_not_zero : (cs : List ℕ) → has_zero cs ≡ false → has_zero (flat_map encode_utf16 cs) ≡ false
units_not_zero [] none = refl
units_not_zero (c ∷ cs) none =
    let p = or_split (eqb c 0) (has_zero cs) none in
    none_in_both (encode_utf16 c) (flat_map encode_utf16 cs) (unit_not_zero c p.0) (units_not_zero cs p.1)

-- the character zero is a unit that is zero
first_not_zero : (c : ℕ) (cs : List ℕ) → has_zero (flat_map encode_utf16 (c ∷ cs)) ≡ false → has_zero cs ≡ false → (t : Bool) → eqb c 0 ≡ t → has_zero (c ∷ cs) ≡ false
first_not_zero c cs none later true e =
    let zero : c ≡ 0 = eqb-true c 0 e in
    let some : has_zero (flat_map encode_utf16 (c ∷ cs)) ≡ true = rw zero refl in
    absurd cc
first_not_zero c cs none later false e = or_none (eqb c 0) (has_zero cs) e later

chars_not_zero : (cs : List ℕ) → has_zero (flat_map encode_utf16 cs) ≡ false → has_zero cs ≡ false
chars_not_zero [] none = refl
chars_not_zero (c ∷ cs) none = first_not_zero c cs none (chars_not_zero cs (none_in_each (encode_utf16 c) (flat_map encode_utf16 cs) none).1) (eqb c 0) refl

-- bytes whose units go on after a zero
cut_bytes : (big : Bool) (front rest : List ℕ) → flat_map (unit_bytes big) (front ++ 0 ∷ rest) ≡ flat_map (unit_bytes big) (front ++ 0 ∷ []) ++ flat_map (unit_bytes big) rest
cut_bytes big front rest =
    ap (flat_map (unit_bytes big)) (sym (append_assoc front (0 ∷ []) rest)) ∙ flat_map-append (unit_bytes big) (front ++ 0 ∷ []) rest

padded16_took : (place : ℕ) (bytes s : List ℕ) → IsBytes bytes → utf16_in place (through_zero (units_of (not (is_little bytes)) bytes)) ≡ Ok s → SpellsPadded16 s bytes
padded16_took place bytes s fits h =
    let big = not (is_little bytes) in
    let us = units_of big bytes in
    let (extra, short, all) = units_split big bytes fits in
    elim (to_zero us) [
      | inl (front, rest, parts, none, through) ↦
          let fit : IsUnits (front ++ 0 ∷ []) = front_units (front ++ 0 ∷ []) rest (subst IsUnits (parts ∙ sym (append_assoc front (0 ∷ []) rest)) (units_fit big bytes fits)) in
          let (cs, good, same, are) = units_took place (front ++ 0 ∷ []) s fit (rw through at h) in
          let marked : front ≡ utf16_mark ∷ flat_map encode_utf16 cs = before_end front (utf16_mark ∷ flat_map encode_utf16 cs) are in
          let p = or_split (eqb utf16_mark 0) (has_zero (flat_map encode_utf16 cs)) (rw marked at none) in
          let whole : bytes ≡ flat_map (unit_bytes big) (units_of_text cs) ++ (flat_map (unit_bytes big) rest ++ extra) =
          all ∙ ap (λ (x : List ℕ). flat_map (unit_bytes big) x ++ extra) parts ∙ ap (λ (x : List ℕ). x ++ extra) (cut_bytes big front rest)
          ∙ ap (λ (x : List ℕ). (flat_map (unit_bytes big) x ++ flat_map (unit_bytes big) rest) ++ extra) are ∙ append_assoc (flat_map (unit_bytes big) (units_of_text cs)) (flat_map (unit_bytes big) rest) extra in
          (big, cs, flat_map (unit_bytes big) rest ++ extra, good, chars_not_zero cs p.1, same, whole)
      | inr (none, through) ↦
          let ended : is_ended us ≡ true = units_ended place us s (rw through at h) in
          absurd (no_zero_at_end us (take (length us - 1) us) none (ended_split us ended))
    ]

padded16_again : (place : ℕ) (bytes s : List ℕ) → SpellsPadded16 s bytes → utf16_in place (through_zero (units_of (not (is_little bytes)) bytes)) ≡ Ok s
unfolding utf16_in
padded16_again place bytes s (big, cs, rest, good, none, same, e) =
    let us = units_of_text cs in
    let mine = utf16_mark ∷ flat_map encode_utf16 cs in
    let parts : bytes ≡ unit_bytes big utf16_mark ++ (flat_map (unit_bytes big) (flat_map encode_utf16 cs ++ 0 ∷ []) ++ rest) = e ∙ append_assoc (unit_bytes big utf16_mark) (flat_map (unit_bytes big) (flat_map encode_utf16 cs ++ 0 ∷ [])) rest in
    let order : not (is_little bytes) ≡ big = ap (λ (x : List ℕ). not (is_little x)) parts ∙ order_seen big _ in
    let first : units_of big (flat_map (unit_bytes big) us) ≡ us = ap (units_of big) (sym (append-nil (flat_map (unit_bytes big) us))) ∙ units_again big us [] (marked_units cs good) (omega arith) in
    let units : units_of (not (is_little bytes)) bytes ≡ mine ++ 0 ∷ units_of big rest =
    rw (order, e, units_append big (flat_map (unit_bytes big) us) rest (bytes_even big us), first) (append_assoc mine (0 ∷ []) (units_of big rest)) in
    let through : through_zero (units_of (not (is_little bytes)) bytes) ≡ mine ++ 0 ∷ [] = rw units (through_front mine (units_of big rest) (or_none (eqb utf16_mark 0) (has_zero (flat_map encode_utf16 cs)) refl (units_not_zero cs none))) in
    rw (through, ended_is mine, ended_front mine, none_unpaired cs good, lossy_again cs good, same) refl

-- a zero in the bytes is one among the units
terminator_unit : (big : Bool) (bytes : List ℕ) → HasTerminator Utf16 bytes → has_zero (units_of big bytes) ≡ true
unfolding units_of
terminator_unit true bytes (front, rest, e, even) = rw (e, units_append true front (0 ∷ 0 ∷ rest) even) (zero_within (units_of true front) (units_of true rest))
terminator_unit false bytes (front, rest, e, even) = rw (e, units_append false front (0 ∷ 0 ∷ rest) even) (zero_within (units_of false front) (units_of false rest))

unit_terminator : (big : Bool) (bytes front rest : List ℕ) → IsBytes bytes → units_of big bytes ≡ front ++ 0 ∷ rest → HasTerminator Utf16 bytes
unit_terminator big bytes front rest fits parts =
    let (extra, short, all) = units_split big bytes fits in
    let mine = flat_map (unit_bytes big) front in
    let after = flat_map (unit_bytes big) rest ++ extra in
    let whole : bytes ≡ mine ++ (0 ∷ 0 ∷ after) =
    all ∙ ap (λ (x : List ℕ). flat_map (unit_bytes big) x ++ extra) parts ∙ ap (λ (x : List ℕ). x ++ extra) (cut_bytes big front rest)
    ∙ ap (λ (x : List ℕ). (x ++ flat_map (unit_bytes big) rest) ++ extra) (zero_bytes big front) ∙ append_assoc (mine ++ (0 ∷ 0 ∷ [])) (flat_map (unit_bytes big) rest) extra ∙ append_assoc mine (0 ∷ 0 ∷ []) after in
    (mine, after, whole, bytes_even big front)

padded16_failed : (place : ℕ) (bytes : List ℕ) (e : PayloadError) → IsBytes bytes → utf16_in place (through_zero (units_of (not (is_little bytes)) bytes)) ≡ Err e
    → ((HasTerminator Utf16 bytes → ⊥) × (e ≡ NoTerminator place)) ⊎ (HasTerminator Utf16 bytes × (e ≡ BadText place))
unfolding utf16_in
padded16_failed place bytes e fits h =
    let big = not (is_little bytes) in
    let us = units_of big bytes in
    elim (to_zero us) [
      | inl (front, rest, parts, none, through) ↦
          let vs = front ++ 0 ∷ [] in
          elim (passed_err (is_ended vs) (cond (is_text vs) (Ok (encode_utf8_all (utf16_lossy_chars (inner vs)))) (Err (BadText place))) (NoTerminator place) e (rw through at h)) [
            | inl (open_end, same) ↦ let ended : is_ended vs ≡ true = ended_is front in absurd cc
            | inr (ended, then) ↦ elim (passed_err (is_text vs) (Ok (encode_utf8_all (utf16_lossy_chars (inner vs)))) (BadText place) e then) [
              | inl (bad, same) ↦ inr (unit_terminator big bytes front rest fits parts, sym same)
              | inr (good, never) ↦ absurd cc
            ]
          ]
      | inr (none, through) ↦
          elim (passed_err (is_ended us) (cond (is_text us) (Ok (encode_utf8_all (utf16_lossy_chars (inner us)))) (Err (BadText place))) (NoTerminator place) e (rw through at h)) [
            | inl (open_end, same) ↦ inl (λ has. let some : has_zero us ≡ true = terminator_unit big bytes has in cc, sym same)
            | inr (ended, then) ↦ absurd (no_zero_at_end us (take (length us - 1) us) none (ended_split us ended))
          ]
    ]

-- ---- in either encoding

pub padded_took : (encoding : Encoding) (place : ℕ) (bytes s : List ℕ) → IsBytes bytes → padded_at encoding place bytes ≡ Ok s → SpellsPadded encoding s bytes
unfolding padded_at
padded_took Utf8 place bytes s fits h = padded8_took place bytes s h
padded_took Utf16 place bytes s fits h = padded16_took place bytes s fits h

pub padded_again : (encoding : Encoding) (place : ℕ) (bytes s : List ℕ) → SpellsPadded encoding s bytes → padded_at encoding place bytes ≡ Ok s
unfolding padded_at
padded_again Utf8 place bytes s spells = padded8_again place bytes s spells
padded_again Utf16 place bytes s spells = padded16_again place bytes s spells

-- there is no terminator, or there is one and no text is spelled
abbrev pub Unpadded : Encoding → ℕ → List ℕ → PayloadError → Type 0
Unpadded encoding place bytes e =
    ((HasTerminator encoding bytes → ⊥) × (e ≡ NoTerminator place)) ⊎ (HasTerminator encoding bytes × ((s : List ℕ) → SpellsPadded encoding s bytes → ⊥) × (e ≡ BadText place))

none_spelled : (encoding : Encoding) (place : ℕ) (bytes : List ℕ) (e : PayloadError) → padded_at encoding place bytes ≡ Err e → (s : List ℕ) → SpellsPadded encoding s bytes → ⊥
none_spelled encoding place bytes e h s spells = let good : padded_at encoding place bytes ≡ Ok s = padded_again encoding place bytes s spells in absurd cc

pub padded_failed : (encoding : Encoding) (place : ℕ) (bytes : List ℕ) (e : PayloadError) → IsBytes bytes → padded_at encoding place bytes ≡ Err e → Unpadded encoding place bytes e
unfolding padded_at
padded_failed Utf8 place bytes e fits h = elim (padded8_failed place bytes e h) [
  | inl (none, same) ↦ inl (none, same)
  | inr (has, same) ↦ inr (has, none_spelled Utf8 place bytes e h, same)
]
padded_failed Utf16 place bytes e fits h = elim (padded16_failed place bytes e fits h) [
  | inl (none, same) ↦ inl (none, same)
  | inr (has, same) ↦ inr (has, none_spelled Utf16 place bytes e h, same)
]

-- what spells a text has a terminator
spelled_ends : (encoding : Encoding) (s bytes : List ℕ) → SpellsPadded encoding s bytes → HasTerminator encoding bytes
spelled_ends Utf8 s bytes (is, none, rest, inl e) = (utf8_mark ++ s, rest, e)
spelled_ends Utf8 s bytes (is, none, rest, inr (e, other)) = (s, rest, e)
spelled_ends Utf16 s bytes (big, cs, rest, good, none, same, e) =
    let mine = utf16_mark ∷ flat_map encode_utf16 cs in
    (flat_map (unit_bytes big) mine, rest, e ∙ ap (λ (x : List ℕ). x ++ rest) (zero_bytes big mine) ∙ append_assoc (flat_map (unit_bytes big) mine) (0 ∷ 0 ∷ []) rest, bytes_even big mine)

same_fault : (encoding : Encoding) (place : ℕ) (bytes : List ℕ) (d e : PayloadError) → Unpadded encoding place bytes d → Unpadded encoding place bytes e → d ≡ e
same_fault encoding place bytes d e (inl (none, same)) (inl (x, y)) = same ∙ sym y
same_fault encoding place bytes d e (inl (none, same)) (inr (has, x, y)) = absurd (none has)
same_fault encoding place bytes d e (inr (has, x, same)) (inl (none, y)) = absurd (none has)
same_fault encoding place bytes d e (inr (has, x, same)) (inr (z, u, y)) = same ∙ sym y

never_read : (encoding : Encoding) (place : ℕ) (bytes s : List ℕ) (e : PayloadError) → SpellsPadded encoding s bytes → Unpadded encoding place bytes e → ⊥
never_read encoding place bytes s e spells (inl (none, same)) = none (spelled_ends encoding s bytes spells)
never_read encoding place bytes s e spells (inr (has, other, same)) = other s spells

pub padded_bad : (encoding : Encoding) (place : ℕ) (bytes : List ℕ) (e : PayloadError) → IsBytes bytes → Unpadded encoding place bytes e → padded_at encoding place bytes ≡ Err e
padded_bad encoding place bytes e fits bad = either (padded_at encoding place bytes) refl
  where
    either : (r : Result (List ℕ) PayloadError) → padded_at encoding place bytes ≡ r → r ≡ Err e
    either (Ok s) h = absurd (never_read encoding place bytes s e (padded_took encoding place bytes s fits h) bad)
    either (Err d) h = ap (λ (x : PayloadError). let y : Result (List ℕ) PayloadError = Err x in y) (same_fault encoding place bytes d e (padded_failed encoding place bytes d fits h) bad)

-- ---- what is written is spelled so

first_of_text : (c : ℕ) (cs : List ℕ) → has_zero (encode_utf8_all (c ∷ cs)) ≡ false → has_zero cs ≡ false → (t : Bool) → eqb c 0 ≡ t → has_zero (c ∷ cs) ≡ false
unfolding encode_utf8
first_of_text c cs none later true e =
    let zero : c ≡ 0 = eqb-true c 0 e in
    let some : has_zero (encode_utf8_all (c ∷ cs)) ≡ true = rw zero refl in
    absurd cc
first_of_text c cs none later false e = or_none (eqb c 0) (has_zero cs) e later

text_not_zero : (cs : List ℕ) → has_zero (encode_utf8_all cs) ≡ false → has_zero cs ≡ false
text_not_zero [] none = refl
text_not_zero (c ∷ cs) none = first_of_text c cs none (text_not_zero cs (none_in_each (encode_utf8 c) (encode_utf8_all cs) none).1) (eqb c 0) refl

not_false : (b : Bool) → not b ≡ true → b ≡ false
not_false true e = absurd cc
not_false false e = refl

body_spells : (encoding : Encoding) (s more : List ℕ) → is_utf8 s ≡ true → has_zero s ≡ false → SpellsPadded encoding s (text_body encoding s ++ more)
unfolding text_body
body_spells Utf8 s more good none = (IsUtf8-from_is_utf8 s good, none, more, inl (append_assoc utf8_mark (s ++ 0 ∷ []) more ∙ ap (λ (x : List ℕ). utf8_mark ++ x) (append_assoc s (0 ∷ []) more)))
body_spells Utf16 s more good none =
    let is : IsUtf8 s = IsUtf8-from_is_utf8 s good in
    (true, chars s, more, scalars-chars s is, text_not_zero (chars s) (rw (encodes-chars s is) none), sym (encodes-chars s is), refl)

pub padded_written : (encoding : Encoding) (n : ℕ) (s text : List ℕ) → is_utf8 s ≡ true → not (has_zero s) ≡ true → length (text_body encoding s) ≤ n
    → text ≡ text_body encoding s ++ replicate (n - length (text_body encoding s)) 0 → (length text ≡ n) × SpellsPadded encoding s text
padded_written encoding n s text good none fits e =
    let body = text_body encoding s in
    let zeros = replicate (n - length body) 0 in
    let len : length (body ++ zeros) ≡ n = omega (arith, fits, length-append body zeros, length-replicate {A = ℕ} (n - length body) 0) in
    (rw e len, rw e (body_spells encoding s zeros good (not_false (has_zero s) none)))

-- ---- the loops over bytes and units

pub zero_here : (xs : List ℕ) (i : ℕ) (d : ℕ) → i < length xs → get_or xs i d ≡ 0 → through_zero xs ≡ take i xs ++ through_zero (drop i xs) → take (i + 1) xs ≡ through_zero xs
unfolding through_zero
zero_here xs i d lt zero so_far =
    let here : through_zero (drop i xs) ≡ get_or xs i d ∷ [] = rw (drop_more xs i d lt, zero) refl in
    take_more xs i d lt ∙ ap (λ (x : List ℕ). take i xs ++ x) (sym here) ∙ sym so_far

pub zero_later : (xs : List ℕ) (i : ℕ) (d : ℕ) → i < length xs → eqb (get_or xs i d) 0 ≡ false → through_zero xs ≡ take i xs ++ through_zero (drop i xs)
    → through_zero xs ≡ take (i + 1) xs ++ through_zero (drop (i + 1) xs)
unfolding through_zero
zero_later xs i d lt some so_far =
    let here : through_zero (drop i xs) ≡ get_or xs i d ∷ through_zero (drop (i + 1) xs) = rw (drop_more xs i d lt, some) refl in
    let first : take (i + 1) xs ≡ take i xs ++ get_or xs i d ∷ [] = take_more xs i d lt in
    so_far ∙ ap (λ (x : List ℕ). take i xs ++ x) here ∙ sym (append_assoc (take i xs) (get_or xs i d ∷ []) (through_zero (drop (i + 1) xs))) ∙ ap (λ (x : List ℕ). x ++ through_zero (drop (i + 1) xs)) (sym first)

pub zero_nowhere : (xs : List ℕ) (i : ℕ) → length xs ≤ i → through_zero xs ≡ take i xs ++ through_zero (drop i xs) → xs ≡ through_zero xs
unfolding through_zero
zero_nowhere xs i le so_far =
    let none : through_zero (drop i xs) ≡ [] = rw (drop_all i xs le) refl in
    let all : take i xs ≡ xs = take_all i xs le in
    sym (so_far ∙ ap (λ (x : List ℕ). take i xs ++ x) none ∙ append-nil (take i xs) ∙ all)
