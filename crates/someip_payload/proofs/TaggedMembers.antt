-- A variant of a union and a member of a tagged structure, part by part: a number, perhaps a mark, a colon and a shape.
use Rattle.std.proofs.Common.{◌≡◌, ℕ, ◌+◌, ◌<◌, ◌≤◌, ◌^◌, Option, Bool, true, false, Result, Ok, List, ◌∷◌, ◌++◌, length, drop, slice_range, codes, refl, ap, ◌∙◌, append_assoc, arith}
use Rattle.std.specs.Fmt.{decimal}
use Rattle.std.proofs.lemmas.List.{length-append}
use Rattle.someip_payload.specs.declared.shape_text_error.ShapeTextError.{ShapeTextError}
use Rattle.someip_payload.specs.ShapeText.{IsDigit, BeginsNoName, mark_text, name_text, tagged_member_text}
use Rattle.someip_payload.proofs.Converse.{same_first, same_second, NumberOnly}
use Rattle.someip_payload.proofs.Places.{behind_piece}
use Rattle.someip_payload.proofs.ConverseParts.{no_digit_mark, no_digit_colon}
use Rattle.someip_payload.proofs.Decimals.{number_first}
use Rattle.someip_payload.proofs.Pieces.{slice_range-append, slice_range-empty}

-- what stands after a number is no digit
record MarkFirst (optional : Bool) (tail : List ℕ) : Type 0 where
  first : ℕ
  others : List ℕ
  is : mark_text optional ++ (58 ∷ tail) ≡ first ∷ others
  stop : IsDigit first → ⊥

-- a question mark or a colon
mark_first : (optional : Bool) (tail : List ℕ) → MarkFirst optional tail
mark_first true tail = record { first = 63; others = 58 ∷ tail; is = refl; stop = no_digit_mark }
mark_first false tail = record { first = 58; others = tail; is = refl; stop = no_digit_colon }

module _ (text front rest shape : List ℕ) (at n limit : ℕ) (optional : Bool) (is : drop at text ≡ front ++ rest) (same : front ≡ tagged_member_text n optional shape) (small : n < limit) where
  -- its parts, one after the other
  there : drop at text ≡ decimal n ++ (mark_text optional ++ (58 ∷ (shape ++ rest)))
  there =
      is ∙ ap (λ (t : List ℕ). t ++ rest) same ∙ append_assoc (decimal n) (mark_text optional ++ (58 ∷ shape)) rest
      ∙ ap (λ (t : List ℕ). decimal n ++ t) (append_assoc (mark_text optional) (58 ∷ shape) rest)

  -- what is read as a number is its number
  pub number_read : (r : Result (ℕ × ℕ) ShapeTextError) → NumberOnly text at limit r → r ≡ Ok (n, at + length (decimal n))
  number_read r only =
      let next = mark_first optional (shape ++ rest) in
      only n next.first next.others (there ∙ ap (λ (t : List ℕ). decimal n ++ t) next.is) small next.stop

  -- the number that was read, what stands after it, and the place after the whole
  pub after_number : (number behind : ℕ) → NumberOnly text at limit (Ok (number, behind))
      → (number ≡ n) × (drop behind text ≡ mark_text optional ++ (58 ∷ (shape ++ rest))) × (behind + length (mark_text optional) + 1 + length shape ≡ at + length front)
  after_number number behind only =
      let read = number_read (Ok (number, behind)) only in
      let place : behind ≡ at + length (decimal n) = same_second _ _ _ _ read in (
        same_first _ _ _ _ read,
        behind_piece text (decimal n) _ at behind there place,
        omega (arith, place, ap length same, length-append (decimal n) (mark_text optional ++ (58 ∷ shape)), length-append (mark_text optional) (58 ∷ shape)),
      )

-- the mark that was read, and what stands after it
pub after_mark : (text tail : List ℕ) (behind : ℕ) (marked : Bool × ℕ) (optional : Bool) → drop behind text ≡ mark_text optional ++ (58 ∷ tail)
    → ((o : Bool) (rest : List ℕ) → drop behind text ≡ mark_text o ++ (codes ":" ++ rest) → marked ≡ (o, behind + length (mark_text o)))
    → (marked.0 ≡ optional) × (marked.1 ≡ behind + length (mark_text optional)) × (drop marked.1 text ≡ 58 ∷ tail)
after_mark text tail behind marked optional is only =
    let read = only optional tail is in
    let place : marked.1 ≡ behind + length (mark_text optional) = ap (λ (x : Bool × ℕ). x.1) read in
    (ap (λ (x : Bool × ℕ). x.0) read, place, behind_piece text (mark_text optional) (58 ∷ tail) behind marked.1 is place)

-- the piece of a text between the first and the last place of its parts
pub member_piece : (text : List ℕ) (id : ℕ) (optional : Bool) (at behind colon first end : ℕ) → at ≤ behind → behind ≤ colon → colon ≤ first → first ≤ end
    → slice_range text at behind ≡ decimal id → slice_range text behind colon ≡ mark_text optional → slice_range text colon first ≡ codes ":"
    → slice_range text at end ≡ tagged_member_text id optional (slice_range text first end)
member_piece text id optional at behind colon first end le le2 le3 le4 number mark is =
    rw (← slice_range-append text at behind end le (omega arith), ← slice_range-append text behind colon end le2 (omega arith), ← slice_range-append text colon first end le3 le4, number, mark, is)

-- the same without a mark
pub variant_piece : (text : List ℕ) (n at colon first end : ℕ) → at ≤ colon → colon ≤ first → first ≤ end → slice_range text at colon ≡ decimal n → slice_range text colon first ≡ codes ":"
    → slice_range text at end ≡ decimal n ++ (codes ":" ++ slice_range text first end)
variant_piece text n at colon first end le le2 le3 number is = member_piece text n false at colon colon first end le (omega arith) le2 le3 number (slice_range-empty text colon) is

-- ---- a member of a tagged structure, perhaps with a name

pub tagged_there : (text front rest : List ℕ) (name : Option (List ℕ)) (id : ℕ) (optional : Bool) (shape : List ℕ) (at : ℕ) → drop at text ≡ front ++ rest → front ≡ name_text name ++ tagged_member_text id optional shape
    → drop at text ≡ name_text name ++ (tagged_member_text id optional shape ++ rest)
tagged_there text front rest name id optional shape at is parts =
    is ∙ ap (λ (t : List ℕ). t ++ rest) parts ∙ append_assoc (name_text name) (tagged_member_text id optional shape) rest

-- its number begins no name
pub tagged_first : (id : ℕ) (optional : Bool) (shape rest : List ℕ) → id < 2 ^ 12 → BeginsNoName (tagged_member_text id optional shape ++ rest)
tagged_first id optional shape rest small = number_first id (mark_text optional ++ (codes ":" ++ shape)) rest (omega (arith, small))
