-- The heads of lines.
use Rattle.std.proofs.Common.{◌≡◌, ℕ, suc, ◌<◌, ◌≤◌, ◌==◌, Bool, true, false, cond, List, [], ◌∷◌, ◌++◌, length, take, drop, map, refl, sym, ap, ◌∙◌, append_assoc, arith}
use Rattle.std.proofs.lemmas.List.{length-drop}
use Rattle.recording_packets.specs.Intake.{ArrivalValue}
use Rattle.someipctl_io.specs.declared.told.Field.{Field}
use Rattle.someipctl_io.specs.ToldLines.{ToldField}
use Rattle.someipctl_io.specs.ToldViews.{view_field}
use Rattle.someipctl_recordings.specs.declared.asked.Heads.{Heads}
use Rattle.someipctl_recordings.specs.Heads.{line_len}
use Rattle.someipctl_recordings.specs.Origins.{endpoint_fields, fields_if, frame_field, origin_fields}
use Rattle.someipctl_recordings.specs.RecordedText.{with_heads}

pub line_len-least : (text : List ℕ) → 0 < length text → 1 ≤ line_len text
line_len-least [] some = absurd (omega (arith, some))
line_len-least (b ∷ bytes) some = go (b == 0x0a)
  where
    go : (t : Bool) → 1 ≤ cond t 1 (suc (line_len bytes))
    go true = omega arith
    go false = omega arith

pub line_len-most : (text : List ℕ) → line_len text ≤ length text
line_len-most [] = omega arith
line_len-most (b ∷ bytes) = go (b == 0x0a) (line_len-most bytes)
  where
    go : (t : Bool) → line_len bytes ≤ length bytes → cond t 1 (suc (line_len bytes)) ≤ suc (length bytes)
    go true h = omega arith
    go false h = omega (arith, h)

-- a line that has begun, and the text after it
behind_line : (head text : List ℕ) → with_heads head false text ≡ take (line_len text) text ++ with_heads head true (drop (line_len text) text)
behind_line head [] = refl
behind_line head (b ∷ bytes) = go (b == 0x0a) (behind_line head bytes)
  where
    go : (t : Bool) → with_heads head false bytes ≡ take (line_len bytes) bytes ++ with_heads head true (drop (line_len bytes) bytes)
        → b ∷ with_heads head t bytes ≡ take (cond t 1 (suc (line_len bytes))) (b ∷ bytes) ++ with_heads head true (drop (cond t 1 (suc (line_len bytes))) (b ∷ bytes))
    go true h = refl
    go false h = ap (λ (t : List ℕ). b ∷ t) h

-- a head, the first line, and the text after it
pub with_heads-line : (head text : List ℕ) → 0 < length text
    → with_heads head true text ≡ (head ++ take (line_len text) text) ++ with_heads head true (drop (line_len text) text)
with_heads-line head [] some = absurd (omega (arith, some))
with_heads-line head (b ∷ bytes) some =
    ap (λ (t : List ℕ). head ++ t) (behind_line head (b ∷ bytes)) ∙ sym (append_assoc head (take (line_len (b ∷ bytes)) (b ∷ bytes)) (with_heads head true (drop (line_len (b ∷ bytes)) (b ∷ bytes))))

-- the same of a line and what stands after it
pub headed : (head rest front back : List ℕ) (n : ℕ) → 0 < length rest → n ≡ line_len rest → front ≡ take n rest → back ≡ drop n rest
    → with_heads head true rest ≡ (head ++ front) ++ with_heads head true back
headed head rest front back n some is f b = rw (f, b, is) (with_heads-line head rest some)

pub smaller : (rest back : List ℕ) (n : ℕ) → 0 < length rest → n ≡ line_len rest → back ≡ drop n rest → suc (length back) ≤ length rest
smaller rest back n some is b =
    let less = length-drop n rest in
    let least = line_len-least rest some in
    let same = ap length b in
    omega (arith, less, least, same, is, some)

-- ---- the fields of objects

asked-shape : (frame endpoints : Bool) (f : Field) (fs : List Field)
    → map view_field (fields_if frame (f ∷ []) ++ fields_if endpoints fs)
    ≡ fields_if frame (take 1 (map view_field (f ∷ fs))) ++ fields_if endpoints (drop 1 (map view_field (f ∷ fs)))
asked-shape true true f fs = refl
asked-shape true false f fs = refl
asked-shape false true f fs = refl
asked-shape false false f fs = refl

-- those of the four that are asked for
pub asked-fields : (heads : Heads) (fs : List Field) (a : ArrivalValue) → map view_field fs ≡ frame_field a.frame ∷ endpoint_fields a.datagram
    → map view_field (fields_if heads.frame (take 1 fs) ++ fields_if heads.endpoints (drop 1 fs)) ≡ origin_fields heads a
asked-fields heads [] a is = absurd cc
asked-fields heads (f ∷ fs) a is =
    asked-shape heads.frame heads.endpoints f fs ∙ ap (λ (l : List ToldField). fields_if heads.frame (take 1 l) ++ fields_if heads.endpoints (drop 1 l)) is
