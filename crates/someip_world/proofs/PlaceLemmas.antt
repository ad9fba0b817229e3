-- The places of the lines that tell of datagrams.
use Rattle.std.proofs.Common.{◌≡◌, ℕ, zero, suc, ◌+◌, Bool, true, false, if◌then◌else◌, List, [], ◌∷◌, ◌++◌, length, arith, ◌≤◌, ◌-◌, get_or, nat_lt, slice_get, Option, None, Some, refl, ap, sym, ◌∙◌, append_assoc, append-nil}
use Rattle.std.proofs.lemmas.Bool.{ltb-false, ltb-true}
use Rattle.std.proofs.lemmas.List.{length-append}
use Rattle.std.proofs.lemmas.Option.{slice_get_past, slice_get_read}
use Rattle.std.specs.Prelude.{MatchOption, is_some}
use Rattle.std.specs.Option.{option_and_then}
use Rattle.someip_world_rules.specs.declared.line.Datagram.{Datagram}
use Rattle.someip_world_rules.specs.declared.line.Line.{Line}
use Rattle.someip_world_rules.specs.Datagrams.{SentDatagram, datagram_at, datagram_in, datagrams_in}
use Rattle.someip_world.specs.Places.{places_from}

-- the place of one line more, if it tells of a datagram
abbrev pub place_if : Bool → ℕ → List ℕ
place_if b place = if b then place ∷ [] else []

pub places_more : (place : ℕ) (lines : List Line) (line : Line)
    → places_from place (lines ++ line ∷ []) ≡ places_from place lines ++ place_if (is_some (datagram_in line)) (place + length lines)
places_more place [] line = cases (is_some (datagram_in line))
  where
    cases : (b : Bool) → (if b then place ∷ [] else []) ≡ place_if b (place + 0)
    cases true = ap (λ p. p ∷ []) (omega arith)
    cases false = refl
places_more place (l ∷ lines) line = cases (is_some (datagram_in l)) (places_more (suc place) lines line ∙ ap (λ p. places_from (suc place) lines ++ place_if (is_some (datagram_in line)) p) (omega arith))
  where
    cases : (b : Bool) → places_from (suc place) (lines ++ line ∷ []) ≡ places_from (suc place) lines ++ place_if (is_some (datagram_in line)) (place + suc (length lines))
        → (if b then place ∷ places_from (suc place) (lines ++ line ∷ []) else places_from (suc place) (lines ++ line ∷ []))
        ≡ (if b then place ∷ places_from (suc place) lines else places_from (suc place) lines) ++ place_if (is_some (datagram_in line)) (place + suc (length lines))
    cases true rest = ap (λ ps. place ∷ ps) rest
    cases false rest = rest

get-seam : (pre : List Line) (line : Line) (lines : List Line) → slice_get (pre ++ line ∷ lines) (length pre) ≡ Some line
get-seam [] line lines = refl
get-seam (p ∷ pre) line lines = get-seam pre line lines

-- what is told at a place of some lines
abbrev pub told_at : List Line → ℕ → Option SentDatagram
told_at lines place = option_and_then datagram_in (slice_get lines place)

-- the datagram of a number is told at the place of that number
pub datagram_told : (pre lines : List Line) (n : ℕ) → slice_get (datagrams_in lines) n ≡ option_and_then (told_at (pre ++ lines)) (slice_get (places_from (length pre) lines) n)
datagram_told pre [] n = refl
datagram_told pre (line ∷ lines) n =
    cases n (datagram_in line) refl
    (λ k. datagram_told (pre ++ line ∷ []) lines k ∙ λ i. option_and_then (told_at (append_assoc pre (line ∷ []) lines i)) (slice_get (places_from (one_more i) lines) k))
  where
    one_more : length (pre ++ line ∷ []) ≡ suc (length pre)
    one_more = omega (arith, length-append pre (line ∷ []))

    cases : (n : ℕ) (d : Option SentDatagram) → datagram_in line ≡ d
        → ((k : ℕ) → slice_get (datagrams_in lines) k ≡ option_and_then (told_at (pre ++ line ∷ lines)) (slice_get (places_from (suc (length pre)) lines) k))
        → slice_get (datagrams_in (line ∷ lines)) n ≡ option_and_then (told_at (pre ++ line ∷ lines)) (slice_get (places_from (length pre) (line ∷ lines)) n)
    cases n None is rest = rw is (rest n)
    cases zero (Some d) is rest = rw (is, get-seam pre line lines) (sym is)
    cases (suc n) (Some d) is rest = rw is (rest n)

-- ---- what a slice gives at a place

pub none_got : {X : Type 0} (xs ys : List X) (i : ℕ) → ys ≡ xs → false ≡ nat_lt i (length ys) → slice_get xs i ≡ None
none_got xs ys i same past = ap (λ zs. slice_get zs i) (sym same) ∙ slice_get_past ys i (ltb-false i (length ys) (sym past))

pub got : {X : Type 0} (xs ys : List X) (i : ℕ) (x : X) → ys ≡ xs → true ≡ nat_lt i (length ys) → x ≡ get_or ys i x → slice_get xs i ≡ Some x
got xs ys i x same within is = ap (λ zs. slice_get zs i) (sym same) ∙ slice_get_read ys (length ys) i x refl (ltb-true i (length ys) (sym within)) is

-- ---- numbers, which count from 1

pub datagram_numbered : (lines : List Line) (number : ℕ) → 1 ≤ number
    → datagram_at lines number ≡ option_and_then (told_at lines) (slice_get (places_from 0 lines) (number - 1))
datagram_numbered lines zero le = absurd (omega (arith, le))
datagram_numbered lines (suc n) le = datagram_told [] lines n ∙ ap (λ k. option_and_then (told_at lines) (slice_get (places_from 0 lines) k)) (before n)
  where
    before : (n : ℕ) → n ≡ suc n - 1
    before n = omega arith

module _ (lines : List Line) (places : List ℕ) (number : ℕ) (all : places ≡ places_from 0 lines) (le : 1 ≤ number) where
  numbered : datagram_at lines number ≡ option_and_then (told_at lines) (slice_get places (number - 1))
  numbered = datagram_numbered lines number le ∙ ap (λ ps. option_and_then (told_at lines) (slice_get ps (number - 1))) (sym all)

  -- no place is that of the number
  pub none_placed : slice_get places (number - 1) ≡ None → datagram_at lines number ≡ None
  none_placed none = numbered ∙ ap (option_and_then (told_at lines)) none

  -- a line at the place of the number tells of the datagram
  pub placed : (place : ℕ) (line : Option Line) → slice_get places (number - 1) ≡ Some place → slice_get lines place ≡ line
      → datagram_at lines number ≡ option_and_then datagram_in line
  placed place line at there = numbered ∙ ap (option_and_then (told_at lines)) at ∙ ap (option_and_then datagram_in) there

-- ---- one line more

module _ (lines new : List Line) (places : List ℕ) where
  placed_more : (line : Line) → places_from 0 (lines ++ line ∷ []) ≡ places_from 0 lines ++ place_if (is_some (datagram_in line)) (length lines)
  placed_more line = places_more 0 lines line ∙ ap (λ p. places_from 0 lines ++ place_if (is_some (datagram_in line)) p) (omega arith)

  pub pushed : (all : List ℕ) (line : Line) → places ≡ places_from 0 lines → new ≡ lines ++ line ∷ [] → is_some (datagram_in line) ≡ true
      → all ≡ places ++ length lines ∷ [] → all ≡ places_from 0 new
  pushed all line before is told more =
      more ∙ (λ i. before i ++ place_if (sym told i) (length lines)) ∙ sym (placed_more line) ∙ ap (places_from 0) (sym is)

  pub pushed_none : (line : Line) → places ≡ places_from 0 lines → new ≡ lines ++ line ∷ [] → is_some (datagram_in line) ≡ false → places ≡ places_from 0 new
  pushed_none line before is told =
      before ∙ sym (append-nil (places_from 0 lines)) ∙ (λ i. places_from 0 lines ++ place_if (sym told i) (length lines)) ∙ sym (placed_more line) ∙ ap (places_from 0) (sym is)

-- a line tells of a datagram where one was found in it
pub is_told : (found : Option Datagram) (due : Option SentDatagram) (b : Bool)
    → MatchOption found (due ≡ None) (λ d. due ≡ Some (record { from = d.from; to = d.to; bytes = d.bytes.now })) → b ≡ is_some found → is_some due ≡ b
is_told None due b finds is = rw (finds, is) refl
is_told (Some d) due b finds is = rw (finds, is) refl
