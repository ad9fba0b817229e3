-- What is remembered counts, and what has to go.
use Rattle.std.proofs.Common.{◌≡◌, ℕ, ◌+◌, ◌-◌, ◌≤◌, nat_lt, nat_le, Bool, true, false, not, cond, ◌&&◌, ◌||◌, List, [], ◌∷◌, ◌++◌, drop, None, Some, refl, ap, sym, ◌∙◌, arith, lit≤}
use Rattle.std.specs.List.{slice_get}
use Rattle.std.specs.Option.{is_some, option_map}
use Rattle.std.proofs.lemmas.List.Sums.{sum_by-append}
use Rattle.std.proofs.lemmas.Bool.Decides.{nat_tests}
use Rattle.recording.specs.Packets.{Ipv4Value}
use Rattle.recording_packets.specs.copies.Remembered.{SightingValue, cost_of_all, has_to_go, is_copy, is_same, is_within, kept, others, packet_cost}
use Rattle.recording_packets.specs.copies.Tables.{IsInTurn, moment_of, remembered_in, turn_of, value_of, was_within}
use Rattle.recording_packets.specs.declared.copies.TheConstants.{BUDGET}
use Rattle.recording_packets.specs.declared.copies.sightings.Sighting.{Sighting}
use Rattle.recording_packets.proofs.about_copies.SamePackets.{or_false, same_is}
use Rattle.recording_packets.proofs.about_copies.Turns.{none_after, packet_at}
use Rattle.recording_packets.proofs.about_copies.Noted.{values_without, without_none}

-- ---- the oldest

goes : (window now gap : ℕ) (s : SightingValue) (later : List SightingValue) → gap ≡ now - s.moment
    → has_to_go window now (s ∷ later) ≡ (nat_lt window gap || nat_lt BUDGET (cost_of_all (s ∷ later)))
goes window now gap s later is = ap (λ b. b || nat_lt BUDGET (cost_of_all (s ∷ later))) (test is)
  where
    test : gap ≡ now - s.moment → not (nat_le (now - s.moment) window) ≡ nat_lt window gap
    test is = rw is (grind (arith, nat_tests))

pub goes_old : (window now gap cost : ℕ) (es : List (ℕ × Sighting)) (s : Sighting) → Some s ≡ option_map (λ (e : ℕ × Sighting). e.1) (slice_get es 0) → gap ≡ now - s.moment → cost ≡ cost_of_all (remembered_in es)
    → (nat_lt window gap || nat_lt BUDGET cost) ≡ has_to_go window now (remembered_in es)
goes_old window now gap cost [] s first is counts = cc
goes_old window now gap cost (e ∷ es) s first is counts =
    let one : e.1 ≡ s = cc in
    rw counts (sym (goes window now gap (value_of e.1) (remembered_in es) (is ∙ ap (λ (x : Sighting). now - x.moment) (sym one))))

-- ---- the oldest goes

pub kept_without : (window now : ℕ) (es : List (ℕ × Sighting)) → has_to_go window now (remembered_in es) ≡ true
    → kept window now (remembered_in (drop 1 es)) ≡ kept window now (remembered_in es)
kept_without window now [] goes = cc
kept_without window now (e ∷ es) goes = sym (ap (λ b. cond b (kept window now (remembered_in es)) (remembered_in (e ∷ es))) goes)

pub kept_all : (window now : ℕ) (es : List (ℕ × Sighting)) → has_to_go window now (remembered_in es) ≡ false → kept window now (remembered_in es) ≡ remembered_in es
kept_all window now [] stays = refl
kept_all window now (e ∷ es) stays = ap (λ b. cond b (kept window now (remembered_in es)) (remembered_in (e ∷ es))) stays

pub in_turn_without_first : (next : ℕ) (es : List (ℕ × Sighting)) → IsInTurn next es → IsInTurn next (drop 1 es)
in_turn_without_first next [] h = tt
in_turn_without_first next (e ∷ es) h = h.2

-- ---- what fits

pub kept_fits : (window now : ℕ) (l : List SightingValue) → cost_of_all (kept window now l) ≤ BUDGET
kept_fits window now [] = lit≤ tt
kept_fits window now (s ∷ l) = cases (has_to_go window now (s ∷ l)) refl (kept_fits window now l)
  where
    cases : (b : Bool) → has_to_go window now (s ∷ l) ≡ b → cost_of_all (kept window now l) ≤ BUDGET → cost_of_all (cond b (kept window now l) (s ∷ l)) ≤ BUDGET
    cases true goes rest = rest
    cases false stays rest = let second = or_false (not (is_within window now s.moment)) (nat_lt BUDGET (cost_of_all (s ∷ l))) stays in grind (arith, nat_tests, second.1)

-- ---- what a packet adds

others_all : (p : Ipv4Value) (es : List (ℕ × Sighting)) → turn_of p es ≡ None → others p (remembered_in es) ≡ remembered_in es
others_all p es none = sym (values_without p es) ∙ ap remembered_in (without_none p es none)

some_or : {A : Type 0} (b : Bool) (x y : A) → b ≡ true → cond b x y ≡ x
some_or b x y h = ap (λ t. cond t x y) h

or_other : {A : Type 0} (b : Bool) (x y : A) → b ≡ false → cond b x y ≡ y
or_other b x y h = ap (λ t. cond t x y) h

pub cost_first : (s : SightingValue) (l : List SightingValue) → cost_of_all (s ∷ l) ≡ cost_of_all l + packet_cost s.packet
cost_first s l = sum_by-append (λ seen. packet_cost seen.packet) (s ∷ []) l ∙ turned (packet_cost s.packet) (cost_of_all l)
  where
    turned : (a b : ℕ) → 0 + a + b ≡ b + a
    turned a b = omega arith

cost_others : (p : Ipv4Value) (next : ℕ) (es : List (ℕ × Sighting)) → IsInTurn next es
    → cost_of_all (others p (remembered_in es)) + cond (is_some (moment_of p es)) (packet_cost p) 0 ≡ cost_of_all (remembered_in es)
cost_others p next [] h = refl
cost_others p next (e ∷ es) h = cases (is_same (packet_at e) p) refl (cost_others p next es h.2) ∙ sym (cost_first (value_of e.1) (remembered_in es))
  where
    cases : (b : Bool) → is_same (packet_at e) p ≡ b
        → cost_of_all (others p (remembered_in es)) + cond (is_some (moment_of p es)) (packet_cost p) 0 ≡ cost_of_all (remembered_in es)
        → cost_of_all (cond (not b) (value_of e.1 ∷ others p (remembered_in es)) (others p (remembered_in es))) + cond (is_some (cond b (Some e.1.moment) (moment_of p es))) (packet_cost p) 0
        ≡ cost_of_all (remembered_in es) + packet_cost (packet_at e)
    cases true same rest =
        let whole : cost_of_all (others p (remembered_in es)) ≡ cost_of_all (remembered_in es) = ap cost_of_all (others_all p es (none_after e es p h.1 (same_is (packet_at e) p same))) in
        let this : packet_cost (packet_at e) ≡ packet_cost p = ap packet_cost (same_is (packet_at e) p same) in
        sums whole this
      where
        sums : {a b c d : ℕ} → a ≡ b → c ≡ d → a + d ≡ b + c
        sums e f = rw (e, f) refl
    cases false other rest =
        ap (λ n. n + cond (is_some (moment_of p es)) (packet_cost p) 0) (cost_first (value_of e.1) (others p (remembered_in es)))
        ∙ turned (cost_of_all (others p (remembered_in es))) (cond (is_some (moment_of p es)) (packet_cost p) 0) (cost_of_all (remembered_in es)) (packet_cost (packet_at e)) rest
      where
        turned : (a b c d : ℕ) → a + b ≡ c → a + d + b ≡ c + d
        turned a b c d h = omega (arith, h)

-- what is remembered counts after a packet
pub cost_noted : (p : Ipv4Value) (next now : ℕ) (es : List (ℕ × Sighting)) → IsInTurn next es
    → cost_of_all (others p (remembered_in es) ++ record { moment = now; packet = p } ∷ []) ≡ cond (is_some (moment_of p es)) (cost_of_all (remembered_in es)) (cost_of_all (remembered_in es) + packet_cost p)
cost_noted p next now es h =
    sum_by-append (λ seen. packet_cost seen.packet) (others p (remembered_in es)) (record { moment = now; packet = p } ∷ [])
    ∙ cases (cost_of_all (others p (remembered_in es))) (packet_cost p) (cost_of_all (remembered_in es)) (is_some (moment_of p es)) (cost_others p next es h)
  where
    cases : (a c all : ℕ) (b : Bool) → a + cond b c 0 ≡ all → a + (0 + c) ≡ cond b all (all + c)
    cases a c all true h = omega (arith, h)
    cases a c all false h = omega (arith, h)

-- ---- whether it is a copy

no_copy : (window now : ℕ) (p : Ipv4Value) (es : List (ℕ × Sighting)) → turn_of p es ≡ None → is_copy window now p (remembered_in es) ≡ false
no_copy window now p [] none = refl
no_copy window now p (e ∷ es) none = cases (is_same (packet_at e) p) refl (no_copy window now p es)
  where
    cases : (b : Bool) → is_same (packet_at e) p ≡ b → (turn_of p es ≡ None → is_copy window now p (remembered_in es) ≡ false)
        → ((b && is_within window now e.1.moment) || is_copy window now p (remembered_in es)) ≡ false
    cases true same rest = let at : Some e.0 ≡ None = sym (some_or _ (Some e.0) (turn_of p es) same) ∙ none in cc
    cases false other rest = rest (sym (or_other _ (Some e.0) _ other) ∙ none)

pub copy_is : (window now next : ℕ) (p : Ipv4Value) (es : List (ℕ × Sighting)) → IsInTurn next es
    → was_within window now (moment_of p es) ≡ is_copy window now p (remembered_in es)
copy_is window now next p [] h = refl
copy_is window now next p (e ∷ es) h = cases (is_same (packet_at e) p) refl (copy_is window now next p es h.2)
  where
    or_none : (b c : Bool) → c ≡ false → b ≡ (b || c)
    or_none true c h = refl
    or_none false c h = sym h

    cases : (b : Bool) → is_same (packet_at e) p ≡ b → was_within window now (moment_of p es) ≡ is_copy window now p (remembered_in es)
        → was_within window now (cond b (Some e.1.moment) (moment_of p es)) ≡ ((b && is_within window now e.1.moment) || is_copy window now p (remembered_in es))
    cases true same rest = or_none (is_within window now e.1.moment) _ (no_copy window now p es (none_after e es p h.1 (same_is (packet_at e) p same)))
    cases false other rest = rest
