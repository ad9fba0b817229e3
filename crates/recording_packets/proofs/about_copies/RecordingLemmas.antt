-- What is remembered of a recording, against all of it.
use Rattle.std.proofs.Common.{◌≡◌, ℕ, ◌≤◌, nat_lt, Bool, true, false, not, cond, ◌&&◌, ◌||◌, List, [], ◌∷◌, ◌++◌, refl, ap, sym, ◌∙◌, arith}
use Rattle.std.proofs.lemmas.Bool.Decides.{nat_tests}
use Rattle.std.proofs.lemmas.List.Folds.{list_any-append}
use Rattle.recording.specs.Packets.{Ipv4Value}
use Rattle.recording_packets.specs.declared.copies.TheConstants.{BUDGET}
use Rattle.recording_packets.specs.copies.Remembered.{SightingValue, cost_of_all, has_to_go, is_copy, is_same, is_within, kept, others}
use Rattle.recording_packets.specs.copies.Recordings.{AreUpTo, IsInTime, IsNeverFull, remembered_after}
use Rattle.recording_packets.proofs.about_copies.SamePackets.{same_is}
use Rattle.recording_packets.proofs.about_copies.Costs.{cost_first}

-- ---- the oldest go

out_later : (window moment now then : ℕ) → moment ≤ now → is_within window moment then ≡ false → is_within window now then ≡ false
out_later window moment now then le out = grind (arith, nat_tests, le, out)

kept_copy : (window moment now : ℕ) (p : Ipv4Value) (l : List SightingValue) → moment ≤ now → cost_of_all l ≤ BUDGET
    → is_copy window now p (kept window moment l) ≡ is_copy window now p l
kept_copy window moment now p [] le fits = refl
kept_copy window moment now p (x ∷ l) le fits =
    let first : cost_of_all l ≤ BUDGET = omega (arith, cost_first x l, fits) in
    cases (is_within window moment x.moment) refl (kept_copy window moment now p l le first)
  where
    holds : nat_lt BUDGET (cost_of_all (x ∷ l)) ≡ false
    holds = grind (arith, nat_tests, fits)

    none : (a b c : Bool) → b ≡ false → c ≡ ((a && b) || c)
    none true b c h = rw h refl
    none false b c h = refl

    cases : (b : Bool) → is_within window moment x.moment ≡ b → is_copy window now p (kept window moment l) ≡ is_copy window now p l
        → is_copy window now p (cond (not b || nat_lt BUDGET (cost_of_all (x ∷ l))) (kept window moment l) (x ∷ l)) ≡ is_copy window now p (x ∷ l)
    cases true in_time rest = ap (λ c. is_copy window now p (cond c (kept window moment l) (x ∷ l))) holds
    cases false out rest = rest ∙ none (is_same x.packet p) (is_within window now x.moment) (is_copy window now p l) (out_later window moment now x.moment le out)

kept_up : (window now t : ℕ) (l : List SightingValue) → AreUpTo t l → AreUpTo t (kept window now l)
kept_up window now t [] h = tt
kept_up window now t (x ∷ l) h = cases (has_to_go window now (x ∷ l)) (kept_up window now t l h.1)
  where
    cases : (b : Bool) → AreUpTo t (kept window now l) → AreUpTo t (cond b (kept window now l) (x ∷ l))
    cases true rest = rest
    cases false rest = h

others_up : (p : Ipv4Value) (t : ℕ) (l : List SightingValue) → AreUpTo t l → AreUpTo t (others p l)
others_up p t [] h = tt
others_up p t (x ∷ l) h = cases (is_same x.packet p) (others_up p t l h.1)
  where
    cases : (b : Bool) → AreUpTo t (others p l) → AreUpTo t (cond (not b) (x ∷ others p l) (others p l))
    cases true rest = rest
    cases false rest = (h.0, rest)

last_up : (t : ℕ) (s : SightingValue) (l : List SightingValue) → AreUpTo t l → s.moment ≤ t → AreUpTo t (l ++ s ∷ [])
last_up t s [] h le = (le, tt)
last_up t s (x ∷ l) h le = (h.0, last_up t s l h.1 le)

-- what is remembered is no younger than the recording
remembered_up : (window t : ℕ) (earlier : List SightingValue) → AreUpTo t earlier → AreUpTo t (remembered_after window earlier)
remembered_up window t [] h = tt
remembered_up window t (s ∷ earlier) h =
    kept_up window s.moment t (others s.packet (remembered_after window earlier) ++ s ∷ [])
    (last_up t s (others s.packet (remembered_after window earlier)) (others_up s.packet t (remembered_after window earlier) (remembered_up window t earlier h.1)) h.0)

up_later : (t now : ℕ) (l : List SightingValue) → t ≤ now → AreUpTo t l → AreUpTo now l
up_later t now [] le h = tt
up_later t now (x ∷ l) le h = (omega (arith, le, h.0), up_later t now l le h.1)

-- ---- the others

none_left : (window now : ℕ) (p : Ipv4Value) (l : List SightingValue) → is_copy window now p (others p l) ≡ false
none_left window now p [] = refl
none_left window now p (x ∷ l) = cases (is_same x.packet p) refl (none_left window now p l)
  where
    cases : (b : Bool) → is_same x.packet p ≡ b → is_copy window now p (others p l) ≡ false → is_copy window now p (cond (not b) (x ∷ others p l) (others p l)) ≡ false
    cases true same rest = rest
    cases false other rest = ap (λ b. (b && is_within window now x.moment) || is_copy window now p (others p l)) other ∙ rest

others_copy : (window now : ℕ) (p q : Ipv4Value) (l : List SightingValue) → is_same q p ≡ false → is_copy window now p (others q l) ≡ is_copy window now p l
others_copy window now p q [] differ = refl
others_copy window now p q (x ∷ l) differ = cases (is_same x.packet q) refl (others_copy window now p q l differ)
  where
    cases : (b : Bool) → is_same x.packet q ≡ b → is_copy window now p (others q l) ≡ is_copy window now p l
        → is_copy window now p (cond (not b) (x ∷ others q l) (others q l)) ≡ is_copy window now p (x ∷ l)
    cases true same rest =
        let differs : is_same x.packet p ≡ false = ap (λ (y : Ipv4Value). is_same y p) (same_is x.packet q same) ∙ differ in
        rest ∙ sym (ap (λ b. (b && is_within window now x.moment) || is_copy window now p l) differs)
    cases false other rest = ap (λ b. (is_same x.packet p && is_within window now x.moment) || b) rest

-- where this moment is out of the window, none that is no younger is in it
none_within : (window now t : ℕ) (p : Ipv4Value) (l : List SightingValue) → AreUpTo t l → is_within window now t ≡ false → is_copy window now p l ≡ false
none_within window now t p [] h out = refl
none_within window now t p (x ∷ l) h out =
    none (is_same x.packet p) (is_within window now x.moment) (is_copy window now p l) (older (h.0)) (none_within window now t p l h.1 out)
  where
    older : x.moment ≤ t → is_within window now x.moment ≡ false
    older le = grind (arith, nat_tests, le, out)

    none : (a b c : Bool) → b ≡ false → c ≡ false → ((a && b) || c) ≡ false
    none true b c f g = rw (f, g) refl
    none false b c f g = g

-- a packet that is noted, and what was remembered
noted_copy : (window now : ℕ) (p : Ipv4Value) (s : SightingValue) (l : List SightingValue) → AreUpTo s.moment l
    → is_copy window now p (others s.packet l ++ s ∷ []) ≡ ((is_same s.packet p && is_within window now s.moment) || is_copy window now p l)
noted_copy window now p s l up =
    list_any-append (λ seen. is_same seen.packet p && is_within window now seen.moment) (others s.packet l) (s ∷ [])
    ∙ cases (is_same s.packet p) refl (is_within window now s.moment) refl
  where
    or_none : (a b : Bool) → (a || (b || false)) ≡ (b || a)
    or_none true true = refl
    or_none true false = refl
    or_none false true = refl
    or_none false false = refl

    cases : (a : Bool) → is_same s.packet p ≡ a → (b : Bool) → is_within window now s.moment ≡ b
        → (is_copy window now p (others s.packet l) || ((a && b) || false)) ≡ ((a && b) || is_copy window now p l)
    cases true same true recent = or_none (is_copy window now p (others s.packet l)) true ∙ refl
    cases true same false old =
        let none = none_within window now s.moment p l up old in
        let left : is_copy window now p (others s.packet l) ≡ false = ap (λ (q : Ipv4Value). is_copy window now p (others q l)) (same_is s.packet p same) ∙ none_left window now p l in
        or_none (is_copy window now p (others s.packet l)) false ∙ left ∙ sym none
    cases false other b within = or_none (is_copy window now p (others s.packet l)) false ∙ others_copy window now p s.packet l other

-- ---- the whole recording

pub as_recorded : (window now : ℕ) (p : Ipv4Value) (earlier : List SightingValue) → AreUpTo now earlier → IsInTime earlier → IsNeverFull window earlier
    → is_copy window now p (remembered_after window earlier) ≡ is_copy window now p earlier
as_recorded window now p [] up in_time fits = refl
as_recorded window now p (s ∷ earlier) up in_time fits =
    kept_copy window s.moment now p (others s.packet (remembered_after window earlier) ++ s ∷ []) up.0 fits.0
    ∙ noted_copy window now p s (remembered_after window earlier) (remembered_up window s.moment earlier in_time.0)
    ∙ ap (λ b. (is_same s.packet p && is_within window now s.moment) || b) (as_recorded window now p earlier up.1 in_time.1 fits.1)

-- ---- nothing else is a copy

kept_only : (window moment now : ℕ) (p : Ipv4Value) (l : List SightingValue) → is_copy window now p (kept window moment l) ≡ true → is_copy window now p l ≡ true
kept_only window moment now p [] h = h
kept_only window moment now p (x ∷ l) h = cases (has_to_go window moment (x ∷ l)) h (kept_only window moment now p l)
  where
    later : (b : Bool) → (b || true) ≡ true
    later true = refl
    later false = refl

    cases : (b : Bool) → is_copy window now p (cond b (kept window moment l) (x ∷ l)) ≡ true
        → (is_copy window now p (kept window moment l) ≡ true → is_copy window now p l ≡ true) → is_copy window now p (x ∷ l) ≡ true
    cases true h rest = ap (λ b. (is_same x.packet p && is_within window now x.moment) || b) (rest h) ∙ later (is_same x.packet p && is_within window now x.moment)
    cases false h rest = h

others_only : (window now : ℕ) (p q : Ipv4Value) (l : List SightingValue) → is_copy window now p (others q l) ≡ true → is_copy window now p l ≡ true
others_only window now p q [] h = h
others_only window now p q (x ∷ l) h = cases (is_same x.packet q) h (others_only window now p q l)
  where
    later : (b c : Bool) → c ≡ true → (b || c) ≡ true
    later true c h = refl
    later false c h = h

    split : (b c d : Bool) → (b || c) ≡ true → (c ≡ true → d ≡ true) → (b || d) ≡ true
    split true c d h f = refl
    split false c d h f = f h

    cases : (b : Bool) → is_copy window now p (cond (not b) (x ∷ others q l) (others q l)) ≡ true
        → (is_copy window now p (others q l) ≡ true → is_copy window now p l ≡ true) → is_copy window now p (x ∷ l) ≡ true
    cases true h rest = later (is_same x.packet p && is_within window now x.moment) (is_copy window now p l) (rest h)
    cases false h rest = split (is_same x.packet p && is_within window now x.moment) (is_copy window now p (others q l)) (is_copy window now p l) h rest

pub only_recorded : (window now : ℕ) (p : Ipv4Value) (earlier : List SightingValue) → is_copy window now p (remembered_after window earlier) ≡ true → is_copy window now p earlier ≡ true
only_recorded window now p [] h = h
only_recorded window now p (s ∷ earlier) h =
    let all = kept_only window s.moment now p (others s.packet (remembered_after window earlier) ++ s ∷ []) h in
    let parts = sym (list_any-append (λ seen. is_same seen.packet p && is_within window now seen.moment) (others s.packet (remembered_after window earlier)) (s ∷ [])) ∙ all in
    split (is_copy window now p (others s.packet (remembered_after window earlier))) (is_same s.packet p && is_within window now s.moment) (is_copy window now p earlier) parts
    (λ left. only_recorded window now p earlier (others_only window now p s.packet (remembered_after window earlier) left))
  where
    split : (a b c : Bool) → (a || (b || false)) ≡ true → (a ≡ true → c ≡ true) → (b || c) ≡ true
    split true true c h f = refl
    split true false c h f = f refl
    split false true c h f = refl
    split false false c h f = cc

-- ---- what is left

pub kept_tail : (window now : ℕ) (l : List SightingValue) → (gone : List SightingValue) × (l ≡ gone ++ kept window now l)
kept_tail window now [] = ([], refl)
kept_tail window now (x ∷ l) = cases (has_to_go window now (x ∷ l)) (kept_tail window now l)
  where
    cases : (b : Bool) → (gone : List SightingValue) × (l ≡ gone ++ kept window now l) → (gone : List SightingValue) × (x ∷ l ≡ gone ++ cond b (kept window now l) (x ∷ l))
    cases true rest = (x ∷ rest.0, ap (λ t. x ∷ t) rest.1)
    cases false rest = ([], refl)

pub kept_stays : (window now : ℕ) (l : List SightingValue) → has_to_go window now (kept window now l) ≡ false
kept_stays window now [] = refl
kept_stays window now (x ∷ l) = cases (has_to_go window now (x ∷ l)) refl (kept_stays window now l)
  where
    cases : (b : Bool) → has_to_go window now (x ∷ l) ≡ b → has_to_go window now (kept window now l) ≡ false → has_to_go window now (cond b (kept window now l) (x ∷ l)) ≡ false
    cases true goes rest = rest
    cases false stays rest = stays
