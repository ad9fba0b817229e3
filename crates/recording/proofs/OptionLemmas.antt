-- The options of an interface, one after the other.
use Rattle.std.proofs.Common.{◌≡◌, ◌≢◌, eq-eqb, ℕ, zero, suc, ◌+◌, ◌<◌, ◌≤◌, Bool, true, false, cond, ltb, eqb, List, length, drop, Option, Some, None, refl, ap, ◌∙◌, arith}
use Rattle.std.specs.Prelude.{slice_range}
use Rattle.std.proofs.lemmas.Bool.{lt-ltb, le-ltb, ne_eqb}
use Rattle.std.proofs.lemmas.List.{length-drop}
use Rattle.recording.specs.declared.number.ByteOrder.{ByteOrder}
use Rattle.recording.specs.Numbers.{number16}
use Rattle.recording.specs.Interfaces.{value_len, option_len, option_within, option_in}

-- what is found, where the options after the first give this
abbrev pub first_or : ByteOrder → ℕ → List ℕ → Option (List ℕ) → Option (List ℕ)
first_or order code options others =
    cond (ltb (length options) 4) None
    (cond (eqb (number16 order options 0) 0) None
    (cond (ltb (length options) (4 + value_len order options)) None
    (cond (eqb (number16 order options 0) code) (Some (slice_range options 4 (4 + value_len order options))) others)))

-- more steps than bytes change nothing
enough : (k n : ℕ) (order : ByteOrder) (code : ℕ) (options : List ℕ) → length options ≤ k → length options ≤ n
    → option_within k order code options ≡ option_within n order code options
unfolding option_within
enough zero zero order code options le le' = refl
enough zero (suc n) order code options le le' = let short : ltb (length options) 4 ≡ true = lt-ltb _ _ (omega (arith, le)) in rw short refl
enough (suc k) zero order code options le le' = let short : ltb (length options) 4 ≡ true = lt-ltb _ _ (omega (arith, le')) in rw short refl
enough (suc k) (suc n) order code options le le' =
    let shorter = length-drop (option_len order options) options in
    ap (first_or order code options) (enough k n order code (drop (option_len order options) options) (omega (arith, shorter, le)) (omega (arith, shorter, le')))

-- the first option, or the others
pub option_in-at : (order : ByteOrder) (code : ℕ) (options : List ℕ)
    → option_in order code options ≡ first_or order code options (option_in order code (drop (option_len order options) options))
unfolding option_within
option_in-at order code options =
    let shorter = length-drop (option_len order options) options in
    enough (length options) (suc (length options)) order code options (omega arith) (omega arith)
    ∙ ap (first_or order code options) (enough (length options) (length (drop (option_len order options) options)) order code (drop (option_len order options) options) (omega (arith, shorter)) (omega arith))

pub option_in-nil : (order : ByteOrder) (code : ℕ) (options : List ℕ) → length options < 4 → option_in order code options ≡ None
option_in-nil order code options lt =
    let short : ltb (length options) 4 ≡ true = lt-ltb _ _ lt in
    option_in-at order code options ∙ rw short refl

pub option_in-last : (order : ByteOrder) (code : ℕ) (options : List ℕ) → 4 ≤ length options → number16 order options 0 ≡ 0 → option_in order code options ≡ None
option_in-last order code options le last =
    let long : ltb (length options) 4 ≡ false = le-ltb _ _ le in
    let zeros : eqb (number16 order options 0) 0 ≡ true = eq-eqb _ _ last in
    option_in-at order code options ∙ rw (long, zeros) refl

pub option_in-cut : (order : ByteOrder) (code : ℕ) (options : List ℕ) → 4 ≤ length options → number16 order options 0 ≢ 0 → length options < 4 + value_len order options
    → option_in order code options ≡ None
option_in-cut order code options le more cut =
    let long : ltb (length options) 4 ≡ false = le-ltb _ _ le in
    let no : eqb (number16 order options 0) 0 ≡ false = ne_eqb _ _ more in
    let short : ltb (length options) (4 + value_len order options) ≡ true = lt-ltb _ _ cut in
    option_in-at order code options ∙ rw (long, no, short) refl

whole : (order : ByteOrder) (code : ℕ) (options : List ℕ) (found : Bool) → 4 ≤ length options → number16 order options 0 ≢ 0 → 4 + value_len order options ≤ length options
    → eqb (number16 order options 0) code ≡ found
    → option_in order code options ≡ cond found (Some (slice_range options 4 (4 + value_len order options))) (option_in order code (drop (option_len order options) options))
whole order code options found le more fits is =
    let long : ltb (length options) 4 ≡ false = le-ltb _ _ le in
    let no : eqb (number16 order options 0) 0 ≡ false = ne_eqb _ _ more in
    let room : ltb (length options) (4 + value_len order options) ≡ false = le-ltb _ _ fits in
    option_in-at order code options ∙ rw (long, no, room, is) refl

pub option_in-found : (order : ByteOrder) (code : ℕ) (options : List ℕ) → 4 ≤ length options → number16 order options 0 ≢ 0 → 4 + value_len order options ≤ length options
    → number16 order options 0 ≡ code → option_in order code options ≡ Some (slice_range options 4 (4 + value_len order options))
option_in-found order code options le more fits is = whole order code options true le more fits (eq-eqb _ _ is)

pub option_in-other : (order : ByteOrder) (code : ℕ) (options : List ℕ) → 4 ≤ length options → number16 order options 0 ≢ 0 → 4 + value_len order options ≤ length options
    → number16 order options 0 ≢ code → option_in order code options ≡ option_in order code (drop (option_len order options) options)
option_in-other order code options le more fits is = whole order code options false le more fits (ne_eqb _ _ is)
