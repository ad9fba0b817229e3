-- The options of a message, one after the other.
use Rattle.std.proofs.Common.{◌≡◌, ℕ, zero, suc, ◌+◌, ◌<◌, ◌≤◌, List, [], ◌∷◌, ◌++◌, length, drop, Option, Some, None, Result, Ok, Err, refl, sym, ap, ◌∙◌, append_assoc, arith}
use Rattle.std.proofs.lemmas.List.{length-drop, append-nil}
use Rattle.sd_wire.specs.declared.error.SdError.{SdError}
use Rattle.sd_wire.specs.declared.error.SdError.TheVariants.{OptionLength}
use Rattle.sd_wire.specs.declared.option.SdOption.{SdOption}
use Rattle.sd_wire.specs.decoding.Faults.{option_size}
use Rattle.sd_wire.specs.decoding.Program.{HasOption, option_in, and_then, options_after, options_within, options_from}

-- an option that is there
pub has_option : (bytes : List ℕ) (n : ℕ) → option_size bytes ≡ Some n → HasOption bytes n
has_option bytes n is = record {
  size = grind arith;
  some = grind arith;
  within = grind arith;
  len = grind arith;
}

-- more steps than bytes change nothing
options_within-enough : (k n p : ℕ) (bytes : List ℕ) → length bytes ≤ k → length bytes ≤ n → options_within k p bytes ≡ options_within n p bytes
unfolding options_within
options_within-enough zero zero p [] le le' = refl
options_within-enough zero (suc n) p [] le le' = refl
options_within-enough (suc k) zero p [] le le' = refl
options_within-enough (suc k) (suc n) p [] le le' = refl
options_within-enough zero n p (b ∷ bytes) le le' = absurd (omega (arith, le))
options_within-enough (suc k) zero p (b ∷ bytes) le le' = absurd (omega (arith, le'))
options_within-enough (suc k) (suc n) p (b ∷ bytes) le le' =
    let P : Option ℕ → Type 0 = λ o. option_size (b ∷ bytes) ≡ o → options_after (options_within k) p (b ∷ bytes) o ≡ options_after (options_within n) p (b ∷ bytes) o in
    (elim (option_size (b ∷ bytes)) as P [
      | None ↦ λ e. refl
      | Some size ↦ λ e.
          let has = has_option (b ∷ bytes) size e in
          let shorter = length-drop size (b ∷ bytes) in
          ap (and_then (option_in (b ∷ bytes) ∷ [])) (options_within-enough k n (p + size) (drop size (b ∷ bytes)) (omega (arith, shorter, has.size)) (omega (arith, shorter, has.size)))
    ]) refl

pub options_from-nil : (p : ℕ) (bytes : List ℕ) → length bytes ≡ 0 → options_from p bytes ≡ Ok []
unfolding options_within
options_from-nil p [] is = refl
options_from-nil p (b ∷ bytes) is = absurd (omega (arith, is))

-- no option begins at the front
pub options_from-none : (p : ℕ) (bytes : List ℕ) → 0 < length bytes → option_size bytes ≡ None → options_from p bytes ≡ Err (OptionLength p)
unfolding options_within
options_from-none p [] some is = absurd (omega (arith, some))
options_from-none p (b ∷ bytes) some is = ap (options_after (options_within (length bytes)) p (b ∷ bytes)) is

-- an option at the front, and the others after it
pub options_from-some : (p n : ℕ) (bytes : List ℕ) → option_size bytes ≡ Some n → options_from p bytes ≡ and_then (option_in bytes ∷ []) (options_from (p + n) (drop n bytes))
unfolding options_within
options_from-some p n [] is = let has = has_option [] n is in absurd (omega (arith, has.size, has.within))
options_from-some p n (b ∷ bytes) is =
    let has = has_option (b ∷ bytes) n is in
    let shorter = length-drop n (b ∷ bytes) in
    ap (options_after (options_within (length bytes)) p (b ∷ bytes)) is
    ∙ ap (and_then (option_in (b ∷ bytes) ∷ [])) (options_within-enough (length bytes) _ (p + n) (drop n (b ∷ bytes)) (omega (arith, shorter, has.size)) (omega arith))

-- ---- as the loop goes

and_then-again : (front next : List SdOption) (read : Result (List SdOption) SdError) → and_then front (and_then next read) ≡ and_then (front ++ next) read
and_then-again front next (Ok others) = ap (λ (t : List SdOption). Ok t) (sym (append_assoc front next others))
and_then-again front next (Err e) = refl

pub more_options : (front : List SdOption) (p n : ℕ) (bytes : List ℕ) (o : SdOption) (total : Result (List SdOption) SdError) → option_size bytes ≡ Some n → o ≡ option_in bytes
    → and_then front (options_from p bytes) ≡ total → and_then (front ++ o ∷ []) (options_from (p + n) (drop n bytes)) ≡ total
more_options front p n bytes o total is here so_far =
    let step : and_then front (options_from p bytes) ≡ and_then (front ++ o ∷ []) (options_from (p + n) (drop n bytes)) =
    rw (here, options_from-some p n bytes is) (and_then-again front (option_in bytes ∷ []) (options_from (p + n) (drop n bytes))) in
    sym step ∙ so_far

pub no_option : (front : List SdOption) (p : ℕ) (bytes : List ℕ) (total : Result (List SdOption) SdError) → 0 < length bytes → option_size bytes ≡ None
    → and_then front (options_from p bytes) ≡ total → total ≡ Err (OptionLength p)
no_option front p bytes total some is so_far =
    let step : and_then front (options_from p bytes) ≡ Err (OptionLength p) = rw (options_from-none p bytes some is) refl in
    sym so_far ∙ step

pub all_options : (front : List SdOption) (p : ℕ) (bytes : List ℕ) (total : Result (List SdOption) SdError) → length bytes ≡ 0
    → and_then front (options_from p bytes) ≡ total → total ≡ Ok front
all_options front p bytes total is so_far =
    let step : and_then front (options_from p bytes) ≡ Ok front = rw (options_from-nil p bytes is, append-nil front) refl in
    sym so_far ∙ step
