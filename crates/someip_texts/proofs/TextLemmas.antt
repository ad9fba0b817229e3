-- Bytes as text.
use Rattle.std.proofs.Common.{◌≡◌, ℕ, Bool, true, false, List, Result, Ok, Err, Bor, IsUtf8, refl, MatchOption}
use Rattle.std.specs.Result.{MatchResult, result_ok}
use Rattle.std.specs.Str.{is_utf8}
use Rattle.std.proofs.lemmas.Str.{IsUtf8-from_is_utf8, is_utf8-from_IsUtf8}

refuted : (b : Bool) → (b ≡ true → ⊥) → b ≡ false
refuted true h = absurd (h refl)
refuted false h = refl

-- the text of some bytes is what `from_utf8` gives
pub decoded : {E : Type 0} {Q : E → Type 0} (bytes : List ℕ) (r : Result (Bor (List ℕ)) E)
    → MatchResult r (λ s. (s.now ≡ bytes) × IsUtf8 bytes) Q → ((e : E) → Q e → ¬ (IsUtf8 bytes))
    → MatchOption (result_ok r) (is_utf8 bytes ≡ false) (λ text. (text.now ≡ bytes) × (is_utf8 bytes ≡ true))
decoded bytes (Ok text) h none = (h.0, is_utf8-from_IsUtf8 bytes h.1)
decoded bytes (Err e) h none = refuted (is_utf8 bytes) (λ t. none e h (IsUtf8-from_is_utf8 bytes t))
