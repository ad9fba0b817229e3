-- The entries of a message, one after the other.
use Rattle.std.proofs.Common.{◌≡◌, ℕ, zero, suc, ◌+◌, ◌*◌, ◌<◌, Bool, true, false, List, [], ◌∷◌, ◌++◌, get_or, drop, Some, None, refl, ap, ◌∙◌, arith}
use Rattle.std.proofs.lemmas.List.{drop-drop, get_or-drop}
use Rattle.sd_wire.specs.declared.error.SdError.TheVariants.{UnknownEntryType}
use Rattle.sd_wire.specs.declared.option.SdOption.{SdOption}
use Rattle.sd_wire.specs.contents.Values.{ReadValue}
use Rattle.sd_wire.specs.decoding.Faults.{is_entry_type}
use Rattle.sd_wire.specs.decoding.Program.{type_fault, entry_in, entry_list}

-- the type of entry k, counted after the first one
later : (k : ℕ) (bytes : List ℕ) (b : Bool) → is_entry_type (get_or bytes (suc k * 16) 0) ≡ b → is_entry_type (get_or (drop 16 bytes) (k * 16) 0) ≡ b
later k bytes b is = let at : 16 + k * 16 ≡ suc k * 16 = omega arith in rw (get_or-drop, at) is

-- all types up to entry k are known, and that of entry k is too
pub type_fault-more : (k p : ℕ) (bytes : List ℕ) → type_fault k p bytes ≡ None → is_entry_type (get_or bytes (k * 16) 0) ≡ true → type_fault (suc k) p bytes ≡ None
type_fault-more zero p bytes none is = rw is refl
type_fault-more (suc k) p bytes none is =
    let P : Bool → Type 0 = λ b. is_entry_type (get_or bytes 0 0) ≡ b → type_fault (suc (suc k)) p bytes ≡ None in
    (elim (is_entry_type (get_or bytes 0 0)) as P [
      | true ↦ λ e. rw e (type_fault-more k (p + 16) (drop 16 bytes) (rw e at none) (later k bytes true is))
      | false ↦ λ e. let bad = rw e at none in absurd cc
    ]) refl

-- all types up to entry k are known, and that of entry k is not
pub type_fault-found : (k n p : ℕ) (bytes : List ℕ) → k < n → type_fault k p bytes ≡ None → is_entry_type (get_or bytes (k * 16) 0) ≡ false
    → type_fault n p bytes ≡ Some (UnknownEntryType (p + k * 16))
type_fault-found k zero p bytes lt none is = absurd (omega (arith, lt))
type_fault-found zero (suc n) p bytes lt none is = let here : p + 0 ≡ p = omega arith in rw (is, here) refl
type_fault-found (suc k) (suc n) p bytes lt none is =
    let place : p + 16 + k * 16 ≡ p + suc k * 16 = omega arith in
    let P : Bool → Type 0 = λ b. is_entry_type (get_or bytes 0 0) ≡ b → type_fault (suc n) p bytes ≡ Some (UnknownEntryType (p + suc k * 16)) in
    (elim (is_entry_type (get_or bytes 0 0)) as P [
      | true ↦ λ e. rw (e, ← place) (type_fault-found k n (p + 16) (drop 16 bytes) (omega arith) (rw e at none) (later k bytes false is))
      | false ↦ λ e. let bad = rw e at none in absurd cc
    ]) refl

-- one more entry
pub entry_list-push : (k : ℕ) (pool : List SdOption) (bytes : List ℕ) → entry_list (suc k) pool bytes ≡ entry_list k pool bytes ++ entry_in pool (drop (k * 16) bytes) ∷ []
entry_list-push zero pool bytes = refl
entry_list-push (suc k) pool bytes =
    let at : 16 + k * 16 ≡ suc k * 16 = omega arith in
    ap (λ (t : List ReadValue). entry_in pool bytes ∷ t)
    (entry_list-push k pool (drop 16 bytes) ∙ ap (λ (t : List ℕ). entry_list k pool (drop 16 bytes) ++ entry_in pool t ∷ []) (drop-drop (k * 16) 16 bytes ∙ ap (λ n. drop n bytes) at))
