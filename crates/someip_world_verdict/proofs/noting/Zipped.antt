-- Two lists side by side, at one place.
use Rattle.std.proofs.Common.{◌≡◌, ℕ, zero, suc, List, [], ◌∷◌, slice_get, Some, refl, subst}
use Rattle.std.specs.List.{AllZip}
use Rattle.someip_world_rules.specs.Deliveries.{Dispatch, dispatch_at, dispatches_in}
use Rattle.someip_world_rules.specs.declared.line.Line.{Line}
use Rattle.someip_world_verdict.specs.Books.{NoteKept, note_at}

module _ {A B : Type 0} (R : A → B → Type 0) where
  -- what stands beside an element of the first list
  pub beside : (xs : List A) (ys : List B) (k : ℕ) (x : A) → AllZip R xs ys → slice_get xs k ≡ Some x → (y : B) × (slice_get ys k ≡ Some y) × R x y
  beside [] ys k x all is = absurd cc
  beside (a ∷ xs) [] k x all is = absurd all
  beside (a ∷ xs) (b ∷ ys) zero x all is = let same : a ≡ x = cc in (b, refl, subst (λ a. R a b) same all.0)
  beside (a ∷ xs) (b ∷ ys) (suc k) x all is = beside xs ys k x all.1 is

  -- and of the second
  pub beside_second : (xs : List A) (ys : List B) (k : ℕ) (y : B) → AllZip R xs ys → slice_get ys k ≡ Some y → (x : A) × (slice_get xs k ≡ Some x) × R x y
  beside_second xs [] k y all is = absurd cc
  beside_second [] (b ∷ ys) k y all is = absurd all
  beside_second (a ∷ xs) (b ∷ ys) zero y all is = let same : b ≡ y = cc in (a, refl, subst (λ b. R a b) same all.0)
  beside_second (a ∷ xs) (b ∷ ys) (suc k) y all is = beside_second xs ys k y all.1 is

-- what is kept of the datagram of a number, and the datagram of what is kept
module _ (R : Dispatch → NoteKept → Type 0) (lines : List Line) (notes : List NoteKept) (all : AllZip R (dispatches_in lines) notes) where
  pub note_of_number : (number : ℕ) (d : Dispatch) → dispatch_at lines number ≡ Some d → (note : NoteKept) × (note_at notes number ≡ Some note) × R d note
  note_of_number zero d is = absurd cc
  note_of_number (suc k) d is = beside R (dispatches_in lines) notes k d all is

  pub dispatch_of_number : (number : ℕ) (note : NoteKept) → note_at notes number ≡ Some note → (d : Dispatch) × (dispatch_at lines number ≡ Some d) × R d note
  dispatch_of_number zero note is = absurd cc
  dispatch_of_number (suc k) note is = beside_second R (dispatches_in lines) notes k note all is
