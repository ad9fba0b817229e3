-- Lists of which each element has a property.
use Rattle.std.proofs.Common.{◌≡◌, ℕ, zero, suc, Bool, true, false, cond, List, [], ◌∷◌, ◌++◌, map, take, drop, Some, refl, subst, arith}
use Rattle.std.specs.List.{AllByRecursion, Contains, find, flat_map}
use Rattle.std.proofs.lemmas.List.Elements.{All-contains, All-contains_itself, All-from_recursion, Contains-append_right, Contains-get_or, recursion_from_All}
use Rattle.sd_wire.specs.fronts.Fronts.{fronts_of}
use Rattle.sd_wire.specs.contents.Values.{EntryValue}

pub all_append : {X : Type 0} (P : X → Type 0) (xs ys : List X) → AllByRecursion P xs → AllByRecursion P ys → AllByRecursion P (xs ++ ys)
all_append P [] ys h g = g
all_append P (x ∷ xs) ys h g = (h.0, all_append P xs ys h.1 g)

pub all_weaker : {X : Type 0} (P Q : X → Type 0) → ((x : X) → P x → Q x) → (xs : List X) → AllByRecursion P xs → AllByRecursion Q xs
all_weaker P Q f [] h = tt
all_weaker P Q f (x ∷ xs) h = (f x h.0, all_weaker P Q f xs h.1)

pub all_both : {X : Type 0} (P Q R : X → Type 0) → ((x : X) → P x → Q x → R x) → (xs : List X) → AllByRecursion P xs → AllByRecursion Q xs → AllByRecursion R xs
all_both P Q R f [] h g = tt
all_both P Q R f (x ∷ xs) h g = (f x h.0 g.0, all_both P Q R f xs h.1 g.1)

pub all_take : {X : Type 0} (P : X → Type 0) (n : ℕ) (xs : List X) → AllByRecursion P xs → AllByRecursion P (take n xs)
all_take P zero xs h = tt
all_take P (suc n) [] h = tt
all_take P (suc n) (x ∷ xs) h = (h.0, all_take P n xs h.1)

pub all_drop : {X : Type 0} (P : X → Type 0) (n : ℕ) (xs : List X) → AllByRecursion P xs → AllByRecursion P (drop n xs)
all_drop P zero xs h = h
all_drop P (suc n) [] h = tt
all_drop P (suc n) (x ∷ xs) h = all_drop P n xs h.1

pub all_fronts : (P : EntryValue → Type 0) (lengths : List ℕ) (entries : List EntryValue) → AllByRecursion P entries → AllByRecursion (AllByRecursion P) (fronts_of lengths entries)
all_fronts P [] entries h = tt
all_fronts P (n ∷ lengths) entries h = (all_take P n entries h, all_fronts P lengths (drop n entries) (all_drop P n entries h))

-- each element is among them
pub all_members : {X : Type 0} (xs : List X) → AllByRecursion (Contains xs) xs
all_members xs = recursion_from_All (Contains xs) xs (All-contains_itself xs)

pub at_member : {X : Type 0} (P : X → Type 0) (xs : List X) (x : X) → AllByRecursion P xs → Contains xs x → P x
at_member P xs x h i = All-contains P xs x (All-from_recursion P xs h) i

-- an element of a list of one is that one
pub only_one : {X : Type 0} (only x : X) → Contains (only ∷ []) x → x ≡ only
only_one only x among = at_member (λ y. y ≡ only) (only ∷ []) x (refl, tt) among

pub all_from_members : {X : Type 0} (P : X → Type 0) (xs : List X) → ((x : X) → Contains xs x → P x) → AllByRecursion P xs
all_from_members P xs f = all_weaker (Contains xs) P f xs (all_members xs)

pub all_map : {X Y : Type 0} (P : Y → Type 0) (f : X → Y) (xs : List X) → AllByRecursion (λ x. P (f x)) xs → AllByRecursion P (map f xs)
all_map P f [] h = tt
all_map P f (x ∷ xs) h = (h.0, all_map P f xs h.1)

pub all_flat_map : {X Y : Type 0} (P : Y → Type 0) (f : X → List Y) (xs : List X) → AllByRecursion (λ x. AllByRecursion P (f x)) xs → AllByRecursion P (flat_map f xs)
all_flat_map P f [] h = tt
all_flat_map P f (x ∷ xs) h = all_append P (f x) (flat_map f xs) h.0 (all_flat_map P f xs h.1)

-- what is found is among them, and passes
pub found : {X : Type 0} (p : X → Bool) (xs : List X) (x : X) → find p xs ≡ Some x → Contains xs x × (p x ≡ true)
found p [] x is = absurd (cc)
found p (y ∷ ys) x is = cases (p y) refl is (found p ys x)
  where
    cases : (b : Bool) → p y ≡ b → cond b (Some y) (find p ys) ≡ Some x → (find p ys ≡ Some x → Contains ys x × (p x ≡ true)) → Contains (y ∷ ys) x × (p x ≡ true)
    cases true here is rest =
        let same : y ≡ x = cc in
        (subst (Contains (y ∷ ys)) same (Contains-get_or (y ∷ ys) 0 y (omega arith)), subst (λ z. p z ≡ true) same here)
    cases false here is rest = let more = rest is in (Contains-append_right (y ∷ []) ys x more.0, more.1)
