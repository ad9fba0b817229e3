-- Sets, maps and lists that grow by one element after the other.
use Rattle.std.proofs.Common.{◌≡◌, ℕ, ◌+◌, ◌<◌, ◌≤◌, List, [], ◌∷◌, ◌++◌, length, map, get_or, drop, Ordering, Less, Equal, Greater, refl, sym, ap, ◌∙◌, append-nil}
use Rattle.std.specs.Ordering.{match_ordering, nat_cmp}
use Rattle.std.specs.BTreeMap.{insert_entry}
use Rattle.std.specs.BTreeSet.{insert_key}
use Rattle.std.proofs.lemmas.List.{drop_all, drop_more}
use Rattle.someip_world_setup_keys.specs.Made.{with_keys, with_entries, set_of, plain_entries}

-- ---- sets

abbrev pub HasKeys : List ℕ → ℕ → List ℕ → Type 0
HasKeys keys i ids = with_keys keys (drop i ids) ≡ set_of ids

pub one_key : (keys : List ℕ) (i : ℕ) (ids : List ℕ) (d : ℕ) → i < length ids → HasKeys keys i ids → HasKeys (insert_key nat_cmp keys (get_or ids i d)) (i + 1) ids
one_key keys i ids d lt h = sym (ap (with_keys keys) (drop_more ids i d lt)) ∙ h

pub all_keys : (keys : List ℕ) (i : ℕ) (ids : List ℕ) → length ids ≤ i → HasKeys keys i ids → keys ≡ set_of ids
all_keys keys i ids le h = sym (ap (with_keys keys) (drop_all i ids le)) ∙ h

-- ---- maps

module _ {K X Y : Type 0} (cmp : K → K → Ordering) (f : X → Y) where
  seen_match : (o : Ordering) (e : K × X) (es : List (K × X)) (k : K) (v : X) (rest : List (K × X)) (more : List (K × Y)) → plain_entries f rest ≡ more → plain_entries f (match_ordering o ((k, v) ∷ e ∷ es) ((e.0, v) ∷ es) (e ∷ rest)) ≡ match_ordering o ((k, f v) ∷ (e.0, f e.1) ∷ plain_entries f es) ((e.0, f v) ∷ plain_entries f es) ((e.0, f e.1) ∷ more)
  seen_match Less e es k v rest more h = refl
  seen_match Equal e es k v rest more h = refl
  seen_match Greater e es k v rest more h = ap (λ (t : List (K × Y)). (e.0, f e.1) ∷ t) h

  pub seen-insert : (es : List (K × X)) (k : K) (v : X) → plain_entries f (insert_entry cmp es k v) ≡ insert_entry cmp (plain_entries f es) k (f v)
  seen-insert [] k v = refl
  seen-insert (e ∷ es) k v = seen_match (cmp k e.0) e es k v (insert_entry cmp es k v) (insert_entry cmp (plain_entries f es) k (f v)) (seen-insert es k v)

  module _ {A : Type 0} (g : A → K × Y) where
    abbrev pub HasEntries : List (K × X) → ℕ → List A → Type 0
    HasEntries es i xs = with_entries cmp (plain_entries f es) (map g (drop i xs)) ≡ with_entries cmp [] (map g xs)

    pub one_entry : (es more : List (K × X)) (i : ℕ) (xs : List A) (d : A) (k : K) (v : X) → i < length xs → more ≡ insert_entry cmp es k v → k ≡ (g (get_or xs i d)).0 → f v ≡ (g (get_or xs i d)).1 → HasEntries es i xs → HasEntries more (i + 1) xs
    one_entry es more i xs d k v lt is key value h =
        let grown : plain_entries f more ≡ insert_entry cmp (plain_entries f es) (g (get_or xs i d)).0 (g (get_or xs i d)).1 =
        ap (plain_entries f) is ∙ seen-insert es k v ∙ ap (λ (t : K). insert_entry cmp (plain_entries f es) t (f v)) key ∙ ap (λ (t : Y). insert_entry cmp (plain_entries f es) (g (get_or xs i d)).0 t) value in
        ap (λ (t : List (K × Y)). with_entries cmp t (map g (drop (i + 1) xs))) grown
        ∙ sym (ap (λ (t : List A). with_entries cmp (plain_entries f es) (map g t)) (drop_more xs i d lt)) ∙ h

    pub all_entries : (es : List (K × X)) (i : ℕ) (xs : List A) → length xs ≤ i → HasEntries es i xs → plain_entries f es ≡ with_entries cmp [] (map g xs)
    all_entries es i xs le h = sym (ap (λ (t : List A). with_entries cmp (plain_entries f es) (map g t)) (drop_all i xs le)) ∙ h

-- ---- lists

module _ {A B : Type 0} (g : A → B) where
  abbrev pub HasMade : List B → ℕ → List A → Type 0
  HasMade front i xs = front ++ map g (drop i xs) ≡ map g xs

  pub all_made : (front : List B) (i : ℕ) (xs : List A) → length xs ≤ i → HasMade front i xs → front ≡ map g xs
  all_made front i xs le h = sym (append-nil front) ∙ sym (ap (λ (t : List A). front ++ map g t) (drop_all i xs le)) ∙ h

-- what is made of what is seen
pub map_after : {A B C : Type 0} (h : B → C) (k : A → B) (xs : List A) → map (λ x. h (k x)) xs ≡ map h (map k xs)
map_after h k [] = refl
map_after {C = C} h k (x ∷ xs) = ap (λ (t : List C). h (k x) ∷ t) (map_after h k xs)
