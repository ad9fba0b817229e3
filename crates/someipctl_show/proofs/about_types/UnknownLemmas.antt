-- The keys of a table that are unknown.
use Rattle.std.proofs.Common.{String, Global, ◌≡◌, ◌⊎◌, inl, inr, ℕ, ◌+◌, Bool, true, false, cond, ◌||◌, List, [], ◌∷◌, ◌++◌, map, Option, Some, None, refl, sym, ap, ◌∙◌, subst, string_bytes, bytes_eq}
use Rattle.std.specs.declared.cmp.Ordering.{Ordering}
use Rattle.std.specs.declared.cmp.Ordering.TheVariants.{Less, Equal, Greater}
use Rattle.std.specs.Ordering.{nat_cmp, is_eq, is_lt, match_ordering}
use Rattle.std.specs.Cmp.Lexicographic.{slice_cmp}
use Rattle.std.specs.List.{list_any, find, position_from}
use Rattle.std.specs.Option.{is_some}
use Rattle.std.specs.BTreeMap.{BTreeMap, keys}
use Rattle.std.proofs.lemmas.List.Folds.{list_any-append}
use Rattle.std.proofs.lemmas.Map.Text.{is_eq-slice_cmp}
use Rattle.std.proofs.lemmas.Slice.Eq.{bytes_eq-Decides}
use Rattle.toml.specs.Data.{Data, string, integer, float, boolean, datetime, array, table, Members, no_members, member, as_table, get_member}
use Rattle.toml.specs.View.{members_view, table_view}
use Rattle.toml.specs.declared.value.Value.{Value}
use Rattle.someip_texts.specs.Keys.{lesser_of}
use Rattle.someipctl_show.specs.types.Tables.{table_keys, is_unknown, keys_in, keys_of_members, has_unknown, has_key}
use Rattle.someipctl_show.specs.types.Faults.{IsUnknownIn, IsUnknownAmong}

-- ---- the keys of a table

any-find : {A : Type 0} (p : A → Bool) (xs : List A) → is_some (find p xs) ≡ list_any p xs
any-find p [] = refl
any-find p (x ∷ xs) = cases (p x) (any-find p xs)
  where
    cases : (b : Bool) → is_some (find p xs) ≡ list_any p xs → is_some (cond b (Some x) (find p xs)) ≡ (b || list_any p xs)
    cases true h = refl
    cases false h = h

any-keys : (p : List ℕ → Bool) (es : List (String Global × Value)) → list_any p (keys_of_members (members_view es)) ≡ list_any (λ k. p (string_bytes k)) (map (λ e. e.0) es)
any-keys p [] = refl
any-keys p (e ∷ es) = ap (λ b. p (string_bytes e.0) || b) (any-keys p es)

or_else : (a b : Bool) → b ≡ true → (a || b) ≡ true
or_else true b h = refl
or_else false b h = h

-- what was found passes the test, and is one of the list
found_passes : {A : Type 0} (p : A → Bool) (xs : List A) (x : A) → find p xs ≡ Some x → p x ≡ true
found_passes p [] x is = absurd cc
found_passes {A} p (y ∷ ys) x is = cases (p y) refl (found_passes p ys x) is
  where
    cases : (b : Bool) → p y ≡ b → (find p ys ≡ Some x → p x ≡ true) → cond b (Some y) (find p ys) ≡ Some x → p x ≡ true
    cases true passes later e = let same : y ≡ x = cc in subst (λ (z : A). p z ≡ true) same passes
    cases false passes later e = later e

found_there : (p : String Global → Bool) (xs : List (String Global)) (x : String Global) → find p xs ≡ Some x → list_any (λ k. bytes_eq (string_bytes x) (string_bytes k)) xs ≡ true
found_there p [] x is = absurd cc
found_there p (y ∷ ys) x is = cases (p y) (found_there p ys x) is
  where
    cases : (b : Bool) → (find p ys ≡ Some x → list_any (λ k. bytes_eq (string_bytes x) (string_bytes k)) ys ≡ true) → cond b (Some y) (find p ys) ≡ Some x
        → list_any (λ k. bytes_eq (string_bytes x) (string_bytes k)) (y ∷ ys) ≡ true
    cases true later e =
        let same : x ≡ y = cc in
        rw ((bytes_eq-Decides (string_bytes x) (string_bytes y)).1 (ap (λ (k : String Global). string_bytes k) same)) refl
    cases false later e = or_else (bytes_eq (string_bytes x) (string_bytes y)) (list_any (λ k. bytes_eq (string_bytes x) (string_bytes k)) ys) (later e)

-- a table has a key where it is one of its keys
has_member : (key : List ℕ) (ms : Members) → is_some (get_member key ms) ≡ list_any (bytes_eq key) (keys_of_members ms)
has_member key no_members = refl
has_member key (member l d ms) = by (slice_cmp nat_cmp key l) (is_eq-slice_cmp key l) (has_member key ms)
  where
    by : (o : Ordering) → is_eq o ≡ bytes_eq key l → is_some (get_member key ms) ≡ list_any (bytes_eq key) (keys_of_members ms)
        → is_some (match_ordering o (get_member key ms) (Some d) (get_member key ms)) ≡ (bytes_eq key l || list_any (bytes_eq key) (keys_of_members ms))
    by Less is rest = rw (← is) rest
    by Equal is rest = rw (← is) refl
    by Greater is rest = rw (← is) rest

key_there : (key : List ℕ) (d : Data) → has_key key d ≡ list_any (bytes_eq key) (keys_in (as_table d))
key_there key (string s) = refl
key_there key (integer z) = refl
key_there key (float x) = refl
key_there key (boolean b) = refl
key_there key (datetime dt) = refl
key_there key (array ds) = refl
key_there key (table ms) = has_member key ms

-- ---- the first unknown key

-- the first of the keys that is unknown, or none of them is
pub first_decides : (known : List (List ℕ)) (d : Data) (m : BTreeMap (String Global) Value) → Some (table_view m) ≡ as_table d → None ≡ find (λ k. is_unknown known (string_bytes k)) (keys m)
    → IsUnknownIn known d None
first_decides known d m is none =
    sym (ap (λ (o : Option Members). list_any (is_unknown known) (keys_in o)) is)
    ∙ any-keys (is_unknown known) m.entries
    ∙ sym (any-find (λ k. is_unknown known (string_bytes k)) (keys m))
    ∙ sym (ap (λ (o : Option (String Global)). is_some o) none)

pub first_is : (known : List (List ℕ)) (d : Data) (m : BTreeMap (String Global) Value) (first : String Global) → Some (table_view m) ≡ as_table d
    → Some first ≡ find (λ k. is_unknown known (string_bytes k)) (keys m) → IsUnknownIn known d (Some (string_bytes first))
first_is known d m first is found = (
  found_passes (λ k. is_unknown known (string_bytes k)) (keys m) first (sym found),
  key_there (string_bytes first) d
      ∙ sym (ap (λ (o : Option Members). list_any (bytes_eq (string_bytes first)) (keys_in o)) is)
      ∙ any-keys (bytes_eq (string_bytes first)) m.entries
      ∙ found_there (λ k. is_unknown known (string_bytes k)) (keys m) first (sym found),
)

-- a table that has a key which it may not have has an unknown one
unknown_there : (known : List (List ℕ)) (key : List ℕ) (ks : List (List ℕ)) → is_unknown known key ≡ true → list_any (bytes_eq key) ks ≡ true → list_any (is_unknown known) ks ≡ true
unknown_there known key [] unknown there = absurd cc
unknown_there known key (k ∷ ks) unknown there = cases (bytes_eq key k) refl (unknown_there known key ks unknown) there
  where
    cases : (b : Bool) → bytes_eq key k ≡ b → (list_any (bytes_eq key) ks ≡ true → list_any (is_unknown known) ks ≡ true) → (b || list_any (bytes_eq key) ks) ≡ true
        → list_any (is_unknown known) (k ∷ ks) ≡ true
    cases true same later h = rw (subst (λ (x : List ℕ). is_unknown known x ≡ true) ((bytes_eq-Decides key k).0 same) unknown) refl
    cases false same later h = or_else (is_unknown known k) (list_any (is_unknown known) ks) (later h)

pub is_there : (known : List (List ℕ)) (d : Data) (key : List ℕ) → IsUnknownIn known d (Some key) → has_unknown known d ≡ true
is_there known d key h = unknown_there known key (keys_in (as_table d)) h.0 (sym (key_there key d) ∙ h.1)

-- ---- the tables

or_true : (b : Bool) → (b || (true || false)) ≡ true
or_true true = refl
or_true false = refl

either_key : (k l : List ℕ) → (lesser_of (Some k) (Some l) ≡ Some k) ⊎ (lesser_of (Some k) (Some l) ≡ Some l)
either_key k l = by (is_lt (slice_cmp nat_cmp l k))
  where
    by : (b : Bool) → (let key : Option (List ℕ) = cond b (Some l) (Some k) in (key ≡ Some k) ⊎ (key ≡ Some l))
    by true = inr refl
    by false = inl refl

pub is_among : (ds : List Data) (key : List ℕ) → IsUnknownAmong ds (Some key) → list_any (has_unknown table_keys) ds ≡ true
is_among [] key h = absurd (let e = h.1 in cc)
is_among (d ∷ ds) key h = cases (has_key key d) refl (is_among ds key) h.1
  where
    cases : (b : Bool) → has_key key d ≡ b → (IsUnknownAmong ds (Some key) → list_any (has_unknown table_keys) ds ≡ true) → (b || list_any (has_key key) ds) ≡ true
        → list_any (has_unknown table_keys) (d ∷ ds) ≡ true
    cases true has later e = rw (is_there table_keys d key (h.0, has)) refl
    cases false has later e = or_else (has_unknown table_keys d) (list_any (has_unknown table_keys) ds) (later (h.0, e))

-- what is found among some tables and in one more: one of the two keys, or the one that there is
pub one_more : (ds : List Data) (d : Data) (least first : Option (List ℕ)) → IsUnknownAmong ds least → IsUnknownIn table_keys d first → IsUnknownAmong (ds ++ d ∷ []) (lesser_of least first)
one_more ds d None None h more = rw (list_any-append (has_unknown table_keys) ds (d ∷ []), h, more) refl
one_more ds d None (Some k) h more = (more.0, rw (list_any-append (has_key k) ds (d ∷ []), more.1) (or_true (list_any (has_key k) ds)))
one_more ds d (Some k) None h more = (h.0, rw (list_any-append (has_key k) ds (d ∷ []), h.1) refl)
one_more ds d (Some k) (Some l) h more = by (lesser_of (Some k) (Some l)) (either_key k l)
  where
    by : (o : Option (List ℕ)) → (o ≡ Some k) ⊎ (o ≡ Some l) → IsUnknownAmong (ds ++ d ∷ []) o
    by o (inl is) = rw is (h.0, rw (list_any-append (has_key k) ds (d ∷ []), h.1) refl)
    by o (inr is) = rw is (more.0, rw (list_any-append (has_key l) ds (d ∷ []), more.1) (or_true (list_any (has_key l) ds)))

-- the number of the first table with a key, of those that one has
pub number_there : (key : List ℕ) (i : ℕ) (ds : List Data) → is_some (position_from (has_key key) i ds) ≡ list_any (has_key key) ds
number_there key i [] = refl
number_there key i (d ∷ ds) = by (has_key key d) (number_there key (i + 1) ds)
  where
    by : (b : Bool) → is_some (position_from (has_key key) (i + 1) ds) ≡ list_any (has_key key) ds → is_some (cond b (Some i) (position_from (has_key key) (i + 1) ds)) ≡ (b || list_any (has_key key) ds)
    by true rest = refl
    by false rest = rest
