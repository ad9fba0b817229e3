-- The map from keys to tables.
use Rattle.std.proofs.Common.{◌≡◌, ℕ, ◌+◌, ◌==◌, Bool, true, false, ◌&&◌, List, [], ◌∷◌, ◌++◌, length, get_or, append_assoc, length-append, Option, Some, None, option_map, refl, sym, ap, ◌∙◌, subst, Bor, nat_lt, ◌<◌, ◌≤◌, ◌||◌, cond, take, drop, map, arith, suc}
use Rattle.std.specs.declared.cmp.Ordering.{Ordering}
use Rattle.std.specs.declared.cmp.Ordering.TheVariants.{Less, Equal, Greater}
use Rattle.std.specs.List.{find, list_any, position_from, slice_get}
use Rattle.std.specs.Option.{option_and_then, option_or, is_some, MatchOption}
use Rattle.std.specs.Bool.{⊤}
use Rattle.std.proofs.lemmas.Bool.{ltb-true, ltb-false, eqb-true, and_parts}
use Rattle.std.proofs.lemmas.Option.{slice_get_past, slice_get_read}
use Rattle.std.specs.Ordering.{nat_cmp, is_eq, ordering_then, eq_by_cmp}
use Rattle.std.specs.Cmp.{IsTotalOrder, unsigned_tied, nat_cmp_total, eq_by_cmp_equiv}
use Rattle.std.proofs.lemmas.Cmp.{on_total, then_total}
use Rattle.std.proofs.lemmas.List.{drop_more, take_more, take_all, take-append-drop, map-append, length-map, length-take-le}
use Rattle.std.proofs.lemmas.List.Folds.{list_any-append}
use Rattle.std.specs.BTreeMap as tree
use Rattle.std.specs.BTreeMap.{BTreeMap}
use Rattle.someip_wire.specs.declared.header.Header.{Header}
use Rattle.someipctl_show.specs.declared.types.message_key.MessageKey.{MessageKey}
use Rattle.someipctl_show.specs.declared.types.typed_message.TypedMessage.{TypedMessage}
use Rattle.someipctl_show.specs.declared.types.key_error.KeyError.TheVariants.{Clash}
use Rattle.someipctl_show.specs.types.Faults.{FirstClashes}
use Rattle.someipctl_show.specs.types.GoodTypes.{same_messages, has_clash}
use Rattle.someipctl_show.specs.types.Types.{TypedMessageValue, TypesValue, is_for, table_for}
use Rattle.someipctl_show.specs.types.Views.{typed_view, types_view, key_of, header_key, key_cmp, IsIndex}

-- ---- keys

is_eq-then : (o p : Ordering) → is_eq (ordering_then o p) ≡ (is_eq o && is_eq p)
is_eq-then Less p = refl
is_eq-then Equal p = refl
is_eq-then Greater p = refl

-- keys tie where their three numbers are the same
pub same_keys : (a b : MessageKey) → eq_by_cmp key_cmp a b ≡ ((a.service == b.service) && ((a.method == b.method) && (a.kind == b.kind)))
same_keys a b =
    is_eq-then (nat_cmp a.service b.service) (ordering_then (nat_cmp a.method b.method) (nat_cmp a.kind b.kind))
    ∙ ap (λ (x : Bool). is_eq (nat_cmp a.service b.service) && x) (is_eq-then (nat_cmp a.method b.method) (nat_cmp a.kind b.kind))
    ∙ rw (unsigned_tied a.service b.service, unsigned_tied a.method b.method, unsigned_tied a.kind b.kind) refl

abbrev has_key : MessageKey → TypedMessage → Bool
has_key key t = eq_by_cmp key_cmp key (key_of t)

is_for-key : (h : Header) (t : TypedMessage) → has_key (header_key h) t ≡ is_for h (typed_view t)
is_for-key h t = same_keys (header_key h) (key_of t)

-- ---- look-up

get_at : {A : Type 0} (front : List A) (x : A) (xs : List A) → slice_get (front ++ x ∷ xs) (length front) ≡ Some x
get_at [] x xs = refl
get_at (y ∷ front) x xs = get_at front x xs

find_at_index : {A : Type 0} (p : A → Bool) (front xs : List A) → option_and_then (λ i. slice_get (front ++ xs) i) (position_from p (length front) xs) ≡ find p xs
find_at_index p front [] = refl
find_at_index {A} p front (x ∷ xs) = by (p x) refl (find_at_index p (front ++ x ∷ []) xs)
  where
    by : (b : Bool) → p x ≡ b → option_and_then (λ i. slice_get ((front ++ x ∷ []) ++ xs) i) (position_from p (length (front ++ x ∷ [])) xs) ≡ find p xs
        → option_and_then (λ i. slice_get (front ++ x ∷ xs) i) (position_from p (length front) (x ∷ xs)) ≡ find p (x ∷ xs)
    by true is rest = rw is (get_at front x xs)
    by false is rest =
        let long : length (front ++ x ∷ []) ≡ length front + 1 = length-append front (x ∷ []) in
        rw is (rw (long, append_assoc front (x ∷ []) xs) at rest)

find-view : (h : Header) (ts : List TypedMessage) → option_map typed_view (find (has_key (header_key h)) ts) ≡ find (is_for h) (map typed_view ts)
find-view h [] = refl
find-view h (t ∷ ts) = by (is_for h (typed_view t)) refl (find-view h ts)
  where
    by : (b : Bool) → is_for h (typed_view t) ≡ b → option_map typed_view (find (has_key (header_key h)) ts) ≡ find (is_for h) (map typed_view ts)
        → option_map typed_view (find (has_key (header_key h)) (t ∷ ts)) ≡ find (is_for h) (map typed_view (t ∷ ts))
    by true is rest = rw (is_for-key h t ∙ is, is) refl
    by false is rest = rw (is_for-key h t ∙ is, is) rest

-- what the map gives is the table that names the messages
pub table_found : (places : BTreeMap MessageKey ℕ) (ts : List TypedMessage) (h : Header) (place : Option ℕ) → IsIndex places ts → place ≡ tree.get key_cmp places (header_key h)
    → option_map typed_view (option_and_then (λ i. slice_get ts i) place) ≡ table_for (types_view ts) h
table_found places ts h place index is =
    ap (λ (o : Option ℕ). option_map typed_view (option_and_then (λ i. slice_get ts i) o)) (is ∙ index (header_key h))
    ∙ ap (λ (o : Option TypedMessage). option_map typed_view o) (find_at_index (has_key (header_key h)) [] ts)
    ∙ find-view h ts

-- a table that was got from the list at an index
pub seen_table : (found : Option (Bor TypedMessage)) (ts : List TypedMessage) (i : ℕ) → is_some found ≡ nat_lt i (length ts) → MatchOption found ⊤ (λ x. x.now ≡ get_or ts i x.now)
    → option_map (λ t. typed_view t.now) found ≡ option_map typed_view (slice_get ts i)
seen_table None ts i none h = rw (slice_get_past ts i (ltb-false _ _ (sym none))) refl
seen_table (Some t) ts i some h = rw (slice_get_read ts (length ts) i t.now refl (ltb-true _ _ (sym some)) h) refl

-- ---- the map, made of one table after the other

same_key : (a b : MessageKey) → eq_by_cmp key_cmp a b ≡ true → a ≡ b
same_key a b is =
    let all = and_parts (a.service == b.service) ((a.method == b.method) && (a.kind == b.kind)) (sym (same_keys a b) ∙ is) in
    let more = and_parts (a.method == b.method) (a.kind == b.kind) all.1 in
    let s : a.service ≡ b.service = eqb-true a.service b.service all.0 in
    let m : a.method ≡ b.method = eqb-true a.method b.method more.0 in
    let k : a.kind ≡ b.kind = eqb-true a.kind b.kind more.1 in
    let first : a ≡ record { service = b.service; method = a.method; kind = a.kind } = ap (λ (n : ℕ). record { service = n; method = a.method; kind = a.kind }) s in
    first
    ∙ ap (λ (n : ℕ). record { service = b.service; method = n; kind = a.kind }) m
    ∙ ap (λ (n : ℕ). record { service = b.service; method = b.method; kind = n }) k

key_total : IsTotalOrder key_cmp
key_total =
    then_total (on_total (λ (k : MessageKey). k.service) nat_cmp_total)
    (then_total (on_total (λ (k : MessageKey). k.method) nat_cmp_total) (on_total (λ (k : MessageKey). k.kind) nat_cmp_total))

module _ (places : BTreeMap MessageKey ℕ) (i : ℕ) (ts : List TypedMessage) where
  -- the key of a table is in the map
  abbrev pub has_place : TypedMessage → Bool
  has_place t = is_some (tree.get key_cmp places (key_of t))

  -- the map has the first place of each key among the tables so far, and no two of these have one key
  pub record IsIndexTo : Type 0 where
    pub placed : (key : MessageKey) → option_or (tree.get key_cmp places key) (position_from (has_key key) i (drop i ts)) ≡ position_from (has_key key) 0 ts
    pub met : (t : TypedMessage) → has_place t ≡ list_any (λ s. same_messages s (typed_view t)) (types_view (take i ts))
    pub apart : has_clash (types_view (take i ts)) ≡ false

  first_more : (t : TypedMessage) → i < length ts → t ≡ get_or ts i t → types_view (take (i + 1) ts) ≡ types_view (take i ts) ++ typed_view t ∷ []
  first_more t lt is = ap types_view (take_more ts i t lt) ∙ map-append typed_view (take i ts) (get_or ts i t ∷ []) ∙ ap (λ (x : TypedMessage). types_view (take i ts) ++ typed_view x ∷ []) (sym is)

  -- the table that comes next has a key that is there
  pub met_again : (t : TypedMessage) → i < length ts → t ≡ get_or ts i t → has_place t ≡ true → IsIndexTo → FirstClashes (types_view ts) (i + 1) Clash
  met_again t lt is found h =
      let whole : types_view ts ≡ types_view (take i ts) ++ (typed_view (get_or ts i t) ∷ types_view (drop (i + 1) ts)) =
      ap types_view (sym (take-append-drop i ts) ∙ ap (λ (rest : List TypedMessage). take i ts ++ rest) (drop_more ts i t lt)) ∙ map-append typed_view (take i ts) (get_or ts i t ∷ drop (i + 1) ts) in
      let parts : types_view ts ≡ types_view (take i ts) ++ (typed_view t ∷ types_view (drop (i + 1) ts)) = whole ∙ ap (λ (x : TypedMessage). types_view (take i ts) ++ (typed_view x ∷ types_view (drop (i + 1) ts))) (sym is) in
      let long : length (types_view (take i ts)) ≡ i = length-map (take i ts) typed_view ∙ length-take-le i ts (omega (arith, lt)) in
      let number : i + 1 ≡ suc (length (types_view (take i ts))) = rw long (omega arith) in
      (types_view (take i ts), typed_view t, (number, (types_view (drop (i + 1) ts), parts)), sym (h.met t) ∙ found, h.apart)

  pub all_met : length ts ≤ i → IsIndexTo → has_clash (types_view ts) ≡ false
  all_met le h = subst (λ (us : List TypedMessage). has_clash (types_view us) ≡ false) (take_all i ts le) h.apart

pub empty_index : (places : BTreeMap MessageKey ℕ) (ts : List TypedMessage) → places.entries ≡ [] → IsIndexTo places 0 ts
empty_index places ts empty = record {
  placed = λ key. rw empty refl;
  met = λ t. rw empty refl;
  apart = refl;
}

-- one more table clashes with one before it, or those before it clash
clash_more : (types : TypesValue) (t : TypedMessageValue) → has_clash (types ++ t ∷ []) ≡ (list_any (λ s. same_messages s t) types || has_clash types)
clash_more [] t = refl
clash_more (s ∷ types) t =
    rw (list_any-append (same_messages s) types (t ∷ []), clash_more types t)
    (by (list_any (same_messages s) types) (same_messages s t) (list_any (λ u. same_messages u t) types) (has_clash types))
  where
    by : (a b c d : Bool) → ((a || (b || false)) || (c || d)) ≡ ((b || c) || (a || d))
    by true true c d = refl
    by true false true d = refl
    by true false false d = refl
    by false true c d = refl
    by false false c d = refl

module _ (places more : BTreeMap MessageKey ℕ) (i : ℕ) (ts : List TypedMessage) (t : TypedMessage)
    (grows : (key : MessageKey) → tree.get key_cmp more key ≡ cond (eq_by_cmp key_cmp (key_of t) key) (Some i) (tree.get key_cmp places key)) where
  placed_later : (key : MessageKey) (rest : List TypedMessage) (all : Option ℕ) → tree.get key_cmp places (key_of t) ≡ None
      → option_or (tree.get key_cmp places key) (position_from (has_key key) i (t ∷ rest)) ≡ all → option_or (tree.get key_cmp more key) (position_from (has_key key) (i + 1) rest) ≡ all
  placed_later key rest all absent h = by (eq_by_cmp key_cmp (key_of t) key) refl
    where
      by : (same : Bool) → eq_by_cmp key_cmp (key_of t) key ≡ same → option_or (tree.get key_cmp more key) (position_from (has_key key) (i + 1) rest) ≡ all
      by true is =
          let none : tree.get key_cmp places key ≡ None = subst (λ (k : MessageKey). tree.get key_cmp places k ≡ None) (same_key (key_of t) key is) absent in
          let has : has_key key t ≡ true = (eq_by_cmp_equiv key_total).symm key (key_of t) ∙ is in
          let here : Some i ≡ all = rw (none, has) at h in
          rw (grows key, is) here
      by false is =
          let has : has_key key t ≡ false = (eq_by_cmp_equiv key_total).symm key (key_of t) ∙ is in
          let there : option_or (tree.get key_cmp places key) (position_from (has_key key) (i + 1) rest) ≡ all = rw has at h in
          rw (grows key, is) there

  -- a key is in the map now where it was, or is that of this table
  met_later : (u : TypedMessage) (types : TypesValue) → has_place places i ts u ≡ list_any (λ s. same_messages s (typed_view u)) types
      → has_place more (i + 1) ts u ≡ list_any (λ s. same_messages s (typed_view u)) (types ++ typed_view t ∷ [])
  met_later u types h =
      rw (grows (key_of u), same_keys (key_of t) (key_of u), list_any-append (λ s. same_messages s (typed_view u)) types (typed_view t ∷ []), ← h)
      (by (same_messages (typed_view t) (typed_view u)) (tree.get key_cmp places (key_of u)))
    where
      by : (same : Bool) (o : Option ℕ) → is_some (cond same (Some i) o) ≡ (is_some o || (same || false))
      by true None = refl
      by true (Some n) = refl
      by false None = refl
      by false (Some n) = refl

  pub met_first : i < length ts → t ≡ get_or ts i t → tree.get key_cmp places (key_of t) ≡ None → IsIndexTo places i ts → IsIndexTo more (i + 1) ts
  met_first lt is absent h =
      let next : drop i ts ≡ t ∷ drop (i + 1) ts = rw (← is) at (drop_more ts i t lt) in
      let front : types_view (take (i + 1) ts) ≡ types_view (take i ts) ++ typed_view t ∷ [] = first_more places i ts t lt is in
      let new : list_any (λ s. same_messages s (typed_view t)) (types_view (take i ts)) ≡ false = sym (h.met t) ∙ ap (λ (o : Option ℕ). is_some o) absent in
      record {
        placed = λ key. placed_later key (drop (i + 1) ts) (position_from (has_key key) 0 ts) absent (rw next at h.placed key);
        met = λ u. rw front (met_later u (types_view (take i ts)) (h.met u));
        apart = rw (front, clash_more (types_view (take i ts)) (typed_view t), new, h.apart) refl;
      }
