-- The table of names and their texts.
use Rattle.std.proofs.Common.{String, Global, ◌≡◌, ℕ, ◌⊎◌, inl, inr, ⊎_elim, Bool, true, false, ◌&&◌, List, [], ◌∷◌, codes, map, Bor, Option, Some, None, Ordering, Less, Equal, Greater, bytes_eq, refl, sym, ap, ◌∙◌, subst, arith, string_bytes}
use Rattle.std.specs.Option.{is_some, option_and_then, option_copied}
use Rattle.std.specs.Ordering.{nat_cmp, is_eq, match_ordering}
use Rattle.std.specs.Cmp.Lexicographic.{slice_cmp}
use Rattle.std.specs.List.{AllByRecursion}
use Rattle.std.specs.List.Sorted.{IsStrictlySortedBy}
use Rattle.std.specs.Map.{keys_of}
use Rattle.std.specs.String.{string_cmp}
use Rattle.std.proofs.lemmas.Bool.{and_parts, false≢true}
use Rattle.std.proofs.lemmas.Map.Text.{is_eq-slice_cmp}
use Rattle.std.proofs.lemmas.Slice.Eq.{bytes_eq-Decides}
use Rattle.toml.specs.Data.{Data, string, integer, float, boolean, datetime, array, table, Members, no_members, member, get, get_member, as_table, as_str}
use Rattle.toml.specs.View.{members_view, view}
use Rattle.toml.specs.declared.value.Value.{Value}
use Rattle.someip_payload_values.specs.Check.{is_name}
use Rattle.someip_payload.specs.Named.{NamedForms}
use Rattle.someipctl_show.specs.declared.types.names.Names.{Names}
use Rattle.someipctl_show.specs.types.Judging.{AllNames, HasNames, AreApart, AreClosed, Judged}
use Rattle.someipctl_show.specs.types.Keys.{text_at}
use Rattle.someipctl_show.specs.types.Names.{AllStand, are_texts, first_bad, texts_of, written_by, written_now}
use Rattle.someipctl_show.specs.types.References.{IsOneOf, Knows}
use Rattle.someipctl_show.specs.types.Tables.{keys_of_members}

abbrev pub Entry : Type 0
Entry = String Global × Value

pub table_is : (d : Data) (ms : Members) → as_table d ≡ Some ms → d ≡ table ms
table_is (table ns) ms is = let e : ns ≡ ms = cc in ap (λ (x : Members). table x) e
table_is (string s) ms is = absurd cc
table_is (integer z) ms is = absurd cc
table_is (float x) ms is = absurd cc
table_is (boolean b) ms is = absurd cc
table_is (datetime dt) ms is = absurd cc
table_is (array ds) ms is = absurd cc

-- ---- keys that ascend

not_later : (k : String Global) (es : List Entry) → AllByRecursion (λ y. string_cmp k y ≡ Less) (keys_of es) → get_member (string_bytes k) (members_view es) ≡ None
not_later k [] above = refl
not_later k (e ∷ es) above = rw above.0 (not_later k es above.1)

pub apart : (es : List Entry) → IsStrictlySortedBy string_cmp (keys_of es) → AreApart (members_view es)
unfolding IsStrictlySortedBy
apart [] sorted = tt
apart (e ∷ es) sorted = (not_later e.0 es sorted.0, apart es sorted.1)

-- ---- keys and texts

pub keys_are : (es : List Entry) → keys_of_members (members_view es) ≡ map (λ k. string_bytes k) (keys_of es)
keys_are [] = refl
keys_are (e ∷ es) = ap (λ (ks : List (List ℕ)). string_bytes e.0 ∷ ks) (keys_are es)

some_text : (o : Option (List ℕ)) → is_some o ≡ true → (text : List ℕ) × (o ≡ Some text)
some_text None is = absurd cc
some_text (Some text) is = (text, refl)

-- each key has a text
pub key_text : (n : List ℕ) (ms : Members) → are_texts ms ≡ true → IsOneOf n (keys_of_members ms) → (text : List ℕ) × (text_at n (table ms) ≡ Some text)
key_text n no_members good one = absurd one
key_text n (member key d ms) good one =
    let (front, rest) = and_parts (is_name key && is_some (as_str d)) (are_texts ms) good in
    let (name, text) = and_parts (is_name key) (is_some (as_str d)) front in
    by (slice_cmp nat_cmp n key) (is_eq-slice_cmp n key) text (key_text n ms rest) one
  where
    later : bytes_eq n key ≡ false → (n ≡ key) ⊎ IsOneOf n (keys_of_members ms) → IsOneOf n (keys_of_members ms)
    later other one = ⊎_elim (λ same. absurd (false≢true (sym other ∙ (bytes_eq-Decides n key).1 same))) (λ behind. behind) one

    by : (o : Ordering) → is_eq o ≡ bytes_eq n key → is_some (as_str d) ≡ true → (IsOneOf n (keys_of_members ms) → (text : List ℕ) × (text_at n (table ms) ≡ Some text))
        → (n ≡ key) ⊎ IsOneOf n (keys_of_members ms) → (text : List ℕ) × (option_and_then as_str (match_ordering o (get_member n ms) (Some d) (get_member n ms)) ≡ Some text)
    by Less is text rest one = rest (later (sym is) one)
    by Equal is text rest one = some_text (as_str d) text
    by Greater is text rest one = rest (later (sym is) one)

found_key : (n : List ℕ) (ms : Members) → is_some (get_member n ms) ≡ true → IsOneOf n (keys_of_members ms)
found_key n no_members found = absurd (false≢true found)
found_key n (member key d ms) found = by (slice_cmp nat_cmp n key) (is_eq-slice_cmp n key) (found_key n ms) found
  where
    by : (o : Ordering) → is_eq o ≡ bytes_eq n key → (is_some (get_member n ms) ≡ true → IsOneOf n (keys_of_members ms)) → is_some (match_ordering o (get_member n ms) (Some d) (get_member n ms)) ≡ true
        → (n ≡ key) ⊎ IsOneOf n (keys_of_members ms)
    by Less is rest h = inr (rest h)
    by Equal is rest h = inl ((bytes_eq-Decides n key).0 (sym is))
    by Greater is rest h = inr (rest h)

some_found : (o : Option Data) (text : List ℕ) → option_and_then as_str o ≡ Some text → is_some o ≡ true
some_found None text is = absurd cc
some_found (Some d) text is = refl

-- what has a text is a key
pub text_key : (n text : List ℕ) (ms : Members) → text_at n (table ms) ≡ Some text → IsOneOf n (keys_of_members ms)
text_key n text ms is = found_key n ms (some_found (get_member n ms) text is)

-- ---- no name was judged

none_closed : (ms : Members) → AreClosed [] ms
none_closed no_members = tt
none_closed (member key d ms) = (λ known t is. absurd (false≢true known), none_closed ms)

none_written : (ms : Members) → written_by [] ms ≡ 0
none_written no_members = refl
none_written (member key d ms) = let rest = none_written ms in omega (arith, rest)

pub none_judged : (types : Data) (names : Names) (es : List Entry) → types ≡ table (members_view es) → IsStrictlySortedBy string_cmp (keys_of es) → names.shapes ≡ [] → names.left ≡ 65536 → Judged types names
none_judged types names es is sorted none left =
    let zero_now : written_now names.shapes types ≡ 0 = ap (λ (n : NamedForms). written_now n types) none ∙ ap (written_now []) is ∙ none_written (members_view es) in
    record {
      stand = subst (AllStand types) (sym none) (record { stand = λ n f h. absurd cc; only = λ n f g h s. absurd cc });
      members = members_view es;
      is = is;
      apart = apart es sorted;
      closed = subst (λ (n : NamedForms). AreClosed n (members_view es)) (sym none) (none_closed (members_view es));
      budget = omega (arith, zero_now, left);
    }

-- every name was judged
pub all_judged : (types : Data) (names : Names) (ms : Members) → types ≡ table ms → Judged types names → ((n : List ℕ) → IsOneOf n (keys_of_members ms) → Knows names.shapes n) → AllNames types names
all_judged types names ms is judged known = record {
  stand = judged.stand;
  all = λ n text there. known n (text_key n text ms (subst (λ (d : Data). text_at n d ≡ Some text) is there));
  budget = judged.budget;
}

-- ---- a table of the program

pub none_copied : {A : Type 0} (r : Option (Bor A)) (o : Option A) → option_copied r ≡ o → is_some r ≡ false → o ≡ None
none_copied None o is none = sym is
none_copied (Some x) o is none = absurd cc

-- one more text by a name
pub texts_more : (it next : List Entry) (e : Entry) (all : Bool) → it ≡ e ∷ next → is_name (string_bytes e.0) ≡ true → is_some (as_str (view e.1)) ≡ true → (are_texts (members_view it) ≡ true → all ≡ true)
    → are_texts (members_view next) ≡ true → all ≡ true
texts_more it next e all is name text good more = good (ap (λ (x : List Entry). are_texts (members_view x)) is ∙ rw (name, text, more) refl)

pub bad_later : (it next : List Entry) (e : Entry) → it ≡ e ∷ next → is_name (string_bytes e.0) ≡ true → is_some (as_str (view e.1)) ≡ true → first_bad (members_view it) ≡ first_bad (members_view next)
bad_later it next e is name text = ap (λ (x : List Entry). first_bad (members_view x)) is ∙ rw (name, text) refl

pub bad_name : (it next : List Entry) (e : Entry) → it ≡ e ∷ next → is_name (string_bytes e.0) ≡ false → first_bad (members_view it) ≡ Some (string_bytes e.0, view e.1)
bad_name it next e is name = ap (λ (x : List Entry). first_bad (members_view x)) is ∙ rw name refl

pub bad_text : (it next : List Entry) (e : Entry) → it ≡ e ∷ next → is_name (string_bytes e.0) ≡ true → as_str (view e.1) ≡ None → first_bad (members_view it) ≡ Some (string_bytes e.0, view e.1)
bad_text it next e is name text = ap (λ (x : List Entry). first_bad (members_view x)) is ∙ rw (name, text) refl

-- where there is no table of names
pub without_names : (tree : Data) (names : Names) → None ≡ get (codes "types") tree → names.shapes ≡ [] → names.left ≡ 65536 → HasNames tree names
without_names tree names absent none left =
    let empty : Data = table no_members in
    let zero_now : written_now names.shapes empty ≡ 0 = refl in (
      empty,
      ap texts_of (sym absent),
      record {
        stand = subst (AllStand empty) (sym none) (record { stand = λ n f h. absurd cc; only = λ n f g h s. absurd cc });
        all = λ n text h. absurd cc;
        budget = omega (arith, left);
      },
    )

pub some_copied : (r : Option (Bor (List ℕ))) (d : Data) → option_copied r ≡ as_str d → is_some r ≡ true → is_some (as_str d) ≡ true
some_copied r d is some = by r (as_str d) is some
  where
    by : (r : Option (Bor (List ℕ))) (o : Option (List ℕ)) → option_copied r ≡ o → is_some r ≡ true → is_some o ≡ true
    by None o is some = absurd cc
    by (Some x) o is some = ap (λ (y : Option (List ℕ)). is_some y) (sym is)
