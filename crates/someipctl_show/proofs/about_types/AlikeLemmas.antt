-- The names of a tree are the same whoever tells them, and a tree whose names fail has none.
use Rattle.std.proofs.Common.{◌≡◌, ℕ, ◌+◌, ◌-◌, ◌≤◌, inl, inr, Bool, true, false, cond, ◌&&◌, List, [], ◌∷◌, codes, Option, Some, None, Ordering, Less, Equal, Greater, bytes_eq, refl, sym, ap, ◌∙◌, subst, arith, string_bytes}
use Rattle.std.specs.Prelude.{if◌then◌else◌}
use Rattle.std.specs.Option.{is_some, option_and_then}
use Rattle.std.specs.Ordering.{nat_cmp, is_eq, match_ordering}
use Rattle.std.specs.Cmp.Lexicographic.{slice_cmp}
use Rattle.std.proofs.lemmas.Bool.{and_parts, false≢true}
use Rattle.std.proofs.lemmas.Map.Text.{is_eq-slice_cmp}
use Rattle.std.proofs.lemmas.Slice.Eq.{bytes_eq-Decides}
use Rattle.toml.specs.Data.{Data, table, Members, no_members, member, get, get_member, as_table, as_str}
use Rattle.someip_payload_values.specs.Check.{is_name}
use Rattle.someip_payload_values.specs.Data.{Form}
use Rattle.someip_payload.specs.Named.{NamedForms, form_named}
use Rattle.someipctl_show.specs.declared.types.key_error.KeyError.{KeyError}
use Rattle.someipctl_show.specs.declared.types.key_error.KeyError.TheVariants as parts
use Rattle.someipctl_show.specs.declared.types.names.Names.{Names}
use Rattle.someipctl_show.specs.types.Faults.{FailsFirst, HasNoTypes, HasTypes, NameFails, NamesFail, TextFails, WritesTooMany}
use Rattle.someipctl_show.specs.types.Judging.{HasNames}
use Rattle.someipctl_show.specs.types.Keys.{text_at}
use Rattle.someipctl_show.specs.types.Names.{AllStand, first_bad, AreAll, NamesOf, are_texts, left_by, most_written, only_texts, texts_of, types_at, written_by, written_in, written_now}
use Rattle.someipctl_show.specs.types.References.{IsOneOf, Knows, count_named, count_of, references, written_out}
use Rattle.someipctl_show.specs.types.Says.{SaysEach, SaysForm, left_after}
use Rattle.someipctl_show.specs.types.Tables.{is_table, keys_of_members}
use Rattle.someipctl_show.specs.types.Types.{TypesValue}
use Rattle.someipctl_show.proofs.about_types.LinkLemmas.{link}
use Rattle.someipctl_show.proofs.about_types.NameLemmas.{form_of, has_text, no_cycle, refers_to_some, says_over}
use Rattle.someipctl_show.proofs.about_types.TextLemmas.{key_text}
use Rattle.someipctl_show.proofs.about_types.WayLemmas.{refers_one, unknown_known}

-- ---- names that are alike

abbrev pub Alike : NamedForms → NamedForms → Type 0
Alike a b = (n : List ℕ) → form_named a n ≡ form_named b n

module _ (a b : NamedForms) (alike : Alike a b) where
  same_counts : (ns : List (List ℕ)) → count_named a ns ≡ count_named b ns
  same_counts [] = refl
  same_counts (n ∷ ns) = let here = ap count_of (alike n) in let rest = same_counts ns in omega (arith, here, rest)

  same_text_counts : (o : Option (List ℕ)) → written_in a o ≡ written_in b o
  same_text_counts None = refl
  same_text_counts (Some text) = same_counts (references text)

  same_written : (ms : Members) → written_by a ms ≡ written_by b ms
  same_written no_members = refl
  same_written (member key d ms) =
      let here : (if is_some (form_named a key) then written_in a (as_str d) else 0) ≡ (if is_some (form_named b key) then written_in b (as_str d) else 0) = rw (alike key, same_text_counts (as_str d)) refl in
      let rest = same_written ms in
      omega (arith, here, rest)

  same_form : (left : ℕ) (d : Data) (f : Form) → SaysForm a left d f → SaysForm b left d f
  same_form left d f (text, is, h) =
      let few = same_counts (references text) in
      (text, is, record { few = omega (arith, few, h.few); says = (link a f text h.says).again b (λ n g one there. sym (alike n) ∙ there); good = h.good })

  -- what tables say over one, they say over the other
  pub same_each : (left : ℕ) (ds : List Data) (types : TypesValue) → SaysEach a left ds types → SaysEach b left ds types
  same_each left [] [] h = tt
  same_each left [] (t ∷ types) h = absurd h
  same_each left (d ∷ ds) [] h = absurd h
  same_each left (d ∷ ds) (t ∷ types) h =
      let same : left_after a left d ≡ left_after b left d = ap (λ n. left - n) (same_text_counts (text_at (codes "shape") d)) in (
        record { service = h.0.service; method = h.0.method; kind = h.0.kind; form = same_form left d t.form h.0.form; name = h.0.name },
        subst (λ n. SaysEach b n ds types) same (same_each (left_after a left d) ds types h.1),
      )

-- ---- the names of a tree

same_texts : (tree s t : Data) → types_at tree ≡ Some s → types_at tree ≡ Some t → s ≡ t
same_texts tree s t is same = let e : ◌≡◌ {A = Option Data} (Some s) (Some t) = sym is ∙ same in cc

module _ (types : Data) (a b : NamedForms) (stand : AllStand types a) (others : AllStand types b) (all : AreAll types a) (too : AreAll types b) where
  alike_at : (n : List ℕ) (o p : Option Form) → form_named a n ≡ o → form_named b n ≡ p → o ≡ p
  alike_at n None None is has = refl
  alike_at n None (Some g) is has = let t = has_text types n g (others.stand n g has) in absurd (unknown_known a n is (all n t.0 t.1))
  alike_at n (Some f) None is has = let t = has_text types n f (stand.stand n f is) in absurd (unknown_known b n has (too n t.0 t.1))
  alike_at n (Some f) (Some g) is has = ap (λ (h : Form). Some h) (sym (stand.only n f g is (others.stand n g has)))

  pub alike : Alike a b
  alike n = alike_at n (form_named a n) (form_named b n) refl refl

members_written : (types : Data) (a b : NamedForms) → Alike a b → written_now a types ≡ written_now b types
members_written types a b same = by types
  where
    by : (d : Data) → written_now a d ≡ written_now b d
    by (table ms) = same_written a b same ms
    by _ = refl

-- what was read are the names of the tree
pub names_of : (tree : Data) (names : Names) → (h : HasNames tree names) → NamesOf tree h.0 names.shapes × (names.left ≡ left_by names.shapes h.0)
names_of tree names (texts, is, h) = (record { texts = is; stand = h.stand; all = h.all; few = omega (arith, h.budget) }, omega (arith, h.budget))

-- what tables say over the names of a tree, they say over these
pub said_over : (tree texts others : Data) (a b : NamedForms) (ds : List Data) (types : TypesValue) → NamesOf tree texts a → NamesOf tree others b → SaysEach b (left_by b others) ds types → SaysEach a (left_by a texts) ds types
said_over tree texts others a b ds types h g said =
    let same : others ≡ texts = same_texts tree others texts g.texts h.texts in
    let stand : AllStand texts b = subst (λ (t : Data). AllStand t b) same g.stand in
    let all : AreAll texts b = subst (λ (t : Data). AreAll t b) same g.all in
    let both : Alike b a = alike texts b a stand h.stand all h.all in
    let left : left_by b others ≡ left_by a texts = ap (left_by b) same ∙ ap (λ n. most_written - n) (members_written texts b a both) in
    subst (λ n. SaysEach a n ds types) left (same_each b a both (left_by b others) ds types said)

-- ---- tables of names that fail

no_bad : (ms : Members) → are_texts ms ≡ true → first_bad ms ≡ None
no_bad no_members good = refl
no_bad (member key d ms) good =
    let (front, rest) = and_parts (is_name key && is_some (as_str d)) (are_texts ms) good in
    rw front (no_bad ms rest)

-- the texts of a tree, where there is a table of them
good_table : (ms : Members) (texts : Data) → only_texts ms ≡ Some texts → (are_texts ms ≡ true) × (texts ≡ table ms)
good_table ms texts = by (are_texts ms) refl
  where
    by : (b : Bool) → are_texts ms ≡ b → cond b (Some (table ms)) None ≡ Some texts → (are_texts ms ≡ true) × (texts ≡ table ms)
    by true good is = let same : table ms ≡ texts = cc in (good, sym same)
    by false bad is = absurd cc

pub has_table : (tree types texts : Data) → get (codes "types") tree ≡ Some types → types_at tree ≡ Some texts → (ms : Members) × (types ≡ table ms) × (are_texts ms ≡ true)
has_table tree types texts is found = by types (ap texts_of (sym is) ∙ found)
  where
    by : (d : Data) → option_and_then only_texts (as_table d) ≡ Some texts → (ms : Members) × (d ≡ table ms) × (are_texts ms ≡ true)
    by (table ms) h = (ms, refl, (good_table ms texts h).0)
    by _ h = absurd cc

pub no_types_refuse : (tree texts : Data) → HasNoTypes tree → types_at tree ≡ Some texts → ⊥
no_types_refuse tree texts (d, is, none) found = let t = has_table tree d texts is found in false≢true (sym none ∙ ap is_table t.1)

-- a table of texts by names has no member that is none
bad_refuse : (tree texts : Data) (ms : Members) (bad : List ℕ × Data) → HasTypes tree ms → first_bad ms ≡ Some bad → types_at tree ≡ Some texts → ⊥
bad_refuse tree texts ms bad (types, is, table_is) first found =
    let t = has_table tree types texts is found in
    let same : ◌≡◌ {A = Option Members} (Some t.0) (Some ms) = ap as_table (sym t.1) ∙ table_is in
    let e : t.0 ≡ ms = cc in
    let none = sym (no_bad t.0 t.2) ∙ ap first_bad e ∙ first in absurd cc

pub names_refuse : (tree texts : Data) (e : KeyError) → NamesFail tree e → types_at tree ≡ Some texts → ⊥
names_refuse tree texts (parts.UnknownKey key) (ms, has, bad) found = bad_refuse tree texts ms (string_bytes key, bad.0) has bad.1 found
names_refuse tree texts (parts.Missing k) h found = h
names_refuse tree texts (parts.WrongKind k) h found = h
names_refuse tree texts (parts.OutOfRange k) h found = h
names_refuse tree texts (parts.BadText k) h found = h
names_refuse tree texts parts.BadShape h found = h
names_refuse tree texts (parts.Unknown k) h found = h
names_refuse tree texts (parts.Cycle k) h found = h
names_refuse tree texts parts.TooMany h found = h
names_refuse tree texts parts.Clash h found = h
names_refuse tree texts parts.OutOfMemory h found = h

-- ---- names that fail

-- as many are written out over more names
module _ (types : Data) (a b : NamedForms) (stand : AllStand types a) (others : AllStand types b) (all : AreAll types b) where
  count_at : (n : List ℕ) (o p : Option Form) → form_named a n ≡ o → form_named b n ≡ p → count_of o ≤ count_of p
  count_at n None p is has = omega arith
  count_at n (Some f) None is has = let t = has_text types n f (stand.stand n f is) in absurd (unknown_known b n has (all n t.0 t.1))
  count_at n (Some f) (Some g) is has = let same = ap (λ (h : Form). count_of (Some h)) (stand.only n f g is (others.stand n g has)) in omega (arith, same)

  counts : (ns : List (List ℕ)) → count_named a ns ≤ count_named b ns
  counts [] = omega arith
  counts (n ∷ ns) = let here = count_at n (form_named a n) (form_named b n) refl refl in let rest = counts ns in omega (arith, here, rest)

  text_counts : (o : Option (List ℕ)) → written_in a o ≤ written_in b o
  text_counts None = omega arith
  text_counts (Some text) = counts (references text)

  cond_le : (t u : Bool) (x y : ℕ) → u ≡ true → x ≤ y → cond t x 0 ≤ cond u y 0
  cond_le true u x y is le = rw is le
  cond_le false u x y is le = omega arith

  members_le : (ms : Members) → ((n : List ℕ) → IsOneOf n (keys_of_members ms) → Knows b n) → written_by a ms ≤ written_by b ms
  members_le no_members known = omega arith
  members_le (member key d ms) known =
      let here = cond_le (is_some (form_named a key)) (is_some (form_named b key)) (written_in a (as_str d)) (written_in b (as_str d)) (known key (inl refl)) (text_counts (as_str d)) in
      let rest = members_le ms (λ n one. known n (inr one)) in
      omega (arith, here, rest)

  with_one : (name text : List ℕ) (ms : Members) → form_named a name ≡ None → text_at name (table ms) ≡ Some text → ((n : List ℕ) → IsOneOf n (keys_of_members ms) → Knows b n)
      → written_by a ms + written_out a text ≤ written_by b ms
  with_one name text no_members new is known = absurd cc
  with_one name text (member key d ms) new is known = by (slice_cmp nat_cmp name key) (is_eq-slice_cmp name key) (λ h. with_one name text ms new h (λ n one. known n (inr one))) is
    where
      here : written_in a (as_str d) ≤ written_in b (as_str d)
      here = text_counts (as_str d)

      beside : written_by a ms + written_out a text ≤ written_by b ms → written_by a (member key d ms) + written_out a text ≤ written_by b (member key d ms)
      beside rest =
          let own = cond_le (is_some (form_named a key)) (is_some (form_named b key)) (written_in a (as_str d)) (written_in b (as_str d)) (known key (inl refl)) here in
          omega (arith, own, rest)

      by : (o : Ordering) → is_eq o ≡ bytes_eq name key → (text_at name (table ms) ≡ Some text → written_by a ms + written_out a text ≤ written_by b ms)
          → option_and_then as_str (match_ordering o (get_member name ms) (Some d) (get_member name ms)) ≡ Some text → written_by a (member key d ms) + written_out a text ≤ written_by b (member key d ms)
      by Less other rest h = beside (rest h)
      by Greater other rest h = beside (rest h)
      by Equal same rest h =
          let e : name ≡ key = (bytes_eq-Decides name key).0 (sym same) in
          let none : form_named a key ≡ None = ap (form_named a) (sym e) ∙ new in
          let before : (if is_some (form_named a key) then written_in a (as_str d) else 0) ≡ 0 = rw none refl in
          let now : (if is_some (form_named b key) then written_in b (as_str d) else 0) ≡ written_out b text = rw (known key (inl refl), h) refl in
          let own = counts (references text) in
          let others_le = members_le ms (λ n one. known n (inr one)) in
          omega (arith, before, now, own, others_le)

table_texts : (tree texts : Data) → types_at tree ≡ Some texts → (ms : Members) × (texts ≡ table ms) × (are_texts ms ≡ true)
table_texts tree texts found = by (get (codes "types") tree) found
  where
    of_table : (d : Data) → option_and_then only_texts (as_table d) ≡ Some texts → (ms : Members) × (texts ≡ table ms) × (are_texts ms ≡ true)
    of_table (table ms) h = let t = good_table ms texts h in (ms, t.1, t.0)
    of_table _ h = absurd cc

    by : (o : Option Data) → texts_of o ≡ Some texts → (ms : Members) × (texts ≡ table ms) × (are_texts ms ≡ true)
    by None h = let same : table no_members ≡ texts = cc in (no_members, sym same, refl)
    by (Some d) h = of_table d h

module _ (tree texts : Data) (a b : NamedForms) (stand : AllStand texts a) (g : NamesOf tree texts b) where
  too_many_refuse : (name : List ℕ) → WritesTooMany texts a name → ⊥
  too_many_refuse name h =
      let t = table_texts tree texts g.texts in
      let is : text_at name (table t.0) ≡ Some h.text = subst (λ (d : Data). text_at name d ≡ Some h.text) t.1 h.is in
      let known : (n : List ℕ) → IsOneOf n (keys_of_members t.0) → Knows b n =
      λ n one. let found = key_text n t.0 t.2 one in g.all n found.0 (subst (λ (d : Data). text_at n d ≡ Some found.0) (sym t.1) found.1) in
      let le = with_one texts a b stand g.stand g.all name h.text t.0 h.new is known in
      let before : written_now a texts ≡ written_by a t.0 = ap (written_now a) t.1 in
      let now : written_now b texts ≡ written_by b t.0 = ap (written_now b) t.1 in
      omega (arith, h.many, le, before, now, g.few)

  text_refuse : (name : List ℕ) (e : KeyError) → TextFails texts a name e → ⊥
  text_refuse name (parts.Unknown key) (text, is, first, none) =
      let f = form_of b name (g.all name text is) in
      let r = refers_to_some texts name text (string_bytes key) f.0 (g.stand.stand name f.0 f.1) is (refers_one a text (string_bytes key) first) in
      let t = has_text texts (string_bytes key) r.0 r.1 in
      let e = sym none ∙ t.1 in absurd cc
  text_refuse name (parts.Cycle key) (text, is, first, leads) =
      let f = form_of b name (g.all name text is) in
      no_cycle texts name f.0 (g.stand.stand name f.0 f.1) text (string_bytes key) is (refers_one a text (string_bytes key) first) leads
  text_refuse name parts.TooMany h = too_many_refuse name h
  text_refuse name (parts.BadText place) h =
      let f = form_of b name (g.all name h.text h.is) in
      let over = says_over texts a name h.text f.0 stand h.is h.known (g.stand.stand name f.0 f.1) in
      h.none f.0 over.0 over.1
  text_refuse name (parts.Missing k) h = h
  text_refuse name (parts.WrongKind k) h = h
  text_refuse name (parts.OutOfRange k) h = h
  text_refuse name parts.BadShape h = h
  text_refuse name (parts.UnknownKey k) h = h
  text_refuse name parts.Clash h = h
  text_refuse name parts.OutOfMemory h = h

first_refuse : (tree texts : Data) (name : List ℕ) (b : NamedForms) (e : KeyError) → FailsFirst texts name e → NamesOf tree texts b → ⊥
first_refuse tree texts name b e h g = text_refuse tree texts h.names b h.stand g name e h.fails

other_refuse : (tree texts : Data) (name : List ℕ) (b : NamedForms) (e : KeyError) → (types : Data) × (types_at tree ≡ Some types) × FailsFirst types name e → NamesOf tree texts b → ⊥
other_refuse tree texts name b e (types, is, h) g =
    let same : types ≡ texts = same_texts tree types texts is g.texts in
    first_refuse tree texts name b e (subst (λ (t : Data). FailsFirst t name e) same h) g

-- a tree of which a name fails has no names
pub name_refuse : (tree texts : Data) (name : List ℕ) (b : NamedForms) (e : KeyError) → NameFails tree name e → NamesOf tree texts b → ⊥
name_refuse tree texts name b (parts.WrongKind k) (is, (ms, has, bad)) g = bad_refuse tree texts ms (name, bad.0) has bad.1 g.texts
name_refuse tree texts name b (parts.Unknown k) h g = other_refuse tree texts name b (parts.Unknown k) h g
name_refuse tree texts name b (parts.Cycle k) h g = other_refuse tree texts name b (parts.Cycle k) h g
name_refuse tree texts name b parts.TooMany h g = other_refuse tree texts name b parts.TooMany h g
name_refuse tree texts name b (parts.BadText k) h g = other_refuse tree texts name b (parts.BadText k) h g
name_refuse tree texts name b (parts.Missing k) h g = other_refuse tree texts name b (parts.Missing k) h g
name_refuse tree texts name b (parts.OutOfRange k) h g = other_refuse tree texts name b (parts.OutOfRange k) h g
name_refuse tree texts name b parts.BadShape h g = other_refuse tree texts name b parts.BadShape h g
name_refuse tree texts name b (parts.UnknownKey k) h g = other_refuse tree texts name b (parts.UnknownKey k) h g
name_refuse tree texts name b parts.Clash h g = other_refuse tree texts name b parts.Clash h g
name_refuse tree texts name b parts.OutOfMemory h g = other_refuse tree texts name b parts.OutOfMemory h g
