-- The faults of a tree, and that a tree with a fault says no types.
use Rattle.std.proofs.Common.{String, Global, ◌≡◌, ℕ, Bool, true, false, ◌||◌, List, [], ◌∷◌, ◌++◌, codes, inl, ⊎_elim, Option, Some, Err, refl, sym, ap, ◌∙◌, subst, true≢false, string_bytes}
use Rattle.std.specs.List.{list_any}
use Rattle.std.specs.Option.{is_some}
use Rattle.std.proofs.lemmas.List.Folds.{list_any-append}
use Rattle.toml.specs.Data.{Data}
use Rattle.someipctl_show.specs.declared.types.key_error.KeyError.{KeyError}
use Rattle.someipctl_show.specs.declared.types.key_error.KeyError.TheVariants as parts
use Rattle.someipctl_show.specs.declared.types.error.TypesError.{TypesError}
use Rattle.someipctl_show.specs.declared.types.error.TypesError.TheVariants as errors
use Rattle.someipctl_show.specs.types.Faults.{NamesHaveFault, TellsUnknown, FailsAt, no_service, no_method, no_type, no_shape, no_name, FirstFails, FirstHasUnknown, FirstClashes, TellsTable, FileFails, TableFails, HasFault, IsReadUnlessMemory}
use Rattle.someipctl_show.specs.types.GoodTypes.{same_messages, has_clash}
use Rattle.someipctl_show.specs.types.Keys.{FailsBy, IsOnly}
use Rattle.someipctl_show.specs.types.Names.{NamesOf, left_by}
use Rattle.someipctl_show.specs.types.Says.{SaysTable, SaysEach, SaysTypes, left_after, left_after_all}
use Rattle.someipctl_show.specs.types.Tables.{message_tables, file_keys, table_keys, has_unknown, has_unknown_key}
use Rattle.someipctl_show.specs.types.Types.{TypedMessageValue, TypesValue}
use Rattle.someip_payload.specs.Named.{NamedForms}
use Rattle.someipctl_show.proofs.about_types.AlikeLemmas.{name_refuse, names_refuse, no_types_refuse, said_over}
use Rattle.someipctl_show.proofs.about_types.UnknownLemmas.{is_there, is_among, number_there}

or_true : (b : Bool) → (b || true) ≡ true
or_true true = refl
or_true false = refl

-- ---- what says nothing

module _ (names : NamedForms) where
  -- a table that fails says nothing, and then its list doesn't either
  fails_none : (left : ℕ) (d : Data) (key : List ℕ) → FailsAt names left d key → (t : TypedMessageValue) → SaysTable names left d t → ⊥
  fails_none left d _ (no_service none) t h = let e = sym h.service ∙ none in absurd cc
  fails_none left d _ (no_method none) t h = let e = sym h.method ∙ none in absurd cc
  fails_none left d _ (no_type none) t h = let e = sym h.kind ∙ none in absurd cc
  fails_none left d _ (no_shape none) t h = none t.form h.form
  fails_none left d _ (no_name none) t h = let e = sym h.name ∙ none in absurd cc

  by_none : (left : ℕ) (d : Data) (e : KeyError) → FailsBy (FailsAt names left d) e → (t : TypedMessageValue) → SaysTable names left d t → ⊥
  by_none left d parts.OutOfMemory h = absurd h
  by_none left d (parts.Missing k) h = fails_none left d k.now h
  by_none left d (parts.WrongKind k) h = fails_none left d k.now h
  by_none left d (parts.OutOfRange k) h = fails_none left d k.now h
  by_none left d (parts.BadText place) h = fails_none left d (codes "shape") h
  by_none left d parts.BadShape h = fails_none left d (codes "shape") h
  by_none left d (parts.Unknown k) h = fails_none left d (codes "shape") h
  by_none left d parts.TooMany h = fails_none left d (codes "shape") h
  by_none left d (parts.Cycle k) h = absurd h
  by_none left d (parts.UnknownKey k) h = absurd h
  by_none left d parts.Clash h = absurd h

  inside_none : (left : ℕ) (front rest : List Data) (d : Data) → ((t : TypedMessageValue) → SaysTable names (left_after_all names left front) d t → ⊥) → (types : TypesValue) → SaysEach names left (front ++ d ∷ rest) types → ⊥
  inside_none left [] rest d none [] h = h
  inside_none left [] rest d none (t ∷ types) h = none t h.0
  inside_none left (x ∷ front) rest d none [] h = h
  inside_none left (x ∷ front) rest d none (t ∷ types) h = inside_none (left_after names left x) front rest d none types h.1

  first_none : (left : ℕ) (ds : List Data) (n : ℕ) (e : KeyError) → FirstFails names left ds n e → (types : TypesValue) → SaysEach names left ds types → ⊥
  first_none left ds n e (before, d, nth, said, fails, told) types each =
      inside_none left before nth.1.0 d (by_none (left_after_all names left before) d e fails) types (subst (λ (x : List Data). SaysEach names left x types) nth.1.1 each)

-- what the tables of a tree say over its names
pub same_tables : (tree texts : Data) (names : NamedForms) (ds : List Data) (types : TypesValue) → NamesOf tree texts names → message_tables tree ≡ Some ds → SaysTypes tree types → SaysEach names (left_by names texts) ds types
same_tables tree texts names ds types named is said =
    let (es, same, each) = said.tables in
    let e = sym same ∙ is in
    let same_list : es ≡ ds = cc in
    said_over tree texts said.texts names said.names ds types named said.named (subst (λ (x : List Data). SaysEach said.names (left_by said.names said.texts) x types) same_list each)

-- ---- where tables fail

table_fails : (names : NamedForms) (left : ℕ) (ds : List Data) (n : ℕ) (e : KeyError) → FirstFails names left ds n e → TableFails names left ds n e
table_fails names left ds n parts.OutOfMemory h = h
table_fails names left ds n (parts.Missing k) h = h
table_fails names left ds n (parts.WrongKind k) h = h
table_fails names left ds n (parts.OutOfRange k) h = h
table_fails names left ds n (parts.BadText place) h = h
table_fails names left ds n parts.BadShape h = h
table_fails names left ds n (parts.Unknown k) h = h
table_fails names left ds n parts.TooMany h = h
table_fails names left ds n (parts.Cycle k) h = h
table_fails names left ds n (parts.UnknownKey k) (before, d, nth, said, fails, told) = absurd fails
table_fails names left ds n parts.Clash (before, d, nth, said, fails, told) = absurd fails

-- ---- where a key is unknown

-- one of the tables has a key that it may not have
unknown_among : (ds : List Data) (n : ℕ) (e : KeyError) → FirstHasUnknown ds n e → list_any (has_unknown table_keys) ds ≡ true
unknown_among ds n (parts.UnknownKey k) h =
    is_among ds (string_bytes k) (h.0, sym (number_there (string_bytes k) 1 ds) ∙ ap (λ (o : Option ℕ). is_some o) h.1)
unknown_among ds n parts.OutOfMemory h = absurd h
unknown_among ds n (parts.Missing k) h = absurd h
unknown_among ds n (parts.WrongKind k) h = absurd h
unknown_among ds n (parts.OutOfRange k) h = absurd h
unknown_among ds n (parts.BadText place) h = absurd h
unknown_among ds n parts.BadShape h = absurd h
unknown_among ds n (parts.Unknown k) h = absurd h
unknown_among ds n (parts.Cycle k) h = absurd h
unknown_among ds n parts.TooMany h = absurd h
unknown_among ds n parts.Clash h = absurd h

key_fails : (names : NamedForms) (left : ℕ) (ds : List Data) (n : ℕ) (e : KeyError) → FirstHasUnknown ds n e → TableFails names left ds n e
key_fails names left ds n (parts.UnknownKey k) h = h
key_fails names left ds n parts.OutOfMemory h = absurd h
key_fails names left ds n (parts.Missing k) h = absurd h
key_fails names left ds n (parts.WrongKind k) h = absurd h
key_fails names left ds n (parts.OutOfRange k) h = absurd h
key_fails names left ds n (parts.BadText place) h = absurd h
key_fails names left ds n parts.BadShape h = absurd h
key_fails names left ds n (parts.Unknown k) h = absurd h
key_fails names left ds n (parts.Cycle k) h = absurd h
key_fails names left ds n parts.TooMany h = absurd h
key_fails names left ds n parts.Clash h = absurd h

file_unknown : (tree : Data) (key : String Global) → FileFails tree (parts.UnknownKey key) → has_unknown_key tree ≡ true
file_unknown tree key h = rw (is_there file_keys tree (string_bytes key) h) refl

table_unknown : (tree : Data) (ds : List Data) (n : ℕ) (e : KeyError) → message_tables tree ≡ Some ds → FirstHasUnknown ds n e → has_unknown_key tree ≡ true
table_unknown tree ds n e is h = rw (is, unknown_among ds n e h) (or_true (has_unknown file_keys tree))

-- ---- where two tables clash

any_inside : (p : TypedMessageValue → Bool) (before rest : TypesValue) (t : TypedMessageValue) → p t ≡ true → list_any p (before ++ t ∷ rest) ≡ true
any_inside p before rest t is = rw (list_any-append p before (t ∷ rest), is) (or_true (list_any p before))

clash_inside : (before rest : TypesValue) (t : TypedMessageValue) → list_any (λ s. same_messages s t) before ≡ true → has_clash (before ++ t ∷ rest) ≡ true
clash_inside [] rest t met = absurd cc
clash_inside (s ∷ before) rest t met = cases (same_messages s t) refl (clash_inside before rest t) met
  where
    cases : (b : Bool) → same_messages s t ≡ b → (list_any (λ u. same_messages u t) before ≡ true → has_clash (before ++ t ∷ rest) ≡ true)
        → (b || list_any (λ u. same_messages u t) before) ≡ true → has_clash (s ∷ (before ++ t ∷ rest)) ≡ true
    cases true same later h = rw (any_inside (same_messages s) before rest t same) refl
    cases false same later h = rw (later h) (or_true (list_any (same_messages s) (before ++ t ∷ rest)))

first_clash : (types : TypesValue) (n : ℕ) (e : KeyError) → FirstClashes types n e → has_clash types ≡ true
first_clash types n parts.Clash (before, t, nth, met, apart) = rw nth.1.1 (clash_inside before nth.1.0 t met)
first_clash types n parts.OutOfMemory h = absurd h
first_clash types n (parts.Missing k) h = absurd h
first_clash types n (parts.WrongKind k) h = absurd h
first_clash types n (parts.OutOfRange k) h = absurd h
first_clash types n (parts.BadText place) h = absurd h
first_clash types n parts.BadShape h = absurd h
first_clash types n (parts.Unknown k) h = absurd h
first_clash types n (parts.Cycle k) h = absurd h
first_clash types n parts.TooMany h = absurd h
first_clash types n (parts.UnknownKey k) h = absurd h

clash_fails : (names : NamedForms) (left : ℕ) (ds : List Data) (types : TypesValue) (n : ℕ) (e : KeyError) → SaysEach names left ds types → FirstClashes types n e → TableFails names left ds n e
clash_fails names left ds types n parts.Clash said h = (types, said, h)
clash_fails names left ds types n parts.OutOfMemory said h = absurd h
clash_fails names left ds types n (parts.Missing k) said h = absurd h
clash_fails names left ds types n (parts.WrongKind k) said h = absurd h
clash_fails names left ds types n (parts.OutOfRange k) said h = absurd h
clash_fails names left ds types n (parts.BadText place) said h = absurd h
clash_fails names left ds types n parts.BadShape said h = absurd h
clash_fails names left ds types n (parts.Unknown k) said h = absurd h
clash_fails names left ds types n (parts.Cycle k) said h = absurd h
clash_fails names left ds types n parts.TooMany said h = absurd h
clash_fails names left ds types n (parts.UnknownKey k) said h = absurd h

-- ---- the faults of a tree with these names

module _ (tree texts : Data) (names : NamedForms) (named : NamesOf tree texts names) (ds : List Data) (is : message_tables tree ≡ Some ds) where
  pub tables_fault : (e : TypesError) → TellsTable (FirstFails names (left_by names texts) ds) e → HasFault tree e
  tables_fault errors.NotToml h = absurd h
  tables_fault (errors.File e) h = absurd h
  tables_fault (errors.Types e) h = absurd h
  tables_fault (errors.Named n e) h = absurd h
  tables_fault (errors.Message n e) h =
      record { texts = texts; names = names; named = named; tables = ds; listed = is; fails = table_fails names (left_by names texts) ds n e h }
  tables_fault errors.OutOfMemory h = tt

  pub unknown_fault : (e : TypesError) → TellsUnknown tree ds e → HasFault tree e
  unknown_fault errors.NotToml h = absurd h
  unknown_fault (errors.File (parts.UnknownKey k)) h = h
  unknown_fault (errors.File (parts.Missing k)) h = absurd h
  unknown_fault (errors.File (parts.WrongKind k)) h = absurd h
  unknown_fault (errors.File (parts.OutOfRange k)) h = absurd h
  unknown_fault (errors.File (parts.BadText k)) h = absurd h
  unknown_fault (errors.File parts.BadShape) h = absurd h
  unknown_fault (errors.File (parts.Unknown k)) h = absurd h
  unknown_fault (errors.File (parts.Cycle k)) h = absurd h
  unknown_fault (errors.File parts.TooMany) h = absurd h
  unknown_fault (errors.File parts.Clash) h = absurd h
  unknown_fault (errors.File parts.OutOfMemory) h = absurd h
  unknown_fault (errors.Types e) h = absurd h
  unknown_fault (errors.Named n e) h = absurd h
  unknown_fault (errors.Message n e) h =
      record { texts = texts; names = names; named = named; tables = ds; listed = is; fails = key_fails names (left_by names texts) ds n e h }
  unknown_fault errors.OutOfMemory h = tt

  pub clash_fault : (read : TypesValue) → SaysEach names (left_by names texts) ds read → (e : TypesError) → TellsTable (FirstClashes read) e → HasFault tree e
  clash_fault read said errors.NotToml h = absurd h
  clash_fault read said (errors.File e) h = absurd h
  clash_fault read said (errors.Types e) h = absurd h
  clash_fault read said (errors.Named n e) h = absurd h
  clash_fault read said (errors.Message n e) h =
      record { texts = texts; names = names; named = named; tables = ds; listed = is; fails = clash_fails names (left_by names texts) ds read n e said h }
  clash_fault read said errors.OutOfMemory h = tt

-- ---- a tree with a fault says no types

module _ (tree texts : Data) (names : NamedForms) (ds : List Data) (types : TypesValue) (named : NamesOf tree texts names) (is : message_tables tree ≡ Some ds) (said : SaysTypes tree types) where
  each : SaysEach names (left_by names texts) ds types
  each = same_tables tree texts names ds types named is said

  first_refuses : (n : ℕ) (e : KeyError) → FirstFails names (left_by names texts) ds n e → ⊥
  first_refuses n e h = first_none names (left_by names texts) ds n e h types each

  at_table : ((others : TypesValue) → SaysEach names (left_by names texts) ds others → others ≡ types) → (n : ℕ) (e : KeyError) → TableFails names (left_by names texts) ds n e → ⊥
  at_table only n (parts.UnknownKey k) h = true≢false (sym (table_unknown tree ds n (parts.UnknownKey k) is h) ∙ said.known)
  at_table only n parts.Clash (others, says, first) =
      true≢false (sym (subst (λ (ts : TypesValue). has_clash ts ≡ true) (only others says) (first_clash others n parts.Clash first)) ∙ said.apart)
  at_table only n parts.OutOfMemory h = first_refuses n parts.OutOfMemory h
  at_table only n (parts.Missing k) h = first_refuses n (parts.Missing k) h
  at_table only n (parts.WrongKind k) h = first_refuses n (parts.WrongKind k) h
  at_table only n (parts.OutOfRange k) h = first_refuses n (parts.OutOfRange k) h
  at_table only n (parts.BadText place) h = first_refuses n (parts.BadText place) h
  at_table only n parts.BadShape h = first_refuses n parts.BadShape h
  at_table only n (parts.Unknown k) h = first_refuses n (parts.Unknown k) h
  at_table only n (parts.Cycle k) h = first_refuses n (parts.Cycle k) h
  at_table only n parts.TooMany h = first_refuses n parts.TooMany h

at_file : (tree : Data) (e : KeyError) (types : TypesValue) → FileFails tree e → SaysTypes tree types → ⊥
at_file tree (parts.WrongKind k) types h said =
    ⊎_elim (λ no_types. no_types_refuse tree said.texts no_types.1 said.named.texts) (λ no_list. let (ds, is, each) = said.tables in let e = sym is ∙ no_list.1 in absurd cc) h
at_file tree (parts.UnknownKey k) types h said = true≢false (sym (file_unknown tree k h) ∙ said.known)
at_file tree parts.OutOfMemory types h said = h
at_file tree (parts.Missing k) types h said = h
at_file tree (parts.OutOfRange k) types h said = h
at_file tree (parts.BadText place) types h said = h
at_file tree parts.BadShape types h said = h
at_file tree (parts.Unknown k) types h said = h
at_file tree (parts.Cycle k) types h said = h
at_file tree parts.TooMany types h said = h
at_file tree parts.Clash types h said = h

-- a tree whose names have a fault says no types
pub early_refuses : (tree : Data) (e : TypesError) (types : TypesValue) → NamesHaveFault tree e → SaysTypes tree types → IsReadUnlessMemory types (Err e)
early_refuses tree errors.NotToml types h said = absurd h
early_refuses tree (errors.File (parts.WrongKind k)) types h said = no_types_refuse tree said.texts h.1 said.named.texts
early_refuses tree (errors.File (parts.UnknownKey k)) types h said = absurd h
early_refuses tree (errors.File (parts.Missing k)) types h said = absurd h
early_refuses tree (errors.File (parts.OutOfRange k)) types h said = absurd h
early_refuses tree (errors.File (parts.BadText k)) types h said = absurd h
early_refuses tree (errors.File parts.BadShape) types h said = absurd h
early_refuses tree (errors.File (parts.Unknown k)) types h said = absurd h
early_refuses tree (errors.File (parts.Cycle k)) types h said = absurd h
early_refuses tree (errors.File parts.TooMany) types h said = absurd h
early_refuses tree (errors.File parts.Clash) types h said = absurd h
early_refuses tree (errors.File parts.OutOfMemory) types h said = absurd h
early_refuses tree (errors.Types e) types h said = names_refuse tree said.texts e h said.named.texts
early_refuses tree (errors.Named n e) types h said = name_refuse tree said.texts (string_bytes n) said.names e h said.named
early_refuses tree (errors.Message n e) types h said = absurd h
early_refuses tree errors.OutOfMemory types h said = tt

pub early_fault : (tree : Data) (e : TypesError) → NamesHaveFault tree e → HasFault tree e
early_fault tree errors.NotToml h = absurd h
early_fault tree (errors.File (parts.WrongKind k)) h = inl h
early_fault tree (errors.File (parts.UnknownKey k)) h = absurd h
early_fault tree (errors.File (parts.Missing k)) h = absurd h
early_fault tree (errors.File (parts.OutOfRange k)) h = absurd h
early_fault tree (errors.File (parts.BadText k)) h = absurd h
early_fault tree (errors.File parts.BadShape) h = absurd h
early_fault tree (errors.File (parts.Unknown k)) h = absurd h
early_fault tree (errors.File (parts.Cycle k)) h = absurd h
early_fault tree (errors.File parts.TooMany) h = absurd h
early_fault tree (errors.File parts.Clash) h = absurd h
early_fault tree (errors.File parts.OutOfMemory) h = absurd h
early_fault tree (errors.Types e) h = h
early_fault tree (errors.Named n e) h = h
early_fault tree (errors.Message n e) h = absurd h
early_fault tree errors.OutOfMemory h = tt

-- tables that fail say nothing
pub tables_refuse : (tree texts : Data) (names : NamedForms) (ds : List Data) (types : TypesValue) (e : TypesError) → NamesOf tree texts names → message_tables tree ≡ Some ds → TellsTable (FirstFails names (left_by names texts) ds) e
    → SaysTypes tree types → IsReadUnlessMemory types (Err e)
tables_refuse tree texts names ds types errors.NotToml named is h said = absurd h
tables_refuse tree texts names ds types (errors.File e) named is h said = absurd h
tables_refuse tree texts names ds types (errors.Types e) named is h said = absurd h
tables_refuse tree texts names ds types (errors.Named n e) named is h said = absurd h
tables_refuse tree texts names ds types (errors.Message n e) named is h said = first_refuses tree texts names ds types named is said n e h
tables_refuse tree texts names ds types errors.OutOfMemory named is h said = tt

-- a fault of a tree whose tables say one thing at most
pub fault_refuses : (tree texts : Data) (names : NamedForms) (ds : List Data) (read : TypesValue) → NamesOf tree texts names → message_tables tree ≡ Some ds → IsOnly (SaysEach names (left_by names texts) ds) read
    → (e : TypesError) (types : TypesValue) → HasFault tree e → SaysTypes tree types → IsReadUnlessMemory types (Err e)
fault_refuses tree texts names ds read named is only errors.NotToml types h said = absurd h
fault_refuses tree texts names ds read named is only (errors.File e) types h said = at_file tree e types h said
fault_refuses tree texts names ds read named is only (errors.Types e) types h said = names_refuse tree said.texts e h said.named.texts
fault_refuses tree texts names ds read named is only (errors.Named n e) types h said = name_refuse tree said.texts (string_bytes n) said.names e h said.named
fault_refuses tree texts names ds read named is only errors.OutOfMemory types h said = tt
fault_refuses tree texts names ds read named is only (errors.Message n e) types h said =
    at_table tree h.texts h.names h.tables types h.named h.listed said one n e h.fails
  where
    same : h.tables ≡ ds
    same = let both : ◌≡◌ {A = Option (List Data)} (Some h.tables) (Some ds) = sym h.listed ∙ is in cc

    one : (others : TypesValue) → SaysEach h.names (left_by h.names h.texts) h.tables others → others ≡ types
    one others says =
        let over : SaysEach names (left_by names texts) ds others = said_over tree texts h.texts names h.names ds others named h.named (subst (λ (x : List Data). SaysEach h.names (left_by h.names h.texts) x others) same says) in
        only.1 others over ∙ sym (only.1 types (same_tables tree texts names ds types named is said))
