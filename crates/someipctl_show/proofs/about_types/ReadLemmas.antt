-- What a tree says, read or refused.
use Rattle.std.proofs.Common.{◌≡◌, ℕ, Bool, true, false, cond, List, [], ◌∷◌, codes, bytes_eq, Option, Some, None, Result, Ok, Err, refl, subst, IfErr}
use Rattle.std.specs.List.{All}
use Rattle.std.specs.Option.{option_and_then}
use Rattle.std.proofs.lemmas.List.Elements.{All-nil, All-cons}
use Rattle.toml.specs.Data.{Data, get, as_str}
use Rattle.someip_wire.specs.declared.header.MessageType.{MessageType}
use Rattle.someip_wire.specs.declared.header.MessageType.TheVariants.{Request, RequestNoReturn, Notification, Response, Error}
use Rattle.someip_wire.specs.Kinds.{has_tp_flag}
use Rattle.someip_payload.specs.Named.{NamedForms}
use Rattle.someipctl_show.specs.declared.types.error.TypesError.{TypesError}
use Rattle.someipctl_show.specs.declared.types.error.TypesError.TheVariants as errors
use Rattle.someipctl_show.specs.types.GoodTypes.{is_label, has_label, IsGoodTable}
use Rattle.someipctl_show.specs.types.Keys.{text_at, kind_of_word, checked_label, label_of}
use Rattle.someipctl_show.specs.types.Faults.{HasFault, TextHasFault}
use Rattle.someipctl_show.specs.types.Says.{SaysTable, SaysEach, left_after}
use Rattle.someipctl_show.specs.types.Types.{TypedMessageValue, TypesValue}

-- ---- what is read is good

named_kind : (word : List ℕ) (kind : MessageType) → kind_of_word word ≡ Some kind → has_tp_flag kind ≡ false
named_kind word kind = by (bytes_eq word (codes "REQUEST")) (bytes_eq word (codes "REQUEST_NO_RETURN")) (bytes_eq word (codes "NOTIFICATION")) (bytes_eq word (codes "RESPONSE")) (bytes_eq word (codes "ERROR"))
  where
    one : (k : MessageType) → has_tp_flag k ≡ false → (let found : Option MessageType = Some k in found ≡ Some kind) → has_tp_flag kind ≡ false
    one k flag is = let same : k ≡ kind = cc in subst (λ (x : MessageType). has_tp_flag x ≡ false) same flag

    by : (a b c d e : Bool) → cond a (Some Request) (cond b (Some RequestNoReturn) (cond c (Some Notification) (cond d (Some Response) (cond e (Some Error) None)))) ≡ Some kind → has_tp_flag kind ≡ false
    by true b c d e h = one Request refl h
    by false true c d e h = one RequestNoReturn refl h
    by false false true d e h = one Notification refl h
    by false false false true e h = one Response refl h
    by false false false false true h = one Error refl h
    by false false false false false h = absurd cc

found_kind : (word : Option (List ℕ)) (kind : MessageType) → option_and_then kind_of_word word ≡ Some kind → has_tp_flag kind ≡ false
found_kind None kind h = absurd cc
found_kind (Some word) kind h = named_kind word kind h

label_checked : (text : List ℕ) (name : Option (List ℕ)) → checked_label text ≡ Some name → has_label name ≡ true
label_checked text name = by (is_label text) refl
  where
    by : (b : Bool) → is_label text ≡ b → cond b (Some (Some text)) None ≡ Some name → has_label name ≡ true
    by true is h = let same : Some text ≡ name = cc in subst (λ (x : Option (List ℕ)). has_label x ≡ true) same is
    by false is h = absurd cc

text_checked : (text : Option (List ℕ)) (name : Option (List ℕ)) → option_and_then checked_label text ≡ Some name → has_label name ≡ true
text_checked None name h = absurd cc
text_checked (Some text) name h = label_checked text name h

found_label : (found : Option Data) (name : Option (List ℕ)) → label_of found ≡ Some name → has_label name ≡ true
found_label None name h = let none : Option (List ℕ) = None in let same : none ≡ name = cc in subst (λ (x : Option (List ℕ)). has_label x ≡ true) same refl
found_label (Some d) name h = text_checked (as_str d) name h

good_table : (names : NamedForms) (left : ℕ) (d : Data) (t : TypedMessageValue) → SaysTable names left d t → IsGoodTable t
good_table names left d t h = record { kind = found_kind (text_at (codes "type") d) t.kind h.kind; form = h.form.2.good; name = found_label (get (codes "name") d) t.name h.name }

pub good_tables : (names : NamedForms) (left : ℕ) (ds : List Data) (types : TypesValue) → SaysEach names left ds types → All IsGoodTable types
good_tables names left [] [] h = All-nil IsGoodTable
good_tables names left [] (t ∷ types) h = absurd h
good_tables names left (d ∷ ds) [] h = absurd h
good_tables names left (d ∷ ds) (t ∷ types) h = All-cons IsGoodTable t types (good_table names left d t h.0) (good_tables names (left_after names left d) ds types h.1)

-- ---- faults

-- a fault of the tree of a text is one of the text
pub text_fault : {A : Type 0} (tree : Option Data) (d : Data) (r : Result A TypesError) → tree ≡ Some d → IfErr r (HasFault d) → IfErr r (TextHasFault tree)
text_fault tree d (Ok x) is h = tt
text_fault tree d (Err errors.NotToml) is h = absurd h
text_fault tree d (Err (errors.File e)) is h = rw is h
text_fault tree d (Err (errors.Types e)) is h = rw is h
text_fault tree d (Err (errors.Named n e)) is h = rw is h
text_fault tree d (Err (errors.Message n e)) is h = rw is h
text_fault tree d (Err errors.OutOfMemory) is h = tt
