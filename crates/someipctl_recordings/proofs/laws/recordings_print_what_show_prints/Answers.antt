use Rattle.std.proofs.Common.{◌≡◌, ◌+◌, ◌++◌, ◌||◌, ℕ, Bool, true, false, List, [], ◌∷◌, Option, None, map, ◌↔◌, refl, sym, subst, ap, ◌∙◌, Result}
use Rattle.std.specs.List.{list_any}
use Rattle.std.proofs.lemmas.List.{append-nil}
use Rattle.recording.specs.Packets.{DatagramValue}
use Rattle.recording_packets.specs.Intake.{ArrivalValue}
use Rattle.someipctl_recordings.specs.declared.asked.Heads.{Heads}
use Rattle.someip_wire.specs.declared.WireError.{WireError}
use Rattle.someip_wire.specs.Spelling.{MessageValue}
use Rattle.someip_wire.specs.Reading.{items_of}
use Rattle.someipctl_io.specs.Items.{item_len}
use Rattle.someipctl_io.specs.declared.form.Form.{Form}
use Rattle.someipctl_io.specs.declared.form.Form.TheVariants.{Plain, Json}
use Rattle.someipctl_io.specs.ToldLines.{ToldField}
use Rattle.someipctl_show.specs.types.Types.{TypesValue}
use Rattle.someipctl_show.specs.ShownForms.{AreLinesIn, AreTextsIn, IsDatagramTextIn, IsItemTextIn, empty_in}
use Rattle.someipctl_show.specs.ShownText.{AreLines, AreTexts, IsDatagramText, IsItemText, has_fault, shows_fault}
use Rattle.someipctl_show.specs.TextKinds.{Joined}
use Rattle.someipctl_recordings.specs.Asked.{AskedValue}
use Rattle.someipctl_recordings.specs.Gathered.{StoreValue}
use Rattle.someipctl_recordings.specs.RecordedText.{AreItemLines, AreLinesOf, AreLinesWith, AreRecorded, Headed, IsRecordedText, IsSceneText, Progress, Scene, after_all, after_datagram, empty_from, has_fault_with, heads_in, no_heads, scene_of, store_after_all}
use Rattle.someipctl_recordings.specs.Moments.{moment_of}
use Rattle.someipctl_recordings.specs.Origins.{origin_in}
use Rattle.someipctl_recordings.proofs.laws.recordings_print_what_show_prints.Goals as goal

-- without a store
no_store : (now : ℕ) (d : DatagramValue) (items : List (Result MessageValue WireError)) → store_after_all None now d items ≡ None
no_store now d [] = refl
no_store now d (item ∷ items) = no_store now d items

-- a datagram that is shown in a form, without where it came from
abbrev bare : Form → TypesValue → (k now : ℕ) → DatagramValue → Scene
bare form types k now d = record { types = types; form = form; origin = []; k = k; now = now; datagram = d }

-- the lines of an item, where nothing is put together
plain_item : (form : Form) (types : TypesValue) (k now : ℕ) (d : DatagramValue) (place : ℕ) (item : Result MessageValue WireError) (text : List ℕ)
    → (AreItemLines (bare form types k now d) None place item text ↔ IsItemTextIn form types k place item text)
plain_item form types k now d place item text = (
  λ are. subst (IsItemTextIn form types k place item) (sym (are.2 ∙ ap (λ (t : List ℕ). are.0 ++ t) are.4 ∙ append-nil are.0)) are.3,
  λ is. (text, [], sym (append-nil text), is, refl),
)

-- two kinds that are the same joined to two that are
joined_same : (A B C D : List ℕ → Type 0) → ((t : List ℕ) → (A t ↔ C t)) → ((t : List ℕ) → (B t ↔ D t)) → (text : List ℕ) → (Joined A B text ↔ Joined C D text)
joined_same A B C D first second text = (λ both. (both.0, both.1, both.2, (first both.0).0 both.3, (second both.1).0 both.4), λ both. (both.0, both.1, both.2, (first both.0).1 both.3, (second both.1).1 both.4))

plain_lines : (form : Form) (types : TypesValue) (k now : ℕ) (d : DatagramValue) (place : ℕ) (items : List (Result MessageValue WireError)) (text : List ℕ)
    → (AreLinesWith (bare form types k now d) None place items text ↔ AreLinesIn form types k place items text)
plain_lines form types k now d place [] text = (λ is. is, λ is. is)
plain_lines form types k now d place (item ∷ items) text =
    joined_same (AreItemLines (bare form types k now d) None place item) (AreLinesWith (bare form types k now d) None (place + item_len item) items) (IsItemTextIn form types k place item)
    (AreLinesIn form types k (place + item_len item) items) (plain_item form types k now d place item) (plain_lines form types k now d (place + item_len item) items) text

empty_same : (form : Form) (k : ℕ) → empty_from form [] k ≡ empty_in form k
empty_same Plain k = refl
empty_same Json k = refl

plain_text : (form : Form) (types : TypesValue) (k now : ℕ) (d : DatagramValue) (bytes : List ℕ) (text : List ℕ)
    → (AreLinesOf (bare form types k now d) None bytes text ↔ IsDatagramTextIn form types k bytes text)
plain_text form types k now d [] text = (λ is. is ∙ empty_same form k, λ is. is ∙ sym (empty_same form k))
plain_text form types k now d (b ∷ bytes) text = plain_lines form types k now d 0 (items_of (b ∷ bytes)) text

or_false : (b : Bool) → (b || false) ≡ b
or_false true = refl
or_false false = refl

plain_faults : (c : Scene) (items : List (Result MessageValue WireError)) → has_fault_with c None items ≡ list_any (shows_fault c.types) items
plain_faults c [] = refl
plain_faults c (item ∷ items) =
    ap (λ b. b || has_fault_with c None items) (or_false (shows_fault c.types item)) ∙ ap (λ b. shows_fault c.types item || b) (plain_faults c items)

stays : (asked : AskedValue) (p : Progress) (a : ArrivalValue) → p.store ≡ None → (after_datagram asked p a).store ≡ None
stays asked p a none =
    ap (λ s. store_after_all s (after_datagram asked p a).now a.datagram (items_of a.datagram.payload)) none ∙ no_store (after_datagram asked p a).now a.datagram (items_of a.datagram.payload)

-- without heads
plain_headed : (a : ArrivalValue) (Kind : List ℕ → Type 0) (text : List ℕ) → (Headed no_heads a Kind text ↔ Kind text)
plain_headed a Kind text = (λ is. subst Kind (sym is.2) is.1, λ is. (text, is, refl))

no_heads_in : (form : Form) → heads_in form no_heads ≡ no_heads
no_heads_in Plain = refl
no_heads_in Json = refl

no_origin : (form : Form) (a : ArrivalValue) → origin_in form no_heads a ≡ []
no_origin Plain a = refl
no_origin Json a = refl

plain_recorded : (asked : AskedValue) (p : Progress) (a : ArrivalValue) (text : List ℕ) → asked.heads ≡ no_heads → p.store ≡ None
    → (IsRecordedText asked p a text ↔ IsDatagramTextIn asked.form asked.types (p.datagrams + 1) a.datagram.payload text)
plain_recorded asked p a text plain none =
    let k = p.datagrams + 1 in
    let now = moment_of p.now a.datagram.time in
    let with : (origin : List ToldField) → Scene = λ origin. record { types = asked.types; form = asked.form; origin = origin; k = k; now = now; datagram = a.datagram } in
    let Of : (heads : Heads) (origin : List ToldField) (store : Option StoreValue) → Type 0 = λ heads origin store. Headed heads a (IsSceneText (with origin) store) text in
    let heads : heads_in asked.form asked.heads ≡ no_heads = ap (heads_in asked.form) plain ∙ no_heads_in asked.form in
    let origin : origin_in asked.form asked.heads a ≡ [] = ap (λ h. origin_in asked.form h a) plain ∙ no_origin asked.form a in
    let own = plain_headed a (IsSceneText (bare asked.form asked.types k now a.datagram) None) text in
    let lines = plain_text asked.form asked.types k now a.datagram a.datagram.payload text in (
      λ is. lines.0 (own.0 (subst (λ h. Of h [] None) heads (subst (λ o. Of (heads_in asked.form asked.heads) o None) origin (subst (Of (heads_in asked.form asked.heads) (origin_in asked.form asked.heads a)) none is)))),
      λ is. subst (Of (heads_in asked.form asked.heads) (origin_in asked.form asked.heads a)) (sym none)
          (subst (λ o. Of (heads_in asked.form asked.heads) o None) (sym origin) (subst (λ h. Of h [] None) (sym heads) (own.1 (lines.1 is)))),
    )

same_text : (asked : AskedValue) (p : Progress) (ds : List ArrivalValue) (text : List ℕ) → asked.heads ≡ no_heads → p.store ≡ None
    → (AreRecorded asked p ds text ↔ AreTextsIn asked.form asked.types (p.datagrams + 1) (map (λ (a : ArrivalValue). a.datagram.payload) ds) text)
same_text asked p [] text plain none = (λ is. is, λ is. is)
same_text asked p (a ∷ ds) text plain none =
    joined_same (IsRecordedText asked p a) (AreRecorded asked (after_datagram asked p a) ds) (IsDatagramTextIn asked.form asked.types (p.datagrams + 1) a.datagram.payload)
    (AreTextsIn asked.form asked.types ((p.datagrams + 1) + 1) (map (λ (a : ArrivalValue). a.datagram.payload) ds))
    (λ t. plain_recorded asked p a t plain none) (λ t. same_text asked (after_datagram asked p a) ds t plain (stays asked p a none)) text

-- the plain form of what `show` prints
lines_plain : (types : TypesValue) (k place : ℕ) (items : List (Result MessageValue WireError)) (text : List ℕ) → (AreLinesIn Plain types k place items text ↔ AreLines types k place items text)
lines_plain types k place [] text = (λ is. is, λ is. is)
lines_plain types k place (item ∷ items) text =
    joined_same (IsItemTextIn Plain types k place item) (AreLinesIn Plain types k (place + item_len item) items) (IsItemText types k place item) (AreLines types k (place + item_len item) items)
    (λ t. (λ is. is, λ is. is)) (lines_plain types k (place + item_len item) items) text

datagram_plain : (types : TypesValue) (k : ℕ) (bytes text : List ℕ) → (IsDatagramTextIn Plain types k bytes text ↔ IsDatagramText types k bytes text)
datagram_plain types k [] text = (λ is. is, λ is. is)
datagram_plain types k (b ∷ bytes) text = lines_plain types k 0 (items_of (b ∷ bytes)) text

texts_plain : (types : TypesValue) (k : ℕ) (datagrams : List (List ℕ)) (text : List ℕ) → (AreTextsIn Plain types k datagrams text ↔ AreTexts types k datagrams text)
texts_plain types k [] text = (λ is. is, λ is. is)
texts_plain types k (datagram ∷ others) text =
    joined_same (IsDatagramTextIn Plain types k datagram) (AreTextsIn Plain types (k + 1) others) (IsDatagramText types k datagram) (AreTexts types (k + 1) others)
    (datagram_plain types k datagram) (texts_plain types (k + 1) others) text

plain_same : (asked : AskedValue) (p : Progress) (ds : List ArrivalValue) (text : List ℕ) → asked.form ≡ Plain → asked.heads ≡ no_heads → p.store ≡ None
    → (AreRecorded asked p ds text ↔ AreTexts asked.types (p.datagrams + 1) (map (λ (a : ArrivalValue). a.datagram.payload) ds) text)
plain_same asked p ds text form plain none =
    let k = p.datagrams + 1 in
    let bytes = map (λ (a : ArrivalValue). a.datagram.payload) ds in
    let In : (f : Form) → Type 0 = λ f. AreTextsIn f asked.types k bytes text in
    let same = same_text asked p ds text plain none in
    let as_plain = texts_plain asked.types k bytes text in
    (λ is. as_plain.0 (subst In form (same.0 is)), λ is. same.1 (subst In (sym form) (as_plain.1 is)))

or_assoc : (a b c : Bool) → ((a || b) || c) ≡ (a || (b || c))
or_assoc true b c = refl
or_assoc false b c = refl

same_faults : (asked : AskedValue) (p : Progress) (ds : List ArrivalValue) → p.store ≡ None
    → (after_all asked p ds).is_faulty ≡ (p.is_faulty || list_any (has_fault asked.types) (map (λ (a : ArrivalValue). a.datagram.payload) ds))
same_faults asked p [] none = sym (or_false p.is_faulty)
same_faults asked p (a ∷ ds) none =
    let c = scene_of asked p a in
    let rest = list_any (has_fault asked.types) (map (λ (a : ArrivalValue). a.datagram.payload) ds) in
    let own : has_fault_with c p.store (items_of a.datagram.payload) ≡ has_fault asked.types a.datagram.payload =
    ap (λ s. has_fault_with c s (items_of a.datagram.payload)) none ∙ plain_faults c (items_of a.datagram.payload) in
    same_faults asked (after_datagram asked p a) ds (stays asked p a none)
    ∙ ap (λ b. (p.is_faulty || b) || rest) own ∙ or_assoc p.is_faulty (has_fault asked.types a.datagram.payload) rest

pub returns-clause-text : goal.returns-clause-text
returns-clause-text c = plain_same

pub returns-clause-in_each_form : goal.returns-clause-in_each_form
returns-clause-in_each_form c = same_text

pub returns-clause-outcome : goal.returns-clause-outcome
returns-clause-outcome c = same_faults
