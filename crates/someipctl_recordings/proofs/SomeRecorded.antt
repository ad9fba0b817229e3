-- What is printed of a recording has a text.
use Rattle.std.proofs.Common.{ℕ, ◌+◌, List, [], ◌∷◌, ◌++◌, Option, Some, None, Result, Ok, Err, refl}
use Rattle.recording_packets.specs.Intake.{ArrivalValue}
use Rattle.someipctl_recordings.specs.declared.asked.Heads.{Heads}
use Rattle.someip_wire.specs.declared.WireError.{WireError}
use Rattle.someip_wire.specs.Spelling.{MessageValue}
use Rattle.someip_wire.specs.Reading.{items_of}
use Rattle.someip_reassembly.specs.declared.TpError.{TpError}
use Rattle.someip_reassembly.specs.Names.{error_name}
use Rattle.someipctl_io.specs.Items.{item_len}
use Rattle.someipctl_io.specs.declared.form.Form.{Form}
use Rattle.someipctl_io.specs.declared.form.Form.TheVariants.{Plain, Json}
use Rattle.someipctl_io.specs.Lines.{whole_line}
use Rattle.someipctl_io.specs.ToldLines.{ToldField}
use Rattle.someipctl_io.specs.ToldItems.{head_from}
use Rattle.someipctl_show.specs.types.Types.{TypesValue}
use Rattle.someipctl_show.proofs.FormLemmas.{some_item_from, some_whole_objects}
use Rattle.someipctl_show.proofs.SomeTexts.{some_value}
use Rattle.someipctl_recordings.specs.Asked.{AskedValue}
use Rattle.someipctl_recordings.specs.Gathered.{StoreValue, store_after, told_of}
use Rattle.someipctl_recordings.specs.RecordedText.{AreItemLines, AreLinesOf, AreLinesWith, AreRecorded, Headed, IsGatheredText, IsRecordedText, IsSceneText, IsWholeText, Progress, Scene, after_datagram, dropped_in, empty_from, headed_text, heads_in, scene_of}

pub some_whole : (form : Form) (origin : List ToldField) (types : TypesValue) (k : ℕ) (m : MessageValue) → (text : List ℕ) × IsWholeText form origin types k m text
some_whole Plain origin types k m =
    let v = some_value types k 0 m in
    (whole_line k m ++ v.0, (v.0, v.1, refl))
some_whole Json origin types k m = some_whole_objects types (head_from origin k) m

pub some_gathered : (c : Scene) (told : Option (Result MessageValue TpError)) → (text : List ℕ) × IsGatheredText c told text
some_gathered c None = ([], refl)
some_gathered c (Some (Ok m)) = some_whole c.form c.origin c.types c.k m
some_gathered c (Some (Err refusal)) = (dropped_in c.form c.origin c.k (error_name refusal), refl)

pub some_item_lines : (c : Scene) (store : Option StoreValue) (place : ℕ) (item : Result MessageValue WireError) → (text : List ℕ) × AreItemLines c store place item text
some_item_lines c store place item =
    let own = some_item_from c.form c.origin c.types c.k place item in
    let gathered = some_gathered c (told_of store c.now c.datagram item) in
    (own.0 ++ gathered.0, (own.0, gathered.0, refl, own.1, gathered.1))

pub some_lines_with : (c : Scene) (store : Option StoreValue) (place : ℕ) (given : List (Result MessageValue WireError)) → (text : List ℕ) × AreLinesWith c store place given text
some_lines_with c store place [] = ([], refl)
some_lines_with c store place (item ∷ given) =
    let own = some_item_lines c store place item in
    let others = some_lines_with c (store_after store c.now c.datagram item) (place + item_len item) given in
    (own.0 ++ others.0, (own.0, others.0, refl, own.1, others.1))

some_lines_of : (c : Scene) (store : Option StoreValue) (bytes : List ℕ) → (text : List ℕ) × AreLinesOf c store bytes text
some_lines_of c store [] = (empty_from c.form c.origin c.k, refl)
some_lines_of c store (b ∷ bytes) = some_lines_with c store 0 (items_of (b ∷ bytes))

pub some_scene : (c : Scene) (store : Option StoreValue) → (text : List ℕ) × IsSceneText c store text
some_scene c store = some_lines_of c store c.datagram.payload

pub some_headed : (heads : Heads) (a : ArrivalValue) (Kind : List ℕ → Type 0) → ((text : List ℕ) × Kind text) → (text : List ℕ) × Headed heads a Kind text
some_headed heads a Kind some = (headed_text heads a some.0, (some.0, some.1, refl))

some_recorded_text : (asked : AskedValue) (p : Progress) (a : ArrivalValue) → (text : List ℕ) × IsRecordedText asked p a text
some_recorded_text asked p a = some_headed (heads_in asked.form asked.heads) a (IsSceneText (scene_of asked p a) p.store) (some_scene (scene_of asked p a) p.store)

pub some_recorded : (asked : AskedValue) (p : Progress) (ds : List ArrivalValue) → (text : List ℕ) × AreRecorded asked p ds text
some_recorded asked p [] = ([], refl)
some_recorded asked p (a ∷ ds) =
    let own = some_recorded_text asked p a in
    let others = some_recorded asked (after_datagram asked p a) ds in
    (own.0 ++ others.0, (own.0, others.0, refl, own.1, others.1))
