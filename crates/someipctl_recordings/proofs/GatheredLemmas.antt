-- Stores as moments pass, and the items of a datagram one by one.
use Rattle.std.proofs.Common.{◌≡◌, ◌≤◌, ◌<◌, ◌+◌, ◌||◌, ℕ, Bool, true, false, List, [], ◌∷◌, length, Option, None, Some, Result, refl, sym, subst, ap, ◌∙◌, arith}
use Rattle.std.proofs.lemmas.List.{nil_from_length}
use Rattle.someip_wire.specs.declared.WireError.{WireError}
use Rattle.someip_wire.specs.Spelling.{MessageValue}
use Rattle.someip_wire.specs.Reading.{items_of}
use Rattle.someip_wire.proofs.DatagramLemmas.{items_from-nil}
use Rattle.someip_reassembly.specs.Parts.{Parts}
use Rattle.someipctl_recordings.specs.Gathered.{IsInTime, StoreValue, store_after}
use Rattle.recording_packets.specs.Intake.{ArrivalValue}
use Rattle.someipctl_io.specs.declared.form.Form.{Form}
use Rattle.someipctl_io.specs.declared.form.Form.TheVariants.{Plain, Json}
use Rattle.someipctl_io.specs.ToldLines.{ToldField}
use Rattle.someipctl_show.specs.types.Types.{TypesValue}
use Rattle.someipctl_recordings.specs.declared.asked.Asked.{Asked}
use Rattle.someipctl_recordings.specs.Origins.{origin_fields, origin_in}
use Rattle.someipctl_recordings.specs.Scenes.{numbered_scene}
use Rattle.someipctl_recordings.specs.RecordedText.{AreItemLines, AreLinesOf, AreLinesWith, Headed, IsSceneText, Scene, empty_from, has_fault_with, heads_in, records_fault}
use Rattle.someipctl_io.specs.Items.{item_len}
use Rattle.someipctl_show.specs.TextKinds.{Joined}
use Rattle.someipctl_show.proofs.KindLemmas.{IsSendingOne}

-- no part had a segment after a later moment
pub later : {S : Type 0} (parts : S → Parts) (store : Option S) (now next : ℕ) → now ≤ next → IsInTime parts now store → IsInTime parts next store
later parts None now next rises is = tt
later parts (Some s) now next rises is = λ key part held. omega (arith, is key part held, rises)

-- a datagram without bytes has no items
pub no_items : (bytes : List ℕ) → length bytes ≡ 0 → items_of bytes ≡ []
no_items bytes none = ap items_of (nil_from_length bytes none) ∙ items_from-nil 0

or_assoc : (a b c : Bool) → ((a || b) || c) ≡ (a || (b || c))
or_assoc true b c = refl
or_assoc false b c = refl

-- a fault of the next item, or of one after it
pub fault_more : (c : Scene) (store : Option StoreValue) (so_far all : Bool) (items rest : List (Result MessageValue WireError)) (item : Result MessageValue WireError) → items ≡ item ∷ rest
    → (so_far || has_fault_with c store items) ≡ all → ((so_far || records_fault c store item) || has_fault_with c (store_after store c.now c.datagram item) rest) ≡ all
fault_more c store so_far all items rest item is h =
    or_assoc so_far (records_fault c store item) (has_fault_with c (store_after store c.now c.datagram item) rest) ∙ ap (λ l. so_far || has_fault_with c store l) (sym is) ∙ h

-- what is still to send, where the next item is known
pub next_lines : (c : Scene) (store : Option StoreValue) (place : ℕ) (a b : Option (List ℕ)) (held waits : List ℕ) (All : List ℕ → Type 0) (items : List (Result MessageValue WireError)) (item : Result MessageValue WireError)
    (rest : List (Result MessageValue WireError)) → items ≡ item ∷ rest → IsSendingOne a held b waits (AreLinesWith c store place items) All
    → IsSendingOne a held b waits (Joined (AreItemLines c store place item) (AreLinesWith c (store_after store c.now c.datagram item) (place + item_len item) rest)) All
next_lines c store place a b held waits All items item rest is s = subst (λ i. IsSendingOne a held b waits (AreLinesWith c store place i) All) is s

-- the lines of a datagram's bytes
pub empty_scene : (c : Scene) (store : Option StoreValue) → length c.datagram.payload ≡ 0 → IsSceneText c store (empty_from c.form c.origin c.k)
empty_scene c store none = subst (λ bytes. AreLinesOf c store bytes (empty_from c.form c.origin c.k)) (sym (nil_from_length c.datagram.payload none)) refl

lines_of_some : (c : Scene) (store : Option StoreValue) (bytes : List ℕ) → 0 < length bytes → (text : List ℕ) → AreLinesWith c store 0 (items_of bytes) text → AreLinesOf c store bytes text
lines_of_some c store [] lt text are = absurd (omega (arith, lt))
lines_of_some c store (b ∷ bytes) lt text are = are

pub lines_scene : (c : Scene) (store : Option StoreValue) → 0 < length c.datagram.payload → (text : List ℕ) → AreLinesWith c store 0 (items_of c.datagram.payload) text → IsSceneText c store text
lines_scene c store lt text are = lines_of_some c store c.datagram.payload lt text are

-- ---- the next datagram, as it is asked for

-- a scene in a form, with these fields of objects
abbrev pub scene_in : Form → List ToldField → TypesValue → (k now : ℕ) → ArrivalValue → Scene
scene_in form origin types k now a = record { types = types; form = form; origin = origin; k = k; now = now; datagram = a.datagram }

-- a text of it in a form
abbrev TextIn : Form → Asked → TypesValue → (k now : ℕ) → ArrivalValue → Option StoreValue → List ℕ → Type 0
TextIn form asked types k now a store text = Headed (heads_in form asked.heads) a (IsSceneText (scene_in form (origin_in form asked.heads a) types k now a) store) text

pub headed_plain : (asked : Asked) (types : TypesValue) (k now : ℕ) (a : ArrivalValue) (store : Option StoreValue) → asked.form ≡ Plain → (text : List ℕ)
    → Headed asked.heads a (IsSceneText (scene_in Plain [] types k now a) store) text
    → Headed (heads_in asked.form asked.heads) a (IsSceneText (numbered_scene types asked k now a) store) text
headed_plain asked types k now a store is text h = subst (λ form. TextIn form asked types k now a store text) (sym is) h

pub headed_objects : (asked : Asked) (types : TypesValue) (k now : ℕ) (a : ArrivalValue) (store : Option StoreValue) (origin : List ToldField) → asked.form ≡ Json
    → origin ≡ origin_fields asked.heads a → (text : List ℕ) → IsSceneText (scene_in Json origin types k now a) store text
    → Headed (heads_in asked.form asked.heads) a (IsSceneText (numbered_scene types asked k now a) store) text
headed_objects asked types k now a store origin is same text h =
    subst (λ form. TextIn form asked types k now a store text) (sym is) (text, subst (λ o. IsSceneText (scene_in Json o types k now a) store text) same h, refl)
