-- What stands in a datagram of bytes fits its fields.
use Rattle.std.proofs.Common.{◌≡◌, ℕ, List, [], ◌∷◌, ◌++◌, length, Option, None, Some, Ok, refl, subst, append_assoc}
use Rattle.std.specs.List.{AllByRecursion, Contains, flat_map}
use Rattle.std.proofs.Math.Seq.{drop-append_seam, take-append_seam}
use Rattle.someip_wire.specs.declared.error.WireError.{WireError}
use Rattle.someip_wire.specs.Datagram.{items}
use Rattle.someip_wire.specs.Reading.{items_of}
use Rattle.someip_wire.specs.Spelling.{Fits, IsBytes, MessageValue, header_bytes, spelling}
use Rattle.someip_wire.proofs.DatagramLemmas.{is_split}
use Rattle.sd_wire.specs.declared.option.SdOption.{SdOption}
use Rattle.sd_wire.specs.decoding.Reading.{Spelled, SpellsEntry}
use Rattle.sd_wire.specs.layout.Spelling.{HeadFits}
use Rattle.sd_wire.specs.contents.Values.{ReadValue, good, bad_run}
use Rattle.sd_wire.proofs.spelled.FieldLemmas.{IsBytes-drop, IsBytes-take}
use Rattle.sd_wire.proofs.decoding.SdLemmas.{reading_holds}
use Rattle.someip_node_laws.specs.Fitting.{FitsPacket, head_of}
use Rattle.someip_node_rules.specs.trails.Packets.{Packet}
use Rattle.someip_node_rules.proofs.lists.MemberLemmas.{all_both, at_member}

-- ---- bytes side by side

right_bytes : (xs ys : List ℕ) → IsBytes (xs ++ ys) → IsBytes ys
right_bytes xs ys all = subst IsBytes (drop-append_seam xs ys) (IsBytes-drop (length xs) (xs ++ ys) all)

left_bytes : (xs ys : List ℕ) → IsBytes (xs ++ ys) → IsBytes xs
left_bytes xs ys all = subst IsBytes (take-append_seam xs ys) (IsBytes-take (length xs) (xs ++ ys) all)

payloads : (messages : List MessageValue) (rest : List ℕ) → IsBytes (flat_map spelling messages ++ rest) → AllByRecursion (λ m. IsBytes m.payload) messages
payloads [] rest all = tt
payloads (m ∷ messages) rest all =
    let both : IsBytes (spelling m ++ (flat_map spelling messages ++ rest)) = subst IsBytes (append_assoc (spelling m) (flat_map spelling messages) rest) all in (
      right_bytes (header_bytes m.header (length m.payload)) m.payload (left_bytes (spelling m) (flat_map spelling messages ++ rest) both),
      payloads messages rest (right_bytes (spelling m) (flat_map spelling messages ++ rest) both),
    )

-- ---- the messages

-- a message that fits and has a payload of bytes
abbrev IsSound : MessageValue → Type 0
IsSound m = Fits m × IsBytes m.payload

in_items : (messages : List MessageValue) (end : Option WireError) → AllByRecursion IsSound messages
    → AllByRecursion (λ item. (m : MessageValue) → item ≡ Ok m → IsSound m) (items messages end)
in_items [] None all = tt
in_items [] (Some fault) all = (λ m is. absurd cc, tt)
in_items (m ∷ messages) end all = (λ other is. let same : m ≡ other = cc in subst IsSound same all.0, in_items messages end all.1)

sound : (bytes : List ℕ) → IsBytes bytes → (m : MessageValue) → Contains (items_of bytes) (Ok m) → IsSound m
sound bytes all m stands =
    let split = is_split bytes all in
    let whole = split.2 in
    let each =
    all_both Fits (λ x. IsBytes x.payload) IsSound (λ x fits own. (fits, own)) split.0 whole.each
    (payloads split.0 whole.rest (subst IsBytes whole.parts all)) in
    at_member (λ item. (x : MessageValue) → item ≡ Ok x → IsSound x) (items split.0 split.1) (Ok m) (in_items split.0 split.1 each)
    (subst (λ xs. Contains xs (Ok m)) split.3 stands) m refl

-- ---- the entries

heads : (pool : List SdOption) (entries : List ReadValue) (bytes : List ℕ) → Spelled (SpellsEntry pool) entries bytes → AllByRecursion (λ e. HeadFits (head_of e)) entries
heads pool [] bytes spelled = tt
heads pool (good e ∷ entries) bytes spelled = (spelled.3.1.fits, heads pool entries spelled.1 spelled.4)
heads pool (bad_run head ∷ entries) bytes spelled = (spelled.3.1.fits, heads pool entries spelled.1 spelled.4)

pub bytes_fit : (p : Packet) → IsBytes p.bytes → FitsPacket p
bytes_fit p all = record {
  messages = λ m stands. (sound p.bytes all m stands).0;
  entries = λ e has.
      let message = has.stands.message in
      let own = (sound p.bytes all message has.stands.stands).1 in
      let holds = reading_holds message.payload has.value own has.stands.reads in
      at_member (λ x. HeadFits (head_of x)) has.value.entries e (heads holds.pool has.value.entries holds.entries holds.are_entries) has.within;
}
