-- Each value has a text that says it, and so what is printed of a capture has one too.
use Rattle.std.proofs.Common.{ℕ, ◌+◌, List, [], ◌∷◌, ◌++◌, length, Option, Some, None, Result, Ok, Err, refl}
use Rattle.someip_wire.specs.declared.WireError.{WireError}
use Rattle.someip_wire.specs.Spelling.{MessageValue}
use Rattle.someip_wire.specs.Reading.{items_of}
use Rattle.someip_payload_values.specs.declared.error.PayloadError.{PayloadError}
use Rattle.someip_payload_values.specs.Data.{Form, Data}
use Rattle.someip_payload_values.specs.Names.{fault_name, fault_place}
use Rattle.someip_payload_values.proofs.ToldTexts.{some_says}
use Rattle.someip_payload_codec.specs.Reading.{decoded}
use Rattle.someipctl_io.specs.Items.{item_len, item_lines}
use Rattle.someipctl_io.specs.Lines.{empty_line}
use Rattle.someipctl_show.specs.types.Types.{TypedMessageValue, TypesValue, table_for}
use Rattle.someipctl_show.specs.types.ValueLine.{IsDecodedLine, IsLineBy, IsValueLine, fault_line, read_line}
use Rattle.someipctl_show.specs.ShownText.{AreLines, AreTexts, IsDatagramText, IsItemText, IsValueOfItem}

some_decoded : (k place : ℕ) (name : Option (List ℕ)) (f : Form) (all : ℕ) (read : Result (Data × ℕ) PayloadError) → (line : List ℕ) × IsDecodedLine k place name f all read line
some_decoded k place name f all (Ok (d, used)) =
    let t = some_says f d in
    (read_line k name t.0 used all, (t.0, t.1, refl))
some_decoded k place name f all (Err fault) = (fault_line k (fault_name fault) (place + 16 + fault_place fault), refl)

some_by : (table : Option TypedMessageValue) (k place : ℕ) (payload : List ℕ) → (line : List ℕ) × IsLineBy table k place payload line
some_by None k place payload = ([], refl)
some_by (Some t) k place payload = some_decoded k place t.name t.form (length payload) (decoded t.form payload)

pub some_value : (types : TypesValue) (k place : ℕ) (m : MessageValue) → (line : List ℕ) × IsValueLine types k place m line
some_value types k place m = some_by (table_for types m.header) k place m.payload

some_value_of : (types : TypesValue) (k place : ℕ) (item : Result MessageValue WireError) → (line : List ℕ) × IsValueOfItem types k place item line
some_value_of types k place (Ok m) = some_value types k place m
some_value_of types k place (Err fault) = ([], refl)

pub some_item : (types : TypesValue) (k place : ℕ) (item : Result MessageValue WireError) → (text : List ℕ) × IsItemText types k place item text
some_item types k place item =
    let v = some_value_of types k place item in
    (item_lines k place v.0 item, (v.0, v.1, refl))

pub some_lines : (types : TypesValue) (k place : ℕ) (given : List (Result MessageValue WireError)) → (text : List ℕ) × AreLines types k place given text
some_lines types k place [] = ([], refl)
some_lines types k place (item ∷ given) =
    let one = some_item types k place item in
    let others = some_lines types k (place + item_len item) given in
    (one.0 ++ others.0, (one.0, others.0, refl, one.1, others.1))

pub some_datagram : (types : TypesValue) (k : ℕ) (datagram : List ℕ) → (text : List ℕ) × IsDatagramText types k datagram text
some_datagram types k [] = (empty_line k, refl)
some_datagram types k (b ∷ bytes) = some_lines types k 0 (items_of (b ∷ bytes))

pub some_texts : (types : TypesValue) (k : ℕ) (datagrams : List (List ℕ)) → (text : List ℕ) × AreTexts types k datagrams text
some_texts types k [] = ([], refl)
some_texts types k (datagram ∷ datagrams) =
    let one = some_datagram types k datagram in
    let others = some_texts types (k + 1) datagrams in
    (one.0 ++ others.0, (one.0, others.0, refl, one.1, others.1))
