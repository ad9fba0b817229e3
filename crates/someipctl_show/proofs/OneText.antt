-- What is printed of a capture is one text.
use Rattle.std.proofs.Common.{◌≡◌, ℕ, ◌+◌, List, [], ◌∷◌, ◌++◌, length, Option, Some, None, Result, Ok, Err, false, refl, sym, ap, ◌∙◌}
use Rattle.someip_wire.specs.declared.WireError.{WireError}
use Rattle.someip_wire.specs.Reading.{items_of}
use Rattle.someip_wire.specs.Spelling.{MessageValue}
use Rattle.someip_payload_values.specs.declared.error.PayloadError.{PayloadError}
use Rattle.someip_payload_values.specs.Data.{Form, Data}
use Rattle.someip_payload_values.specs.ToldText.{has_float}
use Rattle.someip_payload_values.proofs.ToldTexts.{one_text as one_telling}
use Rattle.someip_payload_codec.specs.Reading.{decoded}
use Rattle.someipctl_io.specs.Items.{item_len, item_lines}
use Rattle.someipctl_show.specs.TextKinds.{Joined}
use Rattle.someipctl_show.specs.types.Types.{TypedMessageValue, TypesValue, table_for}
use Rattle.someipctl_show.specs.types.ValueLine.{IsDecodedLine, IsLineBy, TellNoFloats, read_line}
use Rattle.someipctl_show.specs.ShownText.{AreLines, AreTexts, IsDatagramText, IsItemText, IsValueOfItem}

-- a text of two kinds is one where those of each are
one_joined : (First Second : List ℕ → Type 0) → ((a b : List ℕ) → First a → First b → a ≡ b) → ((a b : List ℕ) → Second a → Second b → a ≡ b)
    → (a b : List ℕ) → Joined First Second a → Joined First Second b → a ≡ b
one_joined First Second first second a b x y =
    x.2 ∙ ap (λ (t : List ℕ). t ++ x.1) (first x.0 y.0 x.3 y.3) ∙ ap (λ (t : List ℕ). y.0 ++ t) (second x.1 y.1 x.4 y.4) ∙ sym y.2

one_decoded : (k place : ℕ) (name : Option (List ℕ)) (f : Form) (all : ℕ) (read : Result (Data × ℕ) PayloadError) (a b : List ℕ)
    → ((d : Data) (used : ℕ) → read ≡ Ok (d, used) → has_float d ≡ false)
    → IsDecodedLine k place name f all read a → IsDecodedLine k place name f all read b → a ≡ b
one_decoded k place name f all (Ok (d, used)) a b none x y =
    let plain = none d used refl in
    x.2 ∙ ap (λ (t : List ℕ). read_line k name t used all) (one_telling f d x.0 plain x.1 ∙ sym (one_telling f d y.0 plain y.1)) ∙ sym y.2
one_decoded k place name f all (Err fault) a b none x y = x ∙ sym y

one_by : (table : Option TypedMessageValue) (k place : ℕ) (payload a b : List ℕ)
    → ((t : TypedMessageValue) (d : Data) (used : ℕ) → table ≡ Some t → decoded t.form payload ≡ Ok (d, used) → has_float d ≡ false)
    → IsLineBy table k place payload a → IsLineBy table k place payload b → a ≡ b
one_by None k place payload a b none x y = x ∙ sym y
one_by (Some t) k place payload a b none x y = one_decoded k place t.name t.form (length payload) (decoded t.form payload) a b (λ d used is. none t d used refl is) x y

one_value_of : (types : TypesValue) → TellNoFloats types → (k place : ℕ) (item : Result MessageValue WireError) (a b : List ℕ) → IsValueOfItem types k place item a → IsValueOfItem types k place item b → a ≡ b
one_value_of types none k place (Ok m) a b x y = one_by (table_for types m.header) k place m.payload a b (λ t d used found is. none m.header t m.payload d used found is) x y
one_value_of types none k place (Err fault) a b x y = x ∙ sym y

one_item : (types : TypesValue) → TellNoFloats types → (k place : ℕ) (item : Result MessageValue WireError) (a b : List ℕ) → IsItemText types k place item a → IsItemText types k place item b → a ≡ b
one_item types none k place item a b x y = x.2 ∙ ap (λ (v : List ℕ). item_lines k place v item) (one_value_of types none k place item x.0 y.0 x.1 y.1) ∙ sym y.2

one_lines : (types : TypesValue) → TellNoFloats types → (k place : ℕ) (given : List (Result MessageValue WireError)) (a b : List ℕ) → AreLines types k place given a → AreLines types k place given b → a ≡ b
one_lines types none k place [] a b x y = x ∙ sym y
one_lines types none k place (item ∷ given) a b x y =
    one_joined (IsItemText types k place item) (AreLines types k (place + item_len item) given) (one_item types none k place item) (one_lines types none k (place + item_len item) given) a b x y

one_datagram : (types : TypesValue) → TellNoFloats types → (k : ℕ) (datagram a b : List ℕ) → IsDatagramText types k datagram a → IsDatagramText types k datagram b → a ≡ b
one_datagram types none k [] a b x y = x ∙ sym y
one_datagram types none k (byte ∷ bytes) a b x y = one_lines types none k 0 (items_of (byte ∷ bytes)) a b x y

pub one_text : (types : TypesValue) → TellNoFloats types → (k : ℕ) (datagrams : List (List ℕ)) (a b : List ℕ) → AreTexts types k datagrams a → AreTexts types k datagrams b → a ≡ b
one_text types none k [] a b x y = x ∙ sym y
one_text types none k (datagram ∷ datagrams) a b x y =
    one_joined (IsDatagramText types k datagram) (AreTexts types (k + 1) datagrams) (one_datagram types none k datagram) (one_text types none (k + 1) datagrams) a b x y

pub no_types_no_floats : TellNoFloats []
no_types_no_floats h t payload d used found is = absurd cc
