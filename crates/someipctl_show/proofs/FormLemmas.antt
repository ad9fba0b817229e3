-- What is printed in each form, and what `show` promises of it.
use Rattle.std.proofs.Common.{◌≡◌, ℕ, ◌+◌, ◌<◌, List, [], ◌∷◌, ◌++◌, length, map, Option, Some, None, Vec, Global, Result, Ok, Err, refl, sym, subst, arith, inl, inr}
use Rattle.std.proofs.lemmas.List.{nil_from_length}
use Rattle.someip_wire.specs.declared.WireError.{WireError}
use Rattle.someip_wire.specs.Spelling.{MessageValue}
use Rattle.someip_wire.specs.Reading.{items_of}
use Rattle.someip_payload_values.specs.declared.error.PayloadError.{PayloadError}
use Rattle.someip_payload_values.specs.Data.{Form, Data}
use Rattle.someip_payload_values.specs.Names.{fault_name, fault_place}
use Rattle.someip_payload_values.proofs.ToldTexts.{some_told}
use Rattle.someip_payload_codec.specs.Reading.{decoded}
use Rattle.someipctl_io.specs.declared.fault.Fault.{Fault}
use Rattle.someipctl_io.specs.declared.fault.Fault.TheVariants.{Refused, CannotRead, CannotWrite, OutOfMemory}
use Rattle.someipctl_io.specs.declared.fault.PrintFault.{PrintFault}
use Rattle.someipctl_io.specs.declared.fault.PrintFault.TheVariants as prints
use Rattle.someipctl_io.specs.declared.form.Form.{Form as LineForm}
use Rattle.someipctl_io.specs.declared.form.Form.TheVariants.{Plain, Json}
use Rattle.someipctl_io.specs.declared.outcome.Outcome.{Outcome}
use Rattle.someipctl_io.specs.Faults.{fault_of_print}
use Rattle.someipctl_io.specs.Items.{item_len}
use Rattle.someipctl_io.specs.ToldLines.{ToldField, ToldHead, fields_text, line_text}
use Rattle.someipctl_io.specs.ToldItems.{datagram_head, head_from, item_text, value_lines, whole_told}
use Rattle.someipctl_show.specs.declared.capture.BadCaptureLine.{BadCaptureLine}
use Rattle.someipctl_show.specs.declared.services.AskedService.{AskedService}
use Rattle.someipctl_show.specs.Capture.{captured_datagrams}
use Rattle.someipctl_show.specs.Services.{asked_among}
use Rattle.someipctl_show.specs.ShownText.{AreLines, AreTexts, ComesWith, IsDatagramText}
use Rattle.someipctl_show.specs.ShowResult.{RefusesShow, Shows, ShowsBeginning}
use Rattle.someipctl_show.specs.ShownForms.{AreFieldsOfItem, AreItemObjects, AreLinesIn, AreTextsIn, AreWholeObjects, IsDatagramTextIn, IsItemTextFrom, IsItemTextIn, IsShownTextIn, RefusesShowIn, ShowsBeginningIn, ShowsIn, empty_in}
use Rattle.someipctl_show.specs.TextKinds.{Joined, StopsOne}
use Rattle.someipctl_show.specs.types.Types.{TypedMessageValue, TypesValue, table_for}
use Rattle.someipctl_show.specs.types.ValueFields.{AreDecodedFields, AreFieldsBy, fault_fields, read_fields}
use Rattle.someipctl_show.proofs.KindLemmas.{IsSendingOne}
use Rattle.someipctl_show.proofs.ShowResultLemmas.{says}
use Rattle.someipctl_show.proofs.ShownTextLemmas.{bytes_of_each}
use Rattle.someipctl_show.proofs.SomeTexts.{some_item}

-- ---- each item has a text

some_decoded : (place : ℕ) (name : Option (List ℕ)) (f : Form) (all : ℕ) (read : Result (Data × ℕ) PayloadError) → (fields : List ToldField) × AreDecodedFields place name f all read fields
some_decoded place name f all (Ok (d, used)) =
    let t = some_told d in
    (read_fields name f t.0 used all, (t.0, t.1, refl))
some_decoded place name f all (Err fault) = (fault_fields (fault_name fault) (place + 16 + fault_place fault), refl)

some_by : (table : Option TypedMessageValue) (place : ℕ) (payload : List ℕ) → (fields : List ToldField) × AreFieldsBy table place payload fields
some_by None place payload = ([], refl)
some_by (Some t) place payload = some_decoded place t.name t.form (length payload) (decoded t.form payload)

some_fields : (types : TypesValue) (place : ℕ) (item : Result MessageValue WireError) → (fields : List ToldField) × AreFieldsOfItem types place item fields
some_fields types place (Ok m) = some_by (table_for types m.header) place m.payload
some_fields types place (Err fault) = ([], refl)

pub some_objects : (types : TypesValue) (head : ToldHead) (place : ℕ) (item : Result MessageValue WireError) → (text : List ℕ) × AreItemObjects types head place item text
some_objects types head place item =
    let fs = some_fields types place item in
    (item_text Json head place (fields_text Json fs.0) item, (fields_text Json fs.0, (fs.0, fs.1, refl), refl))

pub some_whole_objects : (types : TypesValue) (head : ToldHead) (m : MessageValue) → (text : List ℕ) × AreWholeObjects types head m text
some_whole_objects types head m =
    let fs = some_by (table_for types m.header) 0 m.payload in
    (line_text Json head (whole_told m) ++ value_lines Json head (fields_text Json fs.0), (fields_text Json fs.0, (fs.0, fs.1, refl), refl))

pub some_item_from : (form : LineForm) (origin : List ToldField) (types : TypesValue) (k place : ℕ) (item : Result MessageValue WireError) → (text : List ℕ) × IsItemTextFrom form origin types k place item text
some_item_from Plain origin types k place item = some_item types k place item
some_item_from Json origin types k place item = some_objects types (head_from origin k) place item

pub some_item_in : (form : LineForm) (types : TypesValue) (k place : ℕ) (item : Result MessageValue WireError) → (text : List ℕ) × IsItemTextIn form types k place item text
some_item_in form types k place item = some_item_from form [] types k place item

pub some_lines_in : (form : LineForm) (types : TypesValue) (k place : ℕ) (given : List (Result MessageValue WireError)) → (text : List ℕ) × AreLinesIn form types k place given text
some_lines_in form types k place [] = ([], refl)
some_lines_in form types k place (item ∷ given) =
    let one = some_item_in form types k place item in
    let others = some_lines_in form types k (place + item_len item) given in
    (one.0 ++ others.0, (one.0, others.0, refl, one.1, others.1))

some_datagram_in : (form : LineForm) (types : TypesValue) (k : ℕ) (datagram : List ℕ) → (text : List ℕ) × IsDatagramTextIn form types k datagram text
some_datagram_in form types k [] = (empty_in form k, refl)
some_datagram_in form types k (b ∷ bytes) = some_lines_in form types k 0 (items_of (b ∷ bytes))

pub some_texts_in : (form : LineForm) (types : TypesValue) (k : ℕ) (datagrams : List (List ℕ)) → (text : List ℕ) × AreTextsIn form types k datagrams text
some_texts_in form types k [] = ([], refl)
some_texts_in form types k (datagram ∷ datagrams) =
    let one = some_datagram_in form types k datagram in
    let others = some_texts_in form types (k + 1) datagrams in
    (one.0 ++ others.0, (one.0, others.0, refl, one.1, others.1))

-- ---- what is still to send

pub empty_text_in : (form : LineForm) (types : TypesValue) (k : ℕ) (datagram : List ℕ) → length datagram ≡ 0 → IsDatagramTextIn form types k datagram (empty_in form k)
empty_text_in form types k datagram none = subst (λ d. IsDatagramTextIn form types k d (empty_in form k)) (sym (nil_from_length datagram none)) refl

pub lines_text_in : (form : LineForm) (types : TypesValue) (k : ℕ) (datagram : List ℕ) → 0 < length datagram → (text : List ℕ) → AreLinesIn form types k 0 (items_of datagram) text → IsDatagramTextIn form types k datagram text
lines_text_in form types k [] lt text are = absurd (omega (arith, lt))
lines_text_in form types k (b ∷ bytes) lt text are = are

-- the next item is known
pub next_item_in : (form : LineForm) (types : TypesValue) (k place : ℕ) (a b : Option (List ℕ)) (held waits : List ℕ) (All : List ℕ → Type 0) (old : List (Result MessageValue WireError)) (item : Result MessageValue WireError) (new : List (Result MessageValue WireError))
    → old ≡ item ∷ new → IsSendingOne a held b waits (AreLinesIn form types k place old) All
    → IsSendingOne a held b waits (Joined (IsItemTextIn form types k place item) (AreLinesIn form types k (place + item_len item) new)) All
next_item_in form types k place a b held waits All old item new is s = subst (λ i. IsSendingOne a held b waits (AreLinesIn form types k place i) All) is s

-- the next datagram is known
pub next_shown_in : (form : LineForm) (types : TypesValue) (k : ℕ) (a b : Option (List ℕ)) (held waits : List ℕ) (All : List ℕ → Type 0) (old : List (List ℕ)) (datagram : List ℕ) (new : List (List ℕ))
    → old ≡ datagram ∷ new → IsSendingOne a held b waits (AreTextsIn form types k old) All
    → IsSendingOne a held b waits (Joined (IsDatagramTextIn form types k datagram) (AreTextsIn form types (k + 1) new)) All
next_shown_in form types k a b held waits All old datagram new is s = subst (λ i. IsSendingOne a held b waits (AreTextsIn form types k i) All) is s

-- ---- what was written of a text that was not printed whole

shows_beginning_in : (form : LineForm) (services : Option (List AskedService)) (types : TypesValue) (text : List ℕ) (datagrams : List (Vec ℕ Global)) (a b : Option (List ℕ)) → map (λ d. Some d.items) datagrams ≡ captured_datagrams text
    → StopsOne (IsShownTextIn form types (asked_among services (bytes_of_each datagrams))) a [] b → ShowsBeginningIn form (Some text) services types a b
shows_beginning_in form services types text datagrams a b is stops = record {
  capture = text;
  left = refl;
  datagrams = bytes_of_each datagrams;
  says = says text datagrams is;
  sent = stops.2.sends.sent;
  unsent = stops.2.unsent;
  wrote = stops.2.sends.wrote;
  shows = subst (IsShownTextIn form types (asked_among services (bytes_of_each datagrams))) (sym stops.2.sends.rest) stops.1;
}

pub refuses_print_in : (form : LineForm) (services : Option (List AskedService)) (types : TypesValue) (text : List ℕ) (datagrams : List (Vec ℕ Global)) (fault : PrintFault) (a b : Option (List ℕ)) → map (λ d. Some d.items) datagrams ≡ captured_datagrams text
    → ComesWith types fault → StopsOne (IsShownTextIn form types (asked_among services (bytes_of_each datagrams))) a [] b → RefusesShowIn form (Some text) services types (fault_of_print fault) a b
refuses_print_in form services types text datagrams prints.CannotWrite a b is owed stops = shows_beginning_in form services types text datagrams a b is stops
refuses_print_in form services types text datagrams prints.OutOfMemory a b is owed stops = inr (owed, shows_beginning_in form services types text datagrams a b is stops)

-- ---- plain

plain_lines : (types : TypesValue) (k place : ℕ) (given : List (Result MessageValue WireError)) (text : List ℕ) → AreLinesIn Plain types k place given text → AreLines types k place given text
plain_lines types k place [] text are = are
plain_lines types k place (item ∷ given) text (first, second, is, one, others) = (first, second, is, one, plain_lines types k (place + item_len item) given second others)

pub plain_datagram : (types : TypesValue) (k : ℕ) (datagram text : List ℕ) → IsDatagramTextIn Plain types k datagram text → IsDatagramText types k datagram text
plain_datagram types k [] text is = is
plain_datagram types k (b ∷ bytes) text is = plain_lines types k 0 (items_of (b ∷ bytes)) text is

plain_texts : (types : TypesValue) (k : ℕ) (datagrams : List (List ℕ)) (text : List ℕ) → AreTextsIn Plain types k datagrams text → AreTexts types k datagrams text
plain_texts types k [] text are = are
plain_texts types k (datagram ∷ datagrams) text (first, second, is, one, others) = (first, second, is, plain_datagram types k datagram first one, plain_texts types (k + 1) datagrams second others)

pub shows_plain : (input : Option (List ℕ)) (services : Option (List AskedService)) (types : TypesValue) (o : Outcome) (a b : Option (List ℕ)) → ShowsIn Plain input services types o a b → Shows input services types o a b
shows_plain input services types o a b s = record {
  capture = s.capture;
  left = s.left;
  datagrams = s.datagrams;
  says = s.says;
  text = s.text;
  shows = plain_texts types 1 (asked_among services s.datagrams) s.text s.shows;
  wrote = s.wrote;
  tells = s.tells;
}

beginning_plain : (input : Option (List ℕ)) (services : Option (List AskedService)) (types : TypesValue) (a b : Option (List ℕ)) → ShowsBeginningIn Plain input services types a b → ShowsBeginning input services types a b
beginning_plain input services types a b s = record {
  capture = s.capture;
  left = s.left;
  datagrams = s.datagrams;
  says = s.says;
  sent = s.sent;
  unsent = s.unsent;
  wrote = s.wrote;
  shows = plain_texts types 1 (asked_among services s.datagrams) (s.sent ++ s.unsent) s.shows;
}

pub refuses_plain : (input : Option (List ℕ)) (services : Option (List AskedService)) (types : TypesValue) (e : Fault BadCaptureLine) (a b : Option (List ℕ)) → RefusesShowIn Plain input services types e a b → RefusesShow input services types e a b
refuses_plain input services types (Refused bad) a b r = r
refuses_plain input services types CannotRead a b r = r
refuses_plain input services types CannotWrite a b r = beginning_plain input services types a b r
refuses_plain input services types OutOfMemory a b (inl keeps) = inl keeps
refuses_plain input services types OutOfMemory a b (inr (owed, s)) = inr (owed, beginning_plain input services types a b s)
