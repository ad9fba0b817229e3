-- What the lines of the items of a datagram tell.
use Rattle.std.specs.Prelude.{ℕ, ◌+◌, Bool, if◌then◌else◌, List, [], ◌∷◌, ◌++◌, length, drop, map, codes, Option, Some, None, Result, Ok, Err}
use Rattle.someip_wire.specs.declared.WireError.{WireError}
use Rattle.someip_wire.specs.Kinds.{has_tp_flag}
use Rattle.someip_wire.specs.Faults.{fault_name, fault_place}
use Rattle.someip_wire.specs.Spelling.{MessageValue}
use Rattle.someip_reassembly.specs.TpHeader.{offset_of, more_of, tp_header_in}
use Rattle.sd_wire.specs.declared.SdError.{SdError}
use Rattle.sd_wire.specs.declared.SdOption.{SdOption}
use Rattle.sd_wire.specs.declared.ServiceEntry.{ServiceEntry}
use Rattle.sd_wire.specs.declared.EventgroupEntry.{EventgroupEntry}
use Rattle.sd_wire.specs.declared.EntryHead.{EntryHead}
use Rattle.sd_wire.specs.declared.EntryHead.TheVariants.{Service, Eventgroup}
use Rattle.sd_wire.specs.contents.Values.{ReadValue, good, bad_run, SdValue}
use Rattle.sd_wire.specs.decoding.Faults as sd
use Rattle.someipctl_io.specs.declared.form.Form.{Form as LineForm}
use Rattle.someipctl_io.specs.Lines.{type_name, has_no_tp_header}
use Rattle.someipctl_io.specs.Discovery.{service_name, eventgroup_name, discovery_in}
use Rattle.someipctl_io.specs.ToldLines.{text, number, id, byte, bytes, flag, mark, options, ToldField, ToldHead, ToldLine, field, begin_text, end_text, line_text, lines_text}

-- the field that numbers the k-th datagram
abbrev pub datagram_field : ℕ → ToldField
datagram_field k = field [] (codes "datagram") (number k)

-- the head of the lines of the k-th datagram, with fields that say where that came from
abbrev pub head_from : List ToldField → ℕ → ToldHead
head_from origin k = record { number = datagram_field k ∷ []; origin = origin; place = [] }

-- the same without where it came from
abbrev pub datagram_head : ℕ → ToldHead
datagram_head k = head_from [] k

-- a line whose word is its kind
abbrev pub told : List ℕ → List ToldField → ToldLine
told kind fields = record { kind = kind; word = Some kind; fields = fields }

-- ---- messages and segments

abbrev pub message_fields : MessageValue → List ToldField
message_fields m =
    field (codes " ") (codes "service") (id m.header.service)
    ∷ field (codes ".") (codes "method") (id m.header.method)
    ∷ field (codes " length ") (codes "length") (number (8 + length m.payload))
    ∷ field (codes " client ") (codes "client") (id m.header.client)
    ∷ field (codes " session ") (codes "session") (id m.header.session)
    ∷ field (codes " interface ") (codes "interface") (byte m.header.interface)
    ∷ field (codes " type ") (codes "type") (text (type_name m.header.kind))
    ∷ field (codes " code ") (codes "code") (byte m.header.code.0)
    ∷ field (codes " payload ") (codes "payload") (bytes m.payload) ∷ []

abbrev pub message_told : MessageValue → ToldLine
message_told m = told (codes "message") (message_fields m)

-- a message that a segment makes whole
abbrev pub whole_told : MessageValue → ToldLine
whole_told m = told (codes "whole") (message_fields m)

-- a segment that is not put together, and why
abbrev pub dropped_told : List ℕ → ToldLine
dropped_told name = told (codes "dropped") (field (codes " ") (codes "name") (text name) ∷ [])

-- a fault: its name, and its place in the datagram
abbrev pub fault_told : List ℕ → ℕ → ToldLine
fault_told name place = told (codes "fault") (field (codes " ") (codes "name") (text name) ∷ field (codes " at ") (codes "at") (number place) ∷ [])

-- an empty datagram
abbrev pub empty_told : ToldLine
empty_told = told (codes "empty") []

-- a segment: its offset, whether more come, and how many bytes it has
abbrev pub segment_fields : ℕ → Bool → ℕ → List ToldField
segment_fields offset more size =
    field (codes " offset ") (codes "offset") (number offset)
    ∷ field (codes " more ") (codes "more") (flag more)
    ∷ field (codes " bytes ") (codes "bytes") (number size) ∷ []

-- a segment with this payload
abbrev pub segment_told : List ℕ → ToldLine
segment_told payload = told (codes "segment") (segment_fields (offset_of (tp_header_in payload)) (more_of (tp_header_in payload)) (length (drop 4 payload)))

-- what stands after the line of a message whose payload begins at this place
abbrev pub segments_told : ℕ → MessageValue → List ToldLine
segments_told place m =
    if has_tp_flag m.header.kind then (if has_no_tp_header m.payload then fault_told (codes "NoHeader") place else segment_told m.payload) ∷ []
    else []

-- ---- Service Discovery

abbrev pub sd_fields : SdValue → List ToldField
sd_fields v =
    field (codes " reboot ") (codes "reboot") (flag v.flags.reboot)
    ∷ field (codes " unicast ") (codes "unicast") (flag v.flags.unicast)
    ∷ field (codes " entries ") (codes "entries") (number (length v.entries)) ∷ []

abbrev pub sd_told : SdValue → ToldLine
sd_told v = told (codes "sd") (sd_fields v)

abbrev pub service_fields : ServiceEntry → List ToldField
service_fields s =
    field (codes " ") (codes "service") (id s.service)
    ∷ field (codes ".") (codes "instance") (id s.instance)
    ∷ field (codes " major ") (codes "major") (byte s.major)
    ∷ field (codes " ttl ") (codes "ttl") (number s.ttl)
    ∷ field (codes " minor ") (codes "minor") (number s.minor) ∷ []

abbrev pub eventgroup_fields : EventgroupEntry → List ToldField
eventgroup_fields g =
    field (codes " ") (codes "service") (id g.service)
    ∷ field (codes ".") (codes "instance") (id g.instance)
    ∷ field (codes " major ") (codes "major") (byte g.major)
    ∷ field (codes " ttl ") (codes "ttl") (number g.ttl)
    ∷ field (codes " counter ") (codes "counter") (number g.counter)
    ∷ field (codes " group ") (codes "group") (id g.eventgroup) ∷ []

-- the name of an entry, and what it says beside its options
abbrev pub head_name : EntryHead → List ℕ
head_name (Service s) = service_name s.kind s.ttl
head_name (Eventgroup g) = eventgroup_name g.kind g.ttl

abbrev pub head_fields : EntryHead → List ToldField
head_fields (Service s) = service_fields s
head_fields (Eventgroup g) = eventgroup_fields g

abbrev pub head_in : ReadValue → EntryHead
head_in (good e) = e.head
head_in (bad_run head) = head

-- the two runs of options of an entry, or that one of them is bad
abbrev pub runs_fields : List SdOption → List SdOption → List ToldField
runs_fields first second = field (codes " run1 ") (codes "run1") (options first) ∷ field (codes " run2 ") (codes "run2") (options second) ∷ []

abbrev pub more_fields : ReadValue → List ToldField
more_fields (good e) = runs_fields e.first e.second
more_fields (bad_run head) = field (codes " badrun") (codes "badrun") mark ∷ []

abbrev pub entry_told : ReadValue → ToldLine
entry_told entry = told (head_name (head_in entry)) (head_fields (head_in entry) ++ more_fields entry)

-- a reading of a payload that begins at this place: the message and its entries, or the fault
abbrev pub reading_told : ℕ → Result SdValue SdError → List ToldLine
reading_told place (Ok v) = sd_told v ∷ map entry_told v.entries
reading_told place (Err e) = fault_told (sd.fault_name e) (place + sd.fault_place e) ∷ []

-- what an item holds for Service Discovery
abbrev pub discovery_told : ℕ → Option (Result SdValue SdError) → List ToldLine
discovery_told place None = []
discovery_told place (Some read) = reading_told place read

-- ---- items

-- the line of a value, of whose fields this is the text: none where that is empty
abbrev pub value_lines : LineForm → ToldHead → List ℕ → List ℕ
value_lines form head [] = []
value_lines form head (b ∷ more) = begin_text form head (codes "value") (Some (codes "value")) ++ ((b ∷ more) ++ end_text form)

-- the lines of an item that begins at this place; the line of a message's value stands right after its own
abbrev pub item_text : LineForm → ToldHead → ℕ → List ℕ → Result MessageValue WireError → List ℕ
item_text form head place fields (Ok m) =
    line_text form head (message_told m)
    ++ (value_lines form head fields ++ (lines_text form head (segments_told (place + 16) m) ++ lines_text form head (discovery_told (place + 16) (discovery_in (Ok m)))))
item_text form head place fields (Err fault) = line_text form head (fault_told (fault_name fault) (fault_place fault))
