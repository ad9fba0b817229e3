-- The plain form of what lines tell is the lines as they are defined.
use Rattle.std.proofs.Common.{◌≡◌, ℕ, ◌+◌, Bool, true, false, List, [], ◌∷◌, ◌++◌, length, drop, decimal, codes, map, Option, Some, None, Result, Ok, Err, refl, sym, ap, ap₂, ◌∙◌, append_assoc}
use Rattle.std.specs.Prelude.{if◌then◌else◌}
use Rattle.std.specs.List.{flat_map}
use Rattle.std.proofs.lemmas.List.{append-nil, append_cancel_right}
use Rattle.std.proofs.lemmas.Grind.{flat_map-append}
use Rattle.someip_wire.specs.declared.WireError.{WireError}
use Rattle.someip_wire.specs.Kinds.{has_tp_flag}
use Rattle.someip_wire.specs.Spelling.{MessageValue}
use Rattle.someip_wire.specs.Faults.{fault_name, fault_place}
use Rattle.someip_reassembly.specs.TpHeader.{offset_of, more_of, tp_header_in}
use Rattle.someip_texts.specs.Words.{bytes_text, hex2, hex4}
use Rattle.sd_wire.specs.declared.SdError.{SdError}
use Rattle.sd_wire.specs.declared.EntryHead.{EntryHead}
use Rattle.sd_wire.specs.declared.EntryHead.TheVariants.{Service, Eventgroup}
use Rattle.sd_wire.specs.contents.Values.{ReadValue, good, bad_run, SdValue}
use Rattle.sd_wire.specs.decoding.Faults as sd
use Rattle.someipctl_io.specs.declared.form.Form.TheVariants.{Plain}
use Rattle.someipctl_io.specs.Lines.{type_name, message_line, whole_line, fault_line, segment_line, segment_lines, flag_text, has_no_tp_header}
use Rattle.someipctl_io.specs.Options.{run_text}
use Rattle.someipctl_io.specs.Discovery.{service_name, eventgroup_name, head_text, entry_line, sd_line, discovery_in, discovery_lines}
use Rattle.someipctl_io.specs.Items.{item_lines}
use Rattle.someipctl_io.specs.ToldLines.{ToldField, ToldHead, begin_text, field_text, fields_text, line_text, lines_text}
use Rattle.someipctl_io.specs.ToldItems.{told, datagram_head, message_told, whole_told, fault_told, segment_told, segments_told, sd_told, head_name, head_fields, more_fields, entry_told, discovery_told, value_lines, item_text}

message-shape : (space kind behind k s m l c n i t d p dot length_ client session interface type code payload end : List ℕ)
    → ((k ++ []) ++ (space ++ kind))
    ++ (((behind ++ s) ++ ((dot ++ m) ++ ((length_ ++ l) ++ ((client ++ c) ++ ((session ++ n) ++ ((interface ++ i) ++ ((type ++ t) ++ ((code ++ d) ++ ((payload ++ p) ++ []))))))))) ++ end)
    ≡ k
    ++ ((space ++ kind ++ behind ++ s ++ dot ++ m ++ length_)
    ++ (l ++ (client ++ (c ++ (session ++ (n ++ (interface ++ (i ++ (type ++ (t ++ (code ++ (d ++ (payload ++ (p ++ (end ++ [])))))))))))))))
message-shape space kind behind k s m l c n i t d p dot length_ client session interface type code payload end = simp (append_assoc, append-nil)

pub message-plain : (k : ℕ) (m : MessageValue) → line_text Plain (datagram_head k) (message_told m) ≡ message_line k m
message-plain k m =
    message-shape (codes " ") (codes "message") (codes " ") (decimal k) (hex4 m.header.service) (hex4 m.header.method) (decimal (8 + length m.payload)) (hex4 m.header.client) (hex4 m.header.session)
    (hex2 m.header.interface) (type_name m.header.kind) (hex2 m.header.code.0) (bytes_text m.payload) (codes ".") (codes " length ") (codes " client ") (codes " session ") (codes " interface ")
    (codes " type ") (codes " code ") (codes " payload ") (codes "\n")

pub whole-plain : (k : ℕ) (m : MessageValue) → line_text Plain (datagram_head k) (whole_told m) ≡ whole_line k m
whole-plain k m =
    message-shape (codes " ") (codes "whole") (codes " ") (decimal k) (hex4 m.header.service) (hex4 m.header.method) (decimal (8 + length m.payload)) (hex4 m.header.client) (hex4 m.header.session)
    (hex2 m.header.interface) (type_name m.header.kind) (hex2 m.header.code.0) (bytes_text m.payload) (codes ".") (codes " length ") (codes " client ") (codes " session ") (codes " interface ")
    (codes " type ") (codes " code ") (codes " payload ") (codes "\n")

fault-shape : (fault k name at behind ats end : List ℕ)
    → ((k ++ []) ++ fault) ++ (((behind ++ name) ++ ((ats ++ at) ++ [])) ++ end) ≡ k ++ ((fault ++ behind) ++ (name ++ (ats ++ (at ++ (end ++ [])))))
fault-shape fault k name at behind ats end = simp (append_assoc, append-nil)

pub fault-plain : (k : ℕ) (name : List ℕ) (at : ℕ) → line_text Plain (datagram_head k) (fault_told name at) ≡ fault_line k name at
fault-plain k name at = fault-shape (codes " fault") (decimal k) name (decimal at) (codes " ") (codes " at ") (codes "\n")

-- a line of three fields
three-shape : (kind k la a lb b lc c end : List ℕ)
    → ((k ++ []) ++ kind) ++ (((la ++ a) ++ ((lb ++ b) ++ ((lc ++ c) ++ []))) ++ end) ≡ k ++ ((kind ++ la) ++ (a ++ (lb ++ (b ++ (lc ++ (c ++ (end ++ [])))))))
three-shape kind k la a lb b lc c end = simp (append_assoc, append-nil)

segment-plain : (k : ℕ) (payload : List ℕ) → line_text Plain (datagram_head k) (segment_told payload) ≡ segment_line k payload
segment-plain k payload =
    three-shape (codes " segment") (decimal k) (codes " offset ") (decimal (offset_of (tp_header_in payload))) (codes " more ") (flag_text (more_of (tp_header_in payload))) (codes " bytes ") (decimal (length (drop 4 payload)))
    (codes "\n")

segments-plain : (k place : ℕ) (m : MessageValue) → lines_text Plain (datagram_head k) (segments_told place m) ≡ segment_lines k place m
segments-plain k place m = go (has_tp_flag m.header.kind) (has_no_tp_header m.payload)
  where
    go : (a b : Bool) → lines_text Plain (datagram_head k) (if a then (if b then fault_told (codes "NoHeader") place else segment_told m.payload) ∷ [] else [])
        ≡ (if a then (if b then fault_line k (codes "NoHeader") place else segment_line k m.payload) else [])
    go false b = refl
    go true true = append-nil _ ∙ fault-plain k (codes "NoHeader") place
    go true false = append-nil _ ∙ segment-plain k m.payload

sd-plain : (k : ℕ) (v : SdValue) → line_text Plain (datagram_head k) (sd_told v) ≡ sd_line k v
sd-plain k v =
    three-shape (codes " sd") (decimal k) (codes " reboot ") (flag_text v.flags.reboot) (codes " unicast ") (flag_text v.flags.unicast) (codes " entries ") (decimal (length v.entries))
    (codes "\n")

-- entries up to their runs
service-shape : (space kind k s i m t n behind dot major ttl minor end : List ℕ)
    → ((k ++ []) ++ (space ++ kind)) ++ (((behind ++ s) ++ ((dot ++ i) ++ ((major ++ m) ++ ((ttl ++ t) ++ ((minor ++ n) ++ []))))) ++ end)
    ≡ (k ++ (space ++ (kind ++ (behind ++ (s ++ (dot ++ (i ++ (major ++ (m ++ (ttl ++ (t ++ (minor ++ (n ++ []))))))))))))) ++ end
service-shape space kind k s i m t n behind dot major ttl minor end = simp (append_assoc, append-nil)

eventgroup-shape : (space kind k s i m t c g behind dot major ttl counter group end : List ℕ)
    → ((k ++ []) ++ (space ++ kind)) ++ (((behind ++ s) ++ ((dot ++ i) ++ ((major ++ m) ++ ((ttl ++ t) ++ ((counter ++ c) ++ ((group ++ g) ++ [])))))) ++ end)
    ≡ (k ++ (space ++ (kind ++ (behind ++ (s ++ (dot ++ (i ++ (major ++ (m ++ (ttl ++ (t ++ (counter ++ (c ++ (group ++ (g ++ []))))))))))))))) ++ end
eventgroup-shape space kind k s i m t c g behind dot major ttl counter group end = simp (append_assoc, append-nil)

head-plain : (k : ℕ) (head : EntryHead) → line_text Plain (datagram_head k) (told (head_name head) (head_fields head)) ≡ head_text k head ++ codes "\n"
head-plain k (Service s) =
    service-shape (codes " ") (service_name s.kind s.ttl) (decimal k) (hex4 s.service) (hex4 s.instance) (hex2 s.major) (decimal s.ttl) (decimal s.minor) (codes " ") (codes ".") (codes " major ") (codes " ttl ")
    (codes " minor ") (codes "\n")
head-plain k (Eventgroup g) =
    eventgroup-shape (codes " ") (eventgroup_name g.kind g.ttl) (decimal k) (hex4 g.service) (hex4 g.instance) (hex2 g.major) (decimal g.ttl) (decimal g.counter) (hex4 g.eventgroup) (codes " ") (codes ".")
    (codes " major ") (codes " ttl ") (codes " counter ") (codes " group ") (codes "\n")

-- more fields at the end of a line
more-fields : (head : ToldHead) (kind : List ℕ) (fs more : List ToldField) (front : List ℕ) → line_text Plain head (told kind fs) ≡ front ++ codes "\n"
    → line_text Plain head (told kind (fs ++ more)) ≡ front ++ (fields_text Plain more ++ codes "\n")
more-fields head kind fs more front is =
    let begin = begin_text Plain head kind (Some kind) in
    let own : begin ++ fields_text Plain fs ≡ front = append_cancel_right (begin ++ fields_text Plain fs) front (codes "\n") (append_assoc begin (fields_text Plain fs) (codes "\n") ∙ is) in
    ap (λ (t : List ℕ). begin ++ (t ++ codes "\n")) (flat_map-append (field_text Plain) fs more)
    ∙ ap (λ (t : List ℕ). begin ++ t) (append_assoc (fields_text Plain fs) (fields_text Plain more) (codes "\n"))
    ∙ sym (append_assoc begin (fields_text Plain fs) (fields_text Plain more ++ codes "\n")) ∙ ap (λ (t : List ℕ). t ++ (fields_text Plain more ++ codes "\n")) own

runs-shape : (a b : List ℕ)
    → (codes " run1 " ++ (codes "[" ++ (a ++ codes "]"))) ++ ((codes " run2 " ++ (codes "[" ++ (b ++ codes "]"))) ++ []) ++ codes "\n" ≡ (codes " run1 [" ++ a) ++ ((codes "] run2 [" ++ b) ++ codes "]\n")
runs-shape a b = simp (append_assoc, append-nil)

entry-plain : (k : ℕ) (entry : ReadValue) → line_text Plain (datagram_head k) (entry_told entry) ≡ entry_line k entry
entry-plain k (good e) =
    more-fields (datagram_head k) (head_name e.head) (head_fields e.head) (more_fields (good e)) (head_text k e.head) (head-plain k e.head)
    ∙ ap (λ (t : List ℕ). head_text k e.head ++ t) (runs-shape (run_text e.first) (run_text e.second))
entry-plain k (bad_run head) = more-fields (datagram_head k) (head_name head) (head_fields head) (more_fields (bad_run head)) (head_text k head) (head-plain k head)

entries-plain : (k : ℕ) (entries : List ReadValue) → lines_text Plain (datagram_head k) (map entry_told entries) ≡ flat_map (entry_line k) entries
entries-plain k [] = refl
entries-plain k (entry ∷ entries) = ap₂ (λ (a b : List ℕ). a ++ b) (entry-plain k entry) (entries-plain k entries)

discovery-plain : (k place : ℕ) (read : Option (Result SdValue SdError)) → lines_text Plain (datagram_head k) (discovery_told place read) ≡ discovery_lines k place read
discovery-plain k place None = refl
discovery-plain k place (Some (Ok v)) = ap₂ (λ (a b : List ℕ). a ++ b) (sd-plain k v) (entries-plain k v.entries)
discovery-plain k place (Some (Err e)) = append-nil _ ∙ fault-plain k (sd.fault_name e) (place + sd.fault_place e)

pub item-plain : (k place : ℕ) (fields : List ℕ) (item : Result MessageValue WireError)
    → item_text Plain (datagram_head k) place fields item ≡ item_lines k place (value_lines Plain (datagram_head k) fields) item
item-plain k place fields (Ok m) =
    ap₂ (λ (a b : List ℕ). a ++ (value_lines Plain (datagram_head k) fields ++ b)) (message-plain k m)
    (ap₂ (λ (a b : List ℕ). a ++ b) (segments-plain k (place + 16) m) (discovery-plain k (place + 16) (discovery_in (Ok m))))
item-plain k place fields (Err fault) = fault-plain k (fault_name fault) (fault_place fault)
