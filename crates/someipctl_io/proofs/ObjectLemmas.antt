-- The texts of objects in parts.
use Rattle.std.proofs.Common.{◌≡◌, ℕ, ◌<◌, ◌≤◌, List, [], ◌∷◌, ◌++◌, length, get_or, drop, codes, decimal, slice_index, Bool, true, false, Some, refl, sym, ap, ap₂, ◌∙◌, append_assoc, arith}
use Rattle.std.specs.Prelude.{◌==◌, if◌then◌else◌}
use Rattle.std.specs.Net.Text.{ipv4_text}
use Rattle.std.proofs.lemmas.List.{append-nil}
use Rattle.std.proofs.lemmas.Grind.{flat_map-append}
use Rattle.hex.specs.Hex.{encode_lower, IsBytes}
use Rattle.json.specs.Json as json
use Rattle.json.specs.Print.{escape, escape_byte, quoted}
use Rattle.json.specs.Tree.{HasNumbers, MembersHaveNumbers}
use Rattle.json.proofs.Printed.Decimals.{IsNumber-decimal}
use Rattle.sd_wire.specs.declared.SdOption.{SdOption}
use Rattle.someip_texts.specs.Words.{hex2}
use Rattle.someipctl_io.specs.declared.form.Form.{Form as LineForm}
use Rattle.someipctl_io.specs.declared.form.Form.TheVariants.{Json}
use Rattle.someipctl_io.specs.Options.{protocol_text}
use Rattle.someipctl_io.specs.JsonTexts.{items_text, json_text, key_text, other_items_text, other_members_text}
use Rattle.someipctl_io.specs.OptionObjects.{endpoint_end, endpoint_members, load_members, named_option, option_items, option_json, raw_members}
use Rattle.someipctl_io.specs.ToldLines.{Content, text, number, millis, id, byte, bytes, flag, mark, nothing, address, endpoint, time, options, value, HasNumber, HaveNumbers, ToldField, ToldHead, ToldLine, begin_text, end_text, content_json, field_members, field_text, fields_text, line_json, line_text}
use Rattle.someipctl_io.specs.ToldItems.{value_lines}
use Rattle.someipctl_io.proofs.ValueLemmas.{value-numbers}
use Rattle.someipctl_io.proofs.EscapeLemmas.{escape-hex, escape-hex2, escape-ipv4}

-- ---- options

pub load-text : (priority weight : ℕ) → codes "{\"option\":\"load\",\"priority\":" ++ (decimal priority ++ (codes ",\"weight\":" ++ (decimal weight ++ (codes "}" ++ [])))) ≡ json_text (named_option (codes "load") (load_members priority weight))
unfolding escape_byte
load-text priority weight = simp (append_assoc, append-nil)

raw-shape : (h b : List ℕ)
    → codes "{\"option\":\"unknown\",\"type\":\"" ++ (escape h ++ (codes "\",\"bytes\":\"" ++ (escape b ++ (codes "\"}" ++ []))))
    ≡ json_text (named_option (codes "unknown") (json.member (codes "type") (json.string h) (json.member (codes "bytes") (json.string b) json.no_members)))
unfolding escape_byte
raw-shape h b = simp (append_assoc, append-nil)

pub raw-text : (kind : ℕ) (bs : List ℕ) → kind < 256 → IsBytes bs
    → codes "{\"option\":\"unknown\",\"type\":\"" ++ (hex2 kind ++ (codes "\",\"bytes\":\"" ++ (encode_lower bs ++ (codes "\"}" ++ [])))) ≡ json_text (named_option (codes "unknown") (raw_members kind bs))
raw-text kind bs low are =
    ap₂ (λ (x y : List ℕ). codes "{\"option\":\"unknown\",\"type\":\"" ++ (x ++ (codes "\",\"bytes\":\"" ++ (y ++ (codes "\"}" ++ []))))) (sym (escape-hex2 kind low)) (sym (escape-hex bs are))
    ∙ raw-shape (hex2 kind) (encode_lower bs)

endpoint-shape : (name place p q : List ℕ)
    → (codes "{\"option\":\"" ++ (escape name ++ codes "\",\"address\":\"")) ++ (escape place ++ (codes "\",\"port\":" ++ (p ++ (codes ",\"protocol\":\"" ++ (escape q ++ codes "\"}")))))
    ≡ json_text (named_option name (json.member (codes "address") (json.string place) (json.member (codes "port") (json.number p) (json.member (codes "protocol") (json.string q) json.no_members))))
unfolding escape_byte
endpoint-shape name place p q = simp (append_assoc, append-nil)

-- an option with an endpoint, behind a name that is not escaped
pub endpoint-text : (name place : List ℕ) (port protocol : ℕ) → escape name ≡ name
    → (codes "{\"option\":\"" ++ (name ++ codes "\",\"address\":\"")) ++ endpoint_end place port protocol ≡ json_text (named_option name (endpoint_members place port protocol))
endpoint-text name place port protocol plain =
    ap (λ (t : List ℕ). (codes "{\"option\":\"" ++ (t ++ codes "\",\"address\":\"")) ++ endpoint_end place port protocol) (sym plain)
    ∙ endpoint-shape name place (decimal port) (protocol_text protocol)

escape-protocol : (n : ℕ) → n < 256 → escape (protocol_text n) ≡ protocol_text n
unfolding escape_byte
escape-protocol n low = go (n == 0x06) (n == 0x11)
  where
    go : (a b : Bool) → escape (if a then codes "tcp" else (if b then codes "udp" else codes "proto" ++ hex2 n)) ≡ (if a then codes "tcp" else (if b then codes "udp" else codes "proto" ++ hex2 n))
    go true b = refl
    go false true = refl
    go false false = ap (λ (t : List ℕ). codes "proto" ++ t) (escape-hex2 n low)

-- its parts from the address on, where that and the protocol need no escape
pub endpoint-end : (begin place p n : List ℕ) (port protocol : ℕ) → escape place ≡ place → protocol < 256 → p ++ n ≡ protocol_text protocol
    → begin ++ (place ++ (codes "\",\"port\":" ++ (decimal port ++ (codes ",\"protocol\":\"" ++ (p ++ (n ++ (codes "\"}" ++ []))))))) ≡ begin ++ endpoint_end place port protocol
endpoint-end begin place p n port protocol plain low is =
    let parts : p ++ (n ++ codes "\"}") ≡ escape (protocol_text protocol) ++ codes "\"}" =
    sym (append_assoc p n (codes "\"}")) ∙ ap (λ (t : List ℕ). t ++ codes "\"}") (is ∙ sym (escape-protocol protocol low)) in
    ap₂ (λ (a t : List ℕ). begin ++ (a ++ (codes "\",\"port\":" ++ (decimal port ++ (codes ",\"protocol\":\"" ++ t))))) (sym plain) parts

-- the same of an IPv4 address
pub ipv4-end : (begin o p n : List ℕ) (port protocol : ℕ) → IsBytes o → protocol < 256 → p ++ n ≡ protocol_text protocol
    → begin ++ (decimal (slice_index o 0) ++ (codes "." ++ (decimal (slice_index o 1) ++ (codes "." ++ (decimal (slice_index o 2) ++ (codes "." ++ (decimal (slice_index o 3)
    ++ (codes "\",\"port\":" ++ (decimal port ++ (codes ",\"protocol\":\"" ++ (p ++ (n ++ (codes "\"}" ++ [])))))))))))))
    ≡ begin ++ endpoint_end (ipv4_text o) port protocol
ipv4-end begin o p n port protocol are low is =
    let rest = codes "\",\"port\":" ++ (decimal port ++ (codes ",\"protocol\":\"" ++ (p ++ (n ++ (codes "\"}" ++ []))))) in
    ap (λ (t : List ℕ). begin ++ t) (dotted (decimal (slice_index o 0)) (decimal (slice_index o 1)) (decimal (slice_index o 2)) (decimal (slice_index o 3)) rest)
    ∙ endpoint-end begin (ipv4_text o) p n port protocol (escape-ipv4 o are) low is
  where
    dotted : (a b c d rest : List ℕ) → a ++ (codes "." ++ (b ++ (codes "." ++ (c ++ (codes "." ++ (d ++ rest)))))) ≡ (a ++ codes "." ++ b ++ codes "." ++ c ++ codes "." ++ d) ++ rest
    dotted a b c d rest = simp append_assoc

-- ---- lines

-- fields behind others are members behind others
pub others-fields : (fs : List ToldField) → other_members_text (field_members fs) ≡ fields_text Json fs
others-fields [] = refl
others-fields (f ∷ fs) =
    ap (λ (t : List ℕ). codes "," ++ (key_text f.key ++ (json_text (content_json f.content) ++ t))) (others-fields fs)
    ∙ ap (λ (t : List ℕ). codes "," ++ t) (sym (append_assoc (key_text f.key) (json_text (content_json f.content)) (fields_text Json fs)))

line-shape : (q a b p c : List ℕ)
    → ((codes "{\"kind\":" ++ q) ++ (a ++ (b ++ p))) ++ (c ++ codes "}\n") ≡ (codes "{" ++ ((key_text (codes "kind") ++ (q ++ (a ++ (b ++ (p ++ c))))) ++ codes "}")) ++ codes "\n"
unfolding escape_byte
line-shape q a b p c = simp append_assoc

pub line-object : (head : ToldHead) (line : ToldLine) → line_text Json head line ≡ json_text (line_json head line) ++ codes "\n"
line-object head line =
    let f = field_text Json in
    let behind = head.place ++ line.fields in
    let all : other_members_text (field_members (head.number ++ (head.origin ++ behind)))
    ≡ fields_text Json head.number ++ (fields_text Json head.origin ++ (fields_text Json head.place ++ fields_text Json line.fields)) =
    others-fields (head.number ++ (head.origin ++ behind)) ∙ flat_map-append f head.number (head.origin ++ behind)
    ∙ ap (λ (t : List ℕ). fields_text Json head.number ++ t)
    (flat_map-append f head.origin behind ∙ ap (λ (t : List ℕ). fields_text Json head.origin ++ t) (flat_map-append f head.place line.fields)) in
    line-shape (quoted line.kind) (fields_text Json head.number) (fields_text Json head.origin) (fields_text Json head.place) (fields_text Json line.fields)
    ∙ ap (λ (t : List ℕ). (codes "{" ++ ((key_text (codes "kind") ++ (quoted line.kind ++ t)) ++ codes "}")) ++ codes "\n") (sym all)

-- each field has its numbers
content-numbers : (c : Content) → HasNumber c → HasNumbers (content_json c)
content-numbers (text t) h = tt
content-numbers (number n) h = IsNumber-decimal n h
content-numbers (millis n) h = IsNumber-decimal n h
content-numbers (id n) h = tt
content-numbers (byte n) h = tt
content-numbers (bytes bs) h = tt
content-numbers (flag b) h = tt
content-numbers mark h = tt
content-numbers nothing h = tt
content-numbers (address a) h = tt
content-numbers (endpoint e) h = tt
content-numbers (time s n) h = tt
content-numbers (options os) h = h
content-numbers (value f d) h = value-numbers f d h

fields-numbers : (fs : List ToldField) → HaveNumbers fs → MembersHaveNumbers (field_members fs)
fields-numbers [] h = tt
fields-numbers (f ∷ fs) h = (content-numbers f.content h.0, fields-numbers fs h.1)

pub line-numbers : (head : ToldHead) (line : ToldLine) → HaveNumbers (head.number ++ (head.origin ++ (head.place ++ line.fields))) → HasNumbers (line_json head line)
line-numbers head line h = (tt, fields-numbers (head.number ++ (head.origin ++ (head.place ++ line.fields))) h)

-- ---- options one by one

pub items_of_run : (run : List SdOption) (first : SdOption) → 1 ≤ length run → first ≡ get_or run 0 first → items_text (option_items run) ≡ json_text (option_json first) ++ other_items_text (option_items (drop 1 run))
items_of_run [] first some is = absurd (omega (arith, some))
items_of_run (o ∷ os) first some is = ap (λ x. json_text (option_json x) ++ other_items_text (option_items os)) (sym is)

-- fields in front of others
pub fields-line : (form : LineForm) (before end : List ℕ) (first more : List ToldField)
    → (before ++ fields_text form first) ++ (fields_text form more ++ end) ≡ before ++ (fields_text form (first ++ more) ++ end)
fields-line form before end first more = rw (flat_map-append (field_text form) first more) (simp append_assoc)

-- ---- the line of a value

pub no-value : (form : LineForm) (head : ToldHead) (fields : List ℕ) → length fields ≡ 0 → value_lines form head fields ≡ []
no-value form head [] none = refl
no-value form head (b ∷ more) none = absurd (omega (arith, none))

pub some-value : (form : LineForm) (head : ToldHead) (fields : List ℕ) → (length fields ≡ 0 → ⊥)
    → value_lines form head fields ≡ begin_text form head (codes "value") (Some (codes "value")) ++ (fields ++ end_text form)
some-value form head [] some = absurd (some refl)
some-value form head (b ∷ more) some = refl
