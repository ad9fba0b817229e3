-- What a line tells, and how it is printed in each form.
use Rattle.std.specs.Prelude.{⊤, ℕ, ◌<◌, ◌^◌, Bool, List, [], ◌∷◌, ◌++◌, codes, decimal, Option, Some, None}
use Rattle.std.specs.List.{flat_map}
use Rattle.std.specs.Net.Addr.{ipv4_octets}
use Rattle.std.specs.Net.Text.{ipv4_text, socket_v4_text}
use Rattle.std.specs.declared.net.ipv4_addr.Ipv4Addr.{Ipv4Addr}
use Rattle.std.specs.declared.net.socket_addr.SocketAddrV4.{SocketAddrV4}
use Rattle.hex.specs.Hex.{encode_lower}
use Rattle.json.specs.Json as json
use Rattle.json.specs.Print.{quoted}
use Rattle.json.specs.Tree.{ItemsHaveNumbers}
use Rattle.sd_wire.specs.declared.SdOption.{SdOption}
use Rattle.someip_payload_values.specs.Data.{Form, Data}
use Rattle.someip_payload_values.specs.ValueText.{data_text}
use Rattle.someip_texts.specs.Words.{bytes_text, hex2, hex4}
use Rattle.someipctl_io.specs.declared.form.Form.{Form as LineForm}
use Rattle.someipctl_io.specs.declared.form.Form.TheVariants.{Plain, Json}
use Rattle.someipctl_io.specs.Lines.{flag_text}
use Rattle.someipctl_io.specs.Options.{run_text}
use Rattle.someipctl_io.specs.Parts.{seconds_text}
use Rattle.someipctl_io.specs.JsonTexts.{json_text, key_text}
use Rattle.someipctl_io.specs.OptionObjects.{option_items}
use Rattle.someipctl_io.specs.ValueObjects.{FitIn64, value_json}

-- ---- what is told

-- what is told under a key
pub data Content : Type 0 where
  text : List ℕ → Content
  number : ℕ → Content
  -- so many milliseconds
  millis : ℕ → Content
  -- 16 bits, and a byte
  id : ℕ → Content
  byte : ℕ → Content
  bytes : List ℕ → Content
  flag : Bool → Content
  -- what holds where it stands in a line
  mark : Content
  nothing : Content
  address : Ipv4Addr → Content
  endpoint : SocketAddrV4 → Content
  -- seconds and nanoseconds
  time : ℕ → ℕ → Content
  options : List SdOption → Content
  -- a told value of a form of payload
  value : Form → Data → Content

-- a field of a line: what stands before it where it is plain, its key, and what is told
pub record ToldField : Type 0 where
  pub lead : List ℕ
  pub key : List ℕ
  pub content : Content

-- the head of lines: the fields that number what a line is about, those that say where that came from, and those that say
-- where it stands
pub record ToldHead : Type 0 where
  pub number : List ToldField
  pub origin : List ToldField
  pub place : List ToldField

-- a line behind its head: its kind, the word for that where it is plain, and its fields
pub record ToldLine : Type 0 where
  pub kind : List ℕ
  pub word : Option (List ℕ)
  pub fields : List ToldField

abbrev pub field : List ℕ → List ℕ → Content → ToldField
field lead key content = record { lead = lead; key = key; content = content }

-- ---- plain

abbrev pub content_text : Content → List ℕ
content_text (text t) = t
content_text (number n) = decimal n
content_text (millis n) = decimal n ++ codes " ms"
content_text (id n) = hex4 n
content_text (byte n) = hex2 n
content_text (bytes bs) = bytes_text bs
content_text (flag b) = flag_text b
content_text mark = []
content_text nothing = codes "-"
content_text (address a) = ipv4_text (ipv4_octets a)
content_text (endpoint e) = socket_v4_text e
content_text (time s n) = seconds_text s n
content_text (options os) = codes "[" ++ (run_text os ++ codes "]")
content_text (value f d) = data_text f d

-- a word behind a space
abbrev pub word_part : Option (List ℕ) → List ℕ
word_part None = []
word_part (Some word) = codes " " ++ word

-- ---- JSON

abbrev pub content_json : Content → json.Json
content_json (text t) = json.string t
content_json (number n) = json.number (decimal n)
content_json (millis n) = json.number (decimal n)
content_json (id n) = json.string (hex4 n)
content_json (byte n) = json.string (hex2 n)
content_json (bytes bs) = json.string (encode_lower bs)
content_json (flag b) = json.boolean b
content_json mark = json.boolean Bool.true
content_json nothing = json.null
content_json (address a) = json.string (ipv4_text (ipv4_octets a))
content_json (endpoint e) = json.string (socket_v4_text e)
content_json (time s n) = json.string (seconds_text s n)
content_json (options os) = json.array (option_items os)
content_json (value f d) = value_json f d

-- the members of an object that fields are
abbrev pub field_members : List ToldField → json.Members
field_members [] = json.no_members
field_members (f ∷ fs) = json.member f.key (content_json f.content) (field_members fs)

-- the object that a line is: its kind, the fields of its head and its own, in order
abbrev pub line_json : ToldHead → ToldLine → json.Json
line_json head line = json.object (json.member (codes "kind") (json.string line.kind) (field_members (head.number ++ (head.origin ++ (head.place ++ line.fields)))))

-- ---- in each form

-- a field: plain it stands behind its lead, and in an object as a member behind others
abbrev pub field_text : LineForm → ToldField → List ℕ
field_text Plain f = f.lead ++ content_text f.content
field_text Json f = codes "," ++ (key_text f.key ++ json_text (content_json f.content))

abbrev pub fields_text : LineForm → List ToldField → List ℕ
fields_text form fs = flat_map (field_text form) fs

-- what stands before the number of a plain line, with a space behind each field
abbrev pub origin_text : List ToldField → List ℕ
origin_text fs = flat_map (λ f. field_text Plain f ++ codes " ") fs

-- a line up to its fields
abbrev pub begin_text : LineForm → ToldHead → List ℕ → Option (List ℕ) → List ℕ
begin_text Plain head kind word = origin_text head.origin ++ (fields_text Plain head.number ++ (fields_text Plain head.place ++ word_part word))
begin_text Json head kind word = (codes "{\"kind\":" ++ quoted kind) ++ (fields_text Json head.number ++ (fields_text Json head.origin ++ fields_text Json head.place))

abbrev pub end_text : LineForm → List ℕ
end_text Plain = codes "\n"
end_text Json = codes "}\n"

-- a line, which ends with a line feed
abbrev pub line_text : LineForm → ToldHead → ToldLine → List ℕ
line_text form head line = begin_text form head line.kind line.word ++ (fields_text form line.fields ++ end_text form)

-- lines with one head
abbrev pub lines_text : LineForm → ToldHead → List ToldLine → List ℕ
lines_text form head lines = flat_map (line_text form head) lines

-- ---- numbers

-- what is told has numbers that JSON has: of 64 bits
abbrev pub HasNumber : Content → Type 0
HasNumber (number n) = n < 2 ^ 64
HasNumber (millis n) = n < 2 ^ 64
HasNumber (options os) = ItemsHaveNumbers (option_items os)
HasNumber (value f d) = FitIn64 d
HasNumber (text t) = ⊤
HasNumber (id n) = ⊤
HasNumber (byte n) = ⊤
HasNumber (bytes bs) = ⊤
HasNumber (flag b) = ⊤
HasNumber mark = ⊤
HasNumber nothing = ⊤
HasNumber (address a) = ⊤
HasNumber (endpoint e) = ⊤
HasNumber (time s n) = ⊤

-- each field has
abbrev pub HaveNumbers : List ToldField → Type 0
HaveNumbers [] = ⊤
HaveNumbers (f ∷ fs) = HasNumber f.content × HaveNumbers fs
