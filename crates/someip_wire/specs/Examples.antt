-- Bytes that the laws speak of as examples.
use Rattle.std.specs.Prelude.{ℕ, List, [], ◌∷◌, ◌++◌, take}
use Rattle.someip_wire.specs.declared.header.MessageType.TheVariants.{Request}
use Rattle.someip_wire.specs.Spelling.{MessageValue}

-- a call of method 0421 at service 1234, by client 0001 in session 0001, without a payload
abbrev pub request_message : MessageValue
request_message = record {
  header = record { service = 0x1234; method = 0x0421; client = 1; session = 1; interface = 1; kind = Request; code = record { 0 = 0 } };
  payload = [];
}

-- its bytes
abbrev pub request_bytes : List ℕ
request_bytes = 0x12 ∷ 0x34 ∷ 0x04 ∷ 0x21 ∷ 0 ∷ 0 ∷ 0 ∷ 8 ∷ 0 ∷ 1 ∷ 0 ∷ 1 ∷ 1 ∷ 1 ∷ 0 ∷ 0 ∷ []

-- the same with 7 in the Length field
abbrev pub length_seven_bytes : List ℕ
length_seven_bytes = 0x12 ∷ 0x34 ∷ 0x04 ∷ 0x21 ∷ 0 ∷ 0 ∷ 0 ∷ 7 ∷ 0 ∷ 1 ∷ 0 ∷ 1 ∷ 1 ∷ 1 ∷ 0 ∷ 0 ∷ []

-- the request twice, and 15 bytes of a third
abbrev pub cut_bytes : List ℕ
cut_bytes = request_bytes ++ (request_bytes ++ take 15 request_bytes)
