-- What the bytes of a message are (SOME/IP Protocol, "Header").
use Rattle.std.specs.Prelude.{ℕ, ◌+◌, ◌^◌, ◌<◌, ◌≡◌, ◌≤◌, List, [], ◌∷◌, ◌++◌, length, take, slice_index}
use Rattle.std.specs.Int.{w16, w32, to_be_bytes}
use Rattle.someip_wire.specs.declared.header.Header.{Header}
use Rattle.someip_wire.specs.Kinds.{kind_byte}

-- a message without where its payload lies in memory
pub record MessageValue : Type 0 where
  pub header : Header
  pub payload : List ℕ

-- the numbers of a message fit their fields
pub record Fits (m : MessageValue) : Type 0 where
  pub service : m.header.service < 2 ^ 16
  pub method : m.header.method < 2 ^ 16
  pub length : 8 + length m.payload < 2 ^ 32
  pub client : m.header.client < 2 ^ 16
  pub session : m.header.session < 2 ^ 16
  pub interface : m.header.interface < 2 ^ 8
  pub code : m.header.code.0 < 2 ^ 8

-- the 16 bytes of a header in front of a payload of so many bytes: Message ID, Length, Request ID,
-- Protocol Version 01, Interface Version, Message Type, Return Code, all big-endian
abbrev pub header_bytes : Header → ℕ → List ℕ
header_bytes h n =
    to_be_bytes w16 h.service ++ to_be_bytes w16 h.method ++ to_be_bytes w32 (8 + n)
    ++ to_be_bytes w16 h.client ++ to_be_bytes w16 h.session
    ++ 1 ∷ h.interface ∷ kind_byte h.kind ∷ h.code.0 ∷ []

-- the bytes of a message: its header, and then its payload
abbrev pub spelling : MessageValue → List ℕ
spelling m = header_bytes m.header (length m.payload) ++ m.payload

-- the bytes spell the message
abbrev pub Spells : MessageValue → List ℕ → Type 0
Spells m bytes = Fits m × (bytes ≡ spelling m)

-- the first n of the bytes spell the message
abbrev pub BeginsWith : MessageValue → ℕ → List ℕ → Type 0
BeginsWith m n bytes = (n ≤ length bytes) × Spells m (take n bytes)

-- every element is a byte
abbrev pub IsBytes : List ℕ → Type 0
IsBytes bytes = (i : ℕ) → slice_index bytes i < 256
