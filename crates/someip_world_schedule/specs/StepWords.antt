-- What the words of a schedule's line stand for.
use Rattle.std.specs.Prelude.{ℕ, ◌≡◌, ◌^◌, ◌==◌, ◌&&◌, ◌||◌, nat_lt, nat_le, Bool, if◌then◌else◌, List, [], ◌∷◌, length, codes, replicate, bytes_eq, Option, Some, None, Result, Ok, Err}
use Rattle.std.specs.List.{list_all, position_or_len, before_first, after_first}
use Rattle.std.specs.Int.{w16, from_be_bytes}
use Rattle.std.specs.Result.{result_ok}
use Rattle.std.specs.Option.{option_map}
use Rattle.hex.specs.Hex.{decode_of, decode_sized}
use Rattle.std.specs.declared.net.socket_addr.SocketAddrV4.{SocketAddrV4}
use Rattle.sd_core.specs.declared.keys.InstanceId.{InstanceId}
use Rattle.sd_core.specs.declared.eventgroup.Eventgroup.{Eventgroup}
use Rattle.someip_texts.specs.Numbers.{is_digit, number_in, positive_in}
use Rattle.someip_wire.specs.declared.header.ReturnCode.{ReturnCode}
use Rattle.someip_world_schedule.specs.declared.step_words.WordFault.{WordFault}
use Rattle.someip_world_schedule.specs.declared.step_words.WordFault.TheVariants.{Bad, OutOfMemory}

-- what comes of a reading is what the words stand for, and Bad where they stand for nothing
abbrev pub IsReadOf : {T : Type 0} → Option T → Result T WordFault → Type 0
IsReadOf found (Ok value) = found ≡ Some value
IsReadOf found (Err Bad) = found ≡ None
IsReadOf found (Err OutOfMemory) = Unit {0}

-- the second step, if the first stands for something
infixl 10 ◌>>=◌
abbrev pub ◌>>=◌ : {A B : Type 0} → Option A → (A → Option B) → Option B
Some x >>= f = f x
None >>= f = None

-- what stands before the first byte c of a word, and after it
abbrev pub cut_in : ℕ → List ℕ → Option (List ℕ × List ℕ)
cut_in c word =
    if nat_lt (position_or_len (λ b. b == c) word) (length word)
    then Some (before_first (λ b. b == c) word, after_first (λ b. b == c) word) else None

-- ---- numbers

-- a port that a datagram is sent from: from 1 to 65535
abbrev pub source_port_in : List ℕ → Option ℕ
source_port_in word = positive_in (2 ^ 16) word

-- the number of four hex digits
abbrev pub id_in : List ℕ → Option ℕ
id_in word = option_map (from_be_bytes w16) (result_ok (decode_sized word 2))

-- a Method ID: below 8000
abbrev pub method_in : List ℕ → Option ℕ
method_in word = do
  id ← id_in word
  if nat_lt id 0x8000 then Some id else None

-- the byte of a list that has no other
abbrev pub byte_of : List ℕ → Option ℕ
byte_of (byte ∷ []) = Some byte
byte_of others = None

-- the byte of two hex digits
abbrev pub byte_in : List ℕ → Option ℕ
byte_in word = result_ok (decode_sized word 1) >>= byte_of

-- a Return Code
abbrev pub code_in : List ℕ → Option ReturnCode
code_in word = do
  byte ← byte_in word
  Some (record { 0 = byte })

-- ---- names

-- a letter from a to z, or a digit
abbrev pub is_name_byte : ℕ → Bool
is_name_byte b = (nat_le 0x61 b && nat_le b 0x7a) || is_digit b

-- a node's name: one to 16 of these
abbrev pub is_name : List ℕ → Bool
is_name word = nat_le 1 (length word) && nat_le (length word) 16 && list_all is_name_byte word

-- NODE: a word that is a node's name
abbrev pub name_in : List ℕ → Option (List ℕ)
name_in word = if is_name word then Some word else None

-- ---- instances, eventgroups and endpoints

-- SERVICE.INSTANCE
abbrev pub instance_in : List ℕ → Option InstanceId
instance_in word = do
  parts ← cut_in 0x2e word
  service ← id_in parts.0
  instance ← id_in parts.1
  Some (record { service = service; instance = instance })

-- SERVICE.INSTANCE, and the Eventgroup ID
abbrev pub eventgroup_in : List ℕ → List ℕ → Option Eventgroup
eventgroup_in word group = do
  instance ← instance_in word
  id ← id_in group
  Some (record { instance = instance; id = id })

-- A.B.C.D
abbrev pub address_in : List ℕ → Option (List ℕ)
address_in word = do
  first ← cut_in 0x2e word
  second ← cut_in 0x2e first.1
  third ← cut_in 0x2e second.1
  a ← number_in (2 ^ 8) first.0
  b ← number_in (2 ^ 8) second.0
  c ← number_in (2 ^ 8) third.0
  d ← number_in (2 ^ 8) third.1
  Some (a ∷ b ∷ c ∷ d ∷ [])

-- the endpoint of these octets and this port
abbrev pub endpoint_of : List ℕ → ℕ → SocketAddrV4
endpoint_of octets port = record { ip = record { octets = octets }; port = port }

-- A.B.C.D:PORT
abbrev pub endpoint_in : List ℕ → Option SocketAddrV4
endpoint_in word = do
  parts ← cut_in 0x3a word
  octets ← address_in parts.0
  port ← number_in (2 ^ 16) parts.1
  Some (endpoint_of octets port)

-- ---- payloads

-- pairs of hex digits, at least one
abbrev pub hex_in : List ℕ → Option (List ℕ)
hex_in [] = None
hex_in (digit ∷ digits) = result_ok (decode_of (digit ∷ digits))

-- HH*N: N times the byte HH, where N is at most 1048576
abbrev pub repeated_in : List ℕ → List ℕ → Option (List ℕ)
repeated_in digits count = do
  byte ← byte_in digits
  n ← number_in 1048577 count
  Some (replicate n byte)

-- HH*N where the word has a `*`, and else its pairs of hex digits
abbrev pub repeated_or_hex_in : List ℕ → Option (List ℕ × List ℕ) → Option (List ℕ)
repeated_or_hex_in word (Some parts) = repeated_in parts.0 parts.1
repeated_or_hex_in word None = hex_in word

-- `-` for the empty payload, HH*N or pairs of hex digits
abbrev pub payload_in : List ℕ → Option (List ℕ)
payload_in word = if bytes_eq word (codes "-") then Some [] else repeated_or_hex_in word (cut_in 0x2a word)
