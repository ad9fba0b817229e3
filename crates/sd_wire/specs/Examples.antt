-- Messages that the laws speak of as examples.
use Rattle.std.specs.Prelude.{ℕ, List, [], ◌∷◌, ◌++◌, true}
use Rattle.sd_wire.specs.declared.option.SdOption.{SdOption}
use Rattle.sd_wire.specs.declared.option.SdOption.TheVariants.{Endpoint4}
use Rattle.sd_wire.specs.declared.entry.ServiceKind.TheVariants.{Offer}
use Rattle.sd_wire.specs.declared.entry.EntryHead.{EntryHead}
use Rattle.sd_wire.specs.declared.entry.EntryHead.TheVariants.{Service}
use Rattle.sd_wire.specs.contents.Values.{EntryValue, good, bad_run, SdValue, SdMessageValue}

-- UDP at 192.168.0.1:30509
abbrev pub endpoint_option : SdOption
endpoint_option = Endpoint4 (record { socket = record { ip = record { octets = 192 ∷ 168 ∷ 0 ∷ 1 ∷ [] }; port = 30509 }; protocol = record { 0 = 0x11 } })

-- instance 0001 of service 1111, TTL 3
abbrev pub head : EntryHead
head = Service (record { kind = Offer; service = 0x1111; instance = 1; major = 1; ttl = 3; minor = 0 })

-- its offer with that endpoint
abbrev pub offer_entry : EntryValue
offer_entry = record { head = head; first = endpoint_option ∷ []; second = [] }

abbrev pub flags_bytes : List ℕ
flags_bytes = 0xc0 ∷ 0 ∷ 0 ∷ 0 ∷ []

-- an Offer whose first run has one option from an index on
abbrev pub entry_from : ℕ → List ℕ
entry_from index = 0x01 ∷ index ∷ 0 ∷ 0x10 ∷ 0x11 ∷ 0x11 ∷ 0 ∷ 1 ∷ 1 ∷ 0 ∷ 0 ∷ 3 ∷ 0 ∷ 0 ∷ 0 ∷ 0 ∷ []

abbrev pub endpoint_bytes : List ℕ
endpoint_bytes = 0 ∷ 9 ∷ 4 ∷ 0 ∷ 192 ∷ 168 ∷ 0 ∷ 1 ∷ 0 ∷ 0x11 ∷ 0x77 ∷ 0x2d ∷ []

-- a message with one entry, whose run begins at the index, over one option
abbrev pub bytes_from : ℕ → List ℕ
bytes_from index = flags_bytes ++ 0 ∷ 0 ∷ 0 ∷ 16 ∷ [] ++ entry_from index ++ 0 ∷ 0 ∷ 0 ∷ 12 ∷ [] ++ endpoint_bytes

abbrev pub read_offer : SdValue
read_offer = record { flags = record { reboot = true; unicast = true }; entries = good offer_entry ∷ [] }

abbrev pub read_bad : SdValue
read_bad = record { flags = record { reboot = true; unicast = true }; entries = bad_run head ∷ [] }

-- the offer twice
abbrev pub two_offers : SdMessageValue
two_offers = record { flags = record { reboot = true; unicast = true }; entries = offer_entry ∷ offer_entry ∷ [] }

-- its text, in which both runs are the one option, and a longer one, in which each has its own
abbrev pub shared_text : List ℕ
shared_text = flags_bytes ++ 0 ∷ 0 ∷ 0 ∷ 32 ∷ [] ++ entry_from 0 ++ entry_from 0 ++ 0 ∷ 0 ∷ 0 ∷ 12 ∷ [] ++ endpoint_bytes

abbrev pub anew_text : List ℕ
anew_text = flags_bytes ++ 0 ∷ 0 ∷ 0 ∷ 32 ∷ [] ++ entry_from 0 ++ entry_from 1 ++ 0 ∷ 0 ∷ 0 ∷ 24 ∷ [] ++ endpoint_bytes ++ endpoint_bytes
