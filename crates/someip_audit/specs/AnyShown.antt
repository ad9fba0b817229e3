-- What any message of a recording, and a datagram of several, show over all books.
use Rattle.std.specs.Prelude.{ℕ, ◌+◌, Bool, ◌&&◌, if◌then◌else◌, List, [], ◌∷◌, length, Some, Result, Ok, Err}
use Rattle.someip_wire.specs.declared.error.WireError.{WireError}
use Rattle.someip_wire.specs.declared.header.Header.{Header}
use Rattle.someip_wire.specs.Spelling.{MessageValue, spelling}
use Rattle.sd_wire.specs.declared.error.SdError.{SdError}
use Rattle.sd_wire.specs.declared.error.SdError.TheVariants as faults
use Rattle.sd_wire.specs.decoding.Program.{reading}
use Rattle.sd_wire.specs.contents.Values.{SdValue}
use Rattle.someip_tables.specs.declared.hashed.origin.Origin.{Origin}
use Rattle.audit_endpoints.specs.DiscoveryMessages.{is_sd}
use Rattle.someip_audit.specs.declared.finding.Finding.TheVariants as findings
use Rattle.someip_audit.specs.MessageShown.{message_shown}
use Rattle.someip_audit.specs.SdShown.{Work, sd_shown, with_told}

-- ---- a message

-- a fault of a payload that begins at this place of its datagram, with its place from the datagram's first byte
abbrev pub in_datagram : ℕ → SdError → SdError
in_datagram place (faults.Truncated at) = faults.Truncated (place + at)
in_datagram place (faults.EntriesLength at) = faults.EntriesLength (place + at)
in_datagram place (faults.UnknownEntryType at) = faults.UnknownEntryType (place + at)
in_datagram place (faults.OptionLength at) = faults.OptionLength (place + at)
in_datagram place (faults.TooManyOptions entry) = faults.TooManyOptions entry
in_datagram place (faults.TrailingBytes at) = faults.TrailingBytes (place + at)
in_datagram place faults.OutOfMemory = faults.OutOfMemory

-- what its payload shows, which begins at this place: what it says, or its fault
abbrev pub payload_shown : ℕ → Origin → ℕ → ℕ → Result SdValue SdError → Work → Work
payload_shown now origin place session (Ok sd) work = sd_shown now origin session sd work
payload_shown now origin place session (Err fault) work = record work { told = with_told (Some (findings.MalformedSd (in_datagram place fault))) work.told }

-- what a message shows whose payload begins at this place
abbrev pub any_shown : ℕ → Origin → ℕ → MessageValue → Work → Work
any_shown now origin place message work =
    if is_sd origin message.header then payload_shown now origin place message.header.session (reading message.payload) work
    else message_shown now origin place message work

-- ---- a datagram

-- what an item of a datagram shows that begins at this place: a message, whose payload comes after its 16 bytes of header, or the
-- fault that ends the datagram
abbrev pub item_shown : ℕ → Origin → ℕ → Result MessageValue WireError → Work → Work
item_shown now origin place (Ok message) work = any_shown now origin (place + 16) message work
item_shown now origin place (Err fault) work = record work { told = with_told (Some (findings.Malformed fault)) work.told }

-- how many bytes of its datagram it takes. Nothing comes after a fault
abbrev pub item_len : Result MessageValue WireError → ℕ
item_len (Ok message) = length (spelling message)
item_len (Err fault) = 0

-- what items show in order, the first of which begins at this place
abbrev pub items_shown : ℕ → Origin → ℕ → List (Result MessageValue WireError) → Work → Work
items_shown now origin place [] work = work
items_shown now origin place (item ∷ items) work = items_shown now origin (place + item_len item) items (item_shown now origin place item work)

-- how many messages an item has: one, or none where it is a fault
abbrev pub item_count : Result MessageValue WireError → ℕ
item_count (Ok message) = 1
item_count (Err fault) = 0

-- how many items have
abbrev pub message_count : List (Result MessageValue WireError) → ℕ
message_count [] = 0
message_count (item ∷ items) = item_count item + message_count items
