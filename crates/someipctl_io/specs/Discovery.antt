-- The lines of Service Discovery messages, byte for byte.
use Rattle.std.specs.Prelude.{ℕ, ◌+◌, Bool, false, ◌==◌, if◌then◌else◌, List, [], ◌∷◌, ◌++◌, length, codes, decimal, Option, Some, None, is_err, Result, Ok, Err}
use Rattle.std.specs.Borrow.{Bor}
use Rattle.std.specs.List.{flat_map}
use Rattle.someip_wire.specs.declared.WireError.{WireError}
use Rattle.someip_wire.specs.Discovery.{is_discovery}
use Rattle.someip_wire.specs.Spelling.{MessageValue}
use Rattle.sd_wire.specs.declared.SdError.{SdError}
use Rattle.sd_wire.specs.declared.ServiceEntry.{ServiceEntry}
use Rattle.sd_wire.specs.declared.EventgroupEntry.{EventgroupEntry}
use Rattle.sd_wire.specs.declared.ServiceKind.{ServiceKind}
use Rattle.sd_wire.specs.declared.ServiceKind.TheVariants.{Find, Offer}
use Rattle.sd_wire.specs.declared.EventgroupKind.{EventgroupKind}
use Rattle.sd_wire.specs.declared.EventgroupKind.TheVariants.{Subscribe, Ack}
use Rattle.sd_wire.specs.declared.EntryHead.{EntryHead}
use Rattle.sd_wire.specs.declared.EntryHead.TheVariants.{Service, Eventgroup}
use Rattle.sd_wire.specs.declared.SdRead.{SdRead}
use Rattle.sd_wire.specs.contents.Values.{ReadValue, good, bad_run, SdValue, view_sd}
use Rattle.sd_wire.specs.decoding.Faults.{fault_name, fault_place}
use Rattle.sd_wire.specs.decoding.Program.{reading}
use Rattle.someip_texts.specs.Words.{hex2, hex4}
use Rattle.someipctl_io.specs.Lines.{joined, flag_text, fault_line}
use Rattle.someipctl_io.specs.Options.{runs_text}

-- what was read of a payload
abbrev pub view_reading : Result SdRead SdError → Result SdValue SdError
view_reading (Ok read) = Ok (view_sd read)
view_reading (Err e) = Err e

-- the same, where there is one
abbrev pub view_found : Option (Bor (Result SdRead SdError)) → Option (Result SdValue SdError)
view_found (Some found) = Some (view_reading found.now)
view_found None = None

-- what an item holds for Service Discovery: what its payload is read as, where it is such a message
abbrev pub discovery_in : Result MessageValue WireError → Option (Result SdValue SdError)
discovery_in (Ok m) = if is_discovery m.header then Some (reading m.payload) else None
discovery_in (Err fault) = None

-- the name of a service entry, which the TTL tells
abbrev pub service_name : ServiceKind → ℕ → List ℕ
service_name Find ttl = codes "find"
service_name Offer ttl = if ttl == 0 then codes "stopoffer" else codes "offer"

-- the name of an eventgroup entry, which the TTL tells
abbrev pub eventgroup_name : EventgroupKind → ℕ → List ℕ
eventgroup_name Subscribe ttl = if ttl == 0 then codes "stopsubscribe" else codes "subscribe"
eventgroup_name Ack ttl = if ttl == 0 then codes "nack" else codes "ack"

-- the line of a service entry, up to its runs
abbrev pub service_text : ℕ → ServiceEntry → List ℕ
service_text k s = joined (
    decimal k ∷ codes " " ∷ service_name s.kind s.ttl ∷ codes " " ∷ hex4 s.service ∷ codes "." ∷ hex4 s.instance
    ∷ codes " major " ∷ hex2 s.major ∷ codes " ttl " ∷ decimal s.ttl ∷ codes " minor " ∷ decimal s.minor ∷ [])

-- the line of an eventgroup entry, up to its runs
abbrev pub eventgroup_text : ℕ → EventgroupEntry → List ℕ
eventgroup_text k g = joined (
    decimal k ∷ codes " " ∷ eventgroup_name g.kind g.ttl ∷ codes " " ∷ hex4 g.service ∷ codes "." ∷ hex4 g.instance
    ∷ codes " major " ∷ hex2 g.major ∷ codes " ttl " ∷ decimal g.ttl ∷ codes " counter " ∷ decimal g.counter ∷ codes " group " ∷ hex4 g.eventgroup ∷ [])

-- the line of an entry, up to its runs
abbrev pub head_text : ℕ → EntryHead → List ℕ
head_text k (Service s) = service_text k s
head_text k (Eventgroup g) = eventgroup_text k g

-- the line of an entry: its runs of options, or that one of them is bad
abbrev pub entry_line : ℕ → ReadValue → List ℕ
entry_line k (good e) = head_text k e.head ++ runs_text e.first e.second
entry_line k (bad_run head) = head_text k head ++ codes " badrun\n"

-- the line of a Service Discovery message of the k-th datagram
abbrev pub sd_line : ℕ → SdValue → List ℕ
sd_line k v = joined (
    decimal k ∷ codes " sd reboot " ∷ flag_text v.flags.reboot ∷ codes " unicast " ∷ flag_text v.flags.unicast
    ∷ codes " entries " ∷ decimal (length v.entries) ∷ codes "\n" ∷ [])

-- the lines of a Service Discovery message and its entries
abbrev pub message_lines : ℕ → SdValue → List ℕ
message_lines k v = sd_line k v ++ flat_map (entry_line k) v.entries

-- the lines of a reading of a payload that begins at this place of the k-th datagram: the message and its entries, or
-- the fault
abbrev pub reading_lines : ℕ → ℕ → Result SdValue SdError → List ℕ
reading_lines k place (Ok v) = message_lines k v
reading_lines k place (Err e) = fault_line k (fault_name e) (place + fault_place e)

-- the lines of what an item holds for Service Discovery
abbrev pub discovery_lines : ℕ → ℕ → Option (Result SdValue SdError) → List ℕ
discovery_lines k place None = []
discovery_lines k place (Some read) = reading_lines k place read

-- it is a fault
abbrev pub has_sd_fault : Option (Result SdValue SdError) → Bool
has_sd_fault None = false
has_sd_fault (Some read) = is_err read
