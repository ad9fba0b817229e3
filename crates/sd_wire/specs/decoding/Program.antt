-- The plain program: what is read of bytes, or the first of the six faults.
use Rattle.std.specs.Prelude.{ℕ, zero, suc, ◌+◌, ◌%◌, ◌/◌, ◌≡◌, ◌≤◌, true, ◌==◌, if◌then◌else◌, List, [], ◌∷◌, ◌++◌, length, drop, slice_index, slice_range, Option, Some, None, Result, Ok, Err}
use Rattle.std.specs.Net.Addr.{segments_of}
use Rattle.sd_wire.specs.declared.error.SdError.{SdError}
use Rattle.sd_wire.specs.declared.error.SdError.TheVariants.{UnknownEntryType, OptionLength}
use Rattle.sd_wire.specs.declared.endpoint.Ipv4Endpoint.{Ipv4Endpoint}
use Rattle.sd_wire.specs.declared.endpoint.Ipv6Endpoint.{Ipv6Endpoint}
use Rattle.sd_wire.specs.declared.option.SdOption.{SdOption}
use Rattle.sd_wire.specs.declared.option.SdOption.TheVariants.{LoadBalancing, Endpoint4, Multicast4, SdEndpoint4, Endpoint6, Multicast6, SdEndpoint6, Raw}
use Rattle.sd_wire.specs.declared.entry.ServiceKind.{ServiceKind}
use Rattle.sd_wire.specs.declared.entry.ServiceKind.TheVariants.{Find, Offer}
use Rattle.sd_wire.specs.declared.entry.EventgroupKind.{EventgroupKind}
use Rattle.sd_wire.specs.declared.entry.EventgroupKind.TheVariants.{Subscribe, Ack}
use Rattle.sd_wire.specs.declared.entry.ServiceEntry.{ServiceEntry}
use Rattle.sd_wire.specs.declared.entry.EventgroupEntry.{EventgroupEntry}
use Rattle.sd_wire.specs.declared.entry.EntryHead.{EntryHead}
use Rattle.sd_wire.specs.declared.entry.EntryHead.TheVariants.{Service, Eventgroup}
use Rattle.sd_wire.specs.layout.Fields.{field16, field24, field32, flags_in}
use Rattle.sd_wire.specs.layout.Layout.{entries_len, options_place, entries_in, options_in, option_len}
use Rattle.sd_wire.specs.decoding.Faults.{header_fault, is_entry_type, has_len, option_size}
use Rattle.sd_wire.specs.contents.Values.{ReadValue, good, bad_run, SdValue}
use Rattle.sd_wire.specs.layout.Spelling.{Runs}
use Rattle.sd_wire.specs.decoding.Reading.{has_bad_run, selected}

-- ---- the entries

-- the first of n entries from place p on whose type is none of the four
abbrev pub type_fault : ℕ → ℕ → List ℕ → Option SdError
type_fault zero p bytes = None
type_fault (suc n) p bytes = if is_entry_type (slice_index bytes 0) then type_fault n (p + 16) (drop 16 bytes) else Some (UnknownEntryType p)

abbrev pub runs_in : List ℕ → Runs
runs_in bytes = record {
  index1 = slice_index bytes 1;
  index2 = slice_index bytes 2;
  count1 = slice_index bytes 3 / 16;
  count2 = slice_index bytes 3 % 16;
}

abbrev pub service_entry_in : ServiceKind → List ℕ → ServiceEntry
service_entry_in kind bytes = record {
  kind = kind;
  service = field16 bytes 4;
  instance = field16 bytes 6;
  major = slice_index bytes 8;
  ttl = field24 bytes 9;
  minor = field32 bytes 12;
}

abbrev pub eventgroup_entry_in : EventgroupKind → List ℕ → EventgroupEntry
eventgroup_entry_in kind bytes = record {
  kind = kind;
  service = field16 bytes 4;
  instance = field16 bytes 6;
  major = slice_index bytes 8;
  ttl = field24 bytes 9;
  counter = field16 bytes 12 % 16;
  eventgroup = field16 bytes 14;
}

-- the entry at the front, by its type
abbrev pub head_in : List ℕ → EntryHead
head_in bytes =
    if slice_index bytes 0 == 0x00 then Service (service_entry_in Find bytes)
    else (if slice_index bytes 0 == 0x01 then Service (service_entry_in Offer bytes)
    else (if slice_index bytes 0 == 0x06 then Eventgroup (eventgroup_entry_in Subscribe bytes)
    else Eventgroup (eventgroup_entry_in Ack bytes)))

abbrev pub entry_of : List SdOption → Runs → EntryHead → ReadValue
entry_of pool runs head =
    if has_bad_run pool runs then bad_run head
    else good (record { head = head; first = selected pool runs.index1 runs.count1; second = selected pool runs.index2 runs.count2 })

abbrev pub entry_in : List SdOption → List ℕ → ReadValue
entry_in pool bytes = entry_of pool (runs_in bytes) (head_in bytes)

-- n entries
abbrev pub entry_list : ℕ → List SdOption → List ℕ → List ReadValue
entry_list zero pool bytes = []
entry_list (suc n) pool bytes = entry_in pool bytes ∷ entry_list n pool (drop 16 bytes)

-- ---- the options

-- an option of so many bytes is at the front
pub record HasOption (bytes : List ℕ) (n : ℕ) : Type 0 where
  pub size : n ≡ option_len bytes + 3
  pub some : 1 ≤ option_len bytes
  pub within : n ≤ length bytes
  pub len : has_len (slice_index bytes 2) (option_len bytes) ≡ true

abbrev pub ipv4_in : List ℕ → Ipv4Endpoint
ipv4_in bytes = record {
  socket = record { ip = record { octets = slice_range bytes 4 8 }; port = field16 bytes 10 };
  protocol = record { 0 = slice_index bytes 9 };
}

abbrev pub ipv6_in : List ℕ → Ipv6Endpoint
ipv6_in bytes = record {
  address = record { segments = segments_of (slice_range bytes 4 20) };
  port = field16 bytes 22;
  protocol = record { 0 = slice_index bytes 21 };
}

-- the option at the front, by its type
abbrev pub option_by : ℕ → List ℕ → SdOption
option_by kind bytes =
    if kind == 0x02 then LoadBalancing (field16 bytes 4) (field16 bytes 6)
    else (if kind == 0x04 then Endpoint4 (ipv4_in bytes)
    else (if kind == 0x14 then Multicast4 (ipv4_in bytes)
    else (if kind == 0x24 then SdEndpoint4 (ipv4_in bytes)
    else (if kind == 0x06 then Endpoint6 (ipv6_in bytes)
    else (if kind == 0x16 then Multicast6 (ipv6_in bytes)
    else (if kind == 0x26 then SdEndpoint6 (ipv6_in bytes)
    else Raw (record { kind = kind; bytes = slice_range bytes 3 (option_len bytes + 3) })))))))

abbrev pub option_in : List ℕ → SdOption
option_in bytes = option_by (slice_index bytes 2) bytes

-- these options, and then those that were read
abbrev pub and_then : List SdOption → Result (List SdOption) SdError → Result (List SdOption) SdError
and_then front (Ok others) = Ok (front ++ others)
and_then front (Err e) = Err e

abbrev pub options_after : (ℕ → List ℕ → Result (List SdOption) SdError) → ℕ → List ℕ → Option ℕ → Result (List SdOption) SdError
options_after others p bytes None = Err (OptionLength p)
options_after others p bytes (Some size) = and_then (option_in bytes ∷ []) (others (p + size) (drop size bytes))

-- the options from place p on, or the place at which none begins, in n steps at most. Each option has four bytes
-- at least, so n steps are enough for n bytes.
unfoldable pub options_within : ℕ → ℕ → List ℕ → Result (List SdOption) SdError
options_within zero p bytes = Ok []
options_within (suc n) p [] = Ok []
options_within (suc n) p (b ∷ bytes) = options_after (options_within n) p (b ∷ bytes) (option_size (b ∷ bytes))

abbrev pub options_from : ℕ → List ℕ → Result (List SdOption) SdError
options_from p bytes = options_within (length bytes) p bytes

-- ---- the message

abbrev pub value_in : List ℕ → List SdOption → SdValue
value_in bytes pool = record {
  flags = flags_in (slice_index bytes 0);
  entries = entry_list (entries_len bytes / 16) pool (entries_in bytes);
}

-- the value, if the pool is read
abbrev pub value_by : List ℕ → Result (List SdOption) SdError → Result SdValue SdError
value_by bytes (Ok pool) = Ok (value_in bytes pool)
value_by bytes (Err e) = Err e

-- a fault, or what is read where there is none
abbrev pub unless : Option SdError → Result SdValue SdError → Result SdValue SdError
unless (Some e) read = Err e
unless None read = read

-- what is read: the header, then the types of the entries, then the options are judged
abbrev pub reading : List ℕ → Result SdValue SdError
reading bytes =
    unless (header_fault bytes)
    (unless (type_fault (entries_len bytes / 16) 8 (entries_in bytes))
    (value_by bytes (options_from (options_place bytes) (options_in bytes))))
