-- What the packets of recordings give, one after the other.
use Rattle.std.specs.Prelude.{ℕ, ◌+◌, ◌-◌, ◌*◌, ◌^◌, min, max, nat_le, ◌==◌, ◌&&◌, ◌||◌, Bool, true, false, List, [], ◌∷◌, ◌++◌, Option, Some, None, is_some, option_map, Result, Ok, Err}
use Rattle.std.specs.Option.{option_to_list}
use Rattle.recording.specs.declared.Skipped.{Skipped}
use Rattle.recording.specs.declared.Time.{Time}
use Rattle.recording.specs.Captured.{RecordValue}
use Rattle.recording.specs.Packets.{CarriedValue, DatagramValue, Ipv4Value, carried_by, datagram, fragment, ipv4_in, is_fragment, nothing}
use Rattle.recording.specs.Records.{Item}
use Rattle.recording_packets.specs.declared.left_out.LeftOut.{LeftOut}
use Rattle.recording_packets.specs.LeftOut.{counted, nothing_left_out, with_copy}
use Rattle.recording_packets.specs.Chosen.{ChosenValue, is_chosen}
use Rattle.recording_packets.specs.copies.Remembered.{Memory, after, is_copy}
use Rattle.recording_packets.specs.fragments.Stores.{Store, nothing_held, offered}
use Rattle.recording_packets.specs.fragments.Totals.{given_up_by}

-- a datagram, and the number of the packet that gave it, counted from 1 over all packets
pub record ArrivalValue : Type 0 where
  pub frame : ℕ
  pub datagram : DatagramValue

-- how many packets came; the clock, in nanoseconds since 1970; what is remembered to tell copies, if they are left out;
-- the fragments; the datagram that the last fragment made whole, if it made one; and the packets that were left out
pub record IntakeValue : Type 0 where
  pub frames : ℕ
  pub clock : ℕ
  pub copies : Option Memory
  pub fragments : Store
  pub whole : Option ArrivalValue
  pub skipped : LeftOut

-- before the first packet
abbrev pub nothing_taken : ChosenValue → IntakeValue
nothing_taken c = record {
  frames = 0;
  clock = 0;
  copies = option_map (λ window. record { window = window; remembered = [] }) c.window;
  fragments = nothing_held;
  whole = None;
  skipped = nothing_left_out;
}

-- what is left out where a recording ends here: the packets, and the fragments
abbrev pub left_out_at : IntakeValue → LeftOut
left_out_at s = record s.skipped {
  fragments_without_rest = (given_up_by s.fragments).without_rest;
  fragments_that_differ = (given_up_by s.fragments).that_differ;
}

-- ---- the clock

-- nanoseconds since 1970, at most 2^64 - 1
abbrev pub nanoseconds_of : Time → ℕ
nanoseconds_of t = min (t.seconds * 1000000000 + t.nanoseconds) (2 ^ 64 - 1)

-- the clock never falls, and a packet without a time leaves it
abbrev pub clock_after : ℕ → Option Time → ℕ
clock_after clock None = clock
clock_after clock (Some t) = max clock (nanoseconds_of t)

-- ---- a packet

-- what is known after a packet, and the datagram that it gives, if it gives one
pub record TakenValue : Type 0 where
  pub after : IntakeValue
  pub arrival : Option ArrivalValue

-- it gives none
abbrev pub nothing_given : IntakeValue → TakenValue
nothing_given s = record { after = s; arrival = None }

-- the datagram that a packet gives, by what it carries
abbrev pub given : ℕ → CarriedValue → Option ArrivalValue
given frame (datagram d) = Some (record { frame = frame; datagram = d })
given frame fragment = None
given frame (nothing skipped) = None

-- what is left out with it
abbrev pub left_out_with : CarriedValue → LeftOut → LeftOut
left_out_with (datagram d) l = l
left_out_with fragment l = l
left_out_with (nothing skipped) l = counted skipped l

-- a packet that carries this, or whose fragments do
abbrev pub taken_as : CarriedValue → IntakeValue → TakenValue
taken_as carried s = record {
  after = record s { skipped = left_out_with carried s.skipped };
  arrival = given s.frames carried;
}

-- what the packet carries whose payload a fragment made whole, if it made it so
abbrev pub carried_whole : Option Time → Ipv4Value → Option (List ℕ) → CarriedValue
carried_whole time p None = fragment
carried_whole time p (Some payload) = carried_by time (record p { fragment = 0; payload = payload })

-- the fragments with one more
abbrev pub with_fragment : Option Time → Ipv4Value → Store → IntakeValue → IntakeValue
with_fragment time p store s = record s {
  fragments = store;
  whole = given s.frames (carried_whole time p store.whole);
}

-- it gives what it makes whole
abbrev pub taken_with : Option Time → Ipv4Value → Store → IntakeValue → TakenValue
taken_with time p store s = taken_as (carried_whole time p store.whole) (with_fragment time p store s)

-- the same of one that may be a fragment itself
abbrev pub taken_carrying : Option Time → Ipv4Value → CarriedValue → IntakeValue → TakenValue
taken_carrying time p fragment s = taken_with time p (offered s.clock p s.fragments) s
taken_carrying time p (datagram d) s = taken_as (datagram d) s
taken_carrying time p (nothing skipped) s = taken_as (nothing skipped) s

-- a packet is a copy of one that is remembered
abbrev pub is_known : ℕ → Ipv4Value → Option Memory → Bool
is_known now p None = false
is_known now p (Some m) = is_copy m.window now p m.remembered

-- and is remembered itself
abbrev pub remembering : ℕ → Ipv4Value → Option Memory → Option Memory
remembering now p None = None
remembering now p (Some m) = Some (record m { remembered = after m.window now p m.remembered })

-- an IPv4 packet, unless it is a copy
abbrev pub taken_unless : Bool → Option Time → Ipv4Value → IntakeValue → TakenValue
taken_unless true time p s = nothing_given (record s { skipped = with_copy s.skipped })
taken_unless false time p s = taken_carrying time p (carried_by time p) s

-- it is a copy if it is known, and is remembered in both cases
abbrev pub taken_packet : Option Time → Ipv4Value → IntakeValue → TakenValue
taken_packet time p s =
    taken_unless (is_known s.clock p s.copies) time p (record s { copies = remembering s.clock p s.copies })

-- a packet that is looked at
abbrev pub taken_from : Option Time → Result Ipv4Value Skipped → IntakeValue → TakenValue
taken_from time (Err skipped) s = taken_as (nothing skipped) s
taken_from time (Ok p) s = taken_packet time p s

-- a packet moves the clock if it is looked at, and changes nothing else if it is not
abbrev pub taken_if : Bool → RecordValue → IntakeValue → TakenValue
taken_if false r s = nothing_given s
taken_if true r s = taken_from r.time (ipv4_in r.link r.bytes) (record s { clock = clock_after s.clock r.time })

-- each packet counts
abbrev pub taken : ChosenValue → IntakeValue → RecordValue → TakenValue
taken c s r = taken_if (is_chosen c r) r (record s { frames = s.frames + 1 })

-- the datagram that the next packet gives, if it gives one
abbrev pub arrived : ChosenValue → IntakeValue → RecordValue → Option ArrivalValue
arrived c s r = (taken c s r).arrival

-- what is known after it
abbrev pub after_packet : ChosenValue → IntakeValue → RecordValue → IntakeValue
after_packet c s r = (taken c s r).after

-- ---- memory

-- the packet is compared with others, or is a fragment of UDP
abbrev pub is_kept : Option Memory → Ipv4Value → Bool
is_kept copies p = is_some copies || (p.protocol == 17 && is_fragment p)

-- the same, where it is an IPv4 packet
abbrev pub is_kept_from : Option Memory → Result Ipv4Value Skipped → Bool
is_kept_from copies (Err skipped) = false
is_kept_from copies (Ok p) = is_kept copies p

-- it is the 2^64th packet, or one that is chosen and kept
abbrev pub wants_memory : ChosenValue → IntakeValue → RecordValue → Bool
wants_memory c s r = nat_le (2 ^ 64) (s.frames + 1) || (is_chosen c r && is_kept_from s.copies (ipv4_in r.link r.bytes))

-- ---- all packets

-- the datagrams of items in order
abbrev pub arrivals : ChosenValue → IntakeValue → List Item → List ArrivalValue
arrivals c s [] = []
arrivals c s (Ok r ∷ items) = option_to_list (arrived c s r) ++ arrivals c (after_packet c s r) items
arrivals c s (Err fault ∷ items) = arrivals c s items

-- what is known after them
abbrev pub after_packets : ChosenValue → IntakeValue → List Item → IntakeValue
after_packets c s [] = s
after_packets c s (Ok r ∷ items) = after_packets c (after_packet c s r) items
after_packets c s (Err fault ∷ items) = after_packets c s items
