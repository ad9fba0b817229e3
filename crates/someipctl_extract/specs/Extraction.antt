-- Which packets are extracted from recordings.
use Rattle.std.specs.Prelude.{Bool, true, false, if◌then◌else◌, List, [], ◌∷◌, ◌++◌, Option, Some, None, option_map, unwrap_or, Ok, Err}
use Rattle.std.specs.List.{flat_map}
use Rattle.recording.specs.Captured.{RecordValue}
use Rattle.recording.specs.Records.{Item}
use Rattle.recording_packets.specs.declared.fragments.PacketKey.{PacketKey}
use Rattle.recording_packets.specs.Intake.{ArrivalValue, after_packet, arrived}
use Rattle.recording_writing.specs.Blocks.{links_after, number_of, put_of}
use Rattle.recording_writing.specs.declared.Put.{Put}
use Rattle.recording_writing.specs.declared.Put.TheVariants.{Exact, TooLong, Untimed}
use Rattle.audit_endpoints.specs.WatchedEndpoints.{Watch}
use Rattle.someipctl_recordings.specs.Sought.{Sought, after_items, is_sought, nothing_sought}
use Rattle.someipctl_recordings.specs.Wanted.{WantedValue}
use Rattle.someipctl_extract.specs.declared.output.Losses.{Losses}
use Rattle.someipctl_extract.specs.declared.output.Output.{Output}
use Rattle.someipctl_extract.specs.Kept.{PartValue, fragment_key, kept_after, packets_under}

-- ---- the packets of a datagram

-- of a datagram that a packet gives: it alone; where it has a fragment of this IPv4 packet, those with the fragments that
-- were held of that, and it; or they are too many
abbrev pub packets_at : Option PacketKey → List PartValue → RecordValue → Option (List RecordValue)
packets_at None kept r = Some (r ∷ [])
packets_at (Some key) kept r = option_map (λ ks. ks ++ r ∷ []) (packets_under key kept)

-- ---- the datagrams that are asked for

-- what is known of the packets that came, and those with the fragments that are held
pub record Extraction : Type 0 where
  pub sought : Sought
  pub kept : List PartValue

-- before anything came
abbrev pub nothing_taken : WantedValue → Extraction
nothing_taken w = record { sought = nothing_sought w; kept = [] }

-- there is a datagram, and it is asked for
abbrev pub is_given : WantedValue → Option Watch → Option ArrivalValue → Bool
is_given w learner None = false
is_given w learner (Some a) = is_sought w learner a

-- the packet gives a datagram that is asked for
abbrev pub gives : WantedValue → Sought → RecordValue → Bool
gives w s r = is_given w s.learner (arrived w.packets s.intake r)

-- the packets of that datagram
abbrev pub datagrams_at : WantedValue → Extraction → RecordValue → List (Option (List RecordValue))
datagrams_at w e r = if gives w e.sought r then packets_at (fragment_key r) e.kept r ∷ [] else []

-- what is known after a packet
abbrev pub after_record : WantedValue → Extraction → RecordValue → Extraction
after_record w e r = record {
  sought = after_items w e.sought (Ok r ∷ []);
  kept = kept_after e.sought.intake.fragments.parts (after_packet w.packets e.sought.intake r).fragments.parts (fragment_key r) r e.kept;
}

-- the packets of each datagram of items that is asked for, in the order in which the datagrams are whole
abbrev pub datagrams_from : WantedValue → Extraction → List Item → List (Option (List RecordValue))
datagrams_from w e [] = []
datagrams_from w e (Ok r ∷ items) = datagrams_at w e r ++ datagrams_from w (after_record w e r) items
datagrams_from w e (Err fault ∷ items) = datagrams_from w e items

-- what is known after items
abbrev pub after_records : WantedValue → Extraction → List Item → Extraction
after_records w e [] = e
after_records w e (Ok r ∷ items) = after_records w (after_record w e r) items
after_records w e (Err fault ∷ items) = after_records w e items

-- ---- all packets

-- those of datagrams, one after the other; of one of which they are too many none
abbrev pub packets_of : List (Option (List RecordValue)) → List RecordValue
packets_of ds = flat_map (λ d. unwrap_or d []) ds

-- ---- what is lost of them in a file

abbrev pub nothing_lost : Losses
nothing_lost = record { long_packets = false; times = false; datagrams = false }

-- with what was written of a packet
abbrev pub with_put : Losses → Put → Losses
with_put losses Exact = losses
with_put losses Untimed = record losses { times = true }
with_put losses TooLong = record losses { long_packets = true }

-- an output is the link types that have an interface, and what is lost so far
abbrev pub nothing_written : Output
nothing_written = record { packets = []; losses = nothing_lost }

-- after a packet
abbrev pub with_packet : Output → RecordValue → Output
with_packet o k = record {
  packets = links_after o.packets k;
  losses = with_put o.losses (put_of (number_of o.packets k.link) k);
}

abbrev pub with_packets : Output → List RecordValue → Output
with_packets o [] = o
with_packets o (k ∷ ks) = with_packets (with_packet o k) ks

-- after a datagram, which is lost where its packets are too many
abbrev pub with_datagram : Output → Option (List RecordValue) → Output
with_datagram o None = record o { losses = record o.losses { datagrams = true } }
with_datagram o (Some ks) = with_packets o ks

abbrev pub with_datagrams : Output → List (Option (List RecordValue)) → Output
with_datagrams o [] = o
with_datagrams o (d ∷ ds) = with_datagrams (with_datagram o d) ds
