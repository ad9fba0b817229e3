-- Which datagrams of recordings are told of, where endpoints may be learned.
use Rattle.std.specs.Prelude.{Bool, true, false, ◌&&◌, if◌then◌else◌, List, [], ◌∷◌, Option, Some, None}
use Rattle.recording.specs.Records.{Item}
use Rattle.recording_packets.specs.Intake.{ArrivalValue, IntakeValue, after_packets, arrivals, nothing_taken}
use Rattle.someip_tables.specs.declared.hashed.Origin.{Origin}
use Rattle.audit_endpoints.specs.Learning.{is_looked_at_or_full, learnt_in}
use Rattle.audit_endpoints.specs.WatchedEndpoints.{Watch, watch_begun}
use Rattle.someipctl_recordings.specs.Gathered.{socket_of}
use Rattle.someipctl_recordings.specs.Wanted.{WantedValue, is_wanted, ports_of}

-- what is known of the packets that came, and of the endpoints that were named, where they are learned
pub record Sought : Type 0 where
  pub intake : IntakeValue
  pub learner : Option Watch

-- ---- what is learned

-- before anything came. At most 65536 endpoints are learned
abbrev pub learner_of : WantedValue → Option Watch
learner_of w = if w.learned then Some (watch_begun (ports_of w.ports) true 65536) else None

-- where a datagram came from and went to; of its numbers that of its packet
abbrev pub origin_of : ArrivalValue → Origin
origin_of a = record { numbers = record { datagram = a.frame; frame = a.frame }; from = socket_of a.datagram.from; to = socket_of a.datagram.to }

-- it is looked at
abbrev pub is_looked_at : Option Watch → ArrivalValue → Bool
is_looked_at None a = true
is_looked_at (Some watch) a = is_looked_at_or_full watch (origin_of a)

-- what it names is learned, whether it is told of or not
abbrev pub learned_from : Option Watch → ArrivalValue → Option Watch
learned_from None a = None
learned_from (Some watch) a = Some (learnt_in (origin_of a) a.datagram.payload watch)

abbrev pub learned_from_all : Option Watch → List ArrivalValue → Option Watch
learned_from_all learner [] = learner
learned_from_all learner (a ∷ others) = learned_from_all (learned_from learner a) others

-- no more may be learned
abbrev pub is_full : Option Watch → Bool
is_full None = false
is_full (Some watch) = watch.told_full

-- ---- what is told of

-- a datagram is looked at by what was learned before it, and asked for
abbrev pub is_sought : WantedValue → Option Watch → ArrivalValue → Bool
is_sought w learner a = is_looked_at learner a && is_wanted w a.datagram

-- exactly these, in order
abbrev pub sought_of : WantedValue → Option Watch → List ArrivalValue → List ArrivalValue
sought_of w learner [] = []
sought_of w learner (a ∷ others) =
    if is_sought w learner a then a ∷ sought_of w (learned_from learner a) others else sought_of w (learned_from learner a) others

-- ---- the items of recordings

abbrev pub nothing_sought : WantedValue → Sought
nothing_sought w = record { intake = nothing_taken w.packets; learner = learner_of w }

-- the datagrams of items that are told of, where this is known before them
abbrev pub sought_from : WantedValue → Sought → List Item → List ArrivalValue
sought_from w s items = sought_of w s.learner (arrivals w.packets s.intake items)

-- what is known after them
abbrev pub after_items : WantedValue → Sought → List Item → Sought
after_items w s items = record {
  intake = after_packets w.packets s.intake items;
  learner = learned_from_all s.learner (arrivals w.packets s.intake items);
}
