-- What clauses see of the program's values.
use Rattle.std.specs.Prelude.{List, [], ℕ, Option, Some, None, option_map}
use Rattle.recording.specs.Packets.{Ipv4Value}
use Rattle.recording.specs.View.{view_datagram}
use Rattle.recording_packets.specs.declared.chosen.ChosenPackets.{ChosenPackets}
use Rattle.recording_packets.specs.declared.intake.Arrival.{Arrival}
use Rattle.recording_packets.specs.declared.intake.Header.{Header}
use Rattle.recording_packets.specs.declared.intake.Taken as declared_taken
use Rattle.recording_packets.specs.declared.intake.Taken.TheVariants.{Nothing, Datagram, Whole}
use Rattle.recording_packets.specs.Chosen.{ChosenValue}
use Rattle.recording_packets.specs.Intake.{ArrivalValue, IntakeValue, carried_whole, given}

-- the lists behind references
abbrev pub view_chosen : ChosenPackets → ChosenValue
view_chosen c = record {
  interfaces = option_map (λ n. n.now) c.interfaces;
  vlans = option_map (λ v. v.now) c.vlans;
  window = c.window_ns;
}

-- an arrival with the bytes of its payload
abbrev pub view_arrival : Arrival → ArrivalValue
view_arrival a = record { frame = a.frame; datagram = view_datagram a.datagram }

-- the datagram that a packet gave: its own, or the one that the fragments made
abbrev pub arrival_of : declared_taken.Taken → IntakeValue → Option ArrivalValue
arrival_of Nothing s = None
arrival_of (Datagram arrival) s = Some (view_arrival arrival)
arrival_of Whole s = s.whole

-- the packet that a fragment is of, without its bytes
abbrev pub packet_under : Header → Ipv4Value
packet_under h = record {
  source = h.source;
  destination = h.destination;
  identification = h.identification;
  fragment = 0;
  protocol = h.protocol;
  payload = [];
}

-- the datagram that the last fragment made whole, if it made one
abbrev pub whole_of : Option Header → Option (List ℕ) → Option ArrivalValue
whole_of None payload = None
whole_of (Some h) payload = given h.frame (carried_whole h.time (packet_under h) payload)
