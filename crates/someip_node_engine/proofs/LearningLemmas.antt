-- What a client's tables are once it learned from an entry.
use Rattle.std.proofs.Common.{◌≡◌, ℕ, true, List, ◌++◌, map, None, Some, refl}
use Rattle.std.specs.List.{flat_map}
use Rattle.std.proofs.lemmas.List.{append-nil}
use Rattle.std.specs.Ordering.{eq_by_cmp}
use Rattle.std.specs.FinMap as finite
use Rattle.std.specs.declared.net.ipv4_addr.Ipv4Addr.{Ipv4Addr}
use Rattle.std.specs.declared.net.socket_addr.SocketAddrV4.{SocketAddrV4}
use Rattle.sd_wire.specs.contents.Values.{EntryValue}
use Rattle.sd_core.specs.declared.keys.InstanceId.{InstanceId}
use Rattle.sd_core.specs.declared.received.Counted.{Counted}
use Rattle.sd_core.specs.declared.received.ReceivedOffer.{ReceivedOffer}
use Rattle.sd_core.specs.Keys.{instance_cmp}
use Rattle.sd_core.specs.SeekTables.{SeekTable, counted_as, is_stopped, known_at, learned, uncounted}
use Rattle.sd_core.specs.WishTables.{begun_where, ended_where, offered, subscribes}
use Rattle.someip_node_rules.specs.declared.output.Output.{Output}
use Rattle.someip_node_rules.specs.rules.Learning.{known_told, offer, offer_endings, stop_offer, subscribe_to}
use Rattle.someip_node_rules.specs.rules.Outcomes.{unsubscribed}
use Rattle.someip_node_rules.specs.forms.Outputs.{written, Tells}
use Rattle.someip_node_rules.specs.rules.Plans.{does, plain, work}
use Rattle.someip_node_rules.specs.histories.Tables.{Tables}
use Rattle.someip_node_rules.proofs.trails.WrittenLemmas.{told_written}

-- what is told is given as it is
pub told_as_it_is : (outputs : List Output) → flat_map written (map Tells outputs) ≡ outputs
told_as_it_is = told_written

-- an Offer counted
pub offer_counted : (o : ReceivedOffer) (endpoint : SocketAddrV4) (counted : Counted) (t after : Tables) (seek : SeekTable) (outputs told : List Output) (replies sent : List EntryValue)
    → uncounted o t.clock t.seek ≡ None → o.endpoint ≡ Some endpoint
    → counted ≡ counted_as endpoint (known_at t.clock (finite.get t.seek.known o.instance))
    → seek ≡ learned o endpoint t.clock t.seek
    → told ≡ outputs ++ known_told o.instance endpoint counted
    → after ≡ record t { seek = seek; wishes = offered t.clock o.instance o.peer t.wishes }
    → sent ≡ replies ++ flat_map (subscribe_to t) (subscribes t.clock o.instance o.peer t.wishes)
    → work after told sent ≡ does plain (offer o) (work t outputs replies)
offer_counted o endpoint counted t after seek outputs told replies sent counts has is seen tells changes sends =
    rw (counts, has, tells, changes, sends, seen, is, told_written (known_told o.instance endpoint (counted_as endpoint (known_at t.clock (finite.get t.seek.known o.instance))))) refl

-- a StopOffer ended a known offer
pub offer_stopped : (instance : InstanceId) (major : ℕ) (peer : Ipv4Addr) (t after : Tables) (seek : SeekTable) (outputs told : List Output) (replies : List EntryValue)
    → is_stopped instance major peer t.clock t.seek ≡ true
    → seek ≡ record t.seek { known = finite.remove t.seek.known instance }
    → told ≡ outputs ++ offer_endings instance t
    → after ≡ record t { seek = seek; wishes = ended_where (λ eventgroup beginning. eq_by_cmp instance_cmp eventgroup.instance instance) t.wishes }
    → work after told replies ≡ does plain (stop_offer instance major peer) (work t outputs replies)
offer_stopped instance major peer t after seek outputs told replies stopped seen tells changes =
    rw (stopped, tells, changes, seen, told_written (unsubscribed (finite.keys (begun_where (λ eventgroup beginning. eq_by_cmp instance_cmp eventgroup.instance instance) t.wishes))), append-nil replies) refl
