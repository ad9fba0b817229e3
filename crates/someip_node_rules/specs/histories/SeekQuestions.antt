-- The questions of the instances that a node wants (SOME/IP Service Discovery Protocol, "Startup behavior", "Offer Service
-- entry", "Stop Offer Service entry", "Detection of reboots").
use Rattle.std.specs.Prelude.{ℕ, ◌+◌, not, if◌then◌else◌, List, [], ◌∷◌, map, Option, None, Some}
use Rattle.std.specs.List.{flat_map}
use Rattle.std.specs.Option.{option_and_then}
use Rattle.std.specs.Ordering.{eq_by_cmp}
use Rattle.std.specs.FinMap.{FinMap}
use Rattle.std.specs.declared.net.socket_addr.SocketAddrV4.{SocketAddrV4}
use Rattle.someip_tables.specs.declared.lasting.Lasting.{Lasting}
use Rattle.someip_tables.specs.Deadlines.{deadline_after}
use Rattle.someip_tables.specs.Lastings.{unless_passed}
use Rattle.someip_tables.specs.Retained.{kept_if}
use Rattle.someip_tables.specs.Tables.{map_of}
use Rattle.sd_core.specs.declared.keys.InstanceId.{InstanceId}
use Rattle.sd_core.specs.declared.phases.Phases.{Phases}
use Rattle.sd_core.specs.declared.received.KnownOffer.{KnownOffer}
use Rattle.sd_core.specs.declared.received.ReceivedOffer.{ReceivedOffer}
use Rattle.sd_core.specs.declared.sending.Sending.{Sending}
use Rattle.sd_core.specs.Keys.{instance_cmp}
use Rattle.sd_core.specs.SeekTables.{SeekTable, stands_by}
use Rattle.sd_core.specs.Sendings.{after_find, first_at}
use Rattle.someip_node_rules.specs.declared.config.Config.{Config}
use Rattle.someip_node_rules.specs.histories.Items.{Item, OfferCounted, OfferWithdrawn, PeerRebooted, Ticked}
use Rattle.someip_node_rules.specs.histories.Questions.{clock_at, latest, table_of}
use Rattle.someip_node_rules.specs.forms.Setups.{wanted_instances}

-- the major versions in which a node is set up to want instances
abbrev pub majors_of : Config → FinMap instance_cmp ℕ
majors_of config = map_of instance_cmp (map (λ e. (e.0, e.1.major)) config.wants.entries)

-- ---- the offers that are known

-- the instance of an Offer that counted
abbrev pub instance_counted : Item → List InstanceId
instance_counted (OfferCounted offer endpoint) = offer.instance ∷ []
instance_counted item = []

-- an Offer that counts, as it is known from a moment on
abbrev pub offer_from : ReceivedOffer → SocketAddrV4 → ℕ → Lasting KnownOffer
offer_from offer endpoint now = record {
  value = record { peer = offer.peer; endpoint = endpoint };
  until = deadline_after now offer.ttl;
}

-- The offer that is known of an instance: the latest that counted, unless its time passed, a StopOffer of it came or the
-- peer that made it began again after that
abbrev pub known_by : Item → List Item → InstanceId → Option (Lasting KnownOffer) → Option (Lasting KnownOffer)
known_by (OfferCounted offer endpoint) before q stood =
    if eq_by_cmp instance_cmp q offer.instance then Some (offer_from offer endpoint (clock_at before)) else stood
known_by (Ticked ms) before q stood = unless_passed (clock_at before + ms) stood
known_by (OfferWithdrawn instance) before q stood = if eq_by_cmp instance_cmp q instance then None else stood
known_by (PeerRebooted peer) before q stood = kept_if (λ lasting. not (stands_by peer (clock_at before) lasting)) stood
known_by item before q stood = stood

abbrev pub known_offer_at : List Item → InstanceId → Option (Lasting KnownOffer)
known_offer_at = latest known_by (λ _. None)

-- ---- the instances that are searched for

-- When an instance that is searched for sends its next Find, and how many it sent: the first goes out after the initial
-- delay, and one at each moment at which it is due, until the repetitions end or an Offer of the instance counts
abbrev pub finding_by : Phases → Item → List Item → InstanceId → Option Sending → Option Sending
finding_by phases (Ticked ms) before q stood = option_and_then (after_find phases (clock_at before + ms)) stood
finding_by phases (OfferCounted offer endpoint) before q stood = if eq_by_cmp instance_cmp q offer.instance then None else stood
finding_by phases item before q stood = stood

abbrev pub finding_at : Phases → ℕ → List Item → InstanceId → Option Sending
finding_at phases delay = latest (finding_by phases) (λ _. Some (first_at delay))

abbrev pub known_in : List Item → FinMap instance_cmp (Lasting KnownOffer)
known_in items = table_of (flat_map instance_counted items) (known_offer_at items)

abbrev pub seek_in : Config → ℕ → List Item → SeekTable
seek_in config delay items = record {
  wanted = majors_of config;
  known = known_in items;
  finding = table_of (wanted_instances config) (finding_at config.common.phases delay items);
}
