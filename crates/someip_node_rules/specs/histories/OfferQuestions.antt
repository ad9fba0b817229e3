-- The question of the instances that a node offers (SOME/IP Service Discovery Protocol, "Startup behavior").
use Rattle.std.specs.Prelude.{ℕ, ◌+◌, if◌then◌else◌, List, map, Option, None, Some}
use Rattle.std.specs.Option.{option_map}
use Rattle.std.specs.Ordering.{eq_by_cmp}
use Rattle.std.specs.FinMap.{FinMap}
use Rattle.someip_tables.specs.Tables.{map_of}
use Rattle.sd_core.specs.declared.keys.InstanceId.{InstanceId}
use Rattle.sd_core.specs.declared.phases.Phases.{Phases}
use Rattle.sd_core.specs.declared.sending.Sending.{Sending}
use Rattle.sd_core.specs.declared.version.Version.{Version}
use Rattle.sd_core.specs.Keys.{instance_cmp}
use Rattle.sd_core.specs.OfferTables.{OfferTable}
use Rattle.sd_core.specs.Sendings.{first_at, sent_if_due}
use Rattle.someip_node_rules.specs.declared.config.Config.{Config}
use Rattle.someip_node_rules.specs.declared.config.OfferedService.{OfferedService}
use Rattle.someip_node_rules.specs.histories.Items.{Item, OfferStopped, Ticked}
use Rattle.someip_node_rules.specs.histories.Questions.{clock_at, latest, table_of}

-- the version of an instance
abbrev pub version_of : OfferedService → Version
version_of service = record { major = service.rules.major; minor = service.minor }

-- the versions of the instances that a node is set up to offer
abbrev pub versions_of : Config → FinMap instance_cmp Version
versions_of config = map_of instance_cmp (map (λ e. (e.0, version_of e.1)) config.offers.entries)

abbrev pub offered_instances : Config → List InstanceId
offered_instances config = map (λ e. e.0) config.offers.entries

-- When an instance that is up sends its next Offer, and how many it sent: the first goes out after the initial delay, and
-- one at each moment at which it is due, until its offer is stopped
abbrev pub offering_by : Phases → Item → List Item → InstanceId → Option Sending → Option Sending
offering_by phases (Ticked ms) before q stood = option_map (sent_if_due phases (clock_at before + ms)) stood
offering_by phases (OfferStopped instance) before q stood = if eq_by_cmp instance_cmp q instance then None else stood
offering_by phases item before q stood = stood

abbrev pub offering_at : Phases → ℕ → List Item → InstanceId → Option Sending
offering_at phases delay = latest (offering_by phases) (λ _. Some (first_at delay))

abbrev pub offers_in : Config → ℕ → List Item → OfferTable
offers_in config delay items = record {
  versions = versions_of config;
  up = table_of (offered_instances config) (offering_at config.common.phases delay items);
}
