-- The rules of a node's clock: what ends, and what is due (SOME/IP Service Discovery Protocol, "Startup behavior").
use Rattle.std.specs.Prelude.{ℕ, ◌+◌, nat_lt, if◌then◌else◌, List, [], ◌∷◌, ◌++◌, map, Option, None, Some}
use Rattle.std.specs.List.{flat_map}
use Rattle.std.specs.Option.{option_map_or}
use Rattle.std.specs.FinMap as finite
use Rattle.someip_tables.specs.Lastings.{expired}
use Rattle.sd_wire.specs.contents.Values.{EntryValue}
use Rattle.sd_core.specs.declared.keys.InstanceId.{InstanceId}
use Rattle.sd_core.specs.Endings.{ends_at}
use Rattle.sd_core.specs.Sendings.{due_at}
use Rattle.sd_core.specs.WishTables.{begun_where}
use Rattle.someip_node_rules.specs.declared.error.NodeError.{NodeError}
use Rattle.someip_node_rules.specs.declared.error.NodeError.TheVariants.{ClockPast}
use Rattle.someip_node_rules.specs.declared.output.Output.{Output}
use Rattle.someip_node_rules.specs.declared.output.Output.TheVariants.{TimedOut}
use Rattle.someip_node_rules.specs.forms.Entries.{find_entry}
use Rattle.someip_node_rules.specs.histories.Items.{Ticked}
use Rattle.someip_node_rules.specs.rules.Outcomes.{Outcome, endings, meets}
use Rattle.someip_node_rules.specs.forms.Setups.{wanted_as, wanted_instances}
use Rattle.someip_node_rules.specs.histories.Tables.{Tables, passed_instances}
use Rattle.someip_node_rules.specs.rules.Offering.{offer_of}

-- the clock would go past its bound
abbrev pub tick_refusal : ℕ → Tables → Option NodeError
tick_refusal ms t = if nat_lt 0x7FFF_FFFF_FFFF_FFFF (t.clock + ms) then Some ClockPast else None

-- the calls whose time has passed, by rising Message ID and session
abbrev pub timed_out : ℕ → Tables → List Output
timed_out now t = map (λ call. TimedOut call.message call.session) (finite.keys (expired now t.client.pending))

-- the known offers and the subscriptions whose time has passed, by rising instance
abbrev pub lapsed : ℕ → Tables → List Output
lapsed now t =
    endings (wanted_instances t.config) (passed_instances now t)
    (finite.keys (begun_where (ends_at now (passed_instances now t)) t.wishes))

-- the clock goes on: what has passed ends
abbrev pub ticks : ℕ → Tables → Outcome
ticks ms t = meets (Ticked ms ∷ []) (timed_out (t.clock + ms) t ++ lapsed (t.clock + ms) t)

-- the Find of a wanted instance
abbrev pub find_of : Tables → InstanceId → List EntryValue
find_of t instance = option_map_or (λ want. find_entry instance want.major ∷ []) (wanted_as t.config instance) []

-- the Offers, and then the Finds, that are due at a moment, by rising instance
abbrev pub due_entries : ℕ → Tables → List EntryValue
due_entries now t = flat_map (offer_of t) (finite.keys (due_at now t.offers.up)) ++ flat_map (find_of t) (finite.keys (due_at now t.seek.finding))
