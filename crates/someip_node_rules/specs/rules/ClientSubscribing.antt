-- The rules of the eventgroups that a client wishes (SOME/IP Service Discovery Protocol, "Publish/Subscribe").
use Rattle.std.specs.Prelude.{ℕ, if◌then◌else◌, List, [], ◌∷◌, Option, None, Some}
use Rattle.std.specs.Option.{option_map_or, option_and_then}
use Rattle.std.specs.FinMap as finite
use Rattle.sd_wire.specs.contents.Values.{EntryValue}
use Rattle.sd_core.specs.declared.eventgroup.Eventgroup.{Eventgroup}
use Rattle.sd_core.specs.declared.wish.Beginning.{Beginning}
use Rattle.sd_core.specs.Wishes.{sent_at_once, standing, wish_of}
use Rattle.someip_node_rules.specs.declared.error.NodeError.{NodeError}
use Rattle.someip_node_rules.specs.declared.error.NodeError.TheVariants.{NotWanted}
use Rattle.someip_node_rules.specs.declared.output.Output.TheVariants.{Unsubscribed}
use Rattle.someip_node_rules.specs.forms.Entries.{subscribe_entry}
use Rattle.someip_node_rules.specs.histories.Items.{Unwished, Wished}
use Rattle.someip_node_rules.specs.rules.Learning.{subscribe_to}
use Rattle.someip_node_rules.specs.rules.Outcomes.{Outcome, meets}
use Rattle.someip_node_rules.specs.forms.Setups.{client_endpoint, is_wanted_eventgroup, wanted_as}
use Rattle.someip_node_rules.specs.histories.Tables.{Tables, known_peer}

-- why a wish is refused, or taking it back: the node does not want the eventgroup
abbrev pub wishing_refusal : Eventgroup → Tables → Option NodeError
wishing_refusal eventgroup t = if is_wanted_eventgroup t.config eventgroup then None else Some NotWanted

-- the Subscribe of an eventgroup with a counter, if it has one
abbrev pub wish_entries_by : Tables → Eventgroup → Option ℕ → List EntryValue
wish_entries_by t eventgroup counter = option_map_or (λ c. subscribe_to t (record { eventgroup = eventgroup; counter = c })) counter []

-- the Subscribe that a wish sends at once, if an offer of the instance is known
abbrev pub wish_entries : Eventgroup → Tables → List EntryValue
wish_entries eventgroup t =
    wish_entries_by t eventgroup (sent_at_once t.clock (known_peer t eventgroup.instance) (wish_of (finite.get t.wishes eventgroup)))

-- the StopSubscribe of an eventgroup, with the counter of its subscription
abbrev pub stop_subscribe_of : Tables → Eventgroup → ℕ → List EntryValue
stop_subscribe_of t eventgroup counter =
    option_map_or (λ want. subscribe_entry (client_endpoint t.config) want.major 0 eventgroup counter ∷ []) (wanted_as t.config eventgroup.instance) []

-- an eventgroup is wished
abbrev pub wishes : Eventgroup → Tables → Outcome
wishes eventgroup t = meets (Wished eventgroup ∷ []) []

-- the subscription that stands
abbrev pub standing_of : Eventgroup → Tables → Option Beginning
standing_of eventgroup t = option_and_then (λ wish. standing t.clock wish.stage) (finite.get t.wishes eventgroup)

-- a wish is taken back, and the subscription that stands ends
abbrev pub takes_back : Eventgroup → Option Beginning → Tables → Outcome
takes_back eventgroup None t = meets (Unwished eventgroup ∷ []) []
takes_back eventgroup (Some beginning) t = meets (Unwished eventgroup ∷ []) (Unsubscribed eventgroup ∷ [])
