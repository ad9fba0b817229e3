-- What a rule says: what the node meets by it, what it gives, and what it replies.
use Rattle.std.specs.Prelude.{List, [], ◌∷◌, map, filter, ◌++◌, Bool, if◌then◌else◌}
use Rattle.std.specs.List.{flat_map, list_any}
use Rattle.std.specs.Ordering.{eq_by_cmp}
use Rattle.sd_wire.specs.contents.Values.{EntryValue}
use Rattle.sd_core.specs.declared.eventgroup.Eventgroup.{Eventgroup}
use Rattle.sd_core.specs.declared.keys.InstanceId.{InstanceId}
use Rattle.sd_core.specs.Keys.{instance_cmp}
use Rattle.someip_node_rules.specs.declared.drops.DropReason.{DropReason}
use Rattle.someip_node_rules.specs.declared.output.Output.{Output}
use Rattle.someip_node_rules.specs.declared.output.Output.TheVariants.{Dropped, Gone, Unsubscribed}
use Rattle.someip_node_rules.specs.histories.Items.{Item}
use Rattle.someip_node_rules.specs.forms.Outputs.{Given, Tells}

-- what a rule says. The replies are entries for the peer whose message of Service Discovery is read
pub record Outcome : Type 0 where
  pub items : List Item
  pub given : List Given
  pub replies : List EntryValue

abbrev pub nothing : Outcome
nothing = record { items = []; given = []; replies = [] }

-- the node meets items, and tells outputs
abbrev pub meets : List Item → List Output → Outcome
meets items told = record { items = items; given = map Tells told; replies = [] }

-- what came is dropped, and the reason told
abbrev pub dropped : DropReason → Outcome
dropped reason = meets [] (Dropped reason ∷ [])

-- ---- known offers that end, and subscriptions with them

-- a list has an instance
abbrev pub has_instance : List InstanceId → InstanceId → Bool
has_instance instances instance = list_any (eq_by_cmp instance_cmp instance) instances

-- the eventgroups of an instance among others
abbrev pub those_of : InstanceId → List Eventgroup → List Eventgroup
those_of instance eventgroups = filter (λ g. eq_by_cmp instance_cmp g.instance instance) eventgroups

-- the end of the client's subscription to each of these eventgroups is told once, in their order
abbrev pub unsubscribed : List Eventgroup → List Output
unsubscribed eventgroups = map Unsubscribed eventgroups

-- what ends of an instance: its known offer, if it is one of these, and then its subscriptions among these
abbrev pub endings_of : List InstanceId → List Eventgroup → InstanceId → List Output
endings_of gone eventgroups instance =
    (if has_instance gone instance then Gone instance ∷ [] else []) ++ unsubscribed (those_of instance eventgroups)

-- what ends of several instances, one after the other
abbrev pub endings : List InstanceId → List InstanceId → List Eventgroup → List Output
endings instances gone eventgroups = flat_map (endings_of gone eventgroups) instances
