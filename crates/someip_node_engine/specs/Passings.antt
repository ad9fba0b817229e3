-- What a moment brings: the deadlines that passed with it, and the Offers and Finds that are due.
use Rattle.std.specs.Prelude.{◌≡◌, ℕ, ◌+◌, ◌^◌, ◌<◌, List, [], ◌++◌, map}
use Rattle.std.specs.List.{flat_map}
use Rattle.std.specs.FinMap as finite
use Rattle.someip_tables.specs.Lastings.{expired}
use Rattle.sd_wire.specs.contents.Values.{EntryValue}
use Rattle.sd_core.specs.Endings.{ends_at}
use Rattle.sd_core.specs.Sendings.{due_at}
use Rattle.sd_core.specs.WishTables.{begun_where}
use Rattle.someip_node_rules.specs.declared.config.Config.{Config}
use Rattle.someip_node_rules.specs.declared.output.Output.{Output}
use Rattle.someip_node_rules.specs.declared.output.Output.TheVariants.{TimedOut}
use Rattle.someip_node_engine.specs.declared.passed.Passed.{Passed}
use Rattle.someip_node_rules.specs.rules.Ticking.{find_of}
use Rattle.someip_node_rules.specs.rules.Outcomes.{endings}
use Rattle.someip_node_rules.specs.forms.Setups.{wanted_instances}
use Rattle.someip_node_rules.specs.rules.Offering.{offer_of}
use Rattle.someip_node_rules.specs.histories.Tables.{Tables, passed_instances}

-- the moment brings this
pub record HasPassed (now : ℕ) (t : Tables) (passed : Passed) : Type 0 where
  pub calls : passed.calls.keys ≡ finite.keys (expired now t.client.pending)
  pub gone : passed.gone.items ≡ passed_instances now t
  pub lapsed : passed.lapsed.items ≡ finite.keys (begun_where (ends_at now (passed_instances now t)) t.wishes)
  pub offers : passed.offers.items ≡ finite.keys (due_at now t.offers.up)
  pub finds : passed.finds.items ≡ finite.keys (due_at now t.seek.finding)

-- what is told of it
abbrev pub told_of : Config → Passed → List Output
told_of config passed =
    map (λ call. TimedOut call.message call.session) passed.calls.keys ++ endings (wanted_instances config) passed.gone.items passed.lapsed.items

-- the entries that go out
abbrev pub entries_of : Tables → Passed → List EntryValue
entries_of t passed = flat_map (offer_of t) passed.offers.items ++ flat_map (find_of t) passed.finds.items

-- nothing ends and nothing is due
pub record IsNothing (passed : Passed) : Type 0 where
  pub calls : passed.calls.keys ≡ []
  pub gone : passed.gone.items ≡ []
  pub lapsed : passed.lapsed.items ≡ []
  pub offers : passed.offers.items ≡ []
  pub finds : passed.finds.items ≡ []

-- a moment brings nothing: no call, no known offer and no subscription ends with it, and no Offer and no Find is due
pub record BringsNothing (now : ℕ) (t : Tables) : Type 0 where
  pub calls : finite.keys (expired now t.client.pending) ≡ []
  pub gone : passed_instances now t ≡ []
  pub lapsed : finite.keys (begun_where (ends_at now (passed_instances now t)) t.wishes) ≡ []
  pub offers : finite.keys (due_at now t.offers.up) ≡ []
  pub finds : finite.keys (due_at now t.seek.finding) ≡ []

-- the moment after so many milliseconds is one of the clock and brings something, and none before it does
abbrev pub BringsFirstAfter : ℕ → Tables → Type 0
BringsFirstAfter ms t = (t.clock + ms < 2 ^ 63) × ((fewer : ℕ) → fewer < ms → BringsNothing (t.clock + fewer) t) × (BringsNothing (t.clock + ms) t → ⊥)

-- no moment of the clock brings anything
abbrev pub NeverBrings : Tables → Type 0
NeverBrings t = (now : ℕ) → now < 2 ^ 63 → BringsNothing now t
