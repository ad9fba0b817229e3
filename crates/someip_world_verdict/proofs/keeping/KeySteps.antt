-- What is kept of keys and of counters after a step that a node does.
use Rattle.std.proofs.Common.{◌≡◌, ℕ, suc, ◌+◌, true, List, Option, None, Some, Ok, refl, sym, ap, subst, ◌∙◌}
use Rattle.std.specs.BTreeMap as tree
use Rattle.std.specs.FinMap as finite
use Rattle.std.specs.List.{AllByRecursion}
use Rattle.std.specs.Option.{option_map}
use Rattle.sd_core.specs.Keys.{instance_cmp}
use Rattle.sd_core.specs.declared.eventgroup.Eventgroup.{Eventgroup}
use Rattle.someip_node_rules.specs.trails.Copies.{IsCopy}
use Rattle.someip_node_laws.specs.Fitting.{FitsWire}
use Rattle.someip_node_rules.specs.forms.GoodConfigs.{is_good}
use Rattle.someip_node_rules.specs.histories.History.{History}
use Rattle.someip_node_rules.specs.rules.Inputs.{Input}
use Rattle.someip_node_rules.specs.trails.Meanings.{GivenBy}
use Rattle.someip_node_rules.specs.rules.Plans.{Work}
use Rattle.someip_node_rules.specs.steps.Steps.{step}
use Rattle.someip_node_rules.specs.trails.Trails.{given_by, trail_of}
use Rattle.someip_node_rules.specs.histories.WishQuestions.{course_at}
use Rattle.someip_node_rules.specs.declared.config.Config.{Config}
use Rattle.someip_node_rules.specs.declared.config.OfferedService.{OfferedService}
use Rattle.someip_node_rules.proofs.trails.MeaningLemmas.{all_given}
use Rattle.someip_node_rules.proofs.lists.MemberLemmas.{all_weaker}
use Rattle.someip_world_schedule.specs.declared.step.Step.{Step}
use Rattle.someip_world_schedule.specs.declared.step.Step.TheVariants as steps
use Rattle.someip_world_setup.specs.declared.setup_node.SetupNode.{SetupNode}
use Rattle.someip_world_rules.specs.Announced.{AllFits}
use Rattle.someip_world_rules.specs.Deeds.{Takes}
use Rattle.someip_world_rules.specs.Runs.{told_lines}
use Rattle.someip_world_rules.specs.Turns.{Turn}
use Rattle.someip_world_rules.proofs.LiarLemmas.{taken_at as node_takes}
use Rattle.someip_world_rules.specs.exchanges.Beginnings.{last_counter}
use Rattle.someip_world_rules.specs.exchanges.Openings.{Opened, OpensBy}
use Rattle.someip_world_rules.specs.declared.exchanges.exchange_key.ExchangeKey.{ExchangeKey}
use Rattle.someip_world_rules.specs.declared.exchanges.exchange_key.ExchangeKey.TheVariants as keys
use Rattle.someip_world_verdict.specs.Books.{LifeKept, NoteKept, PayloadNumbers, TakenKeys, taken_at}
use Rattle.someip_world_verdict.specs.Booking.{Openings, life_then, opened_by_all, openings_after, publication_by, publication_in, published_key}
use Rattle.someip_world_verdict.specs.Contents.{said_by_outputs}
use Rattle.someip_world_verdict.specs.declared.said.Said.{Said}
use Rattle.someip_world_verdict.proofs.keeping.CallSteps.{calls_step}
use Rattle.someip_world_verdict.proofs.keeping.CounterSteps.{counters_on, counters_step, said_told, subscriptions_step}
use Rattle.someip_world_verdict.proofs.keeping.EventSteps.{events_step}
use Rattle.someip_world_verdict.proofs.Kept.{KeepsLife, KeepsTaken}
use Rattle.someip_world_verdict.proofs.keeping.SaidSteps.{events_by}
use Rattle.someip_world_verdict.proofs.keeping.TakenSteps.{IsNext, next_known}

-- a publication takes no key of a call or of a subscription
record TakesEvent (n : ℕ) (config : Config) (life : LifeKept) (taken : TakenKeys) (s : Step) : Type 0 where
  calls : (published_key n (publication_in config life s) taken).calls ≡ taken.calls
  subscriptions : (published_key n (publication_in config life s) taken).subscriptions ≡ taken.subscriptions

module _ (n : ℕ) (config : Config) (life : LifeKept) (taken : TakenKeys) where
  -- whether the instance is offered or not
  if_offered : (event : ℕ) (o : Option OfferedService)
      → ((published_key n (option_map (λ service. publication_by life service event) o) taken).calls ≡ taken.calls)
      × ((published_key n (option_map (λ service. publication_by life service event) o) taken).subscriptions ≡ taken.subscriptions)
  if_offered event None = (refl, refl)
  if_offered event (Some service) = (refl, refl)

  -- so at each step
  takes_event : (s : Step) → TakesEvent n config life taken s
  takes_event (steps.Publish node instance event payload) =
      let both = if_offered event (tree.get instance_cmp config.offers instance) in record { calls = both.0; subscriptions = both.1 }
  takes_event (steps.PublishTo node group to event payload) =
      let both = if_offered event (tree.get instance_cmp config.offers group.instance) in record { calls = both.0; subscriptions = both.1 }
  takes_event s = record { calls = refl; subscriptions = refl }

module _ (nodes : List SetupNode) (configs : List Config) (ss : List Step) (n : ℕ) (s : Step) (t : Turn nodes configs ss n s)
    (fits : AllFits nodes configs ss) (well : is_good t.history.config ≡ true) (input : Input) (is : t.deed ≡ Takes input)
    (done : Work History) (did : step t.history input ≡ Ok done) (config : Config) (copy : IsCopy config t.history.config)
    (payloads : PayloadNumbers) (notes : List NoteKept) (taken : TakenKeys) (life : LifeKept)
    (kept : KeepsLife nodes configs ss payloads n t.place t.history life) where
  -- what is kept before anything is said
  abbrev before_saying : Openings
  before_saying = record { taken = published_key n (publication_in config life s) taken; counters = (life_then config notes life s).counters }

  abbrev said : List Said
  said = said_by_outputs done.outputs

  -- what is kept then
  after_said : openings_after config notes taken life n s (told_lines (n + 1) t.place (Ok done.outputs)) ≡ opened_by_all n said before_saying
  after_said = ap (λ xs. opened_by_all n xs before_saying) (said_told (n + 1) t.place done.outputs)

  -- all that is given in the step fits
  all_fit : AllByRecursion FitsWire (given_by (trail_of t.history input))
  all_fit =
      all_weaker (GivenBy t.history input) FitsWire (λ given by. fits n s t input given is by) (given_by (trail_of t.history input)) (all_given t.history input)

  -- the last counters before anything is said
  counters_before : (q : Eventgroup) → finite.get before_saying.counters q ≡ last_counter (course_at t.history.items q).begun
  counters_before q =
      ap (λ m. finite.get m q) (counters_on config notes life t.history t.before.lines input s (node_takes nodes configs ss n s t input is).1) ∙ kept.counters q

  -- the last counter of each eventgroup
  pub counters_kept : (q : Eventgroup)
      → finite.get (openings_after config notes taken life n s (told_lines (n + 1) t.place (Ok done.outputs))).counters q ≡ last_counter (course_at done.state.items q).begun
  counters_kept q = ap (λ (o : Openings). finite.get o.counters q) after_said ∙ counters_step t.history input done did well all_fit n before_saying counters_before q

  -- what the input opens is opened in the step
  opened_here : (key : ExchangeKey) → OpensBy t.history input key → Opened nodes configs ss n key
  opened_here key by = record { does = record { step = s; turn = t; input = input; takes = is; done = done; happened = did }; by = by }

  -- the entry of each key
  entry_next : (key : ExchangeKey) → IsNext n (OpensBy t.history input key) (taken_at taken key) (taken_at (opened_by_all n said before_saying).taken key)
  entry_next (keys.Call k) =
      subst (λ m. IsNext n (OpensBy t.history input (keys.Call k)) (finite.get m k) (finite.get (opened_by_all n said before_saying).taken.calls k)) (takes_event n config life taken s).calls
      (calls_step t.history k input done did well all_fit n before_saying)
  entry_next (keys.Event k) =
      subst (λ m. IsNext n (OpensBy t.history input (keys.Event k)) (finite.get taken.events k) (finite.get m k)) (sym (events_by n said before_saying))
      (events_step n k taken t.history t.before.lines input config copy life kept.sessions done did well s (node_takes nodes configs ss n s t input is).1)
  entry_next (keys.Subscription k) =
      subst (λ m. IsNext n (OpensBy t.history input (keys.Subscription k)) (finite.get m k) (finite.get (opened_by_all n said before_saying).taken.subscriptions k))
      (takes_event n config life taken s).subscriptions
      (subscriptions_step t.history input done did well all_fit n before_saying counters_before k)

  -- the step that opened each key last
  pub taken_kept : KeepsTaken nodes configs ss n taken
      → KeepsTaken nodes configs ss (suc n) (openings_after config notes taken life n s (told_lines (n + 1) t.place (Ok done.outputs))).taken
  taken_kept knows =
      subst (λ (o : Openings). KeepsTaken nodes configs ss (suc n) o.taken) (sym after_said)
      (λ key. next_known nodes configs ss n s t input is key (opened_here key) (taken_at taken key) (taken_at (opened_by_all n said before_saying).taken key)
      (entry_next key) (knows key))
