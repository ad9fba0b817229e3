-- What is kept of keys of subscriptions, and of their last counters, after a step.
use Rattle.std.proofs.Common.{◌≡◌, ℕ, true, List, [], ◌∷◌, ◌++◌, Option, None, Some, Ok, refl, sym, ap, subst, ◌∙◌}
use Rattle.std.specs.FinMap as finite
use Rattle.std.specs.List.{AllByRecursion, Contains, cons_option, flat_map}
use Rattle.std.specs.Option.{option_map_or}
use Rattle.sd_core.specs.declared.eventgroup.Eventgroup.{Eventgroup}
use Rattle.someip_node_laws.specs.Fitting.{FitsWire}
use Rattle.someip_node_rules.specs.forms.GoodConfigs.{is_good}
use Rattle.someip_node_rules.specs.histories.History.{History}
use Rattle.someip_node_rules.specs.rules.Inputs.{Input}
use Rattle.someip_node_rules.specs.histories.Items as items
use Rattle.someip_node_rules.specs.histories.Items.{Item}
use Rattle.someip_node_rules.specs.rules.Plans.{Work}
use Rattle.someip_node_rules.specs.steps.Steps.{step}
use Rattle.someip_node_rules.specs.trails.Trails.{given_by, trail_of}
use Rattle.someip_node_rules.specs.histories.WishQuestions.{course_at}
use Rattle.someip_node_rules.specs.declared.config.Config.{Config}
use Rattle.someip_node_rules.specs.declared.output.Output.{Output}
use Rattle.someip_world_schedule.specs.declared.step.Step.{Step}
use Rattle.someip_world_schedule.specs.declared.step.Step.TheVariants as steps
use Rattle.someip_world_rules.specs.Datagrams.{SentDatagram, datagrams_in, sent_with}
use Rattle.someip_world_rules.specs.Deeds.{Takes, deed_of}
use Rattle.someip_world_rules.specs.Runs.{told_lines}
use Rattle.someip_world_rules.specs.declared.line.Line.{Line}
use Rattle.someip_world_rules.specs.declared.step_fault.StepFault.TheVariants.{BadDelay}
use Rattle.someip_world_rules.specs.exchanges.Beginnings.{about, begun_after, counter_after, last_counter, subscribes_in}
use Rattle.someip_world_rules.specs.exchanges.Namings.{of_subscription}
use Rattle.someip_world_rules.specs.exchanges.Openings.{Opens, OpensBy}
use Rattle.someip_world_rules.specs.declared.exchanges.exchange_key.ExchangeKey.TheVariants as keys
use Rattle.someip_world_rules.specs.declared.exchanges.exchange_key.SubscriptionExchange.{SubscriptionExchange}
use Rattle.someip_world_rules.proofs.about_exchanges.beginnings.SubscribesBegin.{all_begin, counted_begin, only_begin}
use Rattle.someip_world_verdict.specs.Books.{LifeKept, NoteKept, note_at}
use Rattle.someip_world_verdict.specs.Booking.{Openings, arrived, arrived_with, life_then, opened_by_all, publication_of, published_session, said_by_lines}
use Rattle.someip_world_verdict.specs.Booking as booking
use Rattle.someip_world_verdict.specs.Contents.{said_by_outputs, said_in}
use Rattle.someip_world_verdict.specs.declared.stream.Stream.{Stream}
use Rattle.someip_world_verdict.proofs.reading.OutputLemmas.{step_subscribes}
use Rattle.someip_world_verdict.proofs.reading.OwnSubscribes.{address_kept, has_ttls, own_said}
use Rattle.someip_world_verdict.proofs.StepInputs.{restart_takes_none}
use Rattle.someip_world_verdict.proofs.keeping.SaidSteps.{next_same}
use Rattle.someip_world_verdict.proofs.keeping.SubscribeSteps.{Follows, IsBegun, all_follow, of_key}
use Rattle.someip_world_verdict.proofs.keeping.TakenSteps.{IsNext}

-- ---- the lines of a step

-- what they say is what the outputs do
pub said_told : (index place : ℕ) (outputs : List Output) → said_by_lines (told_lines index place (Ok outputs)) ≡ said_by_outputs outputs
said_told index place [] = refl
said_told index place (o ∷ outputs) = cases (sent_with o) (said_told index place outputs)
  where
    cases : (d : Option SentDatagram) → said_by_lines (told_lines index place (Ok outputs)) ≡ said_by_outputs outputs
        → flat_map said_in (cons_option d (datagrams_in (told_lines index place (Ok outputs)))) ≡ option_map_or said_in d [] ++ said_by_outputs outputs
    cases None rest = rest
    cases (Some d) rest = ap (λ said. said_in d ++ said) rest

-- ---- the counters before

-- an arrival leaves the counters
arrived_counters : (stream : Option Stream) (payload : Option ℕ) (life : LifeKept) → (arrived stream payload life).counters ≡ life.counters
arrived_counters (Some stream) (Some payload) life = refl
arrived_counters (Some stream) None life = refl
arrived_counters None payload life = refl

-- so does a delivery
arrived_with_counters : (o : Option NoteKept) (life : LifeKept) → (arrived_with o life).counters ≡ life.counters
arrived_with_counters None life = refl
arrived_with_counters (Some note) life = arrived_counters note.stream note.payload life

-- and a publication
published_counters : (o : Option booking.Publication) (life : LifeKept) → (published_session o life).counters ≡ life.counters
published_counters None life = refl
published_counters (Some p) life = refl

-- an input leaves the counters, before anything is said
pub counters_on : (config : Config) (notes : List NoteKept) (life : LifeKept) (h : History) (lines : List Line) (input : Input) (s : Step)
    → deed_of h lines s ≡ Ok (Takes input) → (life_then config notes life s).counters ≡ life.counters
counters_on config notes life h lines input (steps.Tick node ms) is = refl
counters_on config notes life h lines input (steps.Deliver number node) is = arrived_with_counters (note_at notes number) life
counters_on config notes life h lines input (steps.Call node kind instance method payload) is = refl
counters_on config notes life h lines input (steps.Answer node token reply payload) is = refl
counters_on config notes life h lines input (steps.Publish node instance event payload) is = published_counters (publication_of config life instance event) life
counters_on config notes life h lines input (steps.PublishTo node group to event payload) is = published_counters (publication_of config life group.instance event) life
counters_on config notes life h lines input (steps.Subscribe node group) is = refl
counters_on config notes life h lines input (steps.Unsubscribe node group) is = refl
counters_on config notes life h lines input (steps.StopOffer node instance) is = refl
counters_on config notes life h lines input (steps.Restart node delay) is = absurd (restart_takes_none _ delay input BadDelay is)
counters_on config notes life h lines input (steps.Inject node port to payload) is = absurd cc

-- ---- what the client of a subscription is

module _ (h : History) (input : Input) where
  -- a subscription is opened by an item for the address of the node
  client_is : (at : History) (item : Item) (k : SubscriptionExchange) → Opens at item (keys.Subscription k) → k.client ≡ at.config.address
  client_is at (items.Called call peer session) k opens = absurd cc
  client_is at (items.Published event) k opens = let is = opens.is in absurd cc
  client_is at item k opens =
      let is = opens.4 in
      let same : k ≡ record { client = at.config.address; server = opens.1; eventgroup = opens.0; counter = opens.2 } = cc in
      ap (λ (x : SubscriptionExchange). x.client) same

  -- that of what a node opens is the node
  opens_client : (k : SubscriptionExchange) → OpensBy h input (keys.Subscription k) → k.client ≡ h.config.address
  opens_client k o = client_is o.done.before.state o.item k o.opens ∙ address_kept h input o.done o.among

  -- ---- a step

  module _ (done : Work History) (did : step h input ≡ Ok done) (well : is_good h.config ≡ true) (fits : AllByRecursion FitsWire (given_by (trail_of h input)))
      (n : ℕ) (o : Openings) where
    -- what is kept after the step follows the Subscribes that are given in it
    follows_step : (k : SubscriptionExchange) → Follows n h.config.address k (flat_map subscribes_in (given_by (trail_of h input))) o (opened_by_all n (said_by_outputs done.outputs) o)
    follows_step k =
        subst (λ sent. Follows n h.config.address k sent o (opened_by_all n (said_by_outputs done.outputs) o)) (step_subscribes h input done did well fits)
        (all_follow n h.config.address k (said_by_outputs done.outputs) (own_said h input well fits done did) o)

    module _ (before : (q : Eventgroup) → finite.get o.counters q ≡ last_counter (course_at h.items q).begun) where
      -- the last counter of an eventgroup after it
      pub counters_step : (q : Eventgroup) → finite.get (opened_by_all n (said_by_outputs done.outputs) o).counters q ≡ last_counter (course_at done.state.items q).begun
      counters_step q =
          (follows_step (record { client = h.config.address; server = h.config.address; eventgroup = q; counter = 0 })).counted
          ∙ ap (λ last. counter_after last (about q (flat_map subscribes_in (given_by (trail_of h input))))) (before q)
          ∙ sym (counted_begin h input q done (has_ttls h.config well) did)

      module _ (k : SubscriptionExchange) where
        -- what is begun
        abbrev Begun : Type 0
        Begun = IsBegun n h.config.address k (finite.get o.counters k.eventgroup) (flat_map subscribes_in (given_by (trail_of h input)))

        -- what is begun, the step opens
        to_opens : Begun → OpensBy h input (keys.Subscription k)
        to_opens begun =
            subst (λ client. OpensBy h input (of_subscription client k.server k.eventgroup k.counter)) (sym begun.0)
            (all_begin h input k.eventgroup done (has_ttls h.config well) did k.server k.counter
            (subst (λ last. Contains (begun_after last (about k.eventgroup (flat_map subscribes_in (given_by (trail_of h input))))) (of_key k)) (before k.eventgroup) begun.1))

        -- and what it opens is begun
        from_opens : OpensBy h input (keys.Subscription k) → Begun
        from_opens opens =
            let client = opens_client k opens in (
              client,
              subst (λ last. Contains (begun_after last (about k.eventgroup (flat_map subscribes_in (given_by (trail_of h input))))) (of_key k)) (sym (before k.eventgroup))
                  (only_begin h input k.eventgroup done (has_ttls h.config well) did k.server k.counter
                  (subst (λ c. OpensBy h input (of_subscription c k.server k.eventgroup k.counter)) client opens)),
            )

        -- and the step that opened a subscription last
        pub subscriptions_step : IsNext n (OpensBy h input (keys.Subscription k)) (finite.get o.taken.subscriptions k) (finite.get (opened_by_all n (said_by_outputs done.outputs) o).taken.subscriptions k)
        subscriptions_step =
            next_same n Begun (OpensBy h input (keys.Subscription k)) (finite.get o.taken.subscriptions k) (finite.get (opened_by_all n (said_by_outputs done.outputs) o).taken.subscriptions k)
            to_opens from_opens (follows_step k).taken
