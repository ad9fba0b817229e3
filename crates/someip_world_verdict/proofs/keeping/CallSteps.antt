-- A step opens just the calls that what it says names in the word of the opener.
use Rattle.std.proofs.Common.{◌≡◌, ℕ, true, false, map, Ok, refl, ap}
use Rattle.std.specs.FinMap as finite
use Rattle.std.specs.List.{AllByRecursion, Contains, flat_map}
use Rattle.someip_node_laws.specs.Fitting.{FitsWire}
use Rattle.someip_node_rules.specs.forms.GoodConfigs.{is_good}
use Rattle.someip_node_rules.specs.histories.History.{History}
use Rattle.someip_node_rules.specs.rules.Inputs as inputs
use Rattle.someip_node_rules.specs.rules.Inputs.{Input}
use Rattle.someip_node_rules.specs.rules.Plans.{Work}
use Rattle.someip_node_rules.specs.steps.Steps.{step}
use Rattle.someip_node_rules.specs.trails.Trails.{given_by, trail_of}
use Rattle.someip_world_rules.specs.exchanges.Namings.{named_in}
use Rattle.someip_world_rules.specs.exchanges.Openings.{OpensBy}
use Rattle.someip_world_rules.specs.declared.exchanges.exchange_key.CallExchange.{CallExchange}
use Rattle.someip_world_rules.specs.declared.exchanges.exchange_key.ExchangeKey.TheVariants as keys
use Rattle.someip_world_rules.specs.declared.exchanges.naming.Naming.{Naming}
use Rattle.someip_world_rules.specs.declared.exchanges.naming.Side.TheVariants.{Answerer, Opener}
use Rattle.someip_world_rules.proofs.about_exchanges.openings.CallOpenings.{call_named_opens, call_opens_named, opener_of}
use Rattle.someip_world_rules.proofs.about_exchanges.openings.EventOpenings.{next_key, publish_names, publish_to_names, publishes_offered, publishes_to_offered}
use Rattle.someip_world_rules.proofs.about_exchanges.openings.OpeningItems.{call_key_by_call, is_sending}
use Rattle.someip_world_rules.proofs.about_exchanges.openings.RuleInputs.{is_call}
use Rattle.someip_world_rules.proofs.about_exchanges.openings.SentNames.{answer_names, given_among, named_among, quiet_names}
use Rattle.someip_world_verdict.specs.Booking.{Openings, opened_by_all}
use Rattle.someip_world_verdict.specs.Contents.{said_by_outputs}
use Rattle.someip_world_verdict.proofs.reading.OutputLemmas.{step_named, step_names}
use Rattle.someip_world_verdict.proofs.keeping.SaidSteps.{calls_by, next_same}
use Rattle.someip_world_verdict.proofs.keeping.TakenSteps.{IsNext}

module _ (h : History) (k : CallExchange) where
  -- the call is named by its opener in what a step gives
  abbrev IsNamed : Input → Type 0
  IsNamed input = Contains (flat_map named_in (given_by (trail_of h input))) (opener_of (keys.Call k))

  -- where the application sends nothing, no call is
  quiet_no_call : (input : Input) → is_sending input ≡ false → IsNamed input → OpensBy h input (keys.Call k)
  quiet_no_call input quiet among =
      let g = named_among h input (opener_of (keys.Call k)) among in
      let side : Opener ≡ Answerer = (quiet_names h input quiet g.0 (given_among h input g.0 g.1) (opener_of (keys.Call k)) g.2).answers k refl in
      absurd cc

  module _ (done : Work History) (well : is_good h.config ≡ true) where
    -- what is so named is opened
    named_opens : (input : Input) → step h input ≡ Ok done → IsNamed input → OpensBy h input (keys.Call k)
    named_opens (inputs.Call kind instance method payload) did among = call_named_opens h kind instance method payload (keys.Call k) among
    named_opens (inputs.Answer token reply payload) did among =
        let g = named_among h (inputs.Answer token reply payload) (opener_of (keys.Call k)) among in
        let side : Opener ≡ Answerer =
        answer_names h token reply payload g.0 (given_among h (inputs.Answer token reply payload) g.0 g.1) (opener_of (keys.Call k)) g.2 in
        absurd cc
    named_opens (inputs.Publish instance event payload) did among =
        let offer = publishes_offered h instance event payload done did in
        let g = named_among h (inputs.Publish instance event payload) (opener_of (keys.Call k)) among in
        let name = publish_names h instance offer.0 offer.1 event payload done did g.0 g.1 (opener_of (keys.Call k)) g.2 in
        let key : keys.Call k ≡ next_key h instance offer.0 offer.1 event payload = ap (λ (x : Naming). x.key) name in
        absurd cc
    named_opens (inputs.PublishTo instance eventgroup endpoint event payload) did among =
        let offer = publishes_to_offered h instance eventgroup endpoint event payload done did in
        let g = named_among h (inputs.PublishTo instance eventgroup endpoint event payload) (opener_of (keys.Call k)) among in
        let name = publish_to_names h instance offer.0 offer.1 event payload eventgroup endpoint done did g.0 g.1 (opener_of (keys.Call k)) g.2 in
        let key : keys.Call k ≡ next_key h instance offer.0 offer.1 event payload = ap (λ (x : Naming). x.key) name in
        absurd cc
    named_opens (inputs.Datagram from to bytes) did among = quiet_no_call (inputs.Datagram from to bytes) refl among
    named_opens (inputs.Tick ms) did among = quiet_no_call (inputs.Tick ms) refl among
    named_opens (inputs.Subscribe eventgroup) did among = quiet_no_call (inputs.Subscribe eventgroup) refl among
    named_opens (inputs.Unsubscribe eventgroup) did among = quiet_no_call (inputs.Unsubscribe eventgroup) refl among
    named_opens (inputs.StopOffer instance) did among = quiet_no_call (inputs.StopOffer instance) refl among

  -- and what is opened is so named
  opens_named : (input : Input) → is_call input ≡ true → OpensBy h input (keys.Call k) → IsNamed input
  opens_named (inputs.Call kind instance method payload) is opens = call_opens_named h kind instance method payload (keys.Call k) opens
  opens_named input is opens = absurd cc

  module _ (input : Input) (done : Work History) (did : step h input ≡ Ok done) (well : is_good h.config ≡ true)
      (fits : AllByRecursion FitsWire (given_by (trail_of h input))) (n : ℕ) (o : Openings) where
    -- the step that opened a call last, after this one
    pub calls_step : IsNext n (OpensBy h input (keys.Call k)) (finite.get o.taken.calls k) (finite.get (opened_by_all n (said_by_outputs done.outputs) o).taken.calls k)
    calls_step =
        next_same n (Contains (map (λ s. s.naming) (said_by_outputs done.outputs)) (opener_of (keys.Call k))) (OpensBy h input (keys.Call k))
        (finite.get o.taken.calls k) (finite.get (opened_by_all n (said_by_outputs done.outputs) o).taken.calls k)
        (λ among. named_opens done well input did (step_names h input done did well fits (opener_of (keys.Call k)) among))
        (λ opens. step_named h input done did well fits (opener_of (keys.Call k)) (opens_named input (call_key_by_call h input k opens) opens))
        (calls_by n k (said_by_outputs done.outputs) o)
