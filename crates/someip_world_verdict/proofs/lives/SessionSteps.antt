-- The session that is kept of an event is that of its last publication.
use Rattle.std.proofs.Common.{◌≡◌, ◌≢◌, ℕ, suc, Bool, true, false, cond, List, [], ◌∷◌, Option, None, Some, Ok, refl, sym, ap, subst, ◌∙◌}
use Rattle.std.specs.BTreeMap.{is_at}
use Rattle.std.specs.FinMap as finite
use Rattle.std.specs.FinMap.{get-insert}
use Rattle.std.specs.List.{AllZip}
use Rattle.std.specs.Map.{lookup}
use Rattle.std.specs.Option.{option_map}
use Rattle.std.specs.Ordering.{eq_by_cmp}
use Rattle.std.specs.declared.net.socket_addr.SocketAddrV4.{SocketAddrV4}
use Rattle.someip_tables.proofs.Entries.{own_test, same_by_test}
use Rattle.sd_core.specs.Keys.{instance_cmp}
use Rattle.sd_core.specs.declared.keys.InstanceId.{InstanceId}
use Rattle.someip_rpc.specs.Events.{event_of}
use Rattle.someip_rpc.specs.IdOrder.{events_total, exact_events}
use Rattle.someip_rpc.specs.Ids.{event_cmp}
use Rattle.someip_tables.specs.Sessions.{next_session, session_after_last}
use Rattle.someip_rpc.specs.Sessions.{session_after}
use Rattle.someip_rpc.specs.declared.ids.EventId.{EventId}
use Rattle.someip_node_rules.specs.histories.CallQuestions.{times_published}
use Rattle.someip_node_rules.specs.trails.Copies.{IsCopy, IsCopyOfOffer}
use Rattle.someip_node_rules.specs.histories.History.{History}
use Rattle.someip_node_rules.specs.rules.Inputs as inputs
use Rattle.someip_node_rules.specs.rules.Inputs.{Input}
use Rattle.someip_node_rules.specs.rules.Plans.{Work}
use Rattle.someip_node_rules.specs.forms.Setups.{offered_as}
use Rattle.someip_node_rules.specs.steps.Steps.{step}
use Rattle.someip_node_rules.specs.declared.config.Config.{Config}
use Rattle.someip_node_rules.specs.declared.config.OfferedService.{OfferedService}
use Rattle.someip_node_laws.proofs.rules.PublishedLemmas.{is_published, is_published_to}
use Rattle.someip_world_schedule.specs.declared.step.Step.{Step}
use Rattle.someip_world_schedule.specs.declared.step.Step.TheVariants as steps
use Rattle.someip_world_rules.specs.declared.line.Line.{Line}
use Rattle.someip_world_rules.proofs.about_exchanges.openings.EventCounts.{other_counts, publish_counts, publish_counts_no_other, publish_to_counts, publish_to_counts_no_other}
use Rattle.someip_world_rules.proofs.about_exchanges.openings.RuleInputs.{is_publication}
use Rattle.someip_world_verdict.specs.Books.{LifeKept, NoteKept, note_at}
use Rattle.someip_world_verdict.specs.Booking.{arrived, arrived_with, clock_after, life_then, publication_by, publication_of, published_session}
use Rattle.someip_world_verdict.specs.declared.stream.Stream.{Stream}
use Rattle.someip_world_verdict.proofs.StepInputs.{IsInputOf}

-- ---- what a copy offers

-- an offer is a copy of another, under the same instance
abbrev CopiesOffer : InstanceId × OfferedService → InstanceId × OfferedService → Type 0
CopiesOffer a b = (b.0 ≡ a.0) × IsCopyOfOffer a.1 b.1

-- what a copy offers as an instance is a copy of what is offered as that
copied_offer : (instance : InstanceId) (service : OfferedService) (xs ys : List (InstanceId × OfferedService)) → AllZip CopiesOffer xs ys
    → lookup (is_at (instance_cmp instance)) ys ≡ Some service → (own : OfferedService) × (lookup (is_at (instance_cmp instance)) xs ≡ Some own) × IsCopyOfOffer own service
copied_offer instance service xs [] all is = absurd cc
copied_offer instance service [] (y ∷ ys) all is = absurd all
copied_offer instance service (x ∷ xs) (y ∷ ys) all is =
    cases (is_at (instance_cmp instance) x.0) (copied_offer instance service xs ys all.1)
    (ap (λ k. cond (is_at (instance_cmp instance) k) (Some y.1) (lookup (is_at (instance_cmp instance)) ys)) (sym all.0.0) ∙ is)
  where
    cases : (b : Bool) → (lookup (is_at (instance_cmp instance)) ys ≡ Some service → (own : OfferedService) × (lookup (is_at (instance_cmp instance)) xs ≡ Some own) × IsCopyOfOffer own service)
        → cond b (Some y.1) (lookup (is_at (instance_cmp instance)) ys) ≡ Some service
        → (own : OfferedService) × (cond b (Some x.1) (lookup (is_at (instance_cmp instance)) xs) ≡ Some own) × IsCopyOfOffer own service
    cases true rest e = let same : y.1 ≡ service = cc in (x.1, refl, subst (IsCopyOfOffer x.1) same all.0.1)
    cases false rest e = rest e

-- ---- publications

-- what comes leaves the sessions
arrived_sessions : (stream : Option Stream) (payload : Option ℕ) (life : LifeKept) → (arrived stream payload life).sessions ≡ life.sessions
arrived_sessions None payload life = refl
arrived_sessions (Some stream) None life = refl
arrived_sessions (Some stream) (Some payload) life = refl

arrived_with_sessions : (note : Option NoteKept) (life : LifeKept) → (arrived_with note life).sessions ≡ life.sessions
arrived_with_sessions None life = refl
arrived_with_sessions (Some note) life = arrived_sessions note.stream note.payload life

-- the sessions that are kept are those after the publications of a history
abbrev pub CountsSessions : History → LifeKept → Type 0
CountsSessions h life = (e : EventId) → session_after_last (finite.get life.sessions e) ≡ session_after (suc (times_published h.items e)) 0

module _ (config : Config) (h : History) (copy : IsCopy config h.config) (life : LifeKept) (counts : CountsSessions h life) (done : Work History) where
  -- an event was published once more, and each other one as often as before
  record IsOneMore (event : EventId) : Type 0 where
    pub more : times_published done.state.items event ≡ suc (times_published h.items event)
    pub others : (other : EventId) → other ≢ event → times_published done.state.items other ≡ times_published h.items other

  -- its session follows
  session_follows : (event : EventId) → IsOneMore event
      → (e : EventId) → session_after_last (finite.get (finite.insert life.sessions event (session_after_last (finite.get life.sessions event))) e) ≡ session_after (suc (times_published done.state.items e)) 0
  session_follows event one e =
      ap session_after_last (get-insert events_total life.sessions event (session_after_last (finite.get life.sessions event)) e) ∙ cases (eq_by_cmp event_cmp e event) refl
    where
      cases : (b : Bool) → eq_by_cmp event_cmp e event ≡ b
          → session_after_last (cond b (Some (session_after_last (finite.get life.sessions event))) (finite.get life.sessions e)) ≡ session_after (suc (times_published done.state.items e)) 0
      cases true is =
          ap next_session (counts event) ∙ ap (λ k. session_after (suc k) 0) (sym one.more)
          ∙ ap (λ x. session_after (suc (times_published done.state.items x)) 0) (sym (same_by_test exact_events e event is))
      cases false is =
          counts e
          ∙ ap (λ k. session_after (suc k) 0) (sym (one.others e (λ same. let own : eq_by_cmp event_cmp e event ≡ true = ap (λ x. eq_by_cmp event_cmp x event) same ∙ own_test events_total event in absurd cc)))

  -- so it does for a publication of an instance
  publication_counts : (instance : InstanceId) (service : OfferedService) (event : ℕ) → offered_as h.config instance ≡ Some service → IsOneMore (event_of service.rules event)
      → CountsSessions done.state (published_session (publication_of config life instance event) life)
  publication_counts instance service event offered one =
      let own = copied_offer instance service config.offers.entries h.config.offers.entries copy.1 offered in
      let of = own.2 in
      subst (λ o. CountsSessions done.state (published_session (option_map (λ x. publication_by life x event) o) life)) (sym own.1)
      (session_follows (event_of own.0.rules event) (subst (λ r. IsOneMore (event_of r event)) of.1.0 one))

  module _ (input : Input) (did : step h input ≡ Ok done) where
    -- one to all
    by_publish : (instance : InstanceId) (event : ℕ) (payload : List ℕ) → input ≡ inputs.Publish instance event payload
        → CountsSessions done.state (published_session (publication_of config life instance event) life)
    by_publish instance event payload is =
        let so : step h (inputs.Publish instance event payload) ≡ Ok done = ap (step h) (sym is) ∙ did in
        let p = is_published h instance event payload done so in
        publication_counts instance p.service event p.offered (record {
          more = publish_counts h instance p.service p.offered event payload done so;
          others = publish_counts_no_other h instance p.service p.offered event payload done so;
        })

    -- and one to an endpoint
    by_publish_to : (instance : InstanceId) (group : ℕ) (to : SocketAddrV4) (event : ℕ) (payload : List ℕ) → input ≡ inputs.PublishTo instance group to event payload
        → CountsSessions done.state (published_session (publication_of config life instance event) life)
    by_publish_to instance group to event payload is =
        let so : step h (inputs.PublishTo instance group to event payload) ≡ Ok done = ap (step h) (sym is) ∙ did in
        let p = is_published_to h instance group to event payload done so in
        publication_counts instance p.service event p.offered (record {
          more = publish_to_counts h instance p.service p.offered event payload done group to so;
          others = publish_to_counts_no_other h instance p.service p.offered event payload done group to so;
        })

    -- no event was published
    counts_stay : (l : LifeKept) → l.sessions ≡ life.sessions → is_publication input ≡ false → CountsSessions done.state l
    counts_stay l same other e =
        ap (λ m. session_after_last (finite.get m e)) same ∙ counts e ∙ ap (λ k. session_after (suc k) 0) (sym (other_counts h input done other did e))

    -- the sessions that are kept after a step are those after its publications
    pub sessions_on : (notes : List NoteKept) (lines : List Line) (s : Step) → IsInputOf h lines input s → CountsSessions done.state (life_then config notes life s)
    sessions_on notes lines (steps.Tick node ms) is = counts_stay (record life { clock = clock_after life.clock ms }) refl (ap is_publication is.0)
    sessions_on notes lines (steps.Deliver number node) is =
        counts_stay (arrived_with (note_at notes number) life) (arrived_with_sessions (note_at notes number) life) (ap is_publication is.2)
    sessions_on notes lines (steps.Call node kind instance method payload) is = counts_stay life refl (ap is_publication is)
    sessions_on notes lines (steps.Answer node token reply payload) is = counts_stay life refl (ap is_publication is)
    sessions_on notes lines (steps.Publish node instance event payload) is = by_publish instance event payload is
    sessions_on notes lines (steps.PublishTo node group to event payload) is = by_publish_to group.instance group.id to event payload is
    sessions_on notes lines (steps.Subscribe node group) is = counts_stay life refl (ap is_publication is)
    sessions_on notes lines (steps.Unsubscribe node group) is = counts_stay life refl (ap is_publication is)
    sessions_on notes lines (steps.StopOffer node instance) is = counts_stay life refl (ap is_publication is)
    sessions_on notes lines (steps.Restart node delay) is = absurd is
    sessions_on notes lines (steps.Inject node port to payload) is = absurd is
