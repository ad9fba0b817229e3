-- How often an event was published after a step: once more by its publication, and as often by any other input.
use Rattle.std.proofs.Common.{◌≡◌, ◌≢◌, ◌⊎◌, inl, inr, ℕ, suc, Bool, true, false, if◌then◌else◌, List, [], ◌∷◌, ◌++◌, filter, length, Some, Ok, refl, ap, subst, ◌∙◌}
use Rattle.std.specs.List.{AllByRecursion, flat_map}
use Rattle.std.specs.Ordering.{eq_by_cmp}
use Rattle.std.specs.declared.net.socket_addr.SocketAddrV4.{SocketAddrV4}
use Rattle.someip_tables.proofs.Entries.{own_test, same_by_test}
use Rattle.sd_core.specs.declared.keys.InstanceId.{InstanceId}
use Rattle.someip_rpc.specs.Events.{event_of}
use Rattle.someip_rpc.specs.IdOrder.{events_total, exact_events}
use Rattle.someip_rpc.specs.Ids.{event_cmp}
use Rattle.someip_rpc.specs.declared.ids.EventId.{EventId}
use Rattle.someip_node_rules.specs.declared.config.OfferedService.{OfferedService}
use Rattle.someip_node_rules.specs.histories.CallQuestions.{event_published, times_published}
use Rattle.someip_node_rules.specs.histories.History.{History, met}
use Rattle.someip_node_rules.specs.rules.Inputs as inputs
use Rattle.someip_node_rules.specs.rules.Inputs.{Input}
use Rattle.someip_node_rules.specs.histories.Items as items
use Rattle.someip_node_rules.specs.histories.Items.{Item}
use Rattle.someip_node_rules.specs.trails.Meetings.{MetBy}
use Rattle.someip_node_rules.specs.rules.Plans.{Rule, Work}
use Rattle.someip_node_rules.specs.rules.Plans as plans
use Rattle.someip_node_rules.specs.forms.Setups.{offered_as}
use Rattle.someip_node_rules.specs.steps.Steps.{step}
use Rattle.someip_node_rules.specs.trails.Trails.{after, met_by, trail_of}
use Rattle.someip_node_rules.proofs.trails.MeetingLemmas.{all_met, state_met}
use Rattle.someip_node_rules.proofs.lists.MemberLemmas.{all_weaker}
use Rattle.someip_node_laws.proofs.rules.PublishedLemmas.{is_published, is_published_to}
use Rattle.someip_world_rules.proofs.about_exchanges.openings.RuleInputs.{AskedBy, done_asked, is_publication}

-- ---- one item

-- a publication counts for its own event
pub counts_once_more : (before : List Item) (event : EventId) → times_published (items.Published event ∷ before) event ≡ suc (times_published before event)
counts_once_more before event =
    ap (λ (b : Bool). length (if b then event ∷ filter (eq_by_cmp event_cmp event) (flat_map event_published before) else filter (eq_by_cmp event_cmp event) (flat_map event_published before)))
    (own_test events_total event)

-- and for no other
pub counts_no_other : (before : List Item) (event other : EventId) → other ≢ event → times_published (items.Published event ∷ before) other ≡ times_published before other
counts_no_other before event other differs = cases (eq_by_cmp event_cmp other event) refl
  where
    cases : (b : Bool) → eq_by_cmp event_cmp other event ≡ b
        → length (if b then event ∷ filter (eq_by_cmp event_cmp other) (flat_map event_published before) else filter (eq_by_cmp event_cmp other) (flat_map event_published before))
        ≡ times_published before other
    cases true is = absurd (differs (same_by_test exact_events other event is))
    cases false is = refl

-- ---- publications

-- the event that an instance publishes
module _ (h : History) (instance : InstanceId) (service : OfferedService) (offered : offered_as h.config instance ≡ Some service) (event : ℕ) (payload : List ℕ) (done : Work History) where
  abbrev own : EventId
  own = event_of service.rules event

  -- the history has met the publication, where it went to all
  pub publish_noted : step h (inputs.Publish instance event payload) ≡ Ok done → done.state ≡ met h (items.Published own)
  publish_noted is =
      let p = is_published h instance event payload done is in
      let there = p.offered in
      let same : p.service ≡ service = cc in
      p.noted ∙ ap (λ (s : OfferedService). met h (items.Published (event_of s.rules event))) same

  -- and where it went to one endpoint
  pub publish_to_noted : (eventgroup : ℕ) (endpoint : SocketAddrV4) → step h (inputs.PublishTo instance eventgroup endpoint event payload) ≡ Ok done
      → done.state ≡ met h (items.Published own)
  publish_to_noted eventgroup endpoint is =
      let p = is_published_to h instance eventgroup endpoint event payload done is in
      let there = p.offered in
      let same : p.service ≡ service = cc in
      p.noted ∙ ap (λ (s : OfferedService). met h (items.Published (event_of s.rules event))) same

  -- the event was published once more
  pub publish_counts : step h (inputs.Publish instance event payload) ≡ Ok done → times_published done.state.items own ≡ suc (times_published h.items own)
  publish_counts is = ap (λ (s : History). times_published s.items own) (publish_noted is) ∙ counts_once_more h.items own

  pub publish_to_counts : (eventgroup : ℕ) (endpoint : SocketAddrV4) → step h (inputs.PublishTo instance eventgroup endpoint event payload) ≡ Ok done
      → times_published done.state.items own ≡ suc (times_published h.items own)
  publish_to_counts eventgroup endpoint is = ap (λ (s : History). times_published s.items own) (publish_to_noted eventgroup endpoint is) ∙ counts_once_more h.items own

  -- and any other event as often as before
  pub publish_counts_no_other : step h (inputs.Publish instance event payload) ≡ Ok done → (other : EventId) → other ≢ own
      → times_published done.state.items other ≡ times_published h.items other
  publish_counts_no_other is other differs = ap (λ (s : History). times_published s.items other) (publish_noted is) ∙ counts_no_other h.items own other differs

  pub publish_to_counts_no_other : (eventgroup : ℕ) (endpoint : SocketAddrV4) → step h (inputs.PublishTo instance eventgroup endpoint event payload) ≡ Ok done
      → (other : EventId) → other ≢ own → times_published done.state.items other ≡ times_published h.items other
  publish_to_counts_no_other eventgroup endpoint is other differs =
      ap (λ (s : History). times_published s.items other) (publish_to_noted eventgroup endpoint is) ∙ counts_no_other h.items own other differs

-- ---- other inputs

-- an item is no publication
abbrev IsNoPublication : Item → Type 0
IsNoPublication item = event_published item ≡ []

counts_stay : (h : History) (met_items : List Item) (event : EventId) → AllByRecursion IsNoPublication met_items
    → times_published (after h met_items).items event ≡ times_published h.items event
counts_stay h [] event all = refl
counts_stay h (item ∷ rest) event all =
    counts_stay (met h item) rest event all.1
    ∙ ap (λ (own : List EventId). length (filter (eq_by_cmp event_cmp event) (own ++ flat_map event_published h.items))) all.0

no_publication : (h : History) (input : Input) → is_publication input ≡ false → (item : Item) → MetBy h input item → IsNoPublication item
no_publication h input other (items.Published event) by = absurd (cases by.done.by (done_asked h input _ by) by.holds.6)
  where
    cases : (r : Rule) → AskedBy r input → ((r ≡ plans.Publishes by.holds.0 by.holds.2 by.holds.3) ⊎ ((endpoint : SocketAddrV4) × (r ≡ plans.PublishesTo by.holds.0 endpoint by.holds.2 by.holds.3))) → ⊥
    cases r asked (inl is) =
        let published = subst (λ x. AskedBy x input) is asked in
        let none = subst (λ x. is_publication x ≡ false) published other in absurd cc
    cases r asked (inr is) =
        let published = subst (λ x. AskedBy x input) is.1 asked in
        let none = subst (λ x. is_publication x ≡ false) published.1 other in absurd cc
no_publication h input other item by = refl

-- by any other input each event was published as often as before
pub other_counts : (h : History) (input : Input) (done : Work History) → is_publication input ≡ false → step h input ≡ Ok done
    → (event : EventId) → times_published done.state.items event ≡ times_published h.items event
other_counts h input done other is event =
    ap (λ (s : History). times_published s.items event) (state_met h input done is)
    ∙ counts_stay h (met_by (trail_of h input)) event
    (all_weaker (MetBy h input) IsNoPublication (no_publication h input other) (met_by (trail_of h input)) (all_met h input))
