-- From step to step of a run that reuses its keys cleanly, each part that a node holds under a key whose source is no liar is of one message.
use Rattle.std.proofs.Common.{◌≡◌, ◌⊎◌, inl, inr, ℕ, suc, ◌+◌, ◌≤◌, Bool, true, false, eqb, List, [], ◌∷◌, length, take, slice_get, slice_set, Some, Result, Ok, Err, arith, refl, sym, ap, subst, ◌∙◌}
use Rattle.std.specs.FinMap.{empty, get, get-empty}
use Rattle.std.specs.List.{AllByRecursion}
use Rattle.std.specs.Net.Socket.{v4_ip}
use Rattle.std.proofs.lemmas.Bool.{eqb-true, eqb-false}
use Rattle.someip_wire.specs.declared.header.Header.{Header}
use Rattle.someip_tables.specs.EndpointOrder.{addresses_total, exact_addresses}
use Rattle.someip_tables.proofs.Entries.{own_test, same_by_test}
use Rattle.someip_reassembly.specs.declared.key.ReassemblyKey.{ReassemblyKey}
use Rattle.someip_reassembly.specs.Keys.{key_cmp}
use Rattle.someip_reassembly.specs.SegmentOffers.{SegmentOffer}
use Rattle.someip_reassembly.specs.Parts.{Limits, Part}
use Rattle.someip_node_rules.specs.declared.config.Config.{Config}
use Rattle.someip_node_rules.specs.declared.error.NodeError.{NodeError}
use Rattle.someip_node_rules.specs.trails.Bringing.{Brings}
use Rattle.someip_node_rules.specs.histories.DiscoveryQuestions.{parts_in}
use Rattle.someip_node_rules.specs.rules.Handling.{same_address}
use Rattle.someip_node_rules.specs.histories.History.{History, met}
use Rattle.someip_node_rules.specs.rules.Inputs as inputs
use Rattle.someip_node_rules.specs.rules.Inputs.{Input}
use Rattle.someip_node_rules.specs.histories.Items as items
use Rattle.someip_node_rules.specs.histories.Items.{Item}
use Rattle.someip_node_rules.specs.trails.Meetings.{MetBy}
use Rattle.someip_node_rules.specs.trails.Packets.{HasSegment, Packet}
use Rattle.someip_node_rules.specs.rules.Plans.{TakesSegment, Work}
use Rattle.someip_node_rules.specs.histories.Questions.{clock_at}
use Rattle.someip_node_rules.specs.forms.Setups.{limits_of}
use Rattle.someip_node_rules.specs.steps.Steps.{step}
use Rattle.someip_node_rules.specs.trails.Trails.{Done, after, met_by, trail_of}
use Rattle.someip_node_rules.proofs.trails.MeetingLemmas.{all_met, state_met}
use Rattle.someip_node_rules.proofs.rules.StepRules.{config_kept}
use Rattle.someip_world_schedule.specs.declared.step.Step.{Step}
use Rattle.someip_world_setup.specs.declared.setup_node.SetupNode.{SetupNode}
use Rattle.someip_world_rules.specs.Announced.{AllFits}
use Rattle.someip_world_rules.specs.Deeds.{Deed, Takes, Restarts, Injects, done_with}
use Rattle.someip_world_rules.specs.Deliveries.{Does, Restarted}
use Rattle.someip_world_rules.specs.Liars.{IsHonest}
use Rattle.someip_world_rules.specs.Runs.{World, history_after, world_after, world_of}
use Rattle.someip_world_rules.specs.Turns.{LeadTo, Turn}
use Rattle.someip_world_rules.proofs.Fronts.{get_set_other, get_set_same, on_the_way}
use Rattle.someip_world_rules.proofs.Lives.{lives_next, not_restarted}
use Rattle.someip_world_rules.proofs.OriginLemmas.{begun_so}
use Rattle.someip_world_rules.specs.exchanges.CleanReuse.{IsCleanBefore}
use Rattle.someip_world_safety.proofs.messages.HeldParts.{AllHeld, IsHeld, held_on, holding_first, holding_on}
use Rattle.someip_world_safety.proofs.messages.PartWalks.{no_new_parts}

-- a node that is just started holds no part
none_held : {Q : Type 0} (key : ReassemblyKey) (part : Part) → get (empty {X = Part} {R = key_cmp}) key ≡ Some part → Q
none_held key part is = let none = get-empty {X = Part} key_cmp key in absurd cc

module _ (h : History) (earlier : List Done) (o : SegmentOffer) where
  -- an input other than a datagram brings about no rule that takes a segment
  no_segment : (input : Input) → ((p : Packet) → input ≡ inputs.Datagram p.from p.to p.bytes → ⊥) → Brings h input (TakesSegment o) earlier → ⊥
  no_segment (inputs.Datagram from to bytes) none brings = none (record { from = from; to = to; bytes = bytes }) refl
  no_segment (inputs.Tick ms) none (inl is) = let e = is.0 in absurd cc
  no_segment (inputs.Tick ms) none (inr is) = let e = is.1 in absurd cc
  no_segment (inputs.Call kind instance method payload) none brings = let e = brings.0 in absurd cc
  no_segment (inputs.Answer token reply payload) none brings = let e = brings.0 in absurd cc
  no_segment (inputs.Publish instance event payload) none brings = let e = brings.0 in absurd cc
  no_segment (inputs.PublishTo instance eventgroup endpoint event payload) none brings = let e = brings.0 in absurd cc
  no_segment (inputs.Subscribe eventgroup) none (inl is) = let e = is.0 in absurd cc
  no_segment (inputs.Subscribe eventgroup) none (inr is) = let e = is.2 in absurd cc
  no_segment (inputs.Unsubscribe eventgroup) none (inl is) = absurd cc
  no_segment (inputs.Unsubscribe eventgroup) none (inr is) = let e = is.2 in absurd cc
  no_segment (inputs.StopOffer instance) none (inl is) = absurd cc
  no_segment (inputs.StopOffer instance) none (inr is) = let e = is.0 in absurd cc

module _ (h : History) (input : Input) (o : SegmentOffer) (by : MetBy h input (items.SegmentOffered o)) where
  -- the segment that is offered was brought about
  brings : Brings h input (TakesSegment o) by.brought.earlier
  brings = subst (λ r. Brings h input r by.brought.earlier) by.holds by.brought.brings

  -- no segment is offered where the input is no datagram
  not_offered : ((p : Packet) → input ≡ inputs.Datagram p.from p.to p.bytes → ⊥) → ⊥
  not_offered none = no_segment h by.brought.earlier o input none brings

  -- a segment in a datagram is offered under no key of another source
  not_of_other : (p : Packet) → input ≡ inputs.Datagram p.from p.to p.bytes → (key : ReassemblyKey) → same_address (v4_ip key.source) (v4_ip p.from) ≡ false → key ≡ o.key → ⊥
  not_of_other p is key other same =
      let segment : (header : Header) × HasSegment p header o = subst (λ x. Brings h x (TakesSegment o) by.brought.earlier) is brings in
      let source : key.source ≡ p.from = ap (λ (k : ReassemblyKey). k.source) same ∙ ap (λ (x : SegmentOffer). x.key.source) segment.1.offered in
      let own : same_address (v4_ip key.source) (v4_ip p.from) ≡ true = ap (λ from. same_address (v4_ip from) (v4_ip p.from)) source ∙ own_test addresses_total (v4_ip p.from) in
      absurd cc

-- where no segment is offered under a key, only a part stands there after the step that stood before
module _ (h : History) (input : Input) (limits : Limits) (key : ReassemblyKey) (part : Part) (none : (o : SegmentOffer) → MetBy h input (items.SegmentOffered o) → key ≡ o.key → ⊥) where
  -- no item that is met offers one
  no_offer : (item : Item) → MetBy h input item → (o : SegmentOffer) → item ≡ items.SegmentOffered o → key ≡ o.key → ⊥
  no_offer item by o is = none o (subst (MetBy h input) is by)

  -- a part that stands after all that is met stood before
  stood : (at : History) (xs : List Item) → AllByRecursion (MetBy h input) xs → get (parts_in limits (after at xs).items) key ≡ Some part → get (parts_in limits at.items) key ≡ Some part
  stood at [] all is = is
  stood at (x ∷ xs) all is = no_new_parts limits x (clock_at at.items) (parts_in limits at.items) key part (no_offer x all.0) (stood (met at x) xs all.1 is)

-- an input is a datagram, or none
datagram_or_none : (input : Input) → ((p : Packet) × (input ≡ inputs.Datagram p.from p.to p.bytes)) ⊎ ((p : Packet) → input ≡ inputs.Datagram p.from p.to p.bytes → ⊥)
datagram_or_none (inputs.Datagram from to bytes) = inl (record { from = from; to = to; bytes = bytes }, refl)
datagram_or_none input = inr (λ p e. absurd cc)

module _ (nodes : List SetupNode) (configs : List Config) (ss : List Step) (fits : AllFits nodes configs ss) where
  -- all parts at the nodes of a world are held so
  abbrev pub AreHeld : ℕ → World → Type 0
  AreHeld n w = (place : ℕ) (h : History) → slice_get w.histories place ≡ Some h → AllHeld nodes configs ss n place h

  -- a part is held longer where its node is not started again
  longer : (n place : ℕ) → (Restarted nodes configs ss n place → ⊥) → (key : ReassemblyKey) (part : Part) → IsHeld nodes configs ss n place key part → IsHeld nodes configs ss (suc n) place key part
  longer n place alive key part held =
      let early = held.before in record {
        step = held.step;
        before = omega (arith, early);
        lives = lives_next nodes configs ss n place alive held.step held.lives;
        message = held.message;
        arrived = held.arrived;
        holds = held.holds;
      }

  module _ (n : ℕ) (s : Step) (t : Turn nodes configs ss n s) (clean : IsCleanBefore nodes configs ss (suc n)) (was : AreHeld n t.before) where
    -- after a step in which the node takes an input
    by_due : (input : Input) → t.deed ≡ Takes input → (due : Result (Work History) NodeError) → step t.history input ≡ due → AllHeld nodes configs ss (suc n) t.place (history_after t.history due)
    by_due input takes (Err refusal) due key part is honest =
        longer n t.place (not_restarted nodes configs ss n t.place s t (λ at delay restarts. absurd cc)) key part (was t.place t.history t.stands key part is honest)
    by_due input takes (Ok done) due key part is honest = cases (datagram_or_none input)
      where
        alive : Restarted nodes configs ss n t.place → ⊥
        alive = not_restarted nodes configs ss n t.place s t (λ at delay restarts. absurd cc)

        does : Does nodes configs ss n
        does = record { step = s; turn = t; input = input; takes = takes; done = done; happened = due }

        news : List Item
        news = met_by (trail_of t.history input)

        limits : Limits
        limits = limits_of t.history.config

        -- the part stands after what was met
        stands : get (parts_in limits (after t.history news).items) key ≡ Some part
        stands =
            subst (λ c. get (parts_in (limits_of c) (after t.history news).items) key ≡ Some part) (config_kept t.history news)
            (subst (λ (x : History). get (parts_in (limits_of x.config) x.items) key ≡ Some part) (state_met t.history input done due) is)

        -- where no segment is offered under its key, it stood before
        still : ((o : SegmentOffer) → MetBy t.history input (items.SegmentOffered o) → key ≡ o.key → ⊥) → IsHeld nodes configs ss (suc n) t.place key part
        still none =
            longer n t.place alive key part
            (was t.place t.history t.stands key part (stood t.history input limits key part none t.history news (all_met t.history input) stands) honest)

        -- where a datagram is delivered, from the source of its key or from another one
        delivered : (p : Packet) → input ≡ inputs.Datagram p.from p.to p.bytes → (own : Bool) → same_address (v4_ip key.source) (v4_ip p.from) ≡ own → IsHeld nodes configs ss (suc n) t.place key part
        delivered p datagram true own =
            let source = subst (IsHonest nodes configs) (same_by_test exact_addresses (v4_ip key.source) (v4_ip p.from) own) honest in
            let holding =
            holding_on nodes configs ss fits n does p datagram source clean (was t.place t.history t.stands) t.history news (all_met t.history input)
            (holding_first nodes configs ss fits n does p datagram source clean (was t.place t.history t.stands)) in
            held_on nodes configs ss fits n does p datagram source clean (was t.place t.history t.stands)
            (lives_next nodes configs ss n t.place alive n (λ i from until. absurd (omega (arith, from, until)))) (lives_next nodes configs ss n t.place alive) key part (holding.parts key part stands honest)
        delivered p datagram false other = still (λ o by. not_of_other t.history input o by p datagram key other)

        cases : ((p : Packet) × (input ≡ inputs.Datagram p.from p.to p.bytes)) ⊎ ((p : Packet) → input ≡ inputs.Datagram p.from p.to p.bytes → ⊥) → IsHeld nodes configs ss (suc n) t.place key part
        cases (inl datagram) = delivered datagram.0 datagram.1 (same_address (v4_ip key.source) (v4_ip datagram.0.from)) refl
        cases (inr other) = still (λ o by same. not_offered t.history input o by other)

    -- after a step, at its node
    by_deed : (deed : Deed) → t.deed ≡ deed → AllHeld nodes configs ss (suc n) t.place (history_after t.history (done_with t.history deed))
    by_deed (Takes input) takes key part is honest = by_due input takes (step t.history input) refl key part is honest
    by_deed (Restarts delay) takes key part is honest = none_held key part is
    by_deed (Injects from to bytes) takes key part is honest =
        longer n t.place (not_restarted nodes configs ss n t.place s t (λ at delay restarts. absurd cc)) key part (was t.place t.history t.stands key part is honest)

    -- after a step, at all nodes
    held_after : AreHeld (suc n) (world_after (n + 1) t.place t.before t.history (done_with t.history t.deed))
    held_after place h here = cases (eqb place t.place) refl
      where
        due : History
        due = history_after t.history (done_with t.history t.deed)

        cases : (k : Bool) → eqb place t.place ≡ k → AllHeld nodes configs ss (suc n) place h
        cases true e =
            let same : place ≡ t.place = eqb-true place t.place e in
            let there : h ≡ due = get_set_same t.before.histories t.place due h (subst (λ p. slice_get (slice_set t.before.histories t.place due) p ≡ Some h) same here) in
            subst (λ q. AllHeld nodes configs ss (suc n) q h) (sym same) (subst (AllHeld nodes configs ss (suc n) t.place) (sym there) (by_deed t.deed refl))
        cases false e =
            let ne = eqb-false place t.place e in
            let old : slice_get t.before.histories place ≡ Some h = sym (get_set_other t.before.histories t.place place due ne) ∙ here in
            (λ key part is honest. longer n place (not_restarted nodes configs ss n place s t (λ at. absurd (ne (sym at)))) key part (was place h old key part is honest))

  -- clean up to a step, and so up to the one before
  pub clean_before : (n : ℕ) → IsCleanBefore nodes configs ss (suc n) → IsCleanBefore nodes configs ss n
  clean_before n clean i lt = clean i (omega (arith, lt))

  -- at the start no part is held
  held_first : AreHeld 0 (world_of nodes configs)
  held_first place h here key part is honest =
      let start = begun_so nodes configs ss nodes configs place h here in
      none_held key part (subst (λ (x : History). get (parts_in (limits_of x.config) x.items) key ≡ Some part) start.3 is)

  -- before each step of a run that was clean so far, all parts at all nodes are held so
  pub all_held : (n : ℕ) (w : World) → n ≤ length ss → LeadTo nodes configs (take n ss) w → IsCleanBefore nodes configs ss n → AreHeld n w
  all_held =
      on_the_way nodes configs ss (λ n w. IsCleanBefore nodes configs ss n → AreHeld n w) (λ clean. held_first)
      (λ n s t was clean. held_after n s t clean (was (clean_before n clean)))
