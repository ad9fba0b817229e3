-- By which rules subscriptions begin or are acknowledged, and what the opening of one says.
use Rattle.std.proofs.Common.{◌≡◌, ℕ, suc, ◌<◌, Bool, true, false, ◌&&◌, if◌then◌else◌, List, [], ◌∷◌, ◌++◌, Option, None, Some, Ok, arith, refl, sym, ap, subst, ◌∙◌}
use Rattle.std.specs.List.{AllByRecursion}
use Rattle.std.specs.Prelude.{◌==◌}
use Rattle.std.specs.Option.{option_map_or}
use Rattle.std.proofs.lemmas.Grind.{flat_map-append, fold-append}
use Rattle.std.proofs.lemmas.Bool.{eqb-true}
use Rattle.std.proofs.lemmas.List.{append-nil}
use Rattle.std.specs.declared.net.ipv4_addr.Ipv4Addr.{Ipv4Addr}
use Rattle.std.specs.declared.net.socket_addr.SocketAddrV4.{SocketAddrV4}
use Rattle.someip_tables.proofs.Entries.{same_by_test}
use Rattle.someip_tables.specs.EndpointOrder.{exact_addresses}
use Rattle.sd_wire.specs.declared.entry.EventgroupEntry.{EventgroupEntry}
use Rattle.sd_core.specs.declared.eventgroup.Eventgroup.{Eventgroup}
use Rattle.sd_core.specs.declared.received.ReceivedOffer.{ReceivedOffer}
use Rattle.sd_core.specs.declared.received.Uncounted.{Uncounted}
use Rattle.sd_core.specs.declared.received.Uncounted.TheVariants as left_out
use Rattle.sd_core.specs.declared.wish.Beginning.{Beginning}
use Rattle.sd_core.specs.declared.wish.SubscribeAnswer.{SubscribeAnswer}
use Rattle.sd_core.specs.SeekTables.{uncounted}
use Rattle.sd_core.specs.Wishes.{is_over, is_with}
use Rattle.someip_node_rules.specs.trails.Bringing.{WasBrought}
use Rattle.someip_node_rules.specs.histories.History.{History, answers_of, met}
use Rattle.someip_node_rules.specs.rules.Inputs.{Input}
use Rattle.someip_node_rules.specs.histories.Items as items
use Rattle.someip_node_rules.specs.histories.Items.{Item}
use Rattle.someip_node_rules.specs.rules.Learning.{answer_in, eventgroup_in, offer_by, offer_counts}
use Rattle.someip_node_rules.specs.trails.Meetings.{IsMet}
use Rattle.someip_node_rules.specs.rules.Plans.{Rule, TakesAck, TakesOffer, Wishes, Work, rule}
use Rattle.someip_node_rules.specs.rules.Outcomes.{nothing}
use Rattle.someip_node_rules.specs.histories.Tables.{Tables}
use Rattle.someip_node_rules.specs.steps.Steps.{step}
use Rattle.someip_node_rules.specs.trails.Trails.{Done, after, met_by, outcome_of, trail_of}
use Rattle.someip_node_rules.specs.histories.WishQuestions.{course_at, is_answered_by}
use Rattle.someip_node_rules.proofs.trails.MeetingLemmas.{rule_noted, state_met}
use Rattle.someip_node_rules.proofs.lists.MemberLemmas.{all_weaker, at_member}
use Rattle.someip_node_rules.proofs.rules.StepRules.{all_brought, config_there}
use Rattle.someip_world_rules.specs.exchanges.Namings.{of_subscription}
use Rattle.someip_world_rules.specs.declared.exchanges.exchange_key.ExchangeKey.TheVariants as keys
use Rattle.someip_world_rules.specs.declared.exchanges.exchange_key.SubscriptionExchange.{SubscriptionExchange}
use Rattle.someip_world_rules.specs.exchanges.Openings.{Opens, OpensBy}
use Rattle.someip_world_rules.proofs.about_exchanges.beginnings.CourseLemmas.{begun_grows_on, is_tame}

-- ---- the items of a rule: none that begins or acknowledges, or one alone

-- the rules of these items
abbrev is_special : Rule → Bool
is_special (TakesOffer offer) = true
is_special (TakesAck peer head) = true
is_special (Wishes eventgroup) = true
is_special r = false

-- another rule does not meet them
no_special : (r : Rule) (x : Item) (q : Rule) → is_special r ≡ false → is_special q ≡ true → r ≡ q → is_tame x ≡ true
no_special r x q none some is = let same = ap is_special is in absurd cc

-- what another rule meets is tame
tame_unless : (r : Rule) (x : Item) (h : History) → is_special r ≡ false → IsMet x r (answers_of h) → is_tame x ≡ true
tame_unless r (items.OfferCounted offer endpoint) h none m = no_special r (items.OfferCounted offer endpoint) (TakesOffer offer) none refl m.0
tame_unless r (items.Wished eventgroup) h none m = no_special r (items.Wished eventgroup) (Wishes eventgroup) none refl m
tame_unless r (items.AckCame answer ttl) h none m = no_special r (items.AckCame answer ttl) (TakesAck m.0 m.1) none refl m.2
tame_unless r x h none m = refl

abbrev pub AllTame : List Item → Type 0
AllTame xs = AllByRecursion (λ x. is_tame x ≡ true) xs

-- what a rule meets: only what is tame, or one Offer, Ack or wish
pub data Kinds (r : Rule) (xs : List Item) : Type 0 where
  Tame : AllTame xs → Kinds r xs
  AnOffer : (offer : ReceivedOffer) (endpoint : SocketAddrV4) → r ≡ TakesOffer offer → xs ≡ items.OfferCounted offer endpoint ∷ [] → Kinds r xs
  AnAck : (peer : Ipv4Addr) (head : EventgroupEntry) (answer : SubscribeAnswer) (ttl : ℕ) → r ≡ TakesAck peer head → answer.eventgroup ≡ eventgroup_in head → answer.counter ≡ head.counter → answer.peer ≡ peer
      → xs ≡ items.AckCame answer ttl ∷ [] → Kinds r xs
  AWish : (eventgroup : Eventgroup) → r ≡ Wishes eventgroup → xs ≡ items.Wished eventgroup ∷ [] → Kinds r xs

module _ (h : History) where
  abbrev t : Tables
  t = answers_of h

  -- an Offer counts, or nothing is met
  of_offer : (o : ReceivedOffer) (cause : Option Uncounted) → Kinds (TakesOffer o) (offer_by o cause t).items
  of_offer o None = by_endpoint o.endpoint
    where
      by_endpoint : (e : Option SocketAddrV4) → Kinds (TakesOffer o) (option_map_or (λ endpoint. offer_counts o endpoint t) e nothing).items
      by_endpoint None = Tame tt
      by_endpoint (Some endpoint) = AnOffer o endpoint refl refl
  of_offer o (Some left_out.Unwanted) = Tame tt
  of_offer o (Some left_out.NoEndpoint) = Tame tt
  of_offer o (Some left_out.OtherPeer) = Tame tt

  -- another rule
  of_tame : (r : Rule) → is_special r ≡ false → Kinds r (rule r t).items
  of_tame r none = Tame (all_weaker (λ x. IsMet x r t) (λ x. is_tame x ≡ true) (λ x m. tame_unless r x h none m) (rule r t).items (rule_noted t r))

  -- each rule
  pub kinds_of : (r : Rule) → Kinds r (rule r t).items
  kinds_of r = cases r (is_special r) refl
    where
      cases : (r : Rule) (b : Bool) → is_special r ≡ b → Kinds r (rule r t).items
      cases r false is = of_tame r is
      cases (TakesOffer o) true is = of_offer o (uncounted o t.clock t.seek)
      cases (TakesAck peer head) true is = AnAck peer head (answer_in peer head t) head.ttl refl refl refl refl refl
      cases (Wishes eventgroup) true is = AWish eventgroup refl refl
      cases r true is = absurd cc

-- by a rule a subscription may begin: it takes an Offer, or a wish
abbrev pub MayBegin : Rule → Type 0
MayBegin (TakesOffer offer) = Unit {0}
MayBegin (Wishes eventgroup) = Unit {0}
MayBegin r = ⊥

-- ---- what an answered subscription shares with its answer

-- both of two hold
both_true : (a b : Bool) → (a && b) ≡ true → (a ≡ true) × (b ≡ true)
both_true true true is = (refl, refl)
both_true true false is = absurd cc
both_true false b is = absurd cc

-- the peer and the counter
pub answered_parts : (now : ℕ) (answer : SubscribeAnswer) (was : Beginning) → is_answered_by now answer was ≡ true → (was.peer ≡ answer.peer) × (was.counter ≡ answer.counter)
answered_parts now answer was is = cases (is_over now was) is
  where
    cases : (b : Bool)
        → option_map_or (λ beginning. answer.has_wanted_major && is_with answer.peer beginning && (beginning.counter == answer.counter)) (if b then None else Some was) false ≡ true
        → (was.peer ≡ answer.peer) × (was.counter ≡ answer.counter)
    cases true e = absurd cc
    cases false e =
        let a = both_true (answer.has_wanted_major && is_with answer.peer was) (was.counter == answer.counter) e in
        let b = both_true answer.has_wanted_major (is_with answer.peer was) a.0 in
        (same_by_test exact_addresses was.peer answer.peer b.1, eqb-true was.counter answer.counter a.1)

-- ---- histories on the way

-- after one rule more
pub after_more : (h : History) (earlier : List Done) (d : Done) → after (after h (met_by earlier)) (outcome_of d).items ≡ after h (met_by (earlier ++ d ∷ []))
after_more h earlier d =
    ap (after (after h (met_by earlier))) (sym (append-nil (outcome_of d).items)) ∙ sym (fold-append met h (met_by earlier) ((outcome_of d).items ++ []))
    ∙ ap (after h) (sym (flat_map-append (λ (done : Done). (outcome_of done).items) earlier (d ∷ [])))

-- ---- what an opening says

-- one key is of one exchange
same_fields : (a b : SubscriptionExchange) → keys.Subscription a ≡ keys.Subscription b → a ≡ b
same_fields a b is = cc

-- an item that opens the key of a subscription makes one beginning more, at the node of the address
pub opens_so : (at : History) (x : Item) (address peer : Ipv4Addr) (q : Eventgroup) (counter : ℕ) → Opens at x (of_subscription address peer q counter)
    → (address ≡ at.config.address) × ((course_at at.items q).begun < (course_at (met at x).items q).begun)
opens_so at (items.Called call p session) address peer q counter o = absurd cc
opens_so at (items.Published event) address peer q counter o = let is = o.is in absurd cc
opens_so at x address peer q counter o =
    let fields = same_fields _ _ o.4 in
    let own : address ≡ at.config.address = ap (λ (k : SubscriptionExchange). k.client) fields in
    let same : o.0 ≡ q = sym (ap (λ (k : SubscriptionExchange). k.eventgroup) fields) in
    let more : (course_at (met at x).items q).begun ≡ suc (course_at at.items q).begun = subst (λ e. (course_at (met at x).items e).begun ≡ suc (course_at at.items e).begun) same o.3.more in
    (own, omega (arith, more))

-- what is met before a rule, by it and after it
after_parts : (h : History) (earlier later : List Done) (d : Done) → after h (met_by (earlier ++ d ∷ later)) ≡ after (after (after h (met_by earlier)) (outcome_of d).items) (met_by later)
after_parts h earlier later d =
    ap (after h) (flat_map-append (λ (done : Done). (outcome_of done).items) earlier (d ∷ later)) ∙ fold-append met h (met_by earlier) ((outcome_of d).items ++ met_by later)
    ∙ fold-append met (after h (met_by earlier)) (outcome_of d).items (met_by later)

-- where a subscription begins, there are more beginnings after the step
pub opens_more : (h : History) (input : Input) (done : Work History) (address peer : Ipv4Addr) (q : Eventgroup) (counter : ℕ) → step h input ≡ Ok done → OpensBy h input (of_subscription address peer q counter)
    → (address ≡ h.config.address) × ((course_at h.items q).begun < (course_at done.state.items q).begun)
opens_more h input done address peer q counter is by =
    let d = by.done in
    let was = at_member (WasBrought h input) (trail_of h input) d (all_brought h input) by.among in
    let earlier : List Done = was.earlier in
    let later : List Done = was.later in
    let says = opens_so d.before.state by.item address peer q counter by.opens in
    let low = begun_grows_on h (met_by earlier) q in
    let low_at : (course_at (after h (met_by earlier)).items q).begun ≡ (course_at d.before.state.items q).begun = ap (λ x. (course_at x.items q).begun) (sym was.at) in
    let mid = says.1 in
    let after_d : after d.before.state (outcome_of d).items ≡ met d.before.state by.item = ap (after d.before.state) by.meets in
    let high = begun_grows_on (met d.before.state by.item) (met_by later) q in
    let end : after (met d.before.state by.item) (met_by later) ≡ done.state =
    ap (λ x. after x (met_by later)) (sym after_d ∙ ap (λ x. after x (outcome_of d).items) was.at) ∙ sym (after_parts h earlier later d) ∙ ap (λ ds. after h (met_by ds)) (sym was.trail) ∙ sym (state_met h input done is) in
    let last : (course_at (after (met d.before.state by.item) (met_by later)).items q).begun ≡ (course_at done.state.items q).begun = ap (λ x. (course_at x.items q).begun) end in
    (says.0 ∙ ap (λ c. c.address) (config_there h input d by.among), omega (arith, low, low_at, mid, high, last))
