-- By which rule and item an exchange is opened, and which keys each kind of input opens.
use Rattle.std.proofs.Common.{◌≡◌, ◌⊎◌, inl, inr, ℕ, Bool, true, false, List, ◌∷◌, Option, None, Some, ap, subst, refl, arith}
use Rattle.std.specs.List.{AllByRecursion}
use Rattle.std.specs.declared.net.socket_addr.SocketAddrV4.{SocketAddrV4}
use Rattle.sd_core.specs.declared.keys.InstanceId.{InstanceId}
use Rattle.sd_core.specs.declared.eventgroup.Eventgroup.{Eventgroup}
use Rattle.someip_rpc.specs.declared.call.Call.{Call}
use Rattle.someip_rpc.specs.declared.request.Asked.{Asked}
use Rattle.someip_rpc.specs.declared.request.Reply.{Reply}
use Rattle.std.specs.Option.{option_map_or}
use Rattle.someip_node_rules.specs.declared.config.OfferedService.{OfferedService}
use Rattle.someip_node_rules.specs.trails.Bringing.{WasBrought}
use Rattle.someip_node_rules.specs.rules.Answering.{answers_request}
use Rattle.someip_node_rules.specs.rules.Calling.{calls_at}
use Rattle.someip_node_rules.specs.rules.Publishing.{publishes_by, publishes_to_by}
use Rattle.someip_node_rules.specs.rules.Outcomes.{nothing}
use Rattle.someip_node_rules.specs.histories.WishQuestions.{course_at}
use Rattle.someip_world_rules.specs.declared.exchanges.exchange_key.SubscriptionExchange.{SubscriptionExchange}
use Rattle.someip_node_rules.specs.histories.History.{History, answers_of}
use Rattle.someip_node_rules.specs.rules.Inputs as inputs
use Rattle.someip_node_rules.specs.rules.Inputs.{Input}
use Rattle.someip_node_rules.specs.histories.Items as items
use Rattle.someip_node_rules.specs.histories.Items.{Item}
use Rattle.someip_node_rules.specs.trails.Meetings.{IsMet}
use Rattle.someip_node_rules.specs.rules.Plans as plans
use Rattle.someip_node_rules.specs.rules.Plans.{Rule}
use Rattle.someip_node_rules.specs.histories.Tables.{Tables}
use Rattle.someip_node_rules.specs.trails.Trails.{trail_of}
use Rattle.someip_node_rules.proofs.trails.MeetingLemmas.{rule_noted}
use Rattle.someip_node_rules.proofs.lists.MemberLemmas.{at_member}
use Rattle.someip_node_rules.proofs.rules.StepRules.{all_brought}
use Rattle.someip_world_rules.specs.exchanges.Openings.{Opens, OpensBy}
use Rattle.someip_world_rules.specs.declared.exchanges.exchange_key.CallExchange.{CallExchange}
use Rattle.someip_world_rules.specs.declared.exchanges.exchange_key.EventExchange.{EventExchange}
use Rattle.someip_world_rules.specs.declared.exchanges.exchange_key.ExchangeKey.{ExchangeKey}
use Rattle.someip_world_rules.specs.declared.exchanges.exchange_key.ExchangeKey.TheVariants as keys
use Rattle.someip_world_rules.proofs.about_exchanges.openings.RuleInputs.{AskedBy, asked_by, is_call, is_publication}

-- ---- the rule and the item

module _ (h : History) (input : Input) (key : ExchangeKey) (o : OpensBy h input key) where
  -- the rule was brought about by the input
  pub opening_brought : WasBrought h input o.done
  opening_brought = at_member (WasBrought h input) (trail_of h input) o.done (all_brought h input) o.among

  -- and asked by it
  pub opening_asked : AskedBy o.done.by input
  opening_asked = asked_by h opening_brought.earlier input o.done.by opening_brought.brings

  -- and it met the item by which the exchange is opened
  pub opening_met : IsMet o.item o.done.by (answers_of o.done.before.state)
  opening_met =
      (subst (AllByRecursion (λ item. IsMet item o.done.by (answers_of o.done.before.state))) o.meets (rule_noted (answers_of o.done.before.state) o.done.by)).0

-- ---- keys of calls and publications

module _ (at : History) (r : Rule) (t : Tables) (input : Input) (asked : AskedBy r input) where
  by_called : (item : Item) (k : CallExchange) → IsMet item r t → Opens at item (keys.Call k) → is_call input ≡ true
  by_called (items.Called call peer session) k met opens = ap is_call (subst (λ x. AskedBy x input) met.made asked)
  by_called (items.Published event) k met opens = let is = opens.is in absurd cc
  by_called item k met opens = let is = opens.4 in absurd cc

  published : (instance : InstanceId) (number : ℕ) (payload : List ℕ)
      → (r ≡ plans.Publishes instance number payload) ⊎ ((endpoint : SocketAddrV4) × (r ≡ plans.PublishesTo instance endpoint number payload)) → is_publication input ≡ true
  published instance number payload (inl is) = ap is_publication (subst (λ x. AskedBy x input) is asked)
  published instance number payload (inr is) = ap is_publication (subst (λ x. AskedBy x input) is.1 asked).1

  by_published : (item : Item) (k : EventExchange) → IsMet item r t → Opens at item (keys.Event k) → is_publication input ≡ true
  by_published (items.Published event) k met opens = published met.0 met.2 met.3 met.6
  by_published (items.Called call peer session) k met opens = absurd cc
  by_published item k met opens = let is = opens.4 in absurd cc

-- the key of a call is opened by a call alone
pub call_key_by_call : (h : History) (input : Input) (k : CallExchange) → OpensBy h input (keys.Call k) → is_call input ≡ true
call_key_by_call h input k o =
    by_called o.done.before.state o.done.by (answers_of o.done.before.state) input (opening_asked h input (keys.Call k) o) o.item k (opening_met h input (keys.Call k) o) o.opens

-- and the key of a publication by a publication alone
pub event_key_by_publication : (h : History) (input : Input) (k : EventExchange) → OpensBy h input (keys.Event k) → is_publication input ≡ true
event_key_by_publication h input k o =
    by_published o.done.before.state o.done.by (answers_of o.done.before.state) input (opening_asked h input (keys.Event k) o) o.item k
    (opening_met h input (keys.Event k) o) o.opens

pub other_opens_no_event : (h : History) (input : Input) → is_publication input ≡ false → (k : EventExchange) → OpensBy h input (keys.Event k) → ⊥
other_opens_no_event h input other k o = let publication = event_key_by_publication h input k o in absurd cc

-- ---- keys of subscriptions

-- the application sends a message by an input: it calls, answers or publishes
abbrev pub is_sending : Input → Bool
is_sending (inputs.Call kind instance method payload) = true
is_sending (inputs.Answer token reply payload) = true
is_sending (inputs.Publish instance event payload) = true
is_sending (inputs.PublishTo instance eventgroup endpoint event payload) = true
is_sending input = false

-- the rules by which it does
abbrev IsSending : Rule → Type 0
IsSending (plans.Calls kind instance method payload) = Unit {0}
IsSending (plans.Answers token reply payload) = Unit {0}
IsSending (plans.Publishes instance event payload) = Unit {0}
IsSending (plans.PublishesTo instance endpoint event payload) = Unit {0}
IsSending r = ⊥

-- by an item no subscription begins
abbrev BeginsNone : Item → Type 0
BeginsNone item = (before : List Item) (eventgroup : Eventgroup) → (course_at (item ∷ before) eventgroup).begun ≡ (course_at before eventgroup).begun

module _ (t : Tables) where
  calls_none : (call : Call) (payload : List ℕ) (o : Option SocketAddrV4) → AllByRecursion BeginsNone (option_map_or (λ peer. calls_at call payload peer t) o nothing).items
  calls_none call payload None = tt
  calls_none call payload (Some peer) = (λ before eventgroup. refl, tt)

  answers_none : (token : ℕ) (reply : Reply) (payload : List ℕ) (o : Option Asked) → AllByRecursion BeginsNone (option_map_or (answers_request token reply payload) o nothing).items
  answers_none token reply payload None = tt
  answers_none token reply payload (Some request) = (λ before eventgroup. refl, tt)

  publishes_none : (instance : InstanceId) (event : ℕ) (payload : List ℕ) (o : Option OfferedService)
      → AllByRecursion BeginsNone (option_map_or (λ service. publishes_by instance service event payload t) o nothing).items
  publishes_none instance event payload None = tt
  publishes_none instance event payload (Some service) = (λ before eventgroup. refl, tt)

  publishes_to_none : (endpoint : SocketAddrV4) (event : ℕ) (payload : List ℕ) (o : Option OfferedService)
      → AllByRecursion BeginsNone (option_map_or (λ service. publishes_to_by service endpoint event payload t) o nothing).items
  publishes_to_none endpoint event payload None = tt
  publishes_to_none endpoint event payload (Some service) = (λ before eventgroup. refl, tt)

by_begun : (at : History) (item : Item) (k : SubscriptionExchange) → BeginsNone item → Opens at item (keys.Subscription k) → ⊥
by_begun at (items.Called call peer session) k none opens = absurd cc
by_begun at (items.Published event) k none opens = let is = opens.is in absurd cc
by_begun at item k none opens =
    let more = opens.3.more in
    let same = none at.items opens.0 in
    omega (arith, more, same)
