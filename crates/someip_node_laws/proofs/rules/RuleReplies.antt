-- What each rule replies says of the rule.
use Rattle.std.proofs.Common.{Option, None, Some, refl}
use Rattle.std.specs.List.{AllByRecursion}
use Rattle.std.specs.Option.{option_map_or}
use Rattle.std.specs.FinMap as finite
use Rattle.std.proofs.lemmas.Bool.{cond_both}
use Rattle.sd_core.specs.OfferTables.{answering}
use Rattle.sd_core.specs.SeekTables.{is_stopped}
use Rattle.someip_node_rules.specs.rules.Outcomes.{Outcome, nothing}
use Rattle.someip_node_rules.specs.rules.Plans.{Rule, Announces, Answers, Calls, Drops, Hears, Publishes, PublishesTo, RepliesTo, Stops, TakesAck, TakesAnswer, TakesBack, TakesEvent, TakesFind, TakesNack, TakesOffer, TakesRequest, TakesSegment, TakesStopOffer, TakesStopSubscribe, TakesSubscribe, Ticks, Wishes, rule}
use Rattle.someip_node_rules.specs.trails.Replies.{IsReply}
use Rattle.someip_node_rules.specs.forms.Setups.{offered_as}
use Rattle.someip_node_rules.specs.rules.Offering.{sought_by}
use Rattle.someip_node_rules.specs.histories.Tables.{Tables, known_endpoint}
use Rattle.someip_node_rules.proofs.trails.ReplyLemmas.{offer_replied, offers_say, subscribe_replied}
use Rattle.someip_node_rules.proofs.rules.StepRules.{answer_replies, event_replies, hearing_replies, instance_replies, segment_replies}

module _ (t : Tables) where
  abbrev Replied : Rule → Outcome → Type 0
  Replied r o = AllByRecursion (IsReply r t) o.replies

  -- what is done with a value, if there is one
  if_there : {X : Type 0} (r : Rule) (f : X → Outcome) → ((x : X) → Replied r (f x)) → (o : Option X) → Replied r (option_map_or f o nothing)
  if_there r f each None = tt
  if_there r f each (Some x) = each x

  pub rule_replied : (r : Rule) → Replied r (rule r t)
  rule_replied (Drops reason) = tt
  rule_replied (TakesSegment o) = segment_replies (IsReply (TakesSegment o) t) o _
  rule_replied (TakesRequest instance from header payload) =
      instance_replies (IsReply (TakesRequest instance from header payload) t) instance from header payload t (offered_as t.config instance)
  rule_replied (TakesAnswer from header payload) = answer_replies (IsReply (TakesAnswer from header payload) t) header payload _
  rule_replied (TakesEvent from header payload) = event_replies (IsReply (TakesEvent from header payload) t) header payload _
  rule_replied (Hears peer channel stamp) = hearing_replies (IsReply (Hears peer channel stamp) t) peer channel stamp _ t
  rule_replied (TakesFind head) = offers_say t (finite.keys (answering (sought_by head) t.offers))
  rule_replied (TakesOffer o) = offer_replied t o _ refl
  rule_replied (TakesStopOffer instance major peer) =
      cond_both (is_stopped instance major peer t.clock t.seek) _ _ (Replied (TakesStopOffer instance major peer)) (λ _. tt) (λ _. tt)
  rule_replied (TakesSubscribe peer head endpoint) = subscribe_replied t peer head endpoint _ refl
  rule_replied (TakesStopSubscribe peer head None) = tt
  rule_replied (TakesStopSubscribe peer head (Some endpoint)) = tt
  rule_replied (TakesAck peer head) = tt
  rule_replied (TakesNack peer head) = tt
  rule_replied (Announces entries) = tt
  rule_replied (RepliesTo peer entries) = tt
  rule_replied (Ticks ms) = tt
  rule_replied (Calls kind instance method payload) = if_there (Calls kind instance method payload) _ (λ x. tt) (known_endpoint t instance)
  rule_replied (Answers token reply payload) = if_there (Answers token reply payload) _ (λ x. tt) (finite.get t.server.requests token)
  rule_replied (Publishes instance event payload) = if_there (Publishes instance event payload) _ (λ x. tt) (offered_as t.config instance)
  rule_replied (PublishesTo instance endpoint event payload) = if_there (PublishesTo instance endpoint event payload) _ (λ x. tt) (offered_as t.config instance)
  rule_replied (Wishes eventgroup) = tt
  rule_replied (TakesBack eventgroup None) = tt
  rule_replied (TakesBack eventgroup (Some beginning)) = tt
  rule_replied (Stops instance) = tt
