-- What the tables of a history have of a key is what the history answers of it.
use Rattle.std.proofs.Common.{◌≡◌, ℕ, suc, Bool, true, false, cond, List, [], ◌∷◌, ◌++◌, Option, None, refl, ap}
use Rattle.std.specs.List.{flat_map, list_any}
use Rattle.std.specs.Ordering.{eq_by_cmp, nat_cmp}
use Rattle.std.specs.Cmp.{nat_cmp_total}
use Rattle.std.specs.FinMap.{get}
use Rattle.std.proofs.lemmas.Bool.{or_parts}
use Rattle.std.proofs.lemmas.Map.Lookups.{exact_unsigned}
use Rattle.someip_tables.specs.declared.lasting.Lasting.{Lasting}
use Rattle.someip_tables.specs.Lastings.{unless_passed}
use Rattle.sd_core.specs.declared.subscription.Subscription.{Subscription}
use Rattle.sd_core.specs.SubscriberTables.{is_of_instance, is_of_peer}
use Rattle.sd_core.specs.SubscriptionKeys.{subscription_cmp}
use Rattle.sd_core.specs.SubscriptionOrder.{subscriptions_total, exact_subscriptions}
use Rattle.someip_rpc.specs.declared.call.Awaited.{Awaited}
use Rattle.someip_rpc.specs.declared.call.CallKind.{CallKind}
use Rattle.someip_rpc.specs.declared.call.CallKind.TheVariants.{Request, RequestNoReturn}
use Rattle.someip_rpc.specs.declared.ids.CallKey.{CallKey}
use Rattle.someip_rpc.specs.declared.ids.EventId.{EventId}
use Rattle.someip_rpc.specs.declared.ids.MessageId.{MessageId}
use Rattle.someip_rpc.specs.Ids.{call_cmp, message_cmp}
use Rattle.someip_tables.specs.Sessions.{session_after_last}
use Rattle.someip_rpc.specs.Sessions.{next_of, session_after}
use Rattle.someip_rpc.specs.IdOrder.{calls_total, exact_calls, events_total, exact_events, messages_total, exact_messages}
use Rattle.sd_session.specs.Sessions.{after_uses}
use Rattle.someip_tables.specs.EndpointOrder.{addresses_total, exact_addresses}
use Rattle.std.specs.declared.net.ipv4_addr.Ipv4Addr.{Ipv4Addr}
use Rattle.someip_node_rules.specs.declared.config.Config.{Config}
use Rattle.someip_node_rules.specs.histories.CallQuestions.{awaited_at, awaited_from, call_made, call_sessions_in, event_published, event_sessions_in, last_session_at, message_called, times_published, called_by, call_key, next_token, pending_in, open_request_at, requests_in, tokens_in, waiting_call}
use Rattle.someip_node_rules.specs.histories.DiscoveryQuestions.{messages_to, peer_addressed, unicast_in}
use Rattle.someip_node_rules.specs.histories.Items.{Item, AnswerTaken, Answered, Called, OfferStopped, PeerRebooted, Requested, SubscriptionAccepted, SubscriptionStopped}
use Rattle.someip_node_rules.specs.histories.Questions.{clock_at}
use Rattle.someip_node_rules.specs.histories.SubscriberQuestions.{accepted, subscribed_at, subscribers_in}
use Rattle.someip_node_rules.specs.histories.Tables.{stamp_for, stamp_or_first}
use Rattle.someip_node_rules.proofs.lists.CountLemmas.{get-counted}
use Rattle.someip_node_rules.proofs.histories.QuestionLemmas.{get-named}

-- what ends leaves nothing where nothing stood
still_none : {X : Type 0} (b : Bool) (v : Option X) → v ≡ None → cond b None v ≡ None
still_none true v none = refl
still_none false v none = none

-- ---- subscriptions

abbrev is_subscriber : List Item → Subscription → Bool
is_subscriber items s = list_any (eq_by_cmp subscription_cmp s) (flat_map accepted items)

unsubscribed : (items : List Item) (s : Subscription) → is_subscriber items s ≡ false → subscribed_at items s ≡ None
unsubscribed [] s absent = refl
unsubscribed (item ∷ before) s absent = cases item absent (unsubscribed before s)
  where
    cases : (item : Item) → is_subscriber (item ∷ before) s ≡ false → (is_subscriber before s ≡ false → subscribed_at before s ≡ None) → subscribed_at (item ∷ before) s ≡ None
    cases (SubscriptionAccepted q ttl) absent rest = let parts = or_parts (eq_by_cmp subscription_cmp s q) (is_subscriber before s) absent in rw parts.0 (rest parts.1)
    cases (SubscriptionStopped q) absent rest = still_none (eq_by_cmp subscription_cmp s q) (subscribed_at before s) (rest absent)
    cases (OfferStopped instance) absent rest = still_none (is_of_instance instance s) (subscribed_at before s) (rest absent)
    cases (PeerRebooted peer) absent rest = still_none (is_of_peer peer s) (subscribed_at before s) (rest absent)
    cases item absent rest = rest absent

pub get-subscriber : (items : List Item) (s : Subscription) → get (subscribers_in items) s ≡ unless_passed (clock_at items) (subscribed_at items s)
get-subscriber items s =
    get-named subscriptions_total exact_subscriptions (flat_map accepted items) (λ q. unless_passed (clock_at items) (subscribed_at items q)) s
    (λ absent. ap (unless_passed (clock_at items)) (unsubscribed items s absent))

-- ---- calls

abbrev is_made : List Item → CallKey → Bool
is_made items key = list_any (eq_by_cmp call_cmp key) (flat_map call_made items)

module _ (config : Config) where
  unawaited : (items : List Item) (key : CallKey) → is_made items key ≡ false → awaited_at config items key ≡ None
  unawaited [] key absent = refl
  unawaited (item ∷ before) key absent = cases item absent (unawaited before key)
    where
      called : (kind : CallKind) (own : CallKey) (awaited : Lasting Awaited) → list_any (eq_by_cmp call_cmp key) (waiting_call kind own ++ flat_map call_made before) ≡ false
          → (is_made before key ≡ false → awaited_at config before key ≡ None) → called_by kind own awaited key (awaited_at config before key) ≡ None
      called Request own awaited absent rest = let parts = or_parts (eq_by_cmp call_cmp key own) (is_made before key) absent in rw parts.0 (rest parts.1)
      called RequestNoReturn own awaited absent rest = rest absent

      cases : (item : Item) → is_made (item ∷ before) key ≡ false → (is_made before key ≡ false → awaited_at config before key ≡ None) → awaited_at config (item ∷ before) key ≡ None
      cases (Called call peer session) absent rest = called call.kind (call_key call session) (awaited_from config call peer (clock_at before)) absent rest
      cases (AnswerTaken own) absent rest = still_none (eq_by_cmp call_cmp key own) (awaited_at config before key) (rest absent)
      cases item absent rest = rest absent

  pub get-pending : (items : List Item) (key : CallKey) → get (pending_in config (clock_at items) items) key ≡ unless_passed (clock_at items) (awaited_at config items key)
  get-pending items key =
      get-named calls_total exact_calls (flat_map call_made items) (λ q. unless_passed (clock_at items) (awaited_at config items q)) key
      (λ absent. ap (unless_passed (clock_at items)) (unawaited items key absent))

-- ---- requests

abbrev is_given : List Item → ℕ → Bool
is_given items token = list_any (eq_by_cmp nat_cmp token) (tokens_in items)

unrequested : (items : List Item) (token : ℕ) → is_given items token ≡ false → open_request_at items token ≡ None
unrequested [] token absent = refl
unrequested (item ∷ before) token absent = cases item absent (unrequested before token)
  where
    cases : (item : Item) → is_given (item ∷ before) token ≡ false → (is_given before token ≡ false → open_request_at before token ≡ None) → open_request_at (item ∷ before) token ≡ None
    cases (Requested request) absent rest = let parts = or_parts (eq_by_cmp nat_cmp token (next_token before)) (is_given before token) absent in rw parts.0 (rest parts.1)
    cases (Answered own) absent rest = still_none (eq_by_cmp nat_cmp token own) (open_request_at before token) (rest absent)
    cases item absent rest = rest absent

pub get-request : (items : List Item) (token : ℕ) → get (requests_in items) token ≡ open_request_at items token
get-request items token = get-named nat_cmp_total exact_unsigned (tokens_in items) (open_request_at items) token (unrequested items token)

-- ---- sessions and stamps

abbrev is_called : List Item → MessageId → Bool
is_called items message = list_any (eq_by_cmp message_cmp message) (flat_map message_called items)

uncalled : (items : List Item) (message : MessageId) → is_called items message ≡ false → last_session_at items message ≡ None
uncalled [] message absent = refl
uncalled (item ∷ before) message absent = cases item absent (uncalled before message)
  where
    cases : (item : Item) → is_called (item ∷ before) message ≡ false → (is_called before message ≡ false → last_session_at before message ≡ None)
        → last_session_at (item ∷ before) message ≡ None
    cases (Called call peer session) absent rest = let parts = or_parts (eq_by_cmp message_cmp message call.message) (is_called before message) absent in rw parts.0 (rest parts.1)
    cases item absent rest = rest absent

pub get-session : (items : List Item) (message : MessageId) → get (call_sessions_in items) message ≡ last_session_at items message
get-session items message = get-named messages_total exact_messages (flat_map message_called items) (last_session_at items) message (uncalled items message)

pub next-event_session : (items : List Item) (event : EventId) → next_of (event_sessions_in items) event ≡ session_after (suc (times_published items event)) 0
next-event_session items event =
    get-counted events_total exact_events (λ n. session_after n 0) session_after_last (flat_map event_published items) event refl

pub stamp-next : (items : List Item) (peer : Ipv4Addr) → stamp_for (unicast_in items) peer ≡ after_uses (messages_to items peer)
stamp-next items peer = get-counted addresses_total exact_addresses after_uses stamp_or_first (flat_map peer_addressed items) peer refl
