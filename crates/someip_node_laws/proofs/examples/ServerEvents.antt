-- The server's half of the worked run from the Subscribe on, by computation.
use Rattle.std.proofs.Common.{◌≡◌, ℕ, nat_le, nat_lt, not, Bool, true, false, if◌then◌else◌, List, [], ◌∷◌, filter, map, Option, None, Some, Ok, refl, ap, arith, ◌∙◌}
use Rattle.std.proofs.lemmas.Bool.{lt-leb}
use Rattle.std.specs.List.{list_any}
use Rattle.std.specs.Option.{is_some, option_map_or}
use Rattle.std.specs.BTreeMap.{is_at}
use Rattle.std.specs.BTreeSet.{BTreeSet, contains}
use Rattle.std.specs.FinMap.{empty, from_entries, len-empty, remove}
use Rattle.std.specs.Map.{lookup}
use Rattle.std.specs.Ordering.{nat_cmp}
use Rattle.std.specs.declared.net.socket_addr.SocketAddrV4.{SocketAddrV4}
use Rattle.someip_wire.specs.Reading.{items_within}
use Rattle.someip_wire.specs.Spelling.{spelling}
use Rattle.someip_tables.specs.declared.deadline.Deadline.TheVariants.{At}
use Rattle.someip_tables.specs.declared.lasting.Lasting.{Lasting}
use Rattle.someip_tables.specs.Deadlines.{has_passed}
use Rattle.someip_tables.specs.EndpointOrder.{endpoints_total, exact_endpoints}
use Rattle.someip_tables.specs.Endpoints.{endpoint_cmp}
use Rattle.someip_tables.specs.Lastings.{unexpired}
use Rattle.someip_tables.specs.SortedSet.{sorted_set}
use Rattle.someip_tables.proofs.Entries.{len-retain-≤, len-retain_keys-≤}
use Rattle.someip_tables.proofs.MapLaws.{len-remove-≤}
use Rattle.sd_wire.specs.declared.entry.EntryHead.TheVariants.{Eventgroup as OfEventgroup}
use Rattle.sd_wire.specs.encoding.Encoding.{message_bytes}
use Rattle.sd_wire.specs.decoding.Program.{options_within}
use Rattle.sd_wire.specs.contents.Values.{EntryValue, ReadValue, good}
use Rattle.sd_session.specs.declared.stamp.Channel.TheVariants.{Unicast}
use Rattle.sd_session.specs.Sessions.{after_uses, first}
use Rattle.sd_core.specs.declared.error.Cause.TheVariants.{Full, NotOffered}
use Rattle.sd_core.specs.declared.subscribe.Subscribe.{Subscribe}
use Rattle.sd_core.specs.declared.subscription.Subscription.{Subscription}
use Rattle.sd_core.specs.SubscriberTables.{SubscriberMap, count_beside, endpoints_of, is_to, is_to_any, nack_cause}
use Rattle.sd_core.specs.SubscriptionKeys.{subscription_cmp}
use Rattle.sd_core.specs.SubscriptionOrder.{subscriptions_total, exact_subscriptions}
use Rattle.someip_tables.proofs.SortedEntries.{keys-empty}
use Rattle.someip_rpc.specs.Events.{event_header, event_of, next_session_of, publish_refusal}
use Rattle.someip_rpc.specs.declared.error.RpcError.TheVariants as rpc_error
use Rattle.someip_node_rules.specs.rules.Errors.{as_node_error}
use Rattle.someip_node_rules.specs.rules.Publishing.{publishes_by}
use Rattle.someip_node_rules.specs.forms.Entries.{ack_entry, discovery_message, udp_option}
use Rattle.someip_node_rules.specs.rules.Handling.{heard_plan, target_plan}
use Rattle.someip_node_rules.specs.histories.History.{answers_of}
use Rattle.someip_node_rules.specs.rules.Inputs.{Datagram, Publish, refusal_of}
use Rattle.someip_node_rules.specs.histories.Items.{Item, OfferStopped, PeerHeard, Published}
use Rattle.someip_node_rules.specs.rules.Outcomes.{Outcome, nothing}
use Rattle.someip_node_rules.specs.forms.Outputs.{Sends}
use Rattle.someip_node_rules.specs.rules.Plans.{both, rest, rule, Publishes, TakesSubscribe}
use Rattle.someip_node_rules.specs.forms.Setups.{has_eventgroup}
use Rattle.someip_node_rules.specs.histories.SubscriberQuestions.{stands_until}
use Rattle.someip_node_rules.specs.rules.ServerSubscribing.{accepted_at, rules_by, subscribe_by, subscribe_in}
use Rattle.someip_node_rules.specs.histories.Tables.{Tables, is_up, live_subscribers}
use Rattle.someip_node_laws.specs.WorkedExamples.{client, discovery_at, instance, server, server_address, service, subscribe_head}
use Rattle.someip_node_laws.specs.WorkedRun.{LeadsTo, OffersEvent, accepted_items, ack_bytes, having_met, answered_items, event_bytes, eventgroup, published_items, subscribe_bytes, subscription}
use Rattle.someip_node_rules.specs.declared.config.Config.{Config}
use Rattle.someip_node_rules.specs.declared.error.NodeError.TheVariants.{Rpc}
use Rattle.someip_node_rules.specs.declared.output.Output.TheVariants.{Accepted, Sent}
use Rattle.someip_node_rules.specs.declared.target.Target.TheVariants as target
use Rattle.someip_node_laws.proofs.examples.ClientRun.{both_flags}
use Rattle.someip_node_laws.proofs.histories.NamedLemmas.{next-event_session}
use Rattle.someip_node_laws.proofs.examples.OneEntryLemmas.{entry_kept, keys_of_one}
use Rattle.someip_node_laws.proofs.examples.ServerRun.{offered_here, up_at}
use Rattle.someip_node_laws.proofs.examples.StepLemmas.{has_room, is_new, one_entry, one_rule, reply_goes, work_after}
use Rattle.someip_node_laws.proofs.histories.UpLemmas.{up_is}

-- what is read of the Subscribe
abbrev pub subscribe_read : ReadValue
subscribe_read = good (record { head = OfEventgroup subscribe_head; first = udp_option client ∷ []; second = [] })

pub reads_subscribe : target_plan (target.Discovery Unicast) (discovery_at client.ip) (discovery_at server_address) subscribe_bytes
    ≡ both (heard_plan client.ip Unicast 1 (record { flags = both_flags; entries = subscribe_read ∷ [] })) rest
unfolding items_within options_within
reads_subscribe = refl

-- its Ack and its Nack as they are written
abbrev ack : EntryValue
ack = ack_entry subscribe_head 3

ack_written : spelling (discovery_message (after_uses 0) (ack ∷ [])) ≡ ack_bytes 0
unfolding message_bytes
ack_written = refl

-- no subscription is live where none was accepted
none_beside : (now : ℕ) → nat_le 16 (count_beside subscription (unexpired now empty)) ≡ false
none_beside now =
    let all = len-retain_keys-≤ subscriptions_total exact_subscriptions (remove (unexpired now (empty {X = Lasting (Unit {0})})) subscription) (is_to instance 1) in
    let other = len-remove-≤ subscriptions_total exact_subscriptions (unexpired now (empty {X = Lasting (Unit {0})})) subscription in
    let live = len-retain-≤ subscriptions_total exact_subscriptions (empty {X = Lasting (Unit {0})}) (λ _ lasting. not (has_passed now lasting.until)) in
    let none = len-empty subscription_cmp (Lasting (Unit {0})) in
    lt-leb 16 (count_beside subscription (unexpired now empty)) (omega arith)

module _ (config : Config) (is : OffersEvent config) where
  -- ---- the Subscribe comes

  has_group : has_eventgroup (service is.server.events) 1 ≡ true
  has_group = ap (λ (es : List (ℕ × BTreeSet ℕ)). list_any (λ e. contains nat_cmp e.1 1) es) is.events

  abbrev pub asks : Subscribe
  asks = subscribe_in client.ip subscribe_head (Some client)

  module _ (items : List Item) where
    abbrev t : Tables
    t = answers_of (having_met config items)

    -- what becomes of it, by whether the instance is up
    abbrev pub answered_if : Bool → Outcome
    answered_if up =
        subscribe_by subscribe_head asks
        (nack_cause (record { is_offered = up; is_same_major = true; is_known_eventgroup = has_eventgroup (service is.server.events) 1; limit = 16 }) asks (live_subscribers t))

    pub takes_subscribe : (up : Bool) → is_up t instance ≡ up → rule (TakesSubscribe client.ip subscribe_head (Some client)) t ≡ answered_if up
    takes_subscribe up goes_on =
        ap (λ found. subscribe_by subscribe_head asks (nack_cause (rules_by subscribe_head (is_up t instance) found) asks (live_subscribers t))) (offered_here config is)
        ∙ ap answered_if goes_on

  abbrev pub heard_items : List Item
  heard_items = PeerHeard client.ip Unicast first ∷ answered_items

  pub accepts : rule (TakesSubscribe client.ip subscribe_head (Some client)) (answers_of (having_met config heard_items)) ≡ accepted_at subscribe_head asks client
  accepts =
      takes_subscribe heard_items true (up_at config is heard_items refl)
      ∙ ap (λ known. subscribe_by subscribe_head asks (nack_cause (record { is_offered = true; is_same_major = true; is_known_eventgroup = known; limit = 16 }) asks (live_subscribers (answers_of (having_met config heard_items))))) has_group
      ∙ ap (λ full. subscribe_by subscribe_head asks (if full then Some Full else None)) (none_beside 10)

  pub subscribe_accepted : LeadsTo (having_met config answered_items) (Datagram (discovery_at client.ip) (discovery_at server_address) subscribe_bytes)
      (Accepted eventgroup client 0 ∷ Sent (discovery_at server_address) (discovery_at client.ip) (ack_bytes 0) ∷ []) accepted_items
  subscribe_accepted =
      one_entry (having_met config answered_items) (discovery_at client.ip) (discovery_at server_address) subscribe_bytes (target.Discovery Unicast)
      (rw is.server.address refl) (rw is.server.address refl) Unicast 1 both_flags subscribe_read (TakesSubscribe client.ip subscribe_head (Some client)) (accepted_at subscribe_head asks client)
      reads_subscribe (rw is.peers (has_room 64 client.ip (omega arith))) (is_new Unicast first client.ip) refl accepts
      ∙ ap Ok (reply_goes (record (work_after (having_met config heard_items) (accepted_at subscribe_head asks client)) { replies = [] }) client.ip ack (ack_bytes 0) ack_written)
      ∙ rw is.server.address refl

  -- the offer was stopped before it

  abbrev pub stopped_items : List Item
  stopped_items = OfferStopped instance ∷ answered_items

  abbrev pub stopped_heard_items : List Item
  stopped_heard_items = PeerHeard client.ip Unicast first ∷ stopped_items

  pub is_down : is_up (answers_of (having_met config stopped_heard_items)) instance ≡ false
  is_down = up_is (having_met config stopped_heard_items) instance ∙ rw is.server.offers refl

  -- ---- the event is published

  abbrev entries_of_event : List (ℕ × BTreeSet ℕ) → Option (BTreeSet ℕ)
  entries_of_event es = lookup (is_at (nat_cmp 0x8001)) es

  module _ (items : List Item) (goes_on : is_up (answers_of (having_met config items)) instance ≡ true) where
    abbrev here : Tables
    here = answers_of (having_met config items)

    may_publish : refusal_of (Publish instance 0x8001 (0x2a ∷ [])) here ≡ None
    may_publish =
        ap (λ found. option_map_or (λ s. as_node_error (publish_refusal s.rules (is_up here instance) config.common.message_limit 0x8001 1)) found (Some (Rpc rpc_error.NotOffered))) (offered_here config is)
        ∙ ap (λ up. as_node_error (publish_refusal (service is.server.events).rules up config.common.message_limit 0x8001 1)) goes_on
        ∙ ap (λ (es : List (ℕ × BTreeSet ℕ)). as_node_error (if not (is_some (entries_of_event es)) then Some rpc_error.UnknownEvent else if nat_lt config.common.message_limit 1 then Some rpc_error.TooLong else None)) is.events
        ∙ rw is.message_limit refl

    -- what goes out, by its session and its subscribers
    abbrev published_to : ℕ → List SocketAddrV4 → Outcome
    published_to session endpoints = record {
      items = Published (event_of (service is.server.events).rules 0x8001) ∷ [];
      given = map (λ to. Sends server to (record { header = event_header (service is.server.events).rules 0x8001 session; payload = 0x2a ∷ [] })) endpoints;
      replies = [];
    }

    publishes_then : (live : SubscriberMap) (session : ℕ) (endpoints : List SocketAddrV4) → live_subscribers here ≡ live → next_session_of (service is.server.events).rules 0x8001 here.server ≡ session
        → endpoints_of instance (1 ∷ []) live ≡ endpoints → rule (Publishes instance 0x8001 (0x2a ∷ [])) here ≡ published_to session endpoints
    publishes_then live session endpoints lives next to =
        ap (λ found. option_map_or (λ s. publishes_by instance s 0x8001 (0x2a ∷ []) here) found nothing) (offered_here config is)
        ∙ ap (λ (es : List (ℕ × BTreeSet ℕ)). published_to (next_session_of (service is.server.events).rules 0x8001 here.server) (endpoints_of instance (option_map_or (λ groups. groups.keys) (entries_of_event es) []) (live_subscribers here))) is.events
        ∙ ap (λ m. published_to (next_session_of (service is.server.events).rules 0x8001 here.server) (endpoints_of instance (1 ∷ []) m)) lives
        ∙ ap (λ n. published_to n (endpoints_of instance (1 ∷ []) live)) next ∙ ap (published_to session) to

  -- the subscription is live
  abbrev one_live : List (Subscription × Lasting (Unit {0}))
  one_live = (subscription, stands_until (At 3010)) ∷ []

  lives : live_subscribers (answers_of (having_met config accepted_items)) ≡ from_entries one_live
  lives = entry_kept subscriptions_total exact_subscriptions (λ _ lasting. not (has_passed 10 lasting.until)) subscription (stands_until (At 3010)) refl

  to_client : endpoints_of instance (1 ∷ []) (from_entries one_live) ≡ client ∷ []
  to_client =
      ap (λ ks. sorted_set endpoint_cmp (map (λ (s : Subscription). s.endpoint) (filter (is_to_any instance (1 ∷ [])) ks))) (keys_of_one subscriptions_total exact_subscriptions subscription (stands_until (At 3010)))
      ∙ keys_of_one endpoints_total exact_endpoints client tt

  pub event_goes : LeadsTo (having_met config accepted_items) (Publish instance 0x8001 (0x2a ∷ [])) (Sent server client event_bytes ∷ []) published_items
  event_goes =
      one_rule (having_met config accepted_items) (Publish instance 0x8001 (0x2a ∷ [])) (Publishes instance 0x8001 (0x2a ∷ [])) (published_to accepted_items (up_at config is accepted_items refl) 1 (client ∷ []))
      (may_publish accepted_items (up_at config is accepted_items refl)) refl
      (publishes_then accepted_items (up_at config is accepted_items refl) (from_entries one_live) 1 (client ∷ []) lives (next-event_session accepted_items (event_of (service is.server.events).rules 0x8001)) to_client)

  to_none : endpoints_of instance (1 ∷ []) empty ≡ []
  to_none =
      ap (λ ks. sorted_set endpoint_cmp (map (λ (s : Subscription). s.endpoint) (filter (is_to_any instance (1 ∷ [])) ks))) (keys-empty (Lasting (Unit {0})) subscription_cmp)
      ∙ keys-empty (Unit {0}) endpoint_cmp
