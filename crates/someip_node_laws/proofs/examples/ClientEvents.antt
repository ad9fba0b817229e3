-- The client's half of the worked run from its wish on, by computation.
use Rattle.std.proofs.Common.{◌≡◌, ℕ, ◌==◌, ◌&&◌, ◌||◌, nat_lt, Bool, true, false, if◌then◌else◌, List, [], ◌∷◌, None, Some, Ok, refl, ap, find, ◌∙◌}
use Rattle.std.specs.Option.{is_some, option_map, option_map_or}
use Rattle.std.specs.List.{list_any}
use Rattle.std.specs.BTreeSet.{BTreeSet}
use Rattle.std.specs.FinMap.{get, get-empty, get-from_entries, len}
use Rattle.std.specs.Ordering.{eq_by_cmp}
use Rattle.someip_wire.specs.declared.header.Header.{Header}
use Rattle.someip_wire.specs.declared.header.MessageType.TheVariants as kinds
use Rattle.someip_wire.specs.Reading.{items_within}
use Rattle.someip_tables.specs.EndpointOrder.{addresses_total}
use Rattle.someip_tables.specs.Endpoints.{endpoint_cmp}
use Rattle.sd_wire.specs.declared.entry.EntryHead.TheVariants.{Eventgroup as OfEventgroup}
use Rattle.sd_wire.specs.declared.entry.EventgroupEntry.{EventgroupEntry}
use Rattle.sd_wire.specs.declared.entry.EventgroupKind.TheVariants.{Ack}
use Rattle.sd_wire.specs.decoding.Program.{options_within}
use Rattle.sd_wire.specs.contents.Values.{ReadValue, good}
use Rattle.sd_session.specs.declared.peers.Seen.TheVariants.{Same}
use Rattle.sd_session.specs.declared.peers.Stamps.{Stamps}
use Rattle.sd_session.specs.declared.stamp.Channel.TheVariants.{Unicast}
use Rattle.sd_session.specs.Peers.{may_hold, stamps_of, stamps_or_none, told_by}
use Rattle.sd_session.specs.Sessions.{first}
use Rattle.sd_core.specs.declared.keys.InstanceId.{InstanceId}
use Rattle.sd_core.specs.declared.wish.SubscribeAnswer.{SubscribeAnswer}
use Rattle.sd_core.specs.declared.wish.Wish.{Wish}
use Rattle.sd_core.specs.EventgroupOrder.{eventgroups_total}
use Rattle.sd_core.specs.Eventgroups.{eventgroup_cmp}
use Rattle.sd_core.specs.KeyOrder.{instances_total}
use Rattle.sd_core.specs.SeekTables.{known_at}
use Rattle.sd_core.specs.Wishes.{is_subscribed, sent_at_once, told_by_ack, wish_of}
use Rattle.someip_node_rules.specs.rules.ClientSubscribing.{wish_entries, wish_entries_by, wishes}
use Rattle.someip_node_rules.specs.rules.Handling.{heard_plan, target_plan}
use Rattle.someip_node_rules.specs.histories.History.{answers_of, historic}
use Rattle.someip_node_rules.specs.rules.Inputs.{Datagram, Subscribe, peer_plan, subscribe_plan}
use Rattle.someip_node_rules.specs.histories.Items.{Item, AckCame, PeerHeard}
use Rattle.someip_node_rules.specs.rules.Learning.{ack_by, ack_told, answer_in}
use Rattle.someip_node_rules.specs.rules.Messages.{event_by, is_event_of, is_subscribed_by, takes_event}
use Rattle.someip_node_rules.specs.rules.Outcomes.{Outcome, meets}
use Rattle.someip_node_rules.specs.rules.Plans.{act, both, rest, rule, run, TakesAck, TakesEvent, Wishes}
use Rattle.someip_node_rules.specs.forms.Setups.{discovery_endpoint, is_wanted_eventgroup}
use Rattle.someip_node_rules.specs.steps.Steps.{unless_refused, work_on}
use Rattle.someip_node_rules.specs.histories.Tables.{Tables, known_endpoint, known_peer}
use Rattle.someip_node_rules.specs.histories.WishQuestions.{wish_at}
use Rattle.someip_node_laws.specs.WorkedExamples.{client, discovery_at, instance, server, server_address}
use Rattle.someip_node_laws.specs.WorkedRun.{LeadsTo, WantsEvent, ack_bytes, having_met, event_bytes, eventgroup, replied_items, subscribe_bytes, subscribed_items, wished_items}
use Rattle.someip_node_rules.specs.declared.config.Config.{Config}
use Rattle.someip_node_rules.specs.declared.config.WantedService.{WantedService}
use Rattle.someip_node_rules.specs.declared.error.NodeError.TheVariants.{NotWanted}
use Rattle.someip_node_rules.specs.declared.output.Output.TheVariants.{Event, Sent, Subscribed}
use Rattle.someip_node_rules.specs.declared.target.Target.TheVariants as target
use Rattle.someip_node_laws.proofs.examples.ClientRun.{both_flags, known_as, subscribe_out, subscribe_written, to_client}
use Rattle.someip_node_laws.proofs.examples.StepLemmas.{no_reply, one_entry, one_message, sent_to_peer, work_after}

-- what is read of the Ack
abbrev ack_head : ℕ → EventgroupEntry
ack_head counter = record { kind = Ack; service = 0x1111; instance = 1; major = 1; ttl = 3; counter = counter; eventgroup = 1 }

abbrev ack_read : ℕ → ReadValue
ack_read counter = good (record { head = OfEventgroup (ack_head counter); first = []; second = [] })

reads_ack : target_plan (target.Discovery Unicast) (discovery_at server_address) (discovery_at client.ip) (ack_bytes 0)
    ≡ both (heard_plan server_address Unicast 1 (record { flags = both_flags; entries = ack_read 0 ∷ [] })) rest
unfolding items_within options_within
reads_ack = refl

-- what is read of the event
abbrev event_header : Header
event_header = record { service = 0x1111; method = 0x8001; client = 0; session = 1; interface = 1; kind = kinds.Notification; code = record { 0 = 0 } }

reads_event : target_plan target.Client server client event_bytes ≡ both (act (TakesEvent server event_header (0x2a ∷ []))) rest
unfolding items_within
reads_event = refl

module _ (config : Config) (is : WantsEvent config) where
  -- ---- the eventgroup is wished

  abbrev t : Tables
  t = answers_of (having_met config replied_items)

  known : known_peer t instance ≡ Some server_address
  known = ap (λ v. option_map (λ k. k.peer) (known_at 0 v)) (get-from_entries instances_total (known_as config is) instance)

  subscribe_goes_out : wish_entries eventgroup t ≡ subscribe_out ∷ []
  subscribe_goes_out =
      ap (λ p. wish_entries_by t eventgroup (sent_at_once 0 p (wish_of (get t.wishes eventgroup)))) known
      ∙ ap (λ v. wish_entries_by t eventgroup (sent_at_once 0 (Some server_address) (wish_of v))) (get-empty eventgroup_cmp eventgroup)
      ∙ rw (is.client.wants, is.client.major, is.ttl, is.client.address, is.client.client_port) refl

  allowed : is_wanted_eventgroup config eventgroup ≡ true
  allowed = rw (is.client.wants, is.groups) refl

  pub subscribe_goes : LeadsTo (having_met config replied_items) (Subscribe eventgroup) (Sent (discovery_at client.ip) (discovery_at server_address) subscribe_bytes ∷ []) wished_items
  subscribe_goes =
      ap (λ b. unless_refused (if b then None else Some NotWanted) (subscribe_plan eventgroup) (having_met config replied_items)) allowed
      ∙ ap (λ p. Ok (run historic (both (act (Wishes eventgroup)) (peer_plan p (wish_entries eventgroup t))) (work_on (having_met config replied_items)))) known
      ∙ ap (λ es. Ok (run historic (both (act (Wishes eventgroup)) (peer_plan (Some server_address) es)) (work_on (having_met config replied_items)))) subscribe_goes_out
      ∙ ap Ok (sent_to_peer (work_after (having_met config replied_items) (wishes eventgroup t)) server_address (subscribe_out ∷ []))
      ∙ ap (λ bytes. Ok (record {
        state = having_met config wished_items;
        outputs = Sent (discovery_endpoint config) (discovery_at server_address) bytes ∷ [];
        replies = [];
      })) subscribe_written
      ∙ rw is.client.address refl

  -- ---- the Ack comes

  abbrev acked_items : List Item
  acked_items = PeerHeard server_address Unicast first ∷ wished_items

  -- the server was heard from on the other channel
  abbrev stamps : Stamps
  stamps = record { multicast = Some first; unicast = None }

  peer_known : get (answers_of (having_met config wished_items)).peers server_address ≡ Some stamps
  peer_known = get-from_entries addresses_total ((server_address, stamps) ∷ []) server_address

  room : may_hold config.common.peers (answers_of (having_met config wished_items)).peers server_address ≡ true
  room = ap (λ v. is_some v || nat_lt (len (answers_of (having_met config wished_items)).peers) config.common.peers) peer_known

  same : told_by Unicast first (stamps_of (answers_of (having_met config wished_items)).peers server_address) ≡ Same
  same = ap (λ v. told_by Unicast first (stamps_or_none v)) peer_known

  -- the Ack, as it is taken
  abbrev acknowledges : ℕ → SubscribeAnswer
  acknowledges counter = record { eventgroup = eventgroup; has_wanted_major = true; peer = server_address; counter = counter }

  answers : (counter : ℕ) → answer_in server_address (ack_head counter) (answers_of (having_met config acked_items)) ≡ acknowledges counter
  answers counter = rw (is.client.wants, is.client.major) refl

  -- the wish that it finds
  wish : get (answers_of (having_met config acked_items)).wishes eventgroup ≡ Some (wish_at acked_items eventgroup)
  wish = get-from_entries eventgroups_total ((eventgroup, wish_at acked_items eventgroup) ∷ []) eventgroup

  takes_ack : (counter : ℕ) → rule (TakesAck server_address (ack_head counter)) (answers_of (having_met config acked_items))
      ≡ meets (AckCame (acknowledges counter) 3 ∷ []) (ack_told eventgroup counter (told_by_ack 0 (acknowledges counter) (wish_at acked_items eventgroup).stage))
  takes_ack counter =
      ap (λ answer. ack_by answer 3 (answers_of (having_met config acked_items))) (answers counter)
      ∙ ap (λ v. meets (AckCame (acknowledges counter) 3 ∷ []) (ack_told eventgroup counter (told_by_ack 0 (acknowledges counter) (wish_of v).stage))) wish

  pub ack_taken : LeadsTo (having_met config wished_items) (Datagram (discovery_at server_address) (discovery_at client.ip) (ack_bytes 0)) (Subscribed eventgroup 0 ∷ []) subscribed_items
  ack_taken =
      one_entry (having_met config wished_items) (discovery_at server_address) (discovery_at client.ip) (ack_bytes 0) (target.Discovery Unicast)
      (rw is.client.address refl) (rw is.client.address refl) Unicast 1 both_flags (ack_read 0) (TakesAck server_address (ack_head 0)) (meets (AckCame (acknowledges 0) 3 ∷ []) (Subscribed eventgroup 0 ∷ []))
      reads_ack room same refl (takes_ack 0)
      ∙ ap Ok (no_reply (work_after (having_met config acked_items) (meets (AckCame (acknowledges 0) 3 ∷ []) (Subscribed eventgroup 0 ∷ []))) server_address)

  -- ---- the event comes

  -- what becomes of it, by whether the instance publishes it to this client
  abbrev taken_if : Bool → Outcome
  taken_if publishes = event_by event_header (0x2a ∷ []) (option_map (λ (want : InstanceId × WantedService). want.0) (find (λ _. publishes) ((instance, is.client.want) ∷ [])))

  module _ (items : List Item) (wish : Wish) where
    abbrev at : Tables
    at = answers_of (having_met config items)

    publishes_if : known_endpoint at instance ≡ Some server → get at.wishes eventgroup ≡ Some wish
        → is_event_of at server event_header (instance, is.client.want) ≡ (is_subscribed at.clock wish.stage || false)
    publishes_if known stands =
        ap (λ major. (major == 1) && option_map_or (λ endpoint. eq_by_cmp endpoint_cmp endpoint server) (known_endpoint at instance) false && takes_event at instance is.client.want 0x8001) is.client.major
        ∙ ap (λ v. option_map_or (λ endpoint. eq_by_cmp endpoint_cmp endpoint server) v false && takes_event at instance is.client.want 0x8001) known
        ∙ ap (λ (groups : List (ℕ × BTreeSet ℕ)). list_any (is_subscribed_by at instance 0x8001) groups) is.groups
        ∙ ap (λ v. is_subscribed at.clock (wish_of v).stage || false) stands

    taken : known_endpoint at instance ≡ Some server → get at.wishes eventgroup ≡ Some wish
        → rule (TakesEvent server event_header (0x2a ∷ [])) at ≡ taken_if (is_subscribed at.clock wish.stage || false)
    taken known stands = rw is.client.wants (ap taken_if (publishes_if known stands))

  pub event_taken : LeadsTo (having_met config subscribed_items) (Datagram server client event_bytes) (Event instance 0x8001 (0x2a ∷ []) ∷ []) subscribed_items
  event_taken =
      one_message (having_met config subscribed_items) server client event_bytes target.Client (rw is.client.address refl) (to_client config is)
      (TakesEvent server event_header (0x2a ∷ [])) (meets [] (Event instance 0x8001 (0x2a ∷ []) ∷ [])) reads_event
      (taken subscribed_items (wish_at subscribed_items eventgroup) (ap (λ v. option_map (λ k. k.endpoint) (known_at 0 v)) (get-from_entries instances_total (known_as config is) instance))
      (get-from_entries eventgroups_total ((eventgroup, wish_at subscribed_items eventgroup) ∷ []) eventgroup))
