-- The client's half of the worked run, by computation.
use Rattle.std.proofs.Common.{◌≡◌, ℕ, true, if◌then◌else◌, List, [], ◌∷◌, map, Option, None, Some, Ok, refl, ap, arith, ◌∙◌}
use Rattle.std.specs.List.{filter_map, flat_map}
use Rattle.std.specs.Option.{option_map}
use Rattle.std.specs.FinMap.{empty, get, get-empty, get-from_entries}
use Rattle.someip_wire.specs.Reading.{items_within}
use Rattle.someip_wire.specs.Spelling.{spelling}
use Rattle.sd_wire.specs.declared.entry.EntryHead.TheVariants.{Service}
use Rattle.sd_wire.specs.declared.entry.ServiceKind.TheVariants.{Offer}
use Rattle.sd_wire.specs.declared.flags.SdFlags.{SdFlags}
use Rattle.sd_wire.specs.encoding.Encoding.{message_bytes}
use Rattle.sd_wire.specs.decoding.Program.{options_within}
use Rattle.sd_wire.specs.contents.Values.{EntryValue, ReadValue, good}
use Rattle.sd_session.specs.declared.stamp.Channel.TheVariants.{Multicast}
use Rattle.sd_session.specs.Peers.{may_hold}
use Rattle.sd_session.specs.Sessions.{after_uses, first}
use Rattle.sd_core.specs.declared.wish.Stage.TheVariants.{Waiting}
use Rattle.sd_core.specs.declared.wish.Wish.{Wish}
use Rattle.sd_core.specs.EventgroupOrder.{eventgroups_total, exact_eventgroups}
use Rattle.sd_core.specs.KeyOrder.{instances_total}
use Rattle.sd_core.specs.Keys.{instance_cmp}
use Rattle.sd_core.specs.SeekTables.{counted_as, known_at, offer_refusal}
use Rattle.sd_core.specs.Wishes.{subscribe_of}
use Rattle.sd_core.specs.WishTables.{subscribes}
use Rattle.someip_wire.specs.declared.header.Header.{Header}
use Rattle.someip_wire.specs.declared.header.MessageType.TheVariants as kinds
use Rattle.someip_tables.specs.declared.deadline.Deadline.TheVariants.{At}
use Rattle.someip_tables.specs.declared.lasting.Lasting.{Lasting}
use Rattle.someip_tables.specs.Lastings.{unless_passed}
use Rattle.someip_tables.proofs.Expiry.{get-unexpired}
use Rattle.someip_tables.proofs.MapLaws.{retain-empty}
use Rattle.sd_core.specs.declared.keys.InstanceId.{InstanceId}
use Rattle.sd_core.specs.declared.received.KnownOffer.{KnownOffer}
use Rattle.someip_rpc.specs.declared.call.Awaited.{Awaited}
use Rattle.someip_rpc.specs.declared.call.CallKind.TheVariants.{Request}
use Rattle.someip_rpc.specs.declared.error.DropCause.TheVariants.{NotPending}
use Rattle.someip_rpc.specs.declared.ids.CallKey.{CallKey}
use Rattle.someip_rpc.specs.Answers.{is_awaited}
use Rattle.someip_rpc.specs.IdOrder.{calls_total, exact_calls}
use Rattle.someip_rpc.specs.Ids.{message_cmp}
use Rattle.someip_node_rules.specs.histories.CallQuestions.{awaited_at}
use Rattle.someip_node_rules.specs.rules.Messages.{answer_by}
use Rattle.someip_node_rules.specs.histories.Questions.{clock_at}
use Rattle.someip_node_rules.specs.histories.SeekQuestions.{offer_from}
use Rattle.someip_node_laws.proofs.histories.NamedLemmas.{get-pending}
use Rattle.someip_node_laws.specs.CallExamples.{instance_offer}
use Rattle.someip_node_rules.specs.forms.Entries.{discovery_message, subscribe_entry, udp_option}
use Rattle.someip_node_rules.specs.rules.Handling.{heard_plan, target_of, target_plan}
use Rattle.someip_node_rules.specs.histories.History.{answers_of}
use Rattle.someip_node_rules.specs.rules.Inputs.{Call, Datagram}
use Rattle.someip_node_rules.specs.histories.Items.{Item, OfferCounted, PeerHeard}
use Rattle.someip_node_rules.specs.rules.Learning.{known_told, offer_by, offer_counts, subscribe_to}
use Rattle.someip_node_rules.specs.rules.Outcomes.{Outcome}
use Rattle.someip_node_rules.specs.forms.Outputs.{Tells}
use Rattle.someip_node_rules.specs.rules.Plans.{act, both, rest, rule, TakesAnswer, TakesOffer}
use Rattle.someip_node_rules.specs.histories.Tables.{Tables, known_endpoint, waiting_calls}
use Rattle.someip_node_laws.specs.WorkedExamples.{client, discovery_at, instance, server, server_address}
use Rattle.someip_node_laws.specs.WorkedRun.{LeadsTo, WantsEvent, having_met, answer_bytes, call_bytes, called_items, eventgroup, group_address, known_items, method, offer_bytes, replied_items, subscribe_bytes}
use Rattle.someip_node_rules.specs.declared.config.Config.{Config}
use Rattle.someip_node_rules.specs.declared.output.Output.TheVariants.{Answered as AnsweredOutput, Called as CallOutput, Known, Sent}
use Rattle.someip_node_rules.specs.declared.target.Target.TheVariants as target
use Rattle.someip_node_laws.proofs.examples.OneEntryLemmas.{entries_of_none}
use Rattle.someip_node_laws.proofs.examples.StepLemmas.{first_call, has_room, is_new, no_reply, one_entry, one_message, work_after}

-- the call of the method 0421 with one byte
abbrev pub calling_with : ℕ → List ℕ
calling_with byte = 0x11 ∷ 0x11 ∷ 4 ∷ 0x21 ∷ 0 ∷ 0 ∷ 0 ∷ 9 ∷ 1 ∷ 2 ∷ 0 ∷ 1 ∷ 1 ∷ 1 ∷ 0 ∷ 0 ∷ byte ∷ []

abbrev pub both_flags : SdFlags
both_flags = record { reboot = true; unicast = true }

-- ---- an Offer comes

-- what is read of it
abbrev offer_read : ℕ → ReadValue
offer_read ttl =
    good (record {
      head = Service (record { kind = Offer; service = 0x1111; instance = 1; major = 1; ttl = ttl; minor = 0 });
      first = udp_option server ∷ [];
      second = [];
    })

reads_offer : target_plan (target.Discovery Multicast) (discovery_at server_address) (discovery_at group_address) (offer_bytes 3)
    ≡ both (heard_plan server_address Multicast 1 (record { flags = both_flags; entries = offer_read 3 ∷ [] })) rest
unfolding items_within options_within
reads_offer = refl

-- the Subscribe that goes out
abbrev pub subscribe_out : EntryValue
subscribe_out = subscribe_entry client 1 3 eventgroup 0

pub subscribe_written : spelling (discovery_message (after_uses 0) (subscribe_out ∷ [])) ≡ subscribe_bytes
unfolding message_bytes
subscribe_written = refl

-- an Offer counts where none is known, and brings about these replies
abbrev learned : List EntryValue → Outcome
learned replies = record { items = OfferCounted instance_offer server ∷ []; given = Tells (Known instance server) ∷ []; replies = replies }

takes_offer : (t : Tables) (replies : List EntryValue) → get t.seek.wanted instance ≡ Some 1 → get t.seek.known instance ≡ None
    → flat_map (subscribe_to t) (subscribes t.clock instance server_address t.wishes) ≡ replies → rule (TakesOffer instance_offer) t ≡ learned replies
takes_offer t replies wants unknown said =
    ap (λ v. offer_by instance_offer (offer_refusal v (known_at t.clock (get t.seek.known instance)) instance_offer) t) wants
    ∙ ap (λ v. offer_by instance_offer (offer_refusal (Some 1) (known_at t.clock v) instance_offer) t) unknown
    ∙ ap (λ v. record (offer_counts instance_offer server t) { given = map Tells (known_told instance server (counted_as server (known_at t.clock v))) }) unknown
    ∙ ap learned said

module _ (config : Config) (is : WantsEvent config) where
  wanted : (items : List Item) → get (answers_of (having_met config items)).seek.wanted instance ≡ Some 1
  wanted items = rw (is.client.wants, is.client.major) (get-from_entries instances_total ((instance, 1) ∷ []) instance)

  room : may_hold config.common.peers empty server_address ≡ true
  room = rw is.peers (has_room 64 server_address (omega arith))

  -- nothing was met before it
  abbrev heard_items : List Item
  heard_items = PeerHeard server_address Multicast first ∷ []

  pub offer_learned : LeadsTo (having_met config []) (Datagram (discovery_at server_address) (discovery_at group_address) (offer_bytes 3)) (Known instance server ∷ []) known_items
  offer_learned =
      one_entry (having_met config []) (discovery_at server_address) (discovery_at group_address) (offer_bytes 3) (target.Discovery Multicast)
      (rw is.client.address refl) (rw (is.client.address, is.group) refl) Multicast 1 both_flags (offer_read 3) (TakesOffer instance_offer) (learned [])
      reads_offer room (is_new Multicast first server_address) refl
      (takes_offer (answers_of (having_met config heard_items)) [] (wanted heard_items) (get-empty instance_cmp instance)
      (ap (λ es. flat_map (subscribe_to (answers_of (having_met config heard_items))) (filter_map (λ e. subscribe_of 0 instance server_address e.0 e.1) es)) (entries_of_none eventgroups_total exact_eventgroups)))
      ∙ ap Ok (no_reply (work_after (having_met config heard_items) (learned [])) server_address)

  abbrev waiting : Wish
  waiting = record { stage = Waiting; next_counter = 0 }

  -- ---- a call, and its answer

  -- the offer is known
  abbrev pub known_as : List (InstanceId × Lasting KnownOffer)
  known_as = (instance, offer_from instance_offer server 0) ∷ []

  reached : known_endpoint (answers_of (having_met config known_items)) instance ≡ Some server
  reached = ap (λ v. option_map (λ k. k.endpoint) (known_at 0 v)) (get-from_entries instances_total known_as instance)

  pub call_goes : LeadsTo (having_met config known_items) (Call Request instance 0x0421 (1 ∷ 2 ∷ [])) (CallOutput method 1 ∷ Sent client server call_bytes ∷ []) called_items
  call_goes =
      first_call (having_met config known_items) instance 0x0421 (1 ∷ 2 ∷ []) server reached (retain-empty calls_total exact_calls _) (get-empty message_cmp method) (rw is.message_limit refl)
      ∙ rw (is.client.wants, is.client.major, is.client.address, is.client.client_port, is.client.client_id) refl

  -- with another byte as its payload
  pub other_call_goes : LeadsTo (having_met config known_items) (Call Request instance 0x0421 (9 ∷ [])) (CallOutput method 1 ∷ Sent client server (calling_with 9) ∷ []) called_items
  other_call_goes =
      first_call (having_met config known_items) instance 0x0421 (9 ∷ []) server reached (retain-empty calls_total exact_calls _) (get-empty message_cmp method) (rw is.message_limit refl)
      ∙ rw (is.client.wants, is.client.major, is.client.address, is.client.client_port, is.client.client_id) refl

  -- what is read of the answer
  abbrev pub answer_header : Header
  answer_header = record { service = 0x1111; method = 0x0421; client = 0x0102; session = 1; interface = 1; kind = kinds.Response; code = record { 0 = 0 } }

  pub reads_answer : target_plan target.Client server client answer_bytes ≡ both (act (TakesAnswer server answer_header (3 ∷ []))) rest
  unfolding items_within
  reads_answer = refl

  pub to_client : target_of config client ≡ target.Client
  to_client = rw (is.client.address, is.client.client_port) refl

  -- the call that waits, if it does
  abbrev call_key : CallKey
  call_key = record { message = method; session = 1 }

  pub waits_at : (items : List Item) → get (waiting_calls (answers_of (having_met config items))) call_key ≡ unless_passed (clock_at items) (unless_passed (clock_at items) (awaited_at config items call_key))
  waits_at items =
      get-unexpired calls_total exact_calls (clock_at items) (answers_of (having_met config items)).client.pending call_key
      ∙ ap (unless_passed (clock_at items)) (get-pending config items call_key)

  abbrev awaited : Lasting Awaited
  awaited = record { value = record { peer = server; interface = 1 }; until = At 2000 }

  waits : get (waiting_calls (answers_of (having_met config called_items))) call_key ≡ Some awaited
  waits = waits_at called_items ∙ rw is.client.timeout refl

  -- what becomes of it
  abbrev pub answered_by : Option (Lasting Awaited) → Outcome
  answered_by waiting = answer_by answer_header (3 ∷ []) (if is_awaited server 1 waiting then None else Some NotPending)

  pub takes_answer : (items : List Item) → rule (TakesAnswer server answer_header (3 ∷ [])) (answers_of (having_met config items)) ≡ answered_by (get (waiting_calls (answers_of (having_met config items))) call_key)
  takes_answer items = rw is.client.client_id refl

  pub answer_taken : LeadsTo (having_met config called_items) (Datagram server client answer_bytes) (AnsweredOutput method 1 (record { 0 = 0 }) (3 ∷ []) ∷ []) replied_items
  answer_taken =
      one_message (having_met config called_items) server client answer_bytes target.Client (rw is.client.address refl) to_client
      (TakesAnswer server answer_header (3 ∷ [])) (answered_by (Some awaited))
      reads_answer (takes_answer called_items ∙ ap answered_by waits)
