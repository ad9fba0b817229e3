-- The server's half of the worked run, by computation.
use Rattle.std.proofs.Common.{◌≡◌, ℕ, ◌&&◌, ◌||◌, nat_le, not, Bool, true, false, if◌then◌else◌, List, [], ◌∷◌, ◌++◌, map, None, Some, Result, Ok, refl, ap, ◌∙◌}
use Rattle.std.specs.List.{flat_map}
use Rattle.std.specs.FinMap.{get, get-from_entries, keys, len, len-empty}
use Rattle.sd_wire.specs.encoding.Encoding.{message_bytes}
use Rattle.sd_wire.specs.contents.Values.{EntryValue}
use Rattle.sd_core.specs.declared.keys.InstanceId.{InstanceId}
use Rattle.sd_core.specs.declared.sending.Sending.{Sending}
use Rattle.sd_core.specs.Endings.{ends_at}
use Rattle.sd_core.specs.KeyOrder.{instances_total, exact_instances}
use Rattle.sd_core.specs.Keys.{instance_cmp}
use Rattle.sd_core.specs.Sendings.{due_at, first_at, goes_out}
use Rattle.sd_core.specs.WishTables.{begun_where}
use Rattle.someip_tables.proofs.SortedEntries.{keys-empty}
use Rattle.someip_tables.proofs.MapLaws.{retain-empty}
use Rattle.someip_tables.specs.declared.lasting.Lasting.{Lasting}
use Rattle.someip_tables.specs.Lastings.{expired}
use Rattle.someip_rpc.specs.declared.call.Awaited.{Awaited}
use Rattle.someip_rpc.specs.declared.ids.CallKey.{CallKey}
use Rattle.someip_rpc.specs.Ids.{call_cmp}
use Rattle.someip_rpc.specs.IdOrder.{calls_total, exact_calls}
use Rattle.std.specs.Cmp.{nat_cmp_total}
use Rattle.std.specs.Option.{is_some, option_map_or}
use Rattle.std.specs.Ordering.{nat_cmp}
use Rattle.someip_wire.specs.declared.header.Header.{Header}
use Rattle.someip_wire.specs.declared.header.MessageType.TheVariants as kinds
use Rattle.someip_wire.specs.Reading.{items_within}
use Rattle.someip_rpc.specs.declared.request.Asked.{Asked}
use Rattle.someip_rpc.specs.declared.request.Reply.{Reply}
use Rattle.someip_rpc.specs.declared.request.Reply.TheVariants.{Response}
use Rattle.someip_rpc.specs.declared.request.RequestFault.TheVariants.{NotReady, UnknownService}
use Rattle.someip_rpc.specs.declared.service.ServiceRules.{ServiceRules}
use Rattle.someip_rpc.specs.Servers.{answer_refusal}
use Rattle.someip_node_rules.specs.rules.Handling.{target_of, target_plan}
use Rattle.someip_node_rules.specs.steps.Lives.{was_stopped}
use Rattle.someip_node_rules.specs.rules.Messages.{request_by, request_to}
use Rattle.someip_node_rules.specs.declared.target.Target.TheVariants as target
use Rattle.someip_node_laws.proofs.histories.NamedLemmas.{get-request}
use Rattle.someip_node_laws.proofs.histories.UpLemmas.{up_is}
use Rattle.someip_node_rules.specs.rules.Answering.{answers_request}
use Rattle.someip_node_rules.specs.rules.Errors.{as_node_error}
use Rattle.someip_node_rules.specs.rules.Ticking.{due_entries, find_of}
use Rattle.someip_node_rules.specs.forms.Entries.{fronts, offer_entry}
use Rattle.someip_node_rules.specs.histories.History.{History, answers_of, historic, met}
use Rattle.someip_node_rules.specs.rules.Inputs.{Answer, Datagram, Tick}
use Rattle.someip_node_rules.specs.histories.Items.{Item, Ticked}
use Rattle.someip_node_rules.specs.rules.Outcomes.{Outcome, endings, nothing}
use Rattle.someip_node_rules.specs.forms.Outputs.{Tells, written}
use Rattle.someip_node_rules.specs.rules.Plans.{Work, act, both, each, rest, rule, run, Answers, TakesRequest}
use Rattle.someip_node_rules.specs.forms.Receivers.{message_plan_to}
use Rattle.someip_node_rules.specs.forms.Setups.{offered_as, wanted_instances}
use Rattle.someip_node_rules.specs.rules.Offering.{offer_of}
use Rattle.someip_node_rules.specs.histories.Tables.{Tables, is_up, passed_instances}
use Rattle.someip_node_laws.specs.WorkedExamples.{client, discovery_at, instance, server, server_address, service}
use Rattle.someip_node_laws.specs.WorkedRun.{LeadsTo, OffersEvent, having_met, answer_bytes, answered_items, call_bytes, group_address, offer_bytes, offered_items, asked_call, requested_items}
use Rattle.someip_node_rules.specs.declared.config.Config.{Config}
use Rattle.std.specs.BTreeMap.{is_at}
use Rattle.std.specs.Map.{lookup}
use Rattle.someip_node_rules.specs.declared.config.OfferedService.{OfferedService}
use Rattle.someip_node_rules.specs.declared.config.WantedService.{WantedService}
use Rattle.someip_node_rules.specs.declared.error.NodeError.{NodeError}
use Rattle.someip_node_rules.specs.declared.output.Output.TheVariants.{Request as RequestOutput, Sent, TimedOut}
use Rattle.someip_node_rules.specs.declared.receiver.Receiver.TheVariants.{Group}
use Rattle.someip_node_laws.proofs.examples.OneEntryLemmas.{key_kept}
use Rattle.someip_node_laws.proofs.examples.StepLemmas.{one_front, one_message, one_rule}

module _ (config : Config) (is : OffersEvent config) where
  -- ---- the first moments

  abbrev t : Tables
  t = answers_of (having_met config [])

  abbrev offer : EntryValue
  offer = offer_entry instance 3 (service is.server.events)

  -- what a moment brings, by the calls that end, the instances that are wanted, and the messages that are due
  abbrev brings : ℕ → List CallKey → List InstanceId → List (List EntryValue) → Result (Work History) NodeError
  brings ms calls wants messages =
      Ok (run historic (each (message_plan_to Group) messages) (record {
        state = met (having_met config []) (Ticked ms);
        outputs =
            flat_map written
            (map Tells (map (λ call. TimedOut call.message call.session) calls ++ endings wants (passed_instances ms t) (keys (begun_where (ends_at ms (passed_instances ms t)) t.wishes))));
        replies = [];
      }))

  no_calls : (ms : ℕ) → keys (expired ms t.client.pending) ≡ []
  no_calls ms = ap (λ m. keys m) (retain-empty calls_total exact_calls _) ∙ keys-empty (Lasting Awaited) call_cmp

  no_finds : (ms : ℕ) → keys (due_at ms t.seek.finding) ≡ []
  no_finds ms = rw is.wants (ap (λ m. keys m) (retain-empty instances_total exact_instances (λ _ sending. goes_out ms sending)) ∙ keys-empty Sending instance_cmp)

  brought : (ms : ℕ) (messages : List (List EntryValue)) → fronts (due_entries ms t) ≡ messages
      → brings ms (keys (expired ms t.client.pending)) (wanted_instances config) (fronts (due_entries ms t)) ≡ brings ms [] [] messages
  brought ms messages due =
      ap (λ xs. brings ms xs (wanted_instances config) (fronts (due_entries ms t))) (no_calls ms)
      ∙ ap (λ (es : List (InstanceId × WantedService)). brings ms [] (map (λ e. e.0) es) (fronts (due_entries ms t))) is.wants ∙ ap (brings ms [] []) due

  -- the Offers that are due, if the first is
  entries_due : (ms : ℕ) (instances : List InstanceId) → keys (due_at ms t.offers.up) ≡ instances → due_entries ms t ≡ flat_map (offer_of t) instances ++ []
  entries_due ms instances due =
      ap (λ xs. flat_map (offer_of t) xs ++ flat_map (find_of t) (keys (due_at ms t.seek.finding))) due
      ∙ ap (λ xs. flat_map (offer_of t) instances ++ flat_map (find_of t) xs) (no_finds ms)

  one_due : keys (due_at 10 t.offers.up) ≡ instance ∷ []
  one_due = rw is.server.offers (key_kept instances_total exact_instances (λ _ sending. goes_out 10 sending) instance (first_at 10) refl)

  offer_goes : brings 10 [] [] ((offer ∷ []) ∷ [])
      ≡ Ok (record {
        state = record (having_met config []) { items = offered_items };
        outputs = Sent (discovery_at server_address) (discovery_at group_address) (offer_bytes 3) ∷ [];
        replies = [];
      })
  unfolding message_bytes
  offer_goes = rw (is.server.address, is.group) refl

  pub offered : LeadsTo (having_met config []) (Tick 10) (Sent (discovery_at server_address) (discovery_at group_address) (offer_bytes 3) ∷ []) offered_items
  offered =
      brought 10 ((offer ∷ []) ∷ []) (ap fronts (entries_due 10 (instance ∷ []) one_due ∙ rw is.server.offers refl) ∙ one_front offer)
      ∙ offer_goes

  -- ---- the call comes, and is answered

  pub up_at : (items : List Item) → was_stopped items instance ≡ false → is_up (answers_of (having_met config items)) instance ≡ true
  up_at items goes_on =
      up_is (having_met config items) instance ∙ ap (λ stopped. is_some (offered_as config instance) && not stopped) goes_on ∙ rw is.server.offers refl

  pub offered_here : offered_as config instance ≡ Some (service is.server.events)
  offered_here = ap (λ (es : List (InstanceId × OfferedService)). lookup (is_at (instance_cmp instance)) es) is.server.offers

  pub to_instance : target_of config server ≡ target.Instance instance
  to_instance = rw (is.server.address, is.server.client_port, is.server.offers, get-from_entries nat_cmp_total ((30509, instance) ∷ []) 30509) refl

  -- what is read of it
  abbrev call_header : Header
  call_header = record { service = 0x1111; method = 0x0421; client = 0x0102; session = 1; interface = 1; kind = kinds.Request; code = record { 0 = 0 } }

  reads_call : target_plan (target.Instance instance) client server call_bytes ≡ both (act (TakesRequest instance client call_header (1 ∷ 2 ∷ []))) rest
  unfolding items_within
  reads_call = refl

  abbrev rules : ServiceRules
  rules = (service is.server.events).rules

  -- what becomes of it, by whether the instance is up and a further request has no place
  abbrev requested_by : Bool → Bool → Outcome
  requested_by up full =
      request_by instance rules client call_header (1 ∷ 2 ∷ [])
      (if not (up && true) then Some UnknownService else if full then Some NotReady else None) (answers_of (having_met config offered_items))

  handed_up : rule (TakesRequest instance client call_header (1 ∷ 2 ∷ [])) (answers_of (having_met config offered_items)) ≡ requested_by true false
  handed_up =
      ap (λ found. option_map_or (λ s. request_to instance s client call_header (1 ∷ 2 ∷ []) (answers_of (having_met config offered_items))) found nothing) offered_here
      ∙ ap (λ up. requested_by up (nat_le 1024 (len (answers_of (having_met config offered_items)).server.requests) || false)) (up_at offered_items refl)
      ∙ ap (λ n. requested_by true (nat_le 1024 n || false)) (len-empty nat_cmp Asked)

  pub call_taken : LeadsTo (having_met config offered_items) (Datagram client server call_bytes) (RequestOutput (Some 1) instance 0x0421 (1 ∷ 2 ∷ []) ∷ []) requested_items
  call_taken =
      one_message (having_met config offered_items) client server call_bytes (target.Instance instance) (rw is.server.address refl) to_instance
      (TakesRequest instance client call_header (1 ∷ 2 ∷ [])) (requested_by true false) reads_call handed_up

  waiting : get (answers_of (having_met config requested_items)).server.requests 1 ≡ Some asked_call
  waiting = get-request requested_items 1

  unknown : get (answers_of (having_met config requested_items)).server.requests 2 ≡ None
  unknown = get-request requested_items 2

  abbrev reply : Reply
  reply = Response (record { 0 = 0 })

  pub answer_goes : LeadsTo (having_met config requested_items) (Answer 1 reply (3 ∷ [])) (Sent server client answer_bytes ∷ []) answered_items
  answer_goes =
      one_rule (having_met config requested_items) (Answer 1 reply (3 ∷ [])) (Answers 1 reply (3 ∷ [])) (answers_request 1 reply (3 ∷ []) asked_call)
      (ap (λ v. as_node_error (answer_refusal config.common.message_limit reply 1 v)) waiting ∙ rw is.message_limit refl) refl
      (ap (λ v. option_map_or (answers_request 1 reply (3 ∷ [])) v nothing) waiting)
