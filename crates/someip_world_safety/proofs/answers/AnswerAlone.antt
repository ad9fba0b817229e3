-- A datagram with one message hands up at most one answer at a client, and gives nothing beside it.
use Rattle.std.proofs.Common.{◌≡◌, Bool, true, false, if◌then◌else◌, ◌++◌, ℕ, List, [], ◌∷◌, None, Some, Option, Ok, Err, Result, refl, sym, ap, subst}
use Rattle.std.specs.List.{Contains, flat_map}
use Rattle.std.specs.Net.Socket.{v4_ip}
use Rattle.std.specs.declared.net.socket_addr.SocketAddrV4.{SocketAddrV4}
use Rattle.someip_wire.specs.declared.header.Header.{Header}
use Rattle.someip_wire.specs.declared.header.MessageType.{MessageType}
use Rattle.someip_wire.specs.declared.header.MessageType.TheVariants as kinds
use Rattle.someip_wire.specs.declared.header.ReturnCode.{ReturnCode}
use Rattle.someip_wire.specs.Kinds.{has_tp_flag, without_tp_flag}
use Rattle.someip_wire.specs.Reading.{items_of}
use Rattle.someip_wire.specs.Spelling.{MessageValue}
use Rattle.someip_reassembly.specs.declared.error.TpError.{TpError}
use Rattle.someip_reassembly.specs.declared.reassembly.Offered.{Offered}
use Rattle.someip_reassembly.specs.declared.reassembly.Offered.TheVariants.{Part, Whole}
use Rattle.someip_reassembly.specs.SegmentOffers.{SegmentOffer, judgement, message_at, offer, parts_after}
use Rattle.someip_reassembly.specs.Keys.{segment_key}
use Rattle.someip_reassembly.specs.TpHeader.{segment_in}
use Rattle.sd_wire.specs.contents.Values.{EntryValue}
use Rattle.sd_core.specs.declared.keys.InstanceId.{InstanceId}
use Rattle.someip_rpc.specs.Answers.{answer_drop}
use Rattle.someip_rpc.specs.declared.error.DropCause.{DropCause}
use Rattle.someip_rpc.specs.declared.ids.MessageId.{MessageId}
use Rattle.someip_node_rules.specs.declared.drops.DropReason.TheVariants.{Own}
use Rattle.someip_node_rules.specs.declared.output.Output.{Output}
use Rattle.someip_node_rules.specs.declared.output.Output.TheVariants.{Answered}
use Rattle.someip_node_rules.specs.declared.target.Target.TheVariants as target
use Rattle.someip_node_rules.specs.rules.Handling.{client_plan, completed_plan, items_plan, message_plan, same_address, segment_plan, target_of, target_plan, whole_plan}
use Rattle.someip_node_rules.specs.histories.History.{History, answers_of, historic}
use Rattle.someip_node_rules.specs.rules.Inputs.{Datagram, refusal_of}
use Rattle.someip_node_rules.specs.rules.Messages.{answer_by, completed_by, event_by, publisher, segment_by}
use Rattle.someip_node_rules.specs.forms.Outputs.{written}
use Rattle.someip_node_rules.specs.rules.Plans.{Work, act, run}
use Rattle.someip_node_rules.specs.rules.Plans as plans
use Rattle.someip_node_rules.specs.forms.Setups.{limits_of}
use Rattle.someip_node_rules.specs.steps.Steps.{step, work_on}
use Rattle.someip_node_rules.specs.histories.Tables.{Tables, waiting_calls}
use Rattle.someip_node_rules.proofs.trails.MeaningLemmas.{done_by}
use Rattle.someip_node_rules.proofs.lists.MemberLemmas.{at_member}

module _ (message : MessageId) (session : ℕ) (code : ReturnCode) (bytes : List ℕ) where
  abbrev up : Output
  up = Answered message session code bytes

  -- what was given is that answer alone, if the answer is among it
  abbrev Alone : List Output → Type 0
  Alone outputs = Contains outputs up → outputs ≡ up ∷ []

  -- nothing holds no answer
  none_alone : Alone []
  none_alone among = at_member (λ x. [] ≡ up ∷ []) [] up tt among

  -- of one output it is that
  one_alone : (o : Output) → Alone (o ∷ [])
  one_alone o among = ap (λ x. x ∷ []) (sym (at_member (λ x. x ≡ o) (o ∷ []) up (refl, tt) among))

  -- a message that is taken as an answer gives one output
  answer_alone : (header : Header) (payload : List ℕ) (cause : Option DropCause) → Alone (flat_map written (answer_by header payload cause).given)
  answer_alone header payload None = one_alone _
  answer_alone header payload (Some cause) = one_alone _

  -- and so does one that is taken as an event
  event_alone : (header : Header) (payload : List ℕ) (instance : Option InstanceId) → Alone (flat_map written (event_by header payload instance).given)
  event_alone header payload None = one_alone _
  event_alone header payload (Some instance) = one_alone _

  -- a message that comes to the client is taken as one of both
  client_alone : (from : SocketAddrV4) (header : Header) (payload : List ℕ) (kind : MessageType) (w : Work History) → w.outputs ≡ [] → Alone (run historic (client_plan from header payload kind) w).outputs
  client_alone from header payload kind w none = by_kind kind
    where
      as_answer : Alone (w.outputs ++ flat_map written (answer_by header payload (answer_drop (answers_of w.state).config.client_id from header (waiting_calls (answers_of w.state)))).given)
      as_answer = subst (λ os. Alone (os ++ flat_map written (answer_by header payload (answer_drop (answers_of w.state).config.client_id from header (waiting_calls (answers_of w.state)))).given)) (sym none) (answer_alone header payload _)

      as_event : Alone (w.outputs ++ flat_map written (event_by header payload (publisher (answers_of w.state) from header)).given)
      as_event = subst (λ os. Alone (os ++ flat_map written (event_by header payload (publisher (answers_of w.state) from header)).given)) (sym none) (event_alone header payload _)

      by_kind : (k : MessageType) → Alone (run historic (client_plan from header payload k) w).outputs
      by_kind kinds.Request = as_answer
      by_kind kinds.RequestNoReturn = as_answer
      by_kind kinds.Notification = as_event
      by_kind kinds.Response = as_answer
      by_kind kinds.Error = as_answer
      by_kind kinds.TpRequest = as_answer
      by_kind kinds.TpRequestNoReturn = as_answer
      by_kind kinds.TpNotification = as_answer
      by_kind kinds.TpResponse = as_answer
      by_kind kinds.TpError = as_answer

  -- a segment gives nothing where it completes a message, and else its refusal at most
  segment_alone : (from : SocketAddrV4) (header : Header) (o : SegmentOffer) (judged : Result Offered TpError) (whole : Option (List ℕ)) (state : History) (replies : List EntryValue)
      → Alone (run historic (completed_plan target.Client from header (completed_by judged whole)) (record { state = state; outputs = flat_map written (segment_by o judged).given; replies = replies })).outputs
  segment_alone from header o (Ok Whole) (Some payload) state replies =
      client_alone from (record header { kind = without_tp_flag header.kind }) payload (without_tp_flag header.kind) (record { state = state; outputs = []; replies = replies }) refl
  segment_alone from header o (Ok Whole) None state replies = none_alone
  segment_alone from header o (Ok Part) whole state replies = none_alone
  segment_alone from header o (Err refusal) whole state replies = one_alone _

  -- a message that comes to the client, whole or as a segment
  message_alone : (h : History) (from to : SocketAddrV4) (m : MessageValue) → Alone (run historic (message_plan target.Client from to m) (work_on h)).outputs
  message_alone h from to m = cases (has_tp_flag m.header.kind)
    where
      by_read : (r : Result (ℕ × Bool × List ℕ) TpError) → Alone (run historic (segment_plan target.Client from to m.header r) (work_on h)).outputs
      by_read (Err fault) = one_alone _
      by_read (Ok r) =
          let o : SegmentOffer = offer (segment_key from to m.header) r.0 r.1 r.2 in
          let t : Tables = answers_of h in
          let w : Work History = plans.does historic (plans.rule (plans.TakesSegment o)) (work_on h) in
          segment_alone from m.header o (judgement (limits_of t.config) t.clock o t.parts) (message_at (parts_after (limits_of t.config) t.clock o t.parts) o.key) w.state w.replies

      cases : (flagged : Bool) → Alone (run historic (if flagged then segment_plan target.Client from to m.header (segment_in m.payload) else whole_plan target.Client from m.header m.payload) (work_on h)).outputs
      cases true = by_read (segment_in m.payload)
      cases false = client_alone from m.header m.payload m.header.kind (work_on h) refl

  -- a step that takes a datagram with one message, at the client, gives an answer alone
  pub given_alone : (h : History) (from to : SocketAddrV4) (text : List ℕ) (m : MessageValue) → items_of text ≡ Ok m ∷ [] → target_of h.config to ≡ target.Client
      → (done : Work History) → step h (Datagram from to text) ≡ Ok done → Alone done.outputs
  given_alone h from to text m one client done is =
      subst (λ (w : Work History). Alone w.outputs) (sym (done_by h (Datagram from to text) (refusal_of (Datagram from to text) (answers_of h)) done is))
      (cases (same_address (v4_ip from) h.config.address))
    where
      by_items : Alone (run historic (target_plan target.Client from to text) (work_on h)).outputs
      by_items = subst (λ items. Alone (run historic (items_plan target.Client from to items) (work_on h)).outputs) (sym one) (message_alone h from to m)

      cases : (own : Bool) → Alone (run historic (if own then act (plans.Drops Own) else target_plan (target_of h.config to) from to text) (work_on h)).outputs
      cases true = one_alone _
      cases false = subst (λ g. Alone (run historic (target_plan g from to text) (work_on h)).outputs) (sym client) by_items
