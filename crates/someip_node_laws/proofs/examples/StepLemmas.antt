-- What a step gives, by what its rules say: of an input with one rule, of a message of Service Discovery with one entry,
-- and of a call that is the first one.
use Rattle.std.proofs.Common.{◌≡◌, ◌<◌, ◌||◌, ℕ, Bool, true, false, not, if◌then◌else◌, List, [], ◌∷◌, ◌++◌, length, None, Some, Ok, refl, ap, ◌∙◌}
use Rattle.std.specs.List.{flat_map, fold}
use Rattle.std.specs.Option.{is_some, option_map_or}
use Rattle.std.specs.FinMap.{empty, get, get-empty, len, len-empty}
use Rattle.std.specs.Prelude.{nat_le, nat_lt}
use Rattle.std.specs.declared.net.ipv4_addr.Ipv4Addr.{Ipv4Addr}
use Rattle.std.specs.Net.Socket.{v4_ip}
use Rattle.std.specs.declared.net.socket_addr.SocketAddrV4.{SocketAddrV4}
use Rattle.std.proofs.lemmas.Bool.{lt-ltb}
use Rattle.someip_tables.specs.Endpoints.{address_cmp}
use Rattle.someip_tables.specs.declared.lasting.Lasting.{Lasting}
use Rattle.someip_wire.specs.Spelling.{spelling}
use Rattle.sd_wire.specs.declared.flags.SdFlags.{SdFlags}
use Rattle.sd_wire.specs.fronts.Fronts.{fits_datagram, front_lengths, fronts_of}
use Rattle.sd_wire.specs.contents.Values.{EntryValue, ReadValue}
use Rattle.sd_session.specs.declared.peers.Seen.{Seen}
use Rattle.sd_session.specs.declared.peers.Seen.TheVariants.{Same}
use Rattle.sd_session.specs.declared.peers.Stamps.{Stamps}
use Rattle.sd_session.specs.declared.stamp.Channel.{Channel}
use Rattle.sd_session.specs.declared.stamp.Channel.TheVariants.{Multicast, Unicast}
use Rattle.sd_session.specs.declared.stamp.Stamp.{Stamp}
use Rattle.sd_session.specs.Sessions.{after_uses}
use Rattle.sd_session.specs.Peers.{may_hold, no_stamps, stamps_of, stamps_or_none, told_by}
use Rattle.sd_core.specs.declared.keys.InstanceId.{InstanceId}
use Rattle.someip_rpc.specs.declared.call.Awaited.{Awaited}
use Rattle.someip_rpc.specs.declared.call.Call.{Call}
use Rattle.someip_rpc.specs.declared.call.CallKind.TheVariants.{Request}
use Rattle.someip_rpc.specs.declared.error.RpcError.TheVariants.{Busy, TooLong}
use Rattle.someip_rpc.specs.Calls.{call_header, call_refusal, is_full}
use Rattle.someip_rpc.specs.Ids.{call_cmp}
use Rattle.someip_tables.specs.Sessions.{session_after_last}
use Rattle.someip_rpc.specs.Sessions.{next_of}
use Rattle.someip_node_rules.specs.rules.Calling.{call_of, calls_at, first_free, first_free_of, session_of}
use Rattle.someip_node_rules.specs.rules.Errors.{as_node_error}
use Rattle.someip_node_rules.specs.histories.DiscoveryQuestions.{messages_to}
use Rattle.someip_node_rules.specs.forms.Entries.{discovery_message, fronts}
use Rattle.someip_node_rules.specs.rules.Handling.{entries_plan, entry_plan, heard_plan, same_address, target_of, target_plan}
use Rattle.someip_node_rules.specs.histories.History.{History, answers_of, historic, met}
use Rattle.someip_node_rules.specs.rules.Inputs.{Input, Call as CallInput, Datagram, plan_of, refusal_of}
use Rattle.someip_node_rules.specs.histories.Items.{Called, PeerAddressed, PeerHeard}
use Rattle.someip_node_rules.specs.rules.Learning.{hearing_by}
use Rattle.someip_node_rules.specs.rules.Outcomes.{Outcome, nothing}
use Rattle.someip_node_rules.specs.forms.Outputs.{Announces, Sends, Tells, written}
use Rattle.someip_node_rules.specs.rules.Plans.{Plan, Rule, Work, rest, act, both, each, replying, rule, run, Calls, Drops, Hears, RepliesTo}
use Rattle.someip_node_rules.specs.forms.Receivers.{message_plan_to, messages_plan_to}
use Rattle.someip_node_rules.specs.forms.Setups.{client_endpoint, client_rules, discovery_endpoint}
use Rattle.someip_node_rules.specs.steps.Steps.{step, unless_refused, work_on}
use Rattle.someip_node_rules.specs.histories.Tables.{Tables, known_endpoint, waiting_calls}
use Rattle.someip_node_rules.specs.declared.output.Output.TheVariants.{Called as CallOutput, Sent}
use Rattle.someip_node_rules.specs.declared.drops.DropReason.TheVariants.{Own, PeersFull}
use Rattle.someip_node_rules.specs.declared.target.Target.{Target}
use Rattle.someip_node_rules.specs.declared.receiver.Receiver.TheVariants.{Peer}
use Rattle.someip_node_laws.proofs.histories.NamedLemmas.{stamp-next}

-- ---- one rule

-- the work after a rule, where nothing was given before it
abbrev pub work_after : History → Outcome → Work History
work_after h o = record { state = fold met h o.items; outputs = flat_map written o.given; replies = o.replies }

pub one_rule : (h : History) (input : Input) (r : Rule) (o : Outcome) → refusal_of input (answers_of h) ≡ None → plan_of input ≡ act r → rule r (answers_of h) ≡ o
    → step h input ≡ Ok (work_after h o)
one_rule h input r o taken plan said =
    ap (λ refusal. unless_refused refusal (plan_of input) h) taken ∙ ap (λ p. Ok (run historic p (work_on h))) plan ∙ ap (λ x. Ok (work_after h x)) said

-- ---- a datagram

module _ (h : History) (from to : SocketAddrV4) (bytes : List ℕ) (goal : Target) (others : same_address (v4_ip from) h.config.address ≡ false)
    (reached : target_of h.config to ≡ goal) where
  -- what it brings about, by its plan
  by_plan : (p : Plan) → target_plan goal from to bytes ≡ p → step h (Datagram from to bytes) ≡ Ok (run historic p (work_on h))
  by_plan p plan =
      ap (λ b. Ok (run historic (if b then act (Drops Own) else target_plan (target_of h.config to) from to bytes) (work_on h))) others
      ∙ ap (λ g. Ok (run historic (target_plan g from to bytes) (work_on h))) reached ∙ ap (λ x. Ok (run historic x (work_on h))) plan

  -- one message of the application
  pub one_message : (r : Rule) (o : Outcome) → target_plan goal from to bytes ≡ both (act r) rest → rule r (answers_of h) ≡ o
      → step h (Datagram from to bytes) ≡ Ok (work_after h o)
  one_message r o plan said = by_plan (both (act r) rest) plan ∙ ap (λ x. Ok (work_after h x)) said

  -- one message of Service Discovery, with one entry
  module _ (channel : Channel) (session : ℕ) (flags : SdFlags) (e : ReadValue) (r : Rule) where
    abbrev peer : Ipv4Addr
    peer = v4_ip from

    abbrev stamp : Stamp
    stamp = record { session = session; reboot = flags.reboot }

    abbrev once_heard : History
    once_heard = met h (PeerHeard peer channel stamp)

    pub one_entry : (o : Outcome) → target_plan goal from to bytes ≡ both (heard_plan peer channel session (record { flags = flags; entries = e ∷ [] })) rest
        → may_hold h.config.common.peers (answers_of h).peers peer ≡ true → told_by channel stamp (stamps_of (answers_of h).peers peer) ≡ Same
        → entry_plan peer e ≡ act r → rule r (answers_of once_heard) ≡ o
        → step h (Datagram from to bytes) ≡ Ok (run historic (messages_plan_to (Peer peer) o.replies) (record (work_after once_heard o) { replies = [] }))
    one_entry o plan room same one said =
        by_plan (both (heard_plan peer channel session (record { flags = flags; entries = e ∷ [] })) rest) plan
        ∙ ap (λ b. Ok (run historic (if not b then act (Drops PeersFull) else both (act (Hears peer channel stamp)) (entries_plan peer (e ∷ []))) (work_on h))) room
        ∙ ap (λ (seen : Seen). Ok (run historic (entries_plan peer (e ∷ [])) (work_after h (hearing_by peer channel stamp seen (answers_of h))))) same
        ∙ ap (λ p. Ok (run historic (both (both p rest) (replying (messages_plan_to (Peer peer)))) (work_on once_heard))) one
        ∙ ap (λ (x : Outcome). Ok (run historic (messages_plan_to (Peer peer) x.replies) (record (work_after once_heard x) { replies = [] }))) said

-- ---- a peer that is heard first

pub has_room : (limit : ℕ) (peer : Ipv4Addr) → 0 < limit → may_hold limit empty peer ≡ true
has_room limit peer some =
    ap (λ v. is_some v || nat_lt (len (empty {X = Stamps} {R = address_cmp})) limit) (get-empty address_cmp peer)
    ∙ ap (λ n. nat_lt n limit) (len-empty address_cmp Stamps) ∙ lt-ltb 0 limit some

pub is_new : (channel : Channel) (stamp : Stamp) (peer : Ipv4Addr) → told_by channel stamp (stamps_of empty peer) ≡ Same
is_new channel stamp peer = ap (λ v. told_by channel stamp (stamps_or_none v)) (get-empty address_cmp peer) ∙ none_on channel
  where
    none_on : (channel : Channel) → told_by channel stamp no_stamps ≡ Same
    none_on Multicast = refl
    none_on Unicast = refl

-- ---- the messages of some entries

-- no entries need no message, and one needs one
pub no_front : fronts [] ≡ []
unfolding front_lengths
no_front = refl

pub one_front : (e : EntryValue) → fronts (e ∷ []) ≡ (e ∷ []) ∷ []
unfolding front_lengths
one_front e = ap (λ n. fronts_of (n ∷ []) (e ∷ [])) (either (fits_datagram (e ∷ [])))
  where
    either : (b : Bool) → ◌≡◌ {A = ℕ} (if b then 1 else 1) 1
    either true = refl
    either false = refl

-- a message with some entries goes to a peer: with the stamp that is next
pub sent_to_peer : (w : Work History) (peer : Ipv4Addr) (entries : List EntryValue) → run historic (act (RepliesTo peer entries)) w
    ≡ record {
      state = met w.state (PeerAddressed peer);
      outputs =
          w.outputs
          ++ Sent (discovery_endpoint w.state.config) (record { ip = peer; port = 30490 }) (spelling (discovery_message (after_uses (messages_to w.state.items peer)) entries)) ∷ [];
      replies = w.replies ++ [];
    }
sent_to_peer w peer entries =
    ap (λ (stamp : Stamp). record {
      state = met w.state (PeerAddressed peer);
      outputs = w.outputs ++ flat_map written (Announces (discovery_endpoint w.state.config) (record { ip = peer; port = 30490 }) stamp entries ∷ []);
      replies = w.replies ++ [];
    }) (stamp-next w.state.items peer)

-- one reply goes out in one message, in its bytes, and none in none
pub reply_goes : (w : Work History) (peer : Ipv4Addr) (e : EntryValue) (bytes : List ℕ)
    → spelling (discovery_message (after_uses (messages_to w.state.items peer)) (e ∷ [])) ≡ bytes
    → run historic (messages_plan_to (Peer peer) (e ∷ [])) w
    ≡ record {
      state = met w.state (PeerAddressed peer);
      outputs = w.outputs ++ Sent (discovery_endpoint w.state.config) (record { ip = peer; port = 30490 }) bytes ∷ [];
      replies = w.replies ++ [];
    }
reply_goes w peer e bytes written =
    ap (λ messages. run historic (each (message_plan_to (Peer peer)) messages) w) (one_front e) ∙ sent_to_peer w peer (e ∷ [])
    ∙ ap (λ b. record {
      state = met w.state (PeerAddressed peer);
      outputs = w.outputs ++ Sent (discovery_endpoint w.state.config) (record { ip = peer; port = 30490 }) b ∷ [];
      replies = w.replies ++ [];
    }) written

pub no_reply : (w : Work History) (peer : Ipv4Addr) → run historic (messages_plan_to (Peer peer) []) w ≡ w
no_reply w peer = ap (λ messages. run historic (each (message_plan_to (Peer peer)) messages) w) no_front

-- ---- the first call

module _ (h : History) (instance : InstanceId) (method : ℕ) (payload : List ℕ) (peer : SocketAddrV4) where
  abbrev t : Tables
  t = answers_of h

  abbrev made : Call
  made = call_of Request instance method t

  -- what is done with a session
  abbrev pub called_with : ℕ → Outcome
  called_with session = record {
    items = Called made peer session ∷ [];
    given =
        Tells (CallOutput made.message session)
        ∷ Sends (client_endpoint h.config) peer (record { header = call_header h.config.client_id made session; payload = payload }) ∷ [];
    replies = [];
  }

  none_waits : (session : ℕ) → first_free empty made.message session ≡ session
  unfolding first_free
  none_waits session = ap (λ n. first_free_of n empty made.message session) (len-empty call_cmp (Lasting Awaited))

  -- where an offer of the instance is known, no call waits and none of the method was made, it has the first session
  pub first_call : known_endpoint t instance ≡ Some peer → waiting_calls t ≡ empty → get t.client.sessions made.message ≡ None
      → nat_lt h.config.common.message_limit (length payload) ≡ false
      → step h (CallInput Request instance method payload) ≡ Ok (work_after h (called_with 1))
  first_call known nobody first short = one_rule h (CallInput Request instance method payload) (Calls Request instance method payload) (called_with 1) taken refl said
    where
      taken : refusal_of (CallInput Request instance method payload) t ≡ None
      taken =
          ap (λ k. as_node_error (call_refusal (client_rules h.config) Request (length payload) k (waiting_calls t))) known
          ∙ ap (λ b. as_node_error (if b then Some TooLong else if is_full Request (waiting_calls t) then Some Busy else None)) short
          ∙ ap (λ live. as_node_error (if is_full Request live then Some Busy else None)) nobody
          ∙ ap (λ n. as_node_error (if nat_le 1024 n then Some Busy else None)) (len-empty call_cmp (Lasting Awaited))

      session : session_of made t ≡ 1
      session =
          ap (λ live. first_free live made.message (next_of t.client.sessions made.message)) nobody ∙ none_waits (next_of t.client.sessions made.message)
          ∙ ap session_after_last first

      said : rule (Calls Request instance method payload) t ≡ called_with 1
      said = ap (λ k. option_map_or (λ p. calls_at made payload p t) k nothing) known ∙ ap called_with session
