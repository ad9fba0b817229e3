-- Each rule that is done in a step is one that its input brings about.
use Rattle.std.proofs.Common.{◌≡◌, ℕ, ◌+◌, List, [], ◌∷◌, ◌++◌, Option, None, Some, Result, Ok, Err, arith, refl, ap, ◌∙◌, inl, inr}
use Rattle.std.specs.List.{AllByRecursion, Contains, flat_map}
use Rattle.std.specs.Option.{option_map_or}
use Rattle.std.proofs.lemmas.List.Elements.{Contains-append_right}
use Rattle.std.specs.declared.net.ipv4_addr.Ipv4Addr.{Ipv4Addr}
use Rattle.std.specs.declared.net.socket_addr.SocketAddrV4.{SocketAddrV4}
use Rattle.someip_wire.specs.declared.header.Header.{Header}
use Rattle.someip_wire.specs.declared.header.MessageType.{MessageType}
use Rattle.someip_wire.specs.declared.header.MessageType.TheVariants as kinds
use Rattle.someip_reassembly.specs.declared.error.TpError.{TpError}
use Rattle.someip_reassembly.specs.declared.reassembly.Offered.{Offered}
use Rattle.someip_reassembly.specs.declared.reassembly.Offered.TheVariants.{Part, Whole}
use Rattle.someip_reassembly.specs.SegmentOffers.{SegmentOffer}
use Rattle.sd_wire.specs.fronts.Fronts.{front_lengths}
use Rattle.sd_wire.specs.contents.Values.{EntryValue}
use Rattle.sd_session.specs.declared.peers.Seen.{Seen}
use Rattle.sd_session.specs.declared.peers.Seen.TheVariants.{Same, Rebooted}
use Rattle.sd_session.specs.declared.stamp.Channel.{Channel}
use Rattle.sd_session.specs.declared.stamp.Stamp.{Stamp}
use Rattle.sd_core.specs.declared.eventgroup.Eventgroup.{Eventgroup}
use Rattle.sd_core.specs.declared.keys.InstanceId.{InstanceId}
use Rattle.sd_core.specs.declared.wish.Beginning.{Beginning}
use Rattle.someip_rpc.specs.declared.error.DropCause.{DropCause}
use Rattle.someip_rpc.specs.declared.request.RequestFault.{RequestFault}
use Rattle.someip_node_rules.specs.declared.config.OfferedService.{OfferedService}
use Rattle.someip_node_rules.specs.declared.receiver.Receiver.TheVariants.{Group}
use Rattle.someip_node_rules.specs.trails.Bringing.{Brings, WasDone, OfDatagram, OfEntry, RepliesToEntry, WasBrought}
use Rattle.someip_node_rules.specs.rules.ClientSubscribing.{standing_of, wish_entries}
use Rattle.someip_node_rules.specs.rules.Ticking.{due_entries}
use Rattle.someip_node_rules.specs.forms.Entries.{fronts}
use Rattle.someip_node_rules.specs.histories.History.{History, answers_of, historic, met}
use Rattle.someip_node_rules.specs.rules.Inputs.{Input, Datagram, Tick, Call, Answer, Publish, PublishTo, Subscribe, Unsubscribe, StopOffer, peer_plan, plan_of, stop_subscribe_plan}
use Rattle.someip_node_rules.specs.histories.Items.{Item}
use Rattle.someip_node_rules.specs.rules.Learning.{hearing_by}
use Rattle.someip_node_rules.specs.rules.Messages.{answer_by, by_type, event_by, oneway_by, request_by, request_to, segment_by}
use Rattle.someip_node_rules.specs.rules.Outcomes.{Outcome, nothing}
use Rattle.someip_node_rules.specs.trails.Packets.{Packet}
use Rattle.someip_node_rules.specs.rules.Plans.{Plan, Rule, Drops, TakesSegment, TakesRequest, TakesAnswer, TakesEvent, Hears, TakesFind, RepliesTo, Work, does, each, rule}
use Rattle.someip_node_rules.specs.forms.Receivers.{message_plan_to}
use Rattle.someip_node_rules.specs.trails.Replies.{IsDue, IsReply}
use Rattle.someip_node_rules.specs.forms.Setups.{offered_as}
use Rattle.someip_node_rules.specs.steps.Steps.{work_on}
use Rattle.someip_node_rules.specs.histories.Tables.{Tables, known_peer}
use Rattle.someip_node_rules.specs.trails.Trails.{Done, after, met_by, outcome_of, trail_of}
use Rattle.someip_node_rules.proofs.rules.DatagramRules.{AllReply, MayBe, datagram_allowed, reply_on}
use Rattle.someip_node_rules.proofs.lists.MemberLemmas.{all_append, all_both, all_flat_map, all_fronts, all_members, all_weaker, at_member}
use Rattle.someip_node_rules.proofs.trails.ReplyLemmas.{due_says, entry_replied}
use Rattle.someip_node_rules.proofs.rules.PlanLemmas.{before_each}
use Rattle.someip_node_rules.proofs.trails.TrailLemmas.{AllowsAfter, IsAt, all_might}

-- ---- which rules reply

module _ (P : EntryValue → Type 0) where
  abbrev Replies : Outcome → Type 0
  Replies o = AllByRecursion P o.replies

  pub segment_replies : (o : SegmentOffer) (r : Result Offered TpError) → Replies (segment_by o r)
  segment_replies o (Ok Part) = tt
  segment_replies o (Ok Whole) = tt
  segment_replies o (Err refusal) = tt

  oneway_replies : (instance : InstanceId) (header : Header) (payload : List ℕ) (fault : Option RequestFault) → Replies (oneway_by instance header payload fault)
  oneway_replies instance header payload None = tt
  oneway_replies instance header payload (Some fault) = tt

  module _ (instance : InstanceId) (from : SocketAddrV4) (header : Header) (payload : List ℕ) (t : Tables) where
    request_replies : (service : OfferedService) (fault : Option RequestFault) → Replies (request_by instance service.rules from header payload fault t)
    request_replies service None = tt
    request_replies service (Some fault) = tt

    type_replies : (kind : MessageType) (a b : Outcome) → Replies a → Replies b → Replies (by_type kind a b)
    type_replies kinds.Request a b ra rb = ra
    type_replies kinds.RequestNoReturn a b ra rb = rb
    type_replies _ a b ra rb = tt

    pub instance_replies : (offered : Option OfferedService) → Replies (option_map_or (λ service. request_to instance service from header payload t) offered nothing)
    instance_replies None = tt
    instance_replies (Some service) = type_replies header.kind _ _ (request_replies service _) (oneway_replies instance header payload _)

  pub answer_replies : (header : Header) (payload : List ℕ) (cause : Option DropCause) → Replies (answer_by header payload cause)
  answer_replies header payload None = tt
  answer_replies header payload (Some cause) = tt

  pub event_replies : (header : Header) (payload : List ℕ) (instance : Option InstanceId) → Replies (event_by header payload instance)
  event_replies header payload None = tt
  event_replies header payload (Some instance) = tt

  pub hearing_replies : (peer : Ipv4Addr) (channel : Channel) (stamp : Stamp) (seen : Seen) (t : Tables) → Replies (hearing_by peer channel stamp seen t)
  hearing_replies peer channel stamp Same t = tt
  hearing_replies peer channel stamp Rebooted t = tt

-- ---- datagrams

module _ (h : History) (p : Packet) where
  -- what the rule of an entry replies is a reply to the entry once it was done
  entry_replies : (ds : List Done) (r : Rule) (w : Work History) → OfEntry p r
      → AllByRecursion (RepliesToEntry p (ds ++ record { by = r; before = w } ∷ [])) (rule r (answers_of w.state)).replies
  entry_replies ds r w entry =
      let done : Done = record { by = r; before = w } in
      let replies : List EntryValue = (rule r (answers_of w.state)).replies in
      all_both (Contains replies) (IsReply r (answers_of w.state)) (RepliesToEntry p (ds ++ done ∷ [])) (λ reply gave says. record {
        done = done;
        among = Contains-append_right ds (done ∷ []) done (0, omega arith, refl);
        entry = entry;
        gave = gave;
        says = says;
      }) replies (all_members replies) (entry_replied (answers_of w.state) p r entry)

  replies_of : (ds : List Done) (r : Rule) (w : Work History) → OfDatagram h p r ds
      → AllByRecursion (RepliesToEntry p (ds ++ record { by = r; before = w } ∷ [])) (rule r (answers_of w.state)).replies
  replies_of ds (Drops reason) w m = tt
  replies_of ds (TakesSegment o) w m = segment_replies _ o _
  replies_of ds (TakesRequest instance from header payload) w m = instance_replies _ instance from header payload (answers_of w.state) (offered_as w.state.config instance)
  replies_of ds (TakesAnswer from header payload) w m = answer_replies _ header payload _
  replies_of ds (TakesEvent from header payload) w m = event_replies _ header payload _
  replies_of ds (Hears peer channel stamp) w m = hearing_replies _ peer channel stamp _ (answers_of w.state)
  replies_of ds (RepliesTo peer entries) w m = tt
  replies_of ds (TakesFind head) w m = entry_replies ds (TakesFind head) w m.1
  replies_of ds r w m = entry_replies ds r w m.1

  datagram_keeps : (ds : List Done) (r : Rule) (w : Work History) → AllReply h p ds w → MayBe h p ds r w
      → AllReply h p (ds ++ record { by = r; before = w } ∷ []) (does historic (rule r) w)
  datagram_keeps ds r w way m =
      let done : Done = record { by = r; before = w } in
      all_append (RepliesToEntry p (ds ++ done ∷ [])) w.replies (rule r (answers_of w.state)).replies
      (all_weaker (RepliesToEntry p ds) (RepliesToEntry p (ds ++ done ∷ [])) (reply_on h p ds (done ∷ [])) w.replies way) (replies_of ds r w m)

-- ---- each input

-- replies to a datagram are those to its entries, and no other input is replied to
abbrev AreReplies : Input → List Done → Work History → Type 0
AreReplies (Datagram from to bytes) ds w = AllByRecursion (RepliesToEntry (record { from = from; to = to; bytes = bytes }) ds) w.replies
AreReplies input ds w = Unit {0}

module _ (h : History) where
  abbrev MayIn : Input → List Done → Rule → Work History → Type 0
  MayIn input ds r w = Brings h input r ds

  step_starts : (input : Input) → AreReplies input [] (work_on h)
  step_starts (Datagram from to bytes) = tt
  step_starts input = tt

  step_goes_on : (input : Input) (ds : List Done) (r : Rule) (w : Work History) → AreReplies input ds w → MayIn input ds r w
      → AreReplies input (ds ++ record { by = r; before = w } ∷ []) (does historic (rule r) w)
  step_goes_on (Datagram from to bytes) ds r w way m = datagram_keeps h (record { from = from; to = to; bytes = bytes }) ds r w way m
  step_goes_on input ds r w way m = tt

  step_forgets : (input : Input) (ds : List Done) (w : Work History) → AreReplies input ds w → AreReplies input ds (record w { replies = [] })
  step_forgets (Datagram from to bytes) ds w way = tt
  step_forgets input ds w way = tt

  abbrev AllowedBy : Input → List Done → Plan → Work History → Type 0
  AllowedBy input ds plan w = AllowsAfter (AreReplies input) (MayIn input) ds plan w

  due_allowed : (ms : ℕ) (entries : List (List EntryValue)) → AllByRecursion (AllByRecursion (IsDue ((answers_of h).clock + ms) (answers_of h))) entries
      → (ds : List Done) (w : Work History) → AllowedBy (Tick ms) ds (each (message_plan_to Group) entries) w
  due_allowed ms [] all ds w = tt
  due_allowed ms (front ∷ more) all ds w = (inr (front, refl, all.0), λ _. due_allowed ms more all.1 _ _)

  tick_allowed : (ms : ℕ) → AllowedBy (Tick ms) [] (plan_of (Tick ms)) (work_on h)
  tick_allowed ms =
      let due : List EntryValue = due_entries ((answers_of h).clock + ms) (answers_of h) in
      (inl (refl, refl), λ _. due_allowed ms (fronts due) (all_fronts (IsDue ((answers_of h).clock + ms) (answers_of h)) (front_lengths due) due (due_says (answers_of h) ((answers_of h).clock + ms))) _ _)

  wish_allowed : (eventgroup : Eventgroup) (known : Option Ipv4Addr) → known_peer (answers_of h) eventgroup.instance ≡ known
      → (ds : List Done) (w : Work History) → AllowedBy (Subscribe eventgroup) ds (peer_plan known (wish_entries eventgroup (answers_of h))) w
  wish_allowed eventgroup None is ds w = tt
  wish_allowed eventgroup (Some peer) is ds w = inr (peer, is, refl)

  back_allowed : (eventgroup : Eventgroup) (stands : Option Beginning) → standing_of eventgroup (answers_of h) ≡ stands
      → AllowedBy (Unsubscribe eventgroup) [] (stop_subscribe_plan eventgroup stands (answers_of h)) (work_on h)
  back_allowed eventgroup None is = tt
  back_allowed eventgroup (Some beginning) is = inr (beginning, is, refl, refl)

  plan_allowed : (input : Input) → AllowedBy input [] (plan_of input) (work_on h)
  plan_allowed (Datagram from to bytes) = datagram_allowed h (record { from = from; to = to; bytes = bytes })
  plan_allowed (Tick ms) = tick_allowed ms
  plan_allowed (Call kind instance method payload) = (refl, refl)
  plan_allowed (Answer token reply payload) = (refl, refl)
  plan_allowed (Publish instance event payload) = (refl, refl)
  plan_allowed (PublishTo instance eventgroup endpoint event payload) = (refl, refl)
  plan_allowed (Subscribe eventgroup) = (inl (refl, refl), λ _. wish_allowed eventgroup (known_peer (answers_of h) eventgroup.instance) refl _ _)
  plan_allowed (Unsubscribe eventgroup) = (back_allowed eventgroup (standing_of eventgroup (answers_of h)) refl, λ _. inl refl)
  plan_allowed (StopOffer instance) = (inr (refl, refl), λ _. inl refl)

  pub all_brought : (input : Input) → AllByRecursion (WasBrought h input) (trail_of h input)
  all_brought input =
      all_weaker (IsAt (AreReplies input) (MayIn input) (trail_of h input)) (WasBrought h input) (λ done at. record {
        earlier = at.earlier;
        later = at.later;
        trail = at.splits;
        at = (before_each (plan_of input) (work_on h) at.earlier at.later done at.splits).0;
        brings = at.might.1;
      }) (trail_of h input)
      (all_might (AreReplies input) (MayIn input) (step_goes_on input) (step_forgets input) (plan_of input) (work_on h) (step_starts input) (plan_allowed input))

-- ---- configurations

pub config_kept : (h : History) (xs : List Item) → (after h xs).config ≡ h.config
config_kept h [] = refl
config_kept h (x ∷ xs) = config_kept (met h x) xs

-- the configuration of a node is the same at each rule of a step
pub config_there : (h : History) (input : Input) (done : Done) → Contains (trail_of h input) done → done.before.state.config ≡ h.config
config_there h input done among =
    let was = at_member (WasBrought h input) (trail_of h input) done (all_brought h input) among in
    ap (λ x. x.config) was.at ∙ config_kept h (met_by was.earlier)

-- ---- what is said

-- what each rule says was said by one that was done
module _ (h : History) (input : Input) {X : Type 0} (Holds : X → Rule → Tables → Type 0) (of : Outcome → List X)
    (each_rule : (r : Rule) (t : Tables) → AllByRecursion (λ x. Holds x r t) (of (rule r t))) where
  abbrev Said : X → Type 0
  Said x = WasDone h input (Holds x)

  done_said : (done : Done) → WasBrought h input done → Contains (trail_of h input) done → AllByRecursion Said (of (outcome_of done))
  done_said done was among =
      all_weaker (λ x. Holds x done.by (answers_of done.before.state)) Said (λ x holds. record { done = done; among = among; brought = was; holds = holds })
      (of (outcome_of done)) (each_rule done.by (answers_of done.before.state))

  pub all_said : AllByRecursion Said (flat_map (λ done. of (outcome_of done)) (trail_of h input))
  all_said =
      all_flat_map Said (λ done. of (outcome_of done)) (trail_of h input)
      (all_both (WasBrought h input) (Contains (trail_of h input)) (λ done. AllByRecursion Said (of (outcome_of done))) done_said (trail_of h input)
      (all_brought h input) (all_members (trail_of h input)))
