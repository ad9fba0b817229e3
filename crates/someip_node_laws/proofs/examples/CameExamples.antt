-- What came and what was replied, by example.
use Rattle.std.proofs.Common.{◌≡◌, ℕ, true, false, arith, List, [], ◌∷◌, ◌++◌, Some, None, refl, ap, sym, subst, ◌∙◌}
use Rattle.std.specs.List.{AllByRecursion, Contains}
use Rattle.std.proofs.lemmas.List.Elements.{Contains-append_right}
use Rattle.someip_wire.specs.declared.header.ReturnCode.{ReturnCode}
use Rattle.sd_wire.specs.declared.entry.EntryHead.{EntryHead}
use Rattle.sd_wire.specs.declared.entry.EntryHead.TheVariants.{Eventgroup, Service}
use Rattle.sd_wire.specs.contents.Values.{EntryValue}
use Rattle.sd_session.specs.Sessions.{first}
use Rattle.sd_session.specs.Peers.{may_hold, stamps_of, told_by}
use Rattle.sd_session.specs.declared.peers.Seen.TheVariants.{Same}
use Rattle.sd_session.specs.declared.stamp.Channel.TheVariants.{Unicast}
use Rattle.someip_rpc.specs.declared.ids.MessageId.{MessageId}
use Rattle.someip_rpc.specs.Answers.{answer_drop}
use Rattle.someip_node_rules.specs.trails.Bringing.{OfEntry, RepliesToEntry, WasBrought}
use Rattle.someip_node_rules.specs.forms.Entries.{ack_entry, fronts}
use Rattle.someip_node_laws.specs.HandUps.{AnswerCame}
use Rattle.someip_node_rules.specs.histories.History.{History, answers_of}
use Rattle.someip_node_rules.specs.histories.Items.{Item, PeerHeard}
use Rattle.someip_node_rules.specs.rules.Messages.{answer_by}
use Rattle.someip_node_rules.specs.rules.Outcomes.{Outcome}
use Rattle.someip_node_rules.specs.rules.Plans.{Rule, Hears, RepliesTo, TakesAnswer, TakesSubscribe}
use Rattle.someip_node_rules.specs.forms.Receivers.{messages_plan_to}
use Rattle.someip_node_rules.specs.trails.Replies.{IsReply}
use Rattle.someip_node_rules.specs.steps.Steps.{work_on}
use Rattle.someip_node_rules.specs.histories.Tables.{waiting_calls}
use Rattle.someip_node_rules.specs.trails.Trails.{Done, outcome_of, trail, trail_of}
use Rattle.someip_node_laws.specs.WorkedExamples.{client, discovery_at, nack_answer, server, server_address, subscribe_head}
use Rattle.someip_node_laws.specs.WorkedRun.{OffersEvent, WantsEvent, answer_packet, answered_items, called_items, comes, having_met, method, replied_items, subscribe_bytes, subscribe_packet}
use Rattle.someip_node_rules.specs.declared.config.Config.{Config}
use Rattle.someip_node_rules.specs.declared.receiver.Receiver.TheVariants.{Peer}
use Rattle.someip_node_rules.specs.declared.target.Target.TheVariants as target
use Rattle.someip_node_laws.proofs.examples.ClientRun.{answer_header, answer_taken, answered_by, both_flags, reads_answer, takes_answer, to_client, waits_at}
use Rattle.someip_node_laws.proofs.rules.HandUpLemmas.{answer_came}
use Rattle.someip_node_rules.proofs.lists.MemberLemmas.{all_append, all_weaker, at_member, only_one}
use Rattle.someip_node_laws.proofs.rules.RuleReplies.{rule_replied}
use Rattle.someip_node_laws.proofs.examples.ServerEvents.{accepts, is_down, reads_subscribe, stopped_heard_items, stopped_items, subscribe_read, takes_subscribe}
use Rattle.someip_node_laws.proofs.examples.StepLemmas.{has_room, is_new, work_after}
use Rattle.someip_node_rules.proofs.rules.StepRules.{all_brought}
use Rattle.someip_node_laws.proofs.examples.StepTrails.{all_reply, entry_trail, message_trail}

-- ---- an answer

module _ (config : Config) (is : WantsEvent config) where
  pub awaited_came : AnswerCame (having_met config called_items) (comes answer_packet) method 1 (record { 0 = 0 }) (3 ∷ [])
  awaited_came = answer_came (having_met config called_items) (comes answer_packet) _ (answer_taken config is) method 1 (record { 0 = 0 }) (3 ∷ []) (0, omega arith, refl)

  abbrev h : History
  h = having_met config replied_items

  -- the one rule of the step
  abbrev only : Done
  only = record { by = TakesAnswer server (answer_header config is) (3 ∷ []); before = work_on h }

  pub none_came : (message : MessageId) (session : ℕ) (code : ReturnCode) (payload : List ℕ) → AnswerCame h (comes answer_packet) message session code payload → ⊥
  none_came message session code payload c =
      let one : trail_of h (comes answer_packet) ≡ only ∷ [] =
      message_trail h server client answer_packet.bytes target.Client (rw is.client.address refl) (to_client config is) (TakesAnswer server (answer_header config is) (3 ∷ [])) (reads_answer config is) in
      let same : c.done ≡ only =
      only_one only c.done
      (subst (λ dones. Contains dones c.done) (sym c.trail ∙ one) (Contains-append_right c.earlier (c.done ∷ c.later) c.done (0, omega arith, refl))) in
      let by : TakesAnswer c.packet.from c.header payload ≡ TakesAnswer server (answer_header config is) (3 ∷ []) = sym c.takes ∙ ap (λ (d : Done). d.by) same in
      let from : c.packet.from ≡ server = cc in
      let header : c.header ≡ answer_header config is = cc in
      let awaited : answer_drop config.client_id server (answer_header config is) (waiting_calls (answers_of h)) ≡ None =
      (λ i. let t = answers_of (sym same i).before.state in answer_drop t.config.client_id (sym from i) (sym header i) (waiting_calls t)) ∙ c.taken.awaited in
      let taken = ap (λ v. (answer_by (answer_header config is) (3 ∷ []) v).items) awaited in
      let dropped = ap (λ (o : Outcome). o.items) (takes_answer config is replied_items ∙ ap (answered_by config is) (waits_at config is replied_items)) in
      absurd cc

-- ---- a Subscribe

-- an Ack is no Nack: their TTLs differ
no_nack : ack_entry subscribe_head 3 ≡ nack_answer → ⊥
no_nack same = let ttls = ap ttl_of same in absurd (omega (arith, ttls))
  where
    of_head : EntryHead → ℕ
    of_head (Eventgroup head) = head.ttl
    of_head (Service head) = head.ttl

    ttl_of : EntryValue → ℕ
    ttl_of e = of_head e.head

module _ (config : Config) (is : OffersEvent config) where
  abbrev ack : EntryValue
  ack = ack_entry subscribe_head 3

  abbrev taking : Rule
  taking = TakesSubscribe client.ip subscribe_head (Some client)

  module _ (items : List Item) (room : may_hold config.common.peers (answers_of (having_met config items)).peers client.ip ≡ true)
      (same : told_by Unicast first (stamps_of (answers_of (having_met config items)).peers client.ip) ≡ Same) where
    abbrev at : History
    at = having_met config items

    -- the rule that takes the Subscribe, once its message was heard
    abbrev taken : Done
    taken = record { by = taking; before = work_on (having_met config (PeerHeard client.ip Unicast first ∷ items)) }

    abbrev replies : List EntryValue
    replies = (outcome_of taken).replies

    abbrev sent : List Done
    sent = trail (messages_plan_to (Peer client.ip) replies) (record (work_after taken.before.state (outcome_of taken)) { replies = [] })

    abbrev dones : List Done
    dones = trail_of at (comes subscribe_packet)

    are : dones ≡ record { by = Hears client.ip Unicast first; before = work_on at } ∷ taken ∷ (sent ++ [])
    are =
        entry_trail at (discovery_at client.ip) (discovery_at server_address) subscribe_bytes (target.Discovery Unicast) (rw is.server.address refl) (rw is.server.address refl)
        Unicast 1 both_flags subscribe_read taking reads_subscribe room same refl

    -- what that rule replies is a reply to an entry
    is_reply : (reply : EntryValue) → Contains replies reply → RepliesToEntry subscribe_packet dones reply
    is_reply reply gave =
        let among : Contains dones taken = subst (λ ds. Contains ds taken) (sym are) (1, omega arith, refl) in
        record {
          done = taken;
          among = among;
          entry = (at_member (WasBrought at (comes subscribe_packet)) dones taken (all_brought at (comes subscribe_packet)) among).brings.1;
          gave = gave;
          says = at_member (IsReply taking (answers_of taken.before.state)) replies reply (rule_replied (answers_of taken.before.state) taking) gave;
        }

    -- and nothing else is
    is_of_it : (reply : EntryValue) → RepliesToEntry subscribe_packet dones reply → Contains replies reply
    is_of_it reply r = at_member IsIt dones r.done (subst (AllByRecursion IsIt) (sym are) all) r.among r.entry r.gave
      where
        IsIt : Done → Type 0
        IsIt d = OfEntry subscribe_packet d.by → Contains (outcome_of d).replies reply → Contains replies reply

        Replied : Done → Type 0
        Replied d = (entries : List EntryValue) × (d.by ≡ RepliesTo client.ip entries)

        all : AllByRecursion IsIt (record { by = Hears client.ip Unicast first; before = work_on at } ∷ taken ∷ (sent ++ []))
        all = (
          λ entry gave. absurd entry,
          (
            λ entry gave. gave,
            all_append IsIt sent [] (all_weaker Replied IsIt (λ d by entry gave. absurd (subst (OfEntry subscribe_packet) by.1 entry)) sent (all_reply client.ip (fronts replies) _)) tt,
          ),
        )

  pub accepted_replied : RepliesToEntry subscribe_packet (trail_of (having_met config answered_items) (comes subscribe_packet)) ack
  accepted_replied =
      is_reply answered_items (rw is.peers (has_room 64 client.ip (omega arith))) (is_new Unicast first client.ip) ack
      (subst (λ (o : Outcome). Contains o.replies ack) (sym (accepts config is)) (0, omega arith, refl))

  pub refused_not_replied : RepliesToEntry subscribe_packet (trail_of (having_met config (stopped_items config is)) (comes subscribe_packet)) ack → ⊥
  refused_not_replied r =
      let gave = is_of_it (stopped_items config is) (rw is.peers (has_room 64 client.ip (omega arith))) (is_new Unicast first client.ip) ack r in
      no_nack
      (only_one nack_answer ack
      (subst (λ (o : Outcome). Contains o.replies ack) (takes_subscribe config is (stopped_heard_items config is) false (is_down config is)) gave))
