-- Each Ack and each Nack that is replied answers a Subscribe that was judged before.
use Rattle.std.proofs.Common.{◌≡◌, inl, inr, List, Option, None, Some, refl, sym, ap, subst, ◌∙◌}
use Rattle.std.specs.List.{Contains}
use Rattle.std.specs.Net.Socket.{v4_ip}
use Rattle.std.specs.declared.net.ipv4_addr.Ipv4Addr.{Ipv4Addr}
use Rattle.std.specs.declared.net.socket_addr.SocketAddrV4.{SocketAddrV4}
use Rattle.sd_wire.specs.declared.entry.EventgroupEntry.{EventgroupEntry}
use Rattle.sd_wire.specs.declared.entry.EventgroupKind.TheVariants.{Ack, Subscribe}
use Rattle.sd_wire.specs.contents.Values.{EntryValue}
use Rattle.sd_core.specs.declared.error.Cause.{Cause}
use Rattle.sd_core.specs.SubscriberTables.{nack_cause}
use Rattle.someip_node_laws.specs.Answerings.{AnswersAccepted, AnswersRefused, AnswersSubscribe, IsAnswer}
use Rattle.someip_node_rules.specs.trails.Bringing.{OfDatagram, OfEntry, RepliesToEntry, WasBrought}
use Rattle.someip_node_rules.specs.forms.Entries.{ack_entry}
use Rattle.someip_node_rules.specs.histories.History.{History, answers_of}
use Rattle.someip_node_rules.specs.rules.Inputs.{Datagram}
use Rattle.someip_node_rules.specs.trails.Packets.{Packet, HasSubscribe}
use Rattle.someip_node_rules.specs.rules.Plans.{Rule, RepliesTo, TakesFind, TakesOffer, TakesSubscribe, rule}
use Rattle.someip_node_rules.specs.trails.Replies.{IsReply}
use Rattle.someip_node_rules.specs.rules.ServerSubscribing.{rules_for, subscribe_by, subscribe_in}
use Rattle.someip_node_rules.specs.histories.Tables.{Tables, live_subscribers}
use Rattle.someip_node_rules.specs.trails.Trails.{Done}
use Rattle.someip_node_rules.proofs.lists.MemberLemmas.{at_member}

module _ (p : Packet) (earlier : List Done) (reply : EntryValue) (answers : IsAnswer reply) (done : Done) (among : Contains earlier done) where
  abbrev t : Tables
  t = answers_of done.before.state

  abbrev peer : Ipv4Addr
  peer = v4_ip p.from

  -- the Ack of a Subscribe
  acked : (from : Ipv4Addr) (head : EventgroupEntry) (endpoint : Option SocketAddrV4) → done.by ≡ TakesSubscribe from head endpoint → OfEntry p (TakesSubscribe from head endpoint)
      → (subscriber : SocketAddrV4) → endpoint ≡ Some subscriber → nack_cause (rules_for head t) (subscribe_in from head endpoint) (live_subscribers t) ≡ None
      → reply ≡ ack_entry head head.ttl → AnswersAccepted p earlier reply
  acked from head endpoint by entry subscriber ends none is =
      let takes : done.by ≡ TakesSubscribe peer head (Some subscriber) = by ∙ (λ i. TakesSubscribe (entry.1 i) head (ends i)) in
      let accepted : nack_cause (rules_for head t) (subscribe_in peer head (Some subscriber)) (live_subscribers t) ≡ None =
      (λ i. nack_cause (rules_for head t) (subscribe_in (sym entry.1 i) head (sym ends i)) (live_subscribers t)) ∙ none in
      record {
        head = head;
        subscribes = entry.0;
        subscriber = subscriber;
        stands = subst (HasSubscribe p head) ends entry.2;
        done = done;
        among = among;
        takes = takes;
        accepts = ap (λ r. (rule r t).items) takes ∙ ap (λ c. (subscribe_by head (subscribe_in peer head (Some subscriber)) c).items) accepted;
        is = is;
      }

  -- and its Nack
  nacked : (from : Ipv4Addr) (head : EventgroupEntry) (endpoint : Option SocketAddrV4) → done.by ≡ TakesSubscribe from head endpoint → OfEntry p (TakesSubscribe from head endpoint)
      → (cause : Cause) → nack_cause (rules_for head t) (subscribe_in from head endpoint) (live_subscribers t) ≡ Some cause
      → reply ≡ ack_entry head 0 → AnswersRefused p earlier reply
  nacked from head endpoint by entry cause some is =
      let takes : done.by ≡ TakesSubscribe peer head endpoint = by ∙ ap (λ x. TakesSubscribe x head endpoint) entry.1 in
      let refused : nack_cause (rules_for head t) (subscribe_in peer head endpoint) (live_subscribers t) ≡ Some cause =
      ap (λ x. nack_cause (rules_for head t) (subscribe_in x head endpoint) (live_subscribers t)) (sym entry.1) ∙ some in
      record {
        head = head;
        subscribes = entry.0;
        endpoint = endpoint;
        stands = entry.2;
        done = done;
        among = among;
        takes = takes;
        cause = cause;
        refuses = ap (λ r. (rule r t).given) takes ∙ ap (λ c. (subscribe_by head (subscribe_in peer head endpoint) c).given) refused;
        is = is;
      }

  -- no other rule replies one
  by_rule : (r : Rule) → done.by ≡ r → OfEntry p r → IsReply r t reply → AnswersSubscribe p earlier reply
  by_rule (TakesSubscribe from head endpoint) by entry (inl says) = inl (acked from head endpoint by entry says.0 says.1 says.2 says.3)
  by_rule (TakesSubscribe from head endpoint) by entry (inr says) = inr (nacked from head endpoint by entry says.0 says.1 says.2)
  by_rule (TakesFind head) by entry says =
      let same = sym (ap (λ (e : EntryValue). e.head) says.4) ∙ answers.1 in absurd cc
  by_rule (TakesOffer offer) by entry says =
      let same = sym (ap (λ (e : EntryValue). e.head) says.1.4) ∙ answers.1 in
      let kind : Subscribe ≡ answers.0.kind = cc in
      let other : Subscribe ≡ Ack = kind ∙ answers.2 in
      absurd cc
  by_rule r by entry says = absurd says

pub answers_subscribe : (p : Packet) (earlier : List Done) (reply : EntryValue) → IsAnswer reply → RepliesToEntry p earlier reply → AnswersSubscribe p earlier reply
answers_subscribe p earlier reply answers r = by_rule p earlier reply answers r.done r.among r.done.by refl r.entry r.says

-- each reply to a datagram that is one
pub reply_answers : (h : History) (p : Packet) (done : Done) (was : WasBrought h (Datagram p.from p.to p.bytes) done) (peer : Ipv4Addr) (entries : List EntryValue)
    → done.by ≡ RepliesTo peer entries → (reply : EntryValue) → Contains entries reply → IsAnswer reply → AnswersSubscribe p was.earlier reply
reply_answers h p done was peer entries is reply among answers =
    let brings : OfDatagram h p (RepliesTo peer entries) was.earlier = subst (λ r. OfDatagram h p r was.earlier) is was.brings in
    answers_subscribe p was.earlier reply answers (at_member (RepliesToEntry p was.earlier) entries reply brings.1 among)
