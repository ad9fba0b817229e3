-- What liars inject belongs to no exchange, and what nodes send in reply to it belongs to none that is ever opened.
use Rattle.std.proofs.Common.{◌≡◌, inl, inr, ℕ, List, [], refl, sym, subst}
use Rattle.std.specs.List.{Contains}
use Rattle.std.specs.Net.Socket.{v4_ip}
use Rattle.std.specs.declared.net.ipv4_addr.Ipv4Addr.{Ipv4Addr}
use Rattle.std.specs.declared.net.socket_addr.SocketAddrV4.{SocketAddrV4}
use Rattle.sd_wire.specs.contents.Values.{EntryValue}
use Rattle.sd_session.specs.declared.stamp.Stamp.{Stamp}
use Rattle.someip_node_rules.specs.declared.config.Config.{Config}
use Rattle.someip_node_rules.specs.rules.Learning.{eventgroup_in}
use Rattle.someip_node_rules.specs.forms.Outputs as outputs
use Rattle.someip_node_rules.specs.forms.Outputs.{Given}
use Rattle.someip_node_rules.specs.rules.Plans.{RepliesTo}
use Rattle.someip_node_rules.proofs.lists.MemberLemmas.{at_member}
use Rattle.someip_world_schedule.specs.declared.step.Step.{Step}
use Rattle.someip_world_setup.specs.declared.setup_node.SetupNode.{SetupNode}
use Rattle.someip_world_rules.specs.Datagrams.{SentDatagram}
use Rattle.someip_world_rules.specs.Deliveries.{GoesOut, IsInjected, Sends}
use Rattle.someip_world_rules.specs.Liars.{IsOfLiar}
use Rattle.someip_world_rules.proofs.InjectionLemmas.{apart, of_liar}
use Rattle.someip_world_rules.proofs.Sendings.{sent_before}
use Rattle.someip_world_rules.specs.exchanges.Belonging.{Answered, Belongs, IsMeant}
use Rattle.someip_world_rules.specs.exchanges.Namings.{named_in}
use Rattle.someip_world_rules.specs.declared.exchanges.exchange_key.ExchangeKey.{ExchangeKey}
use Rattle.someip_world_rules.specs.declared.exchanges.naming.Side.{Side}
use Rattle.someip_world_rules.specs.declared.exchanges.naming.Side.TheVariants.{Answerer, Opener}
use Rattle.someip_world_safety.specs.Addresses.{HaveOwnAddresses}
use Rattle.someip_world_safety.proofs.runs.CleanLemmas.{NamedBy, named_by, says_side}
use Rattle.someip_world_safety.proofs.subscriptions.EntryOpenings.{goes_to_peer}
use Rattle.someip_world_safety.proofs.subscriptions.LiarOpenings.{IsNeverOpened, no_call_of_liar, no_subscription_of_liar}
use Rattle.someip_world_safety.proofs.messages.RepliesBack.{GoesBack, ack_back, answer_back, answer_key}

module _ (nodes : List SetupNode) (configs : List Config) (ss : List Step) where
  -- injected bytes are none of what a node sends
  pub injected_belong_to_none : (i since : ℕ) (d e : SentDatagram) (key : ExchangeKey) → IsInjected nodes configs ss i e → Belongs nodes configs ss i d key since → ⊥
  injected_belong_to_none i since d e key injected b = apart nodes configs ss i d e b.sent injected

  module _ (own : HaveOwnAddresses configs) (since : ℕ) (e : SentDatagram) (injected : IsInjected nodes configs ss since e) where
    -- what goes back for injected bytes goes to a liar
    to_liar : (address : Ipv4Addr) → GoesBack nodes configs ss since address → IsOfLiar nodes configs address
    to_liar address g = subst (IsOfLiar nodes configs) (sym g.back) (cases (sent_before nodes configs ss g.i since g.datagram g.delivers).1)
      where
        cases : GoesOut nodes configs ss since g.datagram → IsOfLiar nodes configs (v4_ip g.datagram.from)
        cases (inl sends) = absurd (apart nodes configs ss since g.datagram e sends injected)
        cases (inr one) = of_liar nodes configs ss since g.datagram one

    module _ (i : ℕ) (d : SentDatagram) (s : Sends nodes configs ss i d) (key : ExchangeKey) where
      -- an entry of a message of Service Discovery
      by_entry : (from to : SocketAddrV4) (stamp : Stamp) (entries : List EntryValue) → s.given ≡ outputs.Announces from to stamp entries
          → NamedBy (v4_ip from) (v4_ip to) entries (record { key = key; side = Answerer }) → Answered nodes configs ss s.does.turn.place i s.by.done.by since → IsNeverOpened nodes configs ss key
      by_entry from to stamp entries is by answered =
          let says = says_side by.head.kind Answerer (v4_ip from) (v4_ip to) by.head key by.names in
          let goes = goes_to_peer nodes configs ss i d s from to stamp entries is by.value by.among by.head by.about in
          let came : Answered nodes configs ss s.does.turn.place i (RepliesTo goes.peer entries) since = subst (λ r. Answered nodes configs ss s.does.turn.place i r since) goes.by answered in
          subst (IsNeverOpened nodes configs ss) says.1
          (no_subscription_of_liar nodes configs ss own (v4_ip to) (v4_ip from) (eventgroup_in by.head) by.head.counter
          (to_liar (v4_ip to) (ack_back nodes configs ss i d s from to stamp entries is by.value by.among by.head by.about says.0 since came.0 came.1)))

      -- whatever was given
      by_given : (given : Given) → s.given ≡ given → Contains (named_in given) (record { key = key; side = Answerer }) → Answered nodes configs ss s.does.turn.place i s.by.done.by since
          → IsNeverOpened nodes configs ss key
      by_given (outputs.Sends from to m) is named answered =
          subst (IsNeverOpened nodes configs ss) (sym (answer_key from to m.header key named))
          (no_call_of_liar nodes configs ss own to from m.header.service m.header.method m.header.client m.header.session
          (to_liar (v4_ip to) (answer_back nodes configs ss i d s from to m key named since is answered)))
      by_given (outputs.Announces from to stamp entries) is named answered =
          by_entry from to stamp entries is (named_by (v4_ip from) (v4_ip to) entries (record { key = key; side = Answerer }) named) answered
      by_given (outputs.Tells output) is named answered = absurd (at_member (λ x. ⊥) [] (record { key = key; side = Answerer }) tt named)

      -- by the side that it takes: what opens an exchange is no reply
      by_side : (side : Side) → Contains (named_in s.given) (record { key = key; side = side }) → IsMeant nodes configs ss s.does.turn.place i s.by.done.by side since → IsNeverOpened nodes configs ss key
      by_side Opener named meant = absurd (apart nodes configs ss i d e s (subst (λ k. IsInjected nodes configs ss k e) meant injected))
      by_side Answerer named meant = by_given s.given refl named meant

    -- no exchange that a reply to injected bytes names is ever opened
    pub replies_never_opened : (i : ℕ) (d : SentDatagram) (key : ExchangeKey) → Belongs nodes configs ss i d key since → IsNeverOpened nodes configs ss key
    replies_never_opened i d key b = by_side i d b.sent key b.side b.named b.meant
