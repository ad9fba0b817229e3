-- A run that opens no key twice, and sends nothing in segments, reuses its keys cleanly, whatever liars send.
use Rattle.std.proofs.Common.{◌≡◌, ◌⊎◌, inl, inr, ℕ, true, false, List, [], arith, refl, sym, ap, subst}
use Rattle.std.specs.List.{Contains}
use Rattle.std.specs.Net.Socket.{v4_ip}
use Rattle.std.specs.declared.net.ipv4_addr.Ipv4Addr.{Ipv4Addr}
use Rattle.std.specs.declared.net.socket_addr.SocketAddrV4.{SocketAddrV4}
use Rattle.someip_wire.specs.Spelling.{MessageValue}
use Rattle.someip_reassembly.specs.Sent.{is_long}
use Rattle.sd_wire.specs.declared.entry.EntryHead.{EntryHead}
use Rattle.sd_wire.specs.declared.entry.EntryHead.TheVariants as heads
use Rattle.sd_wire.specs.declared.entry.EventgroupEntry.{EventgroupEntry}
use Rattle.sd_wire.specs.declared.entry.EventgroupKind.{EventgroupKind}
use Rattle.sd_wire.specs.declared.entry.EventgroupKind.TheVariants as group_kinds
use Rattle.sd_wire.specs.contents.Values.{EntryValue}
use Rattle.sd_session.specs.declared.stamp.Stamp.{Stamp}
use Rattle.someip_node_rules.specs.declared.config.Config.{Config}
use Rattle.someip_node_rules.specs.rules.Learning.{eventgroup_in}
use Rattle.someip_node_rules.specs.forms.Outputs as outputs
use Rattle.someip_node_rules.specs.forms.Outputs.{Given}
use Rattle.someip_node_rules.specs.rules.Plans.{RepliesTo}
use Rattle.someip_node_rules.proofs.lists.MemberLemmas.{at_member, only_one}
use Rattle.someip_world_schedule.specs.declared.step.Step.{Step}
use Rattle.someip_world_setup.specs.declared.setup_node.SetupNode.{SetupNode}
use Rattle.someip_world_rules.specs.Announced.{AllFits}
use Rattle.someip_world_rules.specs.Datagrams.{SentDatagram}
use Rattle.someip_world_rules.specs.Deliveries.{Sends}
use Rattle.someip_world_rules.specs.Liars.{IsHonest, IsOfLiar}
use Rattle.someip_world_rules.specs.exchanges.Belonging.{Answered, Belongs, IsMeant}
use Rattle.someip_world_rules.specs.exchanges.CleanReuse.{Breaks, DeliversMixed, DeliversOld, Mixed, Old}
use Rattle.someip_world_rules.specs.exchanges.Namings.{named_by_entries, named_by_head, named_by_kind, named_by_type, named_in, of_subscription}
use Rattle.someip_world_rules.specs.declared.exchanges.exchange_key.ExchangeKey.{ExchangeKey}
use Rattle.someip_world_rules.specs.declared.exchanges.naming.Naming.{Naming}
use Rattle.someip_world_rules.specs.declared.exchanges.naming.Side.{Side}
use Rattle.someip_world_rules.specs.declared.exchanges.naming.Side.TheVariants.{Answerer, Opener}
use Rattle.someip_world_rules.proofs.about_exchanges.runs.Among.{one_among}
use Rattle.someip_world_rules.proofs.about_exchanges.openings.OpeningLemmas.{opens_its_own}
use Rattle.someip_world_safety.specs.Addresses.{AreOffGroup, HaveOwnAddresses}
use Rattle.someip_world_safety.specs.CleanRuns.{AreShort, OpensOnce}
use Rattle.someip_world_safety.specs.OwnOffers.{HaveOwnOffers}
use Rattle.someip_world_safety.proofs.answers.AnswerOpenings.{answer_opened}
use Rattle.someip_world_safety.proofs.subscriptions.EntryOpenings.{ack_opened, goes_to_peer, subscribe_opened}
use Rattle.someip_world_safety.proofs.networks.LiarLemmas.{liar_or_honest}
use Rattle.someip_world_safety.proofs.subscriptions.LiarOpenings.{IsNeverOpened, no_call_of_liar, no_subscription_of_liar}
use Rattle.someip_world_safety.proofs.messages.RepliesBack.{answer_key}
use Rattle.someip_world_safety.proofs.subscriptions.SentEntries.{IsGroupEntry}
use Rattle.someip_world_safety.proofs.subscriptions.StandingOpenings.{WasOpened}

-- ---- which entry names a key

-- the entry that names a key, and how
pub record NamedBy (from to : Ipv4Addr) (entries : List EntryValue) (n : Naming) : Type 0 where
  pub value : EntryValue
  pub among : Contains entries value
  pub head : EventgroupEntry
  pub about : IsGroupEntry value head
  pub names : n ≡ named_by_kind head.kind from to head

-- a key that entries name is named by one of them
pub named_by : (from to : Ipv4Addr) (entries : List EntryValue) (n : Naming) → Contains (named_by_entries from to entries) n → NamedBy from to entries n
named_by from to entries n among =
    let one = one_among (λ e. named_by_head from to e.head) entries n among in
    cases one.0 one.1 one.0.head refl one.2
  where
    cases : (value : EntryValue) → Contains entries value → (head : EntryHead) → value.head ≡ head → Contains (named_by_head from to head) n → NamedBy from to entries n
    cases value there (heads.Service head) is named = absurd (at_member (λ x. ⊥) [] n tt named)
    cases value there (heads.Eventgroup head) is named =
        record { value = value; among = there; head = head; about = is; names = only_one (named_by_kind head.kind from to head) n named }

-- the opener names with a Subscribe or a StopSubscribe, and the answerer with an Ack or a Nack
abbrev pub SaysSide : Side → EventgroupKind → (from to : Ipv4Addr) → EventgroupEntry → ExchangeKey → Type 0
SaysSide Opener kind from to head key = (kind ≡ group_kinds.Subscribe) × (of_subscription from to (eventgroup_in head) head.counter ≡ key)
SaysSide Answerer kind from to head key = (kind ≡ group_kinds.Ack) × (of_subscription to from (eventgroup_in head) head.counter ≡ key)

pub says_side : (kind : EventgroupKind) (side : Side) (from to : Ipv4Addr) (head : EventgroupEntry) (key : ExchangeKey) → record { key = key; side = side } ≡ named_by_kind kind from to head → SaysSide side kind from to head key
says_side group_kinds.Subscribe Opener from to head key is = (refl, sym (ap (λ (n : Naming). n.key) is))
says_side group_kinds.Subscribe Answerer from to head key is = let clash = ap (λ (n : Naming). n.side) is in absurd cc
says_side group_kinds.Ack Opener from to head key is = let clash = ap (λ (n : Naming). n.side) is in absurd cc
says_side group_kinds.Ack Answerer from to head key is = (refl, sym (ap (λ (n : Naming). n.key) is))

module _ (nodes : List SetupNode) (configs : List Config) (ss : List Step) (fits : AllFits nodes configs ss) (own : HaveOwnAddresses configs) (off_group : AreOffGroup configs) (offers : HaveOwnOffers configs)
    (short : AreShort nodes configs ss) where
  -- ---- what belongs to an exchange

  -- it was opened, in a step or before; or it never is, since its client is a liar
  abbrev IsOpenedOrNever : ℕ → ExchangeKey → Type 0
  IsOpenedOrNever since key = WasOpened nodes configs ss since key ⊎ IsNeverOpened nodes configs ss key

  module _ (i : ℕ) (d : SentDatagram) (s : Sends nodes configs ss i d) (key : ExchangeKey) (since : ℕ) where
    -- an entry of a message of Service Discovery
    by_entry : (side : Side) (from to : SocketAddrV4) (stamp : Stamp) (entries : List EntryValue) → s.given ≡ outputs.Announces from to stamp entries
        → NamedBy (v4_ip from) (v4_ip to) entries (record { key = key; side = side }) → IsMeant nodes configs ss s.does.turn.place i s.by.done.by side since → IsOpenedOrNever since key
    by_entry Opener from to stamp entries is by meant =
        let says = says_side by.head.kind Opener (v4_ip from) (v4_ip to) by.head key by.names in
        inl (subst (λ k. WasOpened nodes configs ss k key) (sym meant)
        (subst (WasOpened nodes configs ss i) says.1 (subscribe_opened nodes configs ss i d s from to stamp entries is by.value by.among by.head by.about says.0)))
    by_entry Answerer from to stamp entries is by meant = cases (liar_or_honest nodes configs (v4_ip to))
      where
        says : (by.head.kind ≡ group_kinds.Ack) × (of_subscription (v4_ip to) (v4_ip from) (eventgroup_in by.head) by.head.counter ≡ key)
        says = says_side by.head.kind Answerer (v4_ip from) (v4_ip to) by.head key by.names

        came : Answered nodes configs ss s.does.turn.place i (RepliesTo (goes_to_peer nodes configs ss i d s from to stamp entries is by.value by.among by.head by.about).peer entries) since
        came = subst (λ r. Answered nodes configs ss s.does.turn.place i r since) (goes_to_peer nodes configs ss i d s from to stamp entries is by.value by.among by.head by.about).by meant

        cases : IsOfLiar nodes configs (v4_ip to) ⊎ IsHonest nodes configs (v4_ip to) → IsOpenedOrNever since key
        cases (inl of) = inr (subst (IsNeverOpened nodes configs ss) says.1 (no_subscription_of_liar nodes configs ss own (v4_ip to) (v4_ip from) (eventgroup_in by.head) by.head.counter of))
        cases (inr honest) =
            inl (subst (WasOpened nodes configs ss since) says.1
            (ack_opened nodes configs ss fits off_group i d s from to stamp entries is by.value by.among by.head by.about says.0 since came.0 came.1 honest))

    -- a message of the application
    by_message : (side : Side) (from to : SocketAddrV4) (m : MessageValue) → s.given ≡ outputs.Sends from to m → Contains (named_by_type m.header.kind from to m.header) (record { key = key; side = side })
        → IsMeant nodes configs ss s.does.turn.place i s.by.done.by side since → IsOpenedOrNever since key
    by_message Opener from to m is named meant =
        let all = subst (λ g. Contains (named_in g) (record { key = key; side = Opener })) {x = outputs.Sends from to m} (sym is) named in
        inl (i, omega (arith, meant), opens_its_own nodes configs ss i d s from to m key is all)
    by_message Answerer from to m is named meant = cases (liar_or_honest nodes configs (v4_ip to))
      where
        cases : IsOfLiar nodes configs (v4_ip to) ⊎ IsHonest nodes configs (v4_ip to) → IsOpenedOrNever since key
        cases (inl of) =
            inr (subst (IsNeverOpened nodes configs ss) (sym (answer_key from to m.header key named))
            (no_call_of_liar nodes configs ss own to from m.header.service m.header.method m.header.client m.header.session of))
        cases (inr honest) = inl (answer_opened nodes configs ss fits short offers i d s from to m key named since honest is meant)

    -- whatever was given
    by_given : (side : Side) (given : Given) → s.given ≡ given → Contains (named_in given) (record { key = key; side = side }) → IsMeant nodes configs ss s.does.turn.place i s.by.done.by side since
        → IsOpenedOrNever since key
    by_given side (outputs.Sends from to m) is named meant = by_message side from to m is named meant
    by_given side (outputs.Announces from to stamp entries) is named meant =
        by_entry side from to stamp entries is (named_by (v4_ip from) (v4_ip to) entries (record { key = key; side = side }) named) meant
    by_given side (outputs.Tells output) is named meant = absurd (at_member (λ x. ⊥) [] (record { key = key; side = side }) tt named)

  -- what belongs to an exchange as of a step belongs to one that was opened, in that step or before; or it answers a liar
  what_belongs_was_opened : (i : ℕ) (d : SentDatagram) (key : ExchangeKey) (since : ℕ) → Belongs nodes configs ss i d key since → IsOpenedOrNever since key
  what_belongs_was_opened i d key since b = by_given i d b.sent key since b.side b.sent.given refl b.named b.meant

  -- ---- clean runs

  module _ (once : OpensOnce nodes configs ss) where
    -- a key that was opened is not taken
    old_none : (n : ℕ) → DeliversOld nodes configs ss n → ⊥
    old_none n o = cases (what_belongs_was_opened o.sent o.datagram o.key o.since o.belongs)
      where
        cases : IsOpenedOrNever o.since o.key → ⊥
        cases (inl opened) =
            let low = opened.1 in
            let high = o.taken.after in
            let same : opened.0 ≡ o.taken.i = once opened.0 o.taken.i o.key opened.2 o.taken.opened in
            omega (arith, low, high, same)
        cases (inr never) = never o.taken.i o.taken.opened

    -- no segment arrives
    mixed_none : (n : ℕ) → DeliversMixed nodes configs ss n → ⊥
    mixed_none n o =
        let a = o.arrives in
        let long : is_long o.message.payload ≡ true = a.long in
        let none : is_long o.message.payload ≡ false = short a.sent a.datagram a.sends o.message a.given in
        absurd cc

    -- where no key is opened twice, and nothing goes in segments, keys are reused cleanly
    pub opens_once_is_clean : (n : ℕ) → Breaks nodes configs ss n → ⊥
    opens_once_is_clean n (Old o) = old_none n o
    opens_once_is_clean n (Mixed o) = mixed_none n o
