-- A message that came whole to an instance or to the client is one that was sent alone.
use Rattle.std.proofs.lemmas.Bool.{eqb-false}
use Rattle.std.proofs.Common.{◌≡◌, ℕ, zero, suc, ◌+◌, Bool, true, false, ◌&&◌, eqb, if◌then◌else◌, List, [], ◌∷◌, drop, length, map, refl, sym, ap, subst, ◌∙◌}
use Rattle.std.specs.List.{AllByRecursion, Contains}
use Rattle.std.specs.Net.Socket.{v4_ip, v4_port}
use Rattle.std.specs.declared.net.socket_addr.SocketAddrV4.{SocketAddrV4}
use Rattle.someip_wire.proofs.TypeLemmas.{flag_set}
use Rattle.someip_wire.specs.declared.header.Header.{Header}
use Rattle.someip_wire.specs.Kinds.{has_tp_flag}
use Rattle.someip_wire.specs.Spelling.{Fits, MessageValue, spelling}
use Rattle.someip_reassembly.specs.Segments.{SegmentValue, segment_header, segments_within}
use Rattle.someip_reassembly.specs.Sent.{PieceValue, Alone, InSegment, is_long, piece_message, segments_of, sent}
use Rattle.someip_reassembly.proofs.SentLemmas.{all_fit}
use Rattle.someip_reassembly.specs.SegmentOffers.{SegmentOffer}
use Rattle.someip_rpc.specs.declared.call.CallKind.{CallKind}
use Rattle.someip_rpc.specs.declared.call.CallKind.TheVariants as calls
use Rattle.someip_rpc.specs.declared.request.Reply.{Reply}
use Rattle.someip_rpc.specs.declared.request.Reply.TheVariants as replies
use Rattle.someip_rpc.specs.Calls.{kind_of_call}
use Rattle.someip_rpc.specs.Servers.{kind_of_reply}
use Rattle.sd_session.specs.declared.stamp.Channel.TheVariants as channels
use Rattle.sd_session.specs.declared.stamp.Stamp.{Stamp}
use Rattle.sd_wire.specs.contents.Values.{EntryValue}
use Rattle.someip_node_rules.specs.forms.Entries.{discovery_message}
use Rattle.someip_node_rules.specs.declared.config.Config.{Config}
use Rattle.someip_node_rules.specs.declared.output.Output.TheVariants.{Sent}
use Rattle.someip_node_rules.specs.declared.target.Target.{Target}
use Rattle.someip_node_rules.specs.declared.target.Target.TheVariants as target
use Rattle.someip_node_laws.specs.Fitting.{FitsWire}
use Rattle.someip_node_rules.specs.rules.Handling.{instance_target, own_target, same_address, target_of}
use Rattle.someip_node_rules.specs.histories.History.{History, answers_of}
use Rattle.someip_node_rules.specs.rules.Inputs.{Input}
use Rattle.someip_node_rules.specs.trails.Meanings.{GivenBy, IsTold}
use Rattle.someip_node_rules.specs.forms.Outputs.{Given, Announces, Sends, Tells, datagram_of, written}
use Rattle.someip_node_rules.specs.trails.Packets.{Packet, HasSegment, HasWhole}
use Rattle.someip_node_rules.specs.rules.Plans as plans
use Rattle.someip_node_rules.specs.rules.Plans.{Rule}
use Rattle.someip_node_rules.specs.trails.SendingRules.{IsAnnounced, IsSent}
use Rattle.someip_node_rules.specs.forms.Setups.{instance_at}
use Rattle.someip_node_rules.specs.histories.Tables.{Tables}
use Rattle.someip_node_rules.proofs.lists.MemberLemmas.{all_both, all_from_members, all_map, all_weaker, at_member}
use Rattle.someip_world_rules.proofs.AnnouncedLemmas.{only_message}

-- ---- the pieces of a message

segments_flagged : (n : ℕ) (header : Header) (offset : ℕ) (rest : List ℕ) → has_tp_flag header.kind ≡ true → AllByRecursion (λ s. has_tp_flag s.header.kind ≡ true) (segments_within n header offset rest)
unfolding segments_within
segments_flagged zero header offset rest is = tt
segments_flagged (suc n) header offset [] is = tt
segments_flagged (suc n) header offset (b ∷ rest) is = (is, segments_flagged n header (offset + 1392) (drop 1392 (b ∷ rest)) is)

-- a piece without the TP flag is the message itself, which is short
abbrev IsItself : MessageValue → PieceValue → Type 0
IsItself m piece = has_tp_flag (piece_message piece).header.kind ≡ false → (piece_message piece ≡ m) × (is_long m.payload ≡ false)

whole_pieces : (m : MessageValue) → AllByRecursion (IsItself m) (sent m)
whole_pieces m = cases (is_long m.payload) refl
  where
    cases : (b : Bool) → is_long m.payload ≡ b → AllByRecursion (IsItself m) (if b then map InSegment (segments_of m) else Alone m ∷ [])
    cases true is =
        all_map (IsItself m) InSegment (segments_of m)
        (all_weaker (λ s. has_tp_flag s.header.kind ≡ true) (λ s. IsItself m (InSegment s)) (λ s flag none. absurd cc) (segments_of m)
        (segments_flagged (length m.payload) (segment_header m.header) 0 m.payload (flag_set m.header.kind)))
    cases false is = ((λ none. (refl, is)), tt)

-- a piece with the TP flag is a segment of the message, which is long; unless the message itself has the flag
abbrev pub IsSegment : MessageValue → PieceValue → Type 0
IsSegment m piece = has_tp_flag m.header.kind ≡ false → has_tp_flag (piece_message piece).header.kind ≡ true
    → (is_long m.payload ≡ true) × ((s : SegmentValue) × Contains (segments_of m) s × (piece ≡ InSegment s))

pub segment_pieces : (m : MessageValue) → AllByRecursion (IsSegment m) (sent m)
segment_pieces m = cases (is_long m.payload) refl
  where
    cases : (b : Bool) → is_long m.payload ≡ b → AllByRecursion (IsSegment m) (if b then map InSegment (segments_of m) else Alone m ∷ [])
    cases true is = all_map (IsSegment m) InSegment (segments_of m) (all_from_members (λ s. IsSegment m (InSegment s)) (segments_of m) (λ s among none flag. (is, (s, among, refl))))
    cases false is = ((λ none flag. let both = sym none ∙ flag in absurd cc), tt)

-- ---- no message is given with the TP flag

pub no_flag : (r : Rule) (t : Tables) (from to : SocketAddrV4) (m : MessageValue) → IsSent r t from to m → has_tp_flag m.header.kind ≡ false
no_flag (plans.Calls kind instance method payload) t from to m s = ap (λ x. has_tp_flag x.header.kind) s.is ∙ by kind
  where
    by : (kind : CallKind) → has_tp_flag (kind_of_call kind) ≡ false
    by calls.Request = refl
    by calls.RequestNoReturn = refl
no_flag (plans.Answers token reply payload) t from to m s = ap (λ x. has_tp_flag x.header.kind) s.is ∙ by reply
  where
    by : (reply : Reply) → has_tp_flag (kind_of_reply reply) ≡ false
    by (replies.Response code) = refl
    by (replies.Error code) = refl
no_flag (plans.TakesRequest instance peer header payload) t from to m s = ap (λ x. has_tp_flag x.header.kind) s.is
no_flag (plans.Publishes instance event payload) t from to m s = ap (λ x. has_tp_flag x.header.kind) s.is
no_flag (plans.PublishesTo instance endpoint event payload) t from to m s = ap (λ x. has_tp_flag x.header.kind) s.is
no_flag r t from to m s = absurd s

-- ---- what a datagram of what was given holds

-- a message came whole with a datagram: it was given as it came, alone
pub record IsGivenWhole (p : Packet) (header : Header) (payload : List ℕ) (given : Given) : Type 0 where
  pub is : given ≡ Sends p.from p.to (record { header = header; payload = payload })
  pub short : is_long payload ≡ false

-- an endpoint at which messages of the application are taken
abbrev pub IsForApplication : Target → Type 0
IsForApplication target.Client = Unit {0}
IsForApplication (target.Instance instance) = Unit {0}
IsForApplication goal = ⊥

-- the port of Service Discovery is none
not_discovery : (config : Config) (to : SocketAddrV4) → v4_port to ≡ 30490 → IsForApplication (target_of config to) → ⊥
not_discovery config to port is = by_own (same_address (v4_ip to) config.address) (same_address (v4_ip to) config.common.group) is
  where
    at_port : (b : Bool) → eqb (v4_port to) 30490 ≡ b
        → IsForApplication (if b then target.Discovery channels.Unicast else if eqb (v4_port to) config.client_port then target.Client else instance_target (instance_at config (v4_port to))) → ⊥
    at_port true e is = is
    at_port false e is = let no = eqb-false (v4_port to) 30490 e in no port

    in_group : (b c : Bool) → eqb (v4_port to) 30490 ≡ c → IsForApplication (if (b && c) then target.Discovery channels.Multicast else target.Nowhere) → ⊥
    in_group true true e is = is
    in_group true false e is = is
    in_group false c e is = is

    by_own : (a b : Bool) → IsForApplication (if a then own_target config (v4_port to) else if (b && eqb (v4_port to) 30490) then target.Discovery channels.Multicast else target.Nowhere) → ⊥
    by_own true b is = at_port (eqb (v4_port to) 30490) refl is
    by_own false b is = in_group b (eqb (v4_port to) 30490) refl is

to_discovery : (r : Rule) (t : Tables) (from to : SocketAddrV4) (stamp : Stamp) (entries : List EntryValue) → IsAnnounced r t from to stamp entries → v4_port to ≡ 30490
to_discovery (plans.Announces own) t from to stamp entries m = ap v4_port m.1
to_discovery (plans.RepliesTo peer own) t from to stamp entries m = ap v4_port m.1
to_discovery r t from to stamp entries m = absurd m

module _ (h : History) (input : Input) (p : Packet) (header : Header) (payload : List ℕ) (whole : HasWhole p header payload)
    (config : Config) (goal : IsForApplication (target_of config p.to)) where
  pub given_whole : (given : Given) → GivenBy h input given → FitsWire given → Contains (written given) (Sent p.from p.to p.bytes) → IsGivenWhole p header payload given
  given_whole (Announces from to stamp entries) by fits among =
      let one : Sent p.from p.to p.bytes ≡ Sent from to (spelling (discovery_message stamp entries)) =
      at_member (λ o. o ≡ Sent from to (spelling (discovery_message stamp entries))) (Sent from to (spelling (discovery_message stamp entries)) ∷ []) (Sent p.from p.to p.bytes) (refl, tt) among in
      let same : p.to ≡ to = cc in
      absurd (not_discovery config p.to (ap v4_port same ∙ to_discovery by.done.by (answers_of by.done.before.state) from to stamp entries by.holds) goal)
  given_whole (Sends from to m) by fits among =
      at_member (λ o. Sent p.from p.to p.bytes ≡ o → IsGivenWhole p header payload (Sends from to m)) (map (datagram_of from to) (sent m)) (Sent p.from p.to p.bytes)
      (all_map (λ o. Sent p.from p.to p.bytes ≡ o → IsGivenWhole p header payload (Sends from to m)) (datagram_of from to) (sent m)
      (all_both (λ piece. Fits (piece_message piece)) (IsItself m) (λ piece. Sent p.from p.to p.bytes ≡ datagram_of from to piece → IsGivenWhole p header payload (Sends from to m))
      (λ piece fit itself is.
      let source : p.from ≡ from = cc in
      let to_same : p.to ≡ to = cc in
      let bytes : p.bytes ≡ spelling (piece_message piece) = cc in
      let message : record { header = header; payload = payload } ≡ piece_message piece = only_message p (piece_message piece) (record { header = header; payload = payload }) bytes fit whole.stands in
      let alone = itself (ap (λ x. has_tp_flag x.header.kind) (sym message) ∙ whole.whole) in
      let all : record { header = header; payload = payload } ≡ m = message ∙ alone.0 in
      record {
        is = λ i. Sends (sym source i) (sym to_same i) (sym all i);
        short = ap (λ x. is_long x.payload) all ∙ alone.1;
      })
      (sent m) (all_fit m fits.0) (whole_pieces m))) among refl
  given_whole (Tells output) by fits among =
      let same : Sent p.from p.to p.bytes ≡ output = at_member (λ o. o ≡ output) (output ∷ []) (Sent p.from p.to p.bytes) (refl, tt) among in
      absurd (subst (λ o. IsTold o by.done.by (answers_of by.done.before.state)) (sym same) by.holds)

-- a segment came with a datagram: it is one of a long message that was given
pub record IsGivenInSegments (p : Packet) (given : Given) : Type 0 where
  pub message : MessageValue
  pub is : given ≡ Sends p.from p.to message
  pub long : is_long message.payload ≡ true

module _ (h : History) (input : Input) (p : Packet) (header : Header) (o : SegmentOffer) (segment : HasSegment p header o) (config : Config) (goal : IsForApplication (target_of config p.to)) where
  pub given_in_segments : (given : Given) → GivenBy h input given → FitsWire given → Contains (written given) (Sent p.from p.to p.bytes) → IsGivenInSegments p given
  given_in_segments (Announces from to stamp entries) by fits among =
      let one : Sent p.from p.to p.bytes ≡ Sent from to (spelling (discovery_message stamp entries)) =
      at_member (λ o. o ≡ Sent from to (spelling (discovery_message stamp entries))) (Sent from to (spelling (discovery_message stamp entries)) ∷ []) (Sent p.from p.to p.bytes) (refl, tt) among in
      let same : p.to ≡ to = cc in
      absurd (not_discovery config p.to (ap v4_port same ∙ to_discovery by.done.by (answers_of by.done.before.state) from to stamp entries by.holds) goal)
  given_in_segments (Sends from to m) by fits among =
      at_member (λ o. Sent p.from p.to p.bytes ≡ o → IsGivenInSegments p (Sends from to m)) (map (datagram_of from to) (sent m)) (Sent p.from p.to p.bytes)
      (all_map (λ o. Sent p.from p.to p.bytes ≡ o → IsGivenInSegments p (Sends from to m)) (datagram_of from to) (sent m)
      (all_both (λ piece. Fits (piece_message piece)) (IsSegment m) (λ piece. Sent p.from p.to p.bytes ≡ datagram_of from to piece → IsGivenInSegments p (Sends from to m))
      (λ piece fit of is.
      let source : p.from ≡ from = cc in
      let to_same : p.to ≡ to = cc in
      let bytes : p.bytes ≡ spelling (piece_message piece) = cc in
      let message : segment.message ≡ piece_message piece = only_message p (piece_message piece) segment.message bytes fit segment.stands in
      let none = no_flag by.done.by (answers_of by.done.before.state) from to m by.holds in
      let found = of none (ap (λ x. has_tp_flag x.header.kind) (sym message) ∙ segment.flagged) in
      record {
        message = m;
        is = λ i. Sends (sym source i) (sym to_same i) m;
        long = found.0;
      })
      (sent m) (all_fit m fits.0) (segment_pieces m))) among refl
  given_in_segments (Tells output) by fits among =
      let same : Sent p.from p.to p.bytes ≡ output = at_member (λ o. o ≡ output) (output ∷ []) (Sent p.from p.to p.bytes) (refl, tt) among in
      absurd (subst (λ o. IsTold o by.done.by (answers_of by.done.before.state)) (sym same) by.holds)
