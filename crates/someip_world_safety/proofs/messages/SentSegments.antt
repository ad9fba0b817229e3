-- A segment that came with a datagram is one of a long message, which the step that sent the datagram gave.
use Rattle.std.proofs.Common.{◌≡◌, true, false, [], ◌∷◌, map, Result, Ok, refl, sym, ap, subst, ◌∙◌}
use Rattle.std.specs.List.{Contains}
use Rattle.someip_wire.proofs.TypeLemmas.{flag_cleared_again}
use Rattle.someip_wire.specs.declared.header.Header.{Header}
use Rattle.someip_wire.specs.Kinds.{has_tp_flag, without_tp_flag}
use Rattle.someip_wire.specs.Spelling.{Fits, MessageValue, spelling}
use Rattle.someip_reassembly.specs.declared.key.ReassemblyKey.{ReassemblyKey}
use Rattle.someip_tp.specs.Accepted.{IsSegmentOf}
use Rattle.someip_reassembly.specs.Keys.{segment_key}
use Rattle.someip_reassembly.specs.SegmentOffers.{SegmentOffer, offer}
use Rattle.someip_reassembly.specs.Segments.{SegmentValue, segment_header, segment_message}
use Rattle.someip_reassembly.specs.Sent.{PieceValue, is_long, piece_message, segments_of, sent}
use Rattle.someip_reassembly.specs.TpHeader.{segment_in}
use Rattle.someip_tp.proofs.promises.AcceptedLemmas.{own_read, segment_is}
use Rattle.someip_reassembly.proofs.SentLemmas.{all_fit}
use Rattle.someip_node_rules.specs.declared.output.Output.TheVariants.{Sent}
use Rattle.someip_node_rules.specs.forms.Entries.{discovery_message}
use Rattle.someip_node_laws.specs.Fitting.{FitsWire}
use Rattle.someip_node_rules.specs.histories.History.{History, answers_of}
use Rattle.someip_node_rules.specs.rules.Inputs.{Input}
use Rattle.someip_node_rules.specs.trails.Meanings.{GivenBy, IsTold}
use Rattle.someip_node_rules.specs.forms.Outputs.{Given, Announces, Sends, Tells, datagram_of, written}
use Rattle.someip_node_rules.specs.trails.Packets.{Packet, HasSegment}
use Rattle.someip_node_rules.proofs.lists.MemberLemmas.{all_both, all_map, at_member}
use Rattle.someip_world_rules.proofs.AnnouncedLemmas.{announced_fits, only_message}
use Rattle.someip_world_rules.proofs.about_exchanges.messages.WholeLemmas.{IsSegment, no_flag, segment_pieces}

-- ---- the type without the TP flag

-- a header without the flag
abbrev pub plain_header : Header → Header
plain_header header = record header { kind = without_tp_flag header.kind }

-- the key of the whole message to which the segments under a key belong
abbrev pub plain_key : ReassemblyKey → ReassemblyKey
plain_key key = record key { kind = without_tp_flag key.kind }

-- the header of a message is that of its segments without the flag
plain_back : (header : Header) → has_tp_flag header.kind ≡ false → plain_header (segment_header header) ≡ header
plain_back header none = ap (λ kind. record header { kind = kind }) (flag_cleared_again header.kind none)

-- ---- what a datagram with a segment was given as

-- what was given is a long message, of which the segment is one
pub record IsOfMessage (p : Packet) (header : Header) (o : SegmentOffer) (given : Given) : Type 0 where
  pub message : MessageValue
  pub is : given ≡ Sends p.from p.to message
  pub long : is_long message.payload ≡ true
  pub segment : IsSegmentOf message o
  pub headed : header ≡ message.header
  pub keyed : plain_key o.key ≡ segment_key p.from p.to message.header

-- what is read is one
ok_same : {A E : Type 0} (a b : A) → Path (Result A E) (Ok a) (Ok b) → a ≡ b
ok_same a b is = cc

module _ (p : Packet) (header : Header) (o : SegmentOffer) (segment : HasSegment p header o) where
  -- a datagram that is a piece of a message brings a segment of it
  of_piece : (m : MessageValue) → Fits m → has_tp_flag m.header.kind ≡ false → (piece : PieceValue) → Fits (piece_message piece) → IsSegment m piece → p.bytes ≡ spelling (piece_message piece)
      → (given : Given) → given ≡ Sends p.from p.to m → IsOfMessage p header o given
  of_piece m fits none piece fit of bytes given is =
      let message : segment.message ≡ piece_message piece = only_message p (piece_message piece) segment.message bytes fit segment.stands in
      let found = of none (ap (λ x. has_tp_flag x.header.kind) (sym message) ∙ segment.flagged) in
      let s : SegmentValue = found.1.0 in
      let among : Contains (segments_of m) s = found.1.1 in
      let same : segment.message ≡ segment_message s = message ∙ ap piece_message found.1.2 in
      let own = own_read m s fits among in
      let reads : segment_in segment.message.payload ≡ Ok segment.read = segment.reads in
      let read : segment.read ≡ (s.offset, s.more, s.slice) = ok_same segment.read (s.offset, s.more, s.slice) (sym reads ∙ ap (λ x. segment_in x.payload) same ∙ own) in
      let head : segment.message.header ≡ segment_header m.header = ap (λ x. x.header) same ∙ ap (λ (x : SegmentValue). x.header) (segment_is m s among).is in
      let headed : header ≡ m.header = segment.whole ∙ ap plain_header head ∙ plain_back m.header none in
      let key : o.key ≡ segment_key p.from p.to segment.message.header = ap (λ (x : SegmentOffer). x.key) segment.offered in
      record {
        message = m;
        is = is;
        long = found.0;
        segment = (
          s,
          among,
          segment.offered ∙ (λ i. offer (segment_key p.from p.to segment.message.header) (read i).0 (read i).1 (read i).2) ∙ ap (λ k. offer k s.offset s.more s.slice) (sym key),
        );
        headed = headed;
        keyed = ap plain_key key ∙ ap (segment_key p.from p.to) (sym segment.whole ∙ headed);
      }

  module _ (h : History) (input : Input) where
    -- whatever was given with the datagram is such a message
    pub segment_given : (given : Given) → GivenBy h input given → FitsWire given → Contains (written given) (Sent p.from p.to p.bytes) → IsOfMessage p header o given
    segment_given (Announces from to stamp entries) by fits among =
        let one : Sent p.from p.to p.bytes ≡ Sent from to (spelling (discovery_message stamp entries)) =
        at_member (λ o. o ≡ Sent from to (spelling (discovery_message stamp entries))) (Sent from to (spelling (discovery_message stamp entries)) ∷ []) (Sent p.from p.to p.bytes) (refl, tt) among in
        let bytes : p.bytes ≡ spelling (discovery_message stamp entries) = cc in
        let message = only_message p (discovery_message stamp entries) segment.message bytes (announced_fits stamp entries fits.0 fits.1 fits.2) segment.stands in
        let flag : has_tp_flag (discovery_message stamp entries).header.kind ≡ true = ap (λ x. has_tp_flag x.header.kind) (sym message) ∙ segment.flagged in
        absurd cc
    segment_given (Sends from to m) by fits among =
        at_member (λ o. Sent p.from p.to p.bytes ≡ o → Goal) (map (datagram_of from to) (sent m)) (Sent p.from p.to p.bytes)
        (all_map (λ o. Sent p.from p.to p.bytes ≡ o → Goal) (datagram_of from to) (sent m)
        (all_both (λ piece. Fits (piece_message piece)) (IsSegment m) (λ piece. Sent p.from p.to p.bytes ≡ datagram_of from to piece → Goal)
        (λ piece fit of is.
        let source : p.from ≡ from = cc in
        let to_same : p.to ≡ to = cc in
        let bytes : p.bytes ≡ spelling (piece_message piece) = cc in
        of_piece m fits.0 (no_flag by.done.by (answers_of by.done.before.state) from to m by.holds) piece fit of bytes (Sends from to m) (λ i. Sends (sym source i) (sym to_same i) m))
        (sent m) (all_fit m fits.0) (segment_pieces m))) among refl
      where
        Goal : Type 0
        Goal = IsOfMessage p header o (Sends from to m)
    segment_given (Tells output) by fits among =
        let same : Sent p.from p.to p.bytes ≡ output = at_member (λ o. o ≡ output) (output ∷ []) (Sent p.from p.to p.bytes) (refl, tt) among in
        absurd (subst (λ o. IsTold o by.done.by (answers_of by.done.before.state)) (sym same) by.holds)
