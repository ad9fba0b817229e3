-- A segment of a long message is told by what is read of its datagram.
use Rattle.std.proofs.Common.{◌≡◌, ℕ, Bool, true, false, if◌then◌else◌, List, slice_get, None, Some, refl, sym, ap, ◌∙◌}
use Rattle.std.specs.Prelude.{unwrap_or}
use Rattle.std.specs.List.{Contains}
use Rattle.std.specs.declared.net.socket_addr.SocketAddrV4.{SocketAddrV4}
use Rattle.someip_wire.specs.Kinds.{kind_of}
use Rattle.someip_wire.specs.Spelling.{MessageValue}
use Rattle.someip_wire.specs.declared.header.MessageType.TheVariants as kinds
use Rattle.someip_reassembly.specs.Keys.{kind_back, segment_key}
use Rattle.someip_reassembly.specs.Sent.{is_long}
use Rattle.someip_reassembly.specs.declared.key.ReassemblyKey.{ReassemblyKey}
use Rattle.someip_node_rules.specs.declared.output.Output.TheVariants.{Sent}
use Rattle.someip_node_laws.specs.Fitting.{FitsWire}
use Rattle.someip_node_rules.specs.forms.GoodConfigs.{is_good}
use Rattle.someip_node_rules.specs.histories.History.{History, answers_of}
use Rattle.someip_node_rules.specs.rules.Inputs.{Input}
use Rattle.someip_node_rules.specs.trails.Meanings.{GivenBy}
use Rattle.someip_node_rules.specs.forms.Outputs as outputs
use Rattle.someip_node_rules.specs.forms.Outputs.{Given, written}
use Rattle.someip_node_rules.specs.declared.config.Config.{Config}
use Rattle.someip_world_schedule.specs.declared.step.Step.{Step}
use Rattle.someip_world_setup.specs.declared.setup_node.SetupNode.{SetupNode}
use Rattle.someip_world_rules.specs.Announced.{AllFits}
use Rattle.someip_world_rules.specs.Datagrams.{SentDatagram}
use Rattle.someip_world_rules.proofs.OriginLemmas.{turn_configured}
use Rattle.someip_world_rules.specs.exchanges.CleanReuse.{Arrives, message_key}
use Rattle.someip_world_rules.specs.Deliveries.{Sends}
use Rattle.someip_world_rules.proofs.about_exchanges.messages.WholeLemmas.{no_flag}
use Rattle.someip_world_verdict.specs.Contents.{stream_in}
use Rattle.someip_world_verdict.specs.Streams.{stream_of}
use Rattle.someip_world_verdict.specs.declared.stream.Stream.{Stream}
use Rattle.someip_world_verdict.proofs.reading.ApplicationLemmas.{given_by_application}
use Rattle.someip_world_verdict.proofs.reading.ContentLemmas as contents
use Rattle.someip_world_verdict.proofs.reading.ContentLemmas.{message_read, read_back}

-- ---- a stream is that of one key

-- the key of a stream
abbrev key_in : Stream → ReassemblyKey
key_in s = record {
  source = s.source;
  destination = s.destination;
  service = s.message.service;
  method = s.message.method;
  client = s.client;
  session = s.session;
  interface = s.interface;
  kind = unwrap_or (kind_of s.kind) kinds.Request;
  code = record { 0 = s.code };
}

key_again : (key : ReassemblyKey) → key_in (stream_of key) ≡ key
key_again key = ap (λ kind. record key { kind = kind }) (kind_back key.kind)

-- so no two keys have one
pub one_key : (a b : ReassemblyKey) → stream_of a ≡ stream_of b → a ≡ b
one_key a b is = sym (key_again a) ∙ ap key_in is ∙ key_again b

-- ---- a segment

-- what is given is a message that goes in segments, of which a datagram holds one
pub record IsSegmentOf (given : Given) (d : SentDatagram) (key : ReassemblyKey) : Type 0 where
  pub message : MessageValue
  pub sends : given ≡ outputs.Sends d.from d.to message
  pub long : is_long message.payload ≡ true
  pub keyed : key ≡ message_key d message

module _ (d : SentDatagram) (key : ReassemblyKey) where
  -- a long message goes in segments
  by_length : (from to : SocketAddrV4) (m : MessageValue) → d.from ≡ from → d.to ≡ to → (b : Bool) → is_long m.payload ≡ b
      → (if b then Some (segment_key from to m.header) else None) ≡ Some key → IsSegmentOf (outputs.Sends from to m) d key
  by_length from to m source goal true long is =
      let same : key ≡ segment_key from to m.header = cc in
      record {
        message = m;
        sends = λ i. outputs.Sends (sym source i) (sym goal i) m;
        long = long;
        keyed = same ∙ (λ i. segment_key (sym source i) (sym goal i) m.header);
      }
  by_length from to m source goal false long is = absurd cc

  module _ (h : History) (input : Input) (well : is_good h.config ≡ true) where
    -- what is read as a segment is one
    segment_given : (given : Given) → GivenBy h input given → FitsWire given → Contains (written given) (Sent d.from d.to d.bytes) → stream_in d ≡ Some key → IsSegmentOf given d key
    segment_given (outputs.Sends from to m) by fits among is =
        let none = no_flag by.done.by (answers_of by.done.before.state) from to m by.holds in
        let read = message_read d from to m none (given_by_application h input from to m well by) fits among in
        by_length from to m read.source read.goal (is_long m.payload) refl (sym read.stream ∙ is)
    segment_given (outputs.Announces from to stamp entries) by fits among is =
        let read = (read_back h input well (outputs.Announces from to stamp entries) by fits d among).stream in absurd cc
    segment_given (outputs.Tells output) by fits among is = let read = (read_back h input well (outputs.Tells output) by fits d among).stream in absurd cc

module _ (nodes : List SetupNode) (configs : List Config) (ss : List Step) (fits : AllFits nodes configs ss)
    (well : (place : ℕ) (c : Config) → slice_get configs place ≡ Some c → is_good c ≡ true) where
  -- the node that sent a datagram is well set up
  well_sent : (k : ℕ) (d : SentDatagram) (u : Sends nodes configs ss k d) → is_good u.does.turn.history.config ≡ true
  well_sent k d u =
      let t = u.does.turn in
      well t.place t.history.config (turn_configured nodes configs ss k u.does.step t)

  -- and what it gave fits
  fits_sent : (k : ℕ) (d : SentDatagram) (u : Sends nodes configs ss k d) → FitsWire u.given
  fits_sent k d u = fits k u.does.step u.does.turn u.does.input u.given u.does.takes u.by

  -- what is read as a segment was sent as one
  pub segment_sent : (k : ℕ) (d : SentDatagram) (u : Sends nodes configs ss k d) (key : ReassemblyKey) → stream_in d ≡ Some key → IsSegmentOf u.given d key
  segment_sent k d u key = segment_given d key u.does.turn.history u.does.input (well_sent k d u) u.given u.by (fits_sent k d u) u.among

  -- a segment that comes is read as one
  pub arrives_read : (n place now : ℕ) (m : MessageValue) (key : ReassemblyKey) (a : Arrives nodes configs ss n place now m key) → stream_in a.datagram ≡ Some key
  arrives_read n place now m key a =
      let u = a.sends in
      (read_back u.does.turn.history u.does.input (well_sent a.sent a.datagram u) u.given u.by (fits_sent a.sent a.datagram u) a.datagram u.among).stream
      ∙ ap contents.stream_of a.given ∙ ap (λ b. if b then Some (message_key a.datagram m) else None) a.long ∙ ap Some (sym a.keyed)
