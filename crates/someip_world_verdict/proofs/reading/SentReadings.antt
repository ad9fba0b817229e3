-- What a datagram that was sent says, and the message of which it is a segment.
use Rattle.std.proofs.Common.{◌≡◌, arith, ℕ, ◌+◌, Bool, true, false, if◌then◌else◌, List, slice_get, None, Some, refl, sym, ap, subst, ◌∙◌}
use Rattle.std.specs.List.{Contains}
use Rattle.std.specs.declared.net.socket_addr.SocketAddrV4.{SocketAddrV4}
use Rattle.someip_wire.specs.Spelling.{MessageValue}
use Rattle.someip_reassembly.specs.Keys.{segment_key}
use Rattle.someip_reassembly.specs.Sent.{is_long}
use Rattle.someip_reassembly.specs.declared.key.ReassemblyKey.{ReassemblyKey}
use Rattle.someip_node_rules.specs.declared.output.Output.TheVariants.{Sent}
use Rattle.someip_node_laws.specs.Fitting.{FitsWire}
use Rattle.someip_node_rules.specs.forms.GoodConfigs.{is_good}
use Rattle.someip_node_rules.specs.histories.History.{History, answers_of}
use Rattle.someip_node_rules.specs.rules.Inputs.{Input}
use Rattle.someip_node_rules.specs.trails.Meanings.{GivenBy}
use Rattle.someip_node_rules.specs.forms.Outputs.{Given, Announces, Sends, Tells, written}
use Rattle.someip_node_rules.specs.declared.config.Config.{Config}
use Rattle.someip_world_schedule.specs.declared.step.Step.{Step}
use Rattle.someip_world_setup.specs.declared.setup_node.SetupNode.{SetupNode}
use Rattle.someip_world_rules.specs.Announced.{AllFits}
use Rattle.someip_world_rules.specs.Datagrams.{SentDatagram}
use Rattle.someip_world_rules.specs.Turns.{Turn}
use Rattle.someip_world_rules.proofs.OriginLemmas.{turn_configured}
use Rattle.someip_world_rules.specs.exchanges.CleanReuse.{Arrives, message_key}
use Rattle.someip_world_rules.specs.Deliveries as deliveries
use Rattle.someip_world_rules.specs.Deliveries.{Does}
use Rattle.someip_world_rules.specs.exchanges.Payloads.{payload_in}
use Rattle.someip_world_rules.proofs.Deliverings.{one_turn}
use Rattle.someip_world_rules.proofs.about_exchanges.messages.LongMessages.{long_payload}
use Rattle.someip_world_rules.proofs.about_exchanges.messages.WholeLemmas.{no_flag}
use Rattle.someip_world_verdict.specs.Contents.{stream_in}
use Rattle.someip_world_verdict.proofs.reading.ApplicationLemmas.{given_by_application}
use Rattle.someip_world_verdict.proofs.reading.ContentLemmas.{IsMessageRead, IsReadBack, announcement_read, message_read, read_back}

-- ---- segments

-- what is given is a long message between the endpoints of a datagram, with this reassembly key
pub record IsSegmented (d : SentDatagram) (g : Given) (key : ReassemblyKey) : Type 0 where
  pub message : MessageValue
  pub given : g ≡ Sends d.from d.to message
  pub long : is_long message.payload ≡ true
  pub keyed : key ≡ message_key d message

module _ (d : SentDatagram) (key : ReassemblyKey) where
  -- a datagram of a message is a segment only where the message is long
  long_segmented : (from to : SocketAddrV4) (m : MessageValue) → IsMessageRead d from to m → (b : Bool) → is_long m.payload ≡ b
      → (if b then Some (segment_key from to m.header) else None) ≡ Some key → IsSegmented d (Sends from to m) key
  long_segmented from to m read true long is =
      let keyed : key ≡ segment_key from to m.header = cc in
      record {
        message = m;
        given = λ i. Sends (sym read.source i) (sym read.goal i) m;
        long = long;
        keyed = keyed ∙ (λ i. segment_key (sym read.source i) (sym read.goal i) m.header);
      }
  long_segmented from to m read false long is = absurd cc

  -- nothing else that is given goes in segments
  given_segmented : (h : History) (input : Input) → is_good h.config ≡ true → (given : Given) → GivenBy h input given → FitsWire given
      → Contains (written given) (Sent d.from d.to d.bytes) → stream_in d ≡ Some key → IsSegmented d given key
  given_segmented h input well (Sends from to m) by fits among is =
      let none = no_flag by.done.by (answers_of by.done.before.state) from to m by.holds in
      let read = message_read d from to m none (given_by_application h input from to m well by) fits among in
      long_segmented from to m read (is_long m.payload) refl (sym read.stream ∙ is)
  given_segmented h input well (Announces from to stamp entries) by fits among is =
      let stream : stream_in d ≡ None = (announcement_read d from to stamp entries fits among).stream in absurd cc
  given_segmented h input well (Tells output) by fits among is =
      let stream : stream_in d ≡ None = (read_back h input well (Tells output) by fits d among).stream in absurd cc

-- ---- the steps of a run

module _ (nodes : List SetupNode) (configs : List Config) (ss : List Step) where
  -- at one place there is one configuration
  pub one_config : (i j : ℕ) (s r : Step) (t : Turn nodes configs ss i s) (u : Turn nodes configs ss j r) → t.place ≡ u.place → t.history.config ≡ u.history.config
  one_config i j s r t u at =
      let both : Some t.history.config ≡ Some u.history.config = sym (turn_configured nodes configs ss i s t) ∙ ap (slice_get configs) at ∙ turn_configured nodes configs ss j r u in cc

  module _ (fits : AllFits nodes configs ss) (well : (place : ℕ) (c : Config) → slice_get configs place ≡ Some c → is_good c ≡ true)
      (i : ℕ) (d : SentDatagram) (s : deliveries.Sends nodes configs ss i d) where
    -- the node that sent it has a good configuration, and what it gave fits its fields
    is_well : is_good s.does.turn.history.config ≡ true
    is_well = well s.does.turn.place s.does.turn.history.config (turn_configured nodes configs ss i s.does.step s.does.turn)

    given_fits : FitsWire s.given
    given_fits = fits i s.does.step s.does.turn s.does.input s.given s.does.takes s.by

    -- a datagram says what was given in the step that sent it
    pub sent_read : IsReadBack d s.given
    sent_read = read_back s.does.turn.history s.does.input is_well s.given s.by given_fits d s.among

    -- and a segment is one of a long message
    pub sent_segmented : (key : ReassemblyKey) → stream_in d ≡ Some key → IsSegmented d s.given key
    sent_segmented key = given_segmented d key s.does.turn.history s.does.input is_well s.given s.by given_fits s.among

    -- of which this is then the reassembly key
    pub long_stream : (m : MessageValue) → s.given ≡ Sends d.from d.to m → is_long m.payload ≡ true → stream_in d ≡ Some (message_key d m)
    long_stream m given long =
        let read = subst (IsReadBack d) given sent_read in
        read.stream ∙ ap (λ b. if b then Some (segment_key d.from d.to m.header) else None) long

  -- ---- payloads

  -- a long message carries the payload of the input of its step
  sent_payload : (i : ℕ) (d : SentDatagram) (s : deliveries.Sends nodes configs ss i d) (m : MessageValue) → s.given ≡ Sends d.from d.to m → is_long m.payload ≡ true
      → payload_in s.does.input ≡ Some m.payload
  sent_payload i d s m given long =
      long_payload s.does.turn.history s.does.input d.from d.to m (subst (GivenBy s.does.turn.history s.does.input) given s.by) long

  -- one step has one input
  one_input : (i j : ℕ) → i ≡ j → (a : Does nodes configs ss i) (b : Does nodes configs ss j) → a.input ≡ b.input
  one_input i j same a b = subst (λ k. (c : Does nodes configs ss k) → a.input ≡ c.input) same here b
    where
      here : (c : Does nodes configs ss i) → a.input ≡ c.input
      here c =
          let deed = (one_turn nodes configs ss i a.step a.turn c.step c.turn).deed in
          let takes = a.takes in
          let other = c.takes in
          cc

  -- there is one step that dispatched a datagram
  one_step : (x y : deliveries.Dispatch) → Some x ≡ Some y → x.step ≡ y.step
  one_step x y both = let same : x ≡ y = cc in ap (λ (z : deliveries.Dispatch). z.step) same

  -- the segments that one step delivers are of one payload
  pub one_arrival : (n place other : ℕ) (now moment : ℕ) (m k : MessageValue) (key own : ReassemblyKey) → Arrives nodes configs ss n place now m key → Arrives nodes configs ss n other moment k own
      → m.payload ≡ k.payload
  one_arrival n place other now moment m k key own a b =
      let one = one_turn nodes configs ss n _ a.delivers.turn _ b.delivers.turn in
      let step = one.step in
      let number : a.delivers.number ≡ b.delivers.number = cc in
      let here = a.delivers.numbered in
      let there = b.delivers.numbered in
      let same = sym here ∙ (λ i. deliveries.dispatch_at (one.before i).lines (number i)) ∙ there in
      let steps = one_step (record { step = a.sent + 1; datagram = a.datagram }) (record { step = b.sent + 1; datagram = b.datagram }) same in
      let sent : a.sent ≡ b.sent = omega (arith, steps) in
      let mine = sent_payload a.sent a.datagram a.sends m a.given a.long in
      let yours = sent_payload b.sent b.datagram b.sends k b.given b.long in
      let input = one_input a.sent b.sent sent a.sends.does b.sends.does in
      let both : Some m.payload ≡ Some k.payload = sym mine ∙ ap payload_in input ∙ yours in
      cc
