-- Within a step that delivers a datagram from no liar, each part that a node holds under a key whose source is no liar is of one message, a segment of which arrived when the part was last changed.
use Rattle.std.proofs.Common.{◌≡◌, ◌⊎◌, inl, inr, ℕ, suc, ◌+◌, ◌<◌, Bool, true, false, List, [], ◌∷◌, Some, refl, sym, ap, subst, ◌∙◌, arith}
use Rattle.std.specs.FinMap.{get}
use Rattle.std.specs.List.{AllByRecursion}
use Rattle.std.specs.Net.Socket.{v4_ip}
use Rattle.std.specs.Prelude.{bytes_eq}
use Rattle.std.proofs.lemmas.Slice.Eq.{bytes_eq-Decides}
use Rattle.someip_wire.specs.declared.header.Header.{Header}
use Rattle.someip_wire.specs.Spelling.{MessageValue}
use Rattle.someip_reassembly.specs.declared.key.ReassemblyKey.{ReassemblyKey}
use Rattle.someip_tp.specs.Accepted.{HoldsOnly}
use Rattle.someip_reassembly.specs.SegmentOffers.{SegmentOffer, message_at, parts_after}
use Rattle.someip_reassembly.specs.Parts.{Limits, Part, parts_at}
use Rattle.someip_tp.proofs.promises.BoundLemmas.{left_same}
use Rattle.someip_node_rules.specs.declared.config.Config.{Config}
use Rattle.someip_node_rules.specs.trails.Bringing.{Brings}
use Rattle.someip_node_rules.specs.histories.DiscoveryQuestions.{parts_by, parts_in}
use Rattle.someip_node_rules.specs.histories.History.{History, met}
use Rattle.someip_node_rules.specs.rules.Inputs.{Datagram}
use Rattle.someip_node_rules.specs.histories.Items as items
use Rattle.someip_node_rules.specs.histories.Items.{Item}
use Rattle.someip_node_rules.specs.trails.Meetings.{MetBy}
use Rattle.someip_node_rules.specs.forms.Outputs as outputs
use Rattle.someip_node_rules.specs.trails.Packets.{HasSegment, Packet}
use Rattle.someip_node_rules.specs.rules.Plans.{TakesSegment}
use Rattle.someip_node_rules.specs.histories.Questions.{clock_at}
use Rattle.someip_node_rules.specs.forms.Setups.{limits_of}
use Rattle.someip_node_rules.specs.trails.Trails.{after}
use Rattle.someip_world_schedule.specs.declared.step.Step.{Step}
use Rattle.someip_world_setup.specs.declared.setup_node.SetupNode.{SetupNode}
use Rattle.someip_world_rules.specs.Announced.{AllFits}
use Rattle.someip_world_rules.specs.Datagrams.{SentDatagram}
use Rattle.someip_world_rules.specs.Deeds.{Takes}
use Rattle.someip_world_rules.specs.Deliveries.{Does, LivesOn, Sends}
use Rattle.someip_world_rules.specs.Liars.{IsHonest}
use Rattle.someip_world_rules.proofs.Deliverings.{DeliveredIn, delivered_in}
use Rattle.someip_world_rules.proofs.InjectionLemmas.{sent_honestly}
use Rattle.someip_world_rules.specs.exchanges.CleanReuse.{Arrives, IsCleanBefore, Mixed}
use Rattle.someip_world_rules.proofs.about_exchanges.runs.ClockLemmas.{leaves_clock}
use Rattle.someip_world_rules.proofs.about_exchanges.openings.RuleInputs.{is_tick}
use Rattle.someip_world_safety.proofs.messages.PartWalks.{IsJoined, joined_holds, left_in_time, no_new_parts, offered_parts, whole_payload}
use Rattle.someip_world_safety.proofs.messages.SentSegments.{IsOfMessage, plain_key, segment_given}

module _ (nodes : List SetupNode) (configs : List Config) (ss : List Step) where
  -- A part is held under a key before a step: it holds only bytes of one message, a segment of which arrived, at the moment at
  -- which the part was last changed, in a step of the present life of the node
  pub record IsHeld (n place : ℕ) (key : ReassemblyKey) (part : Part) : Type 0 where
    pub step : ℕ
    pub before : step < n
    pub lives : LivesOn nodes configs ss place step n
    pub message : MessageValue
    pub arrived : Arrives nodes configs ss step place part.last message (plain_key key)
    pub holds : HoldsOnly message.payload part

  -- All parts that a node holds, once it met these, under keys whose source is no liar, are held so. What a liar sends changes
  -- only parts under keys of its own
  abbrev pub AllHeld : ℕ → ℕ → History → Type 0
  AllHeld n place h =
      (key : ReassemblyKey) (part : Part) → get (parts_in (limits_of h.config) h.items) key ≡ Some part → IsHonest nodes configs (v4_ip key.source)
      → IsHeld n place key part

  module _ (fits : AllFits nodes configs ss) (n : ℕ) (does : Does nodes configs ss n) (p : Packet) (is : does.input ≡ Datagram p.from p.to p.bytes)
      (honest : IsHonest nodes configs (v4_ip p.from)) where
    abbrev h : History
    h = does.turn.history

    abbrev now : ℕ
    now = clock_at does.turn.history.items

    abbrev limits : Limits
    limits = limits_of does.turn.history.config

    abbrev place : ℕ
    place = does.turn.place

    abbrev d : SentDatagram
    d = record { from = p.from; to = p.to; bytes = p.bytes }

    -- the datagram is delivered in the step
    pub came : DeliveredIn nodes configs ss n d does.step does.turn
    came = delivered_in nodes configs ss n d does.step does.turn (does.takes ∙ ap Takes is)

    -- a node sent the datagram in an earlier step
    pub source : Sends nodes configs ss came.sent d
    source = (sent_honestly nodes configs ss n came.sent d came.delivers honest).1

    -- a segment in the datagram is one of a message that was given
    pub of_message : (header : Header) (o : SegmentOffer) → HasSegment p header o → IsOfMessage p header o source.given
    of_message header o segment =
        segment_given p header o segment source.does.turn.history source.does.input source.given source.by
        (fits came.sent source.does.step source.does.turn source.does.input source.given source.does.takes source.by) source.among

    -- the key of a segment in the datagram has its source
    honest_key : (header : Header) (o : SegmentOffer) → IsOfMessage p header o source.given → IsHonest nodes configs (v4_ip o.key.source)
    honest_key header o g = subst (λ from. IsHonest nodes configs (v4_ip from)) (sym (ap (λ (k : ReassemblyKey). k.source) g.keyed)) honest

    -- a segment of a message arrives in the step
    abbrev arrives : (header : Header) (o : SegmentOffer) (g : IsOfMessage p header o source.given) → Arrives nodes configs ss n place now g.message (plain_key o.key)
    arrives header o g = record {
      sent = came.sent;
      datagram = d;
      delivers = came.delivers;
      at = came.place;
      clock = ap (λ (x : History). clock_at x.items) came.history;
      sends = source;
      given = g.is;
      long = g.long;
      keyed = g.keyed;
    }

    module _ (clean : IsCleanBefore nodes configs ss (suc n)) (was : AllHeld n place h) where
      -- within the step, a part that was held before it, or one of the message of its datagram
      pub data InStep (key : ReassemblyKey) (part : Part) : Type 0 where
        Before : IsHeld n place key part → InStep key part
        Now : (m : MessageValue) → source.given ≡ outputs.Sends p.from p.to m → Arrives nodes configs ss n place part.last m (plain_key key) → HoldsOnly m.payload part → InStep key part

      -- a part that has time holds only bytes of the message of which a segment comes: else the delivery breaks clean reuse
      same_payload : (header : Header) (o : SegmentOffer) (g : IsOfMessage p header o source.given) (part : Part) → now < part.last + limits.timeout → InStep o.key part → HoldsOnly g.message.payload part
      same_payload header o g part time (Before held) = cases (bytes_eq held.message.payload g.message.payload) refl
        where
          cases : (b : Bool) → bytes_eq held.message.payload g.message.payload ≡ b → HoldsOnly g.message.payload part
          cases true test = subst (λ payload. HoldsOnly payload part) ((bytes_eq-Decides held.message.payload g.message.payload).0 test) held.holds
          cases false test =
              absurd
              (clean n (omega arith)
              (Mixed (record {
                place = place;
                now = now;
                key = plain_key o.key;
                message = g.message;
                arrives = arrives header o g;
                earlier = held.step;
                before = held.before;
                lives = held.lives;
                moment = part.last;
                other = held.message;
                arrived = held.arrived;
                differs = λ same. let yes = (bytes_eq-Decides held.message.payload g.message.payload).1 same in absurd cc;
                recent = subst (λ (x : History). now < part.last + x.config.common.reassembly_timeout_ms) (sym came.history) time;
              })))
      same_payload header o g part time (Now m given arrived holds) =
          let both = sym given ∙ g.is in
          let same : m ≡ g.message = cc in
          subst (λ (x : MessageValue). HoldsOnly x.payload part) same holds

      -- what was met within the step left the clock, and all parts under keys whose source is no liar are so
      pub record Holding (met_items : List Item) : Type 0 where
        pub clock : clock_at met_items ≡ now
        pub parts : (key : ReassemblyKey) (part : Part) → get (parts_in limits met_items) key ≡ Some part → IsHonest nodes configs (v4_ip key.source) → InStep key part

      -- the parts that are left when a segment comes hold only bytes of its message
      left_holds : (its : List Item) → Holding its → (header : Header) (o : SegmentOffer) (g : IsOfMessage p header o source.given) (part : Part) → get (parts_at limits (clock_at its) (parts_in limits its)) o.key ≡ Some part
          → HoldsOnly g.message.payload part
      left_holds its old header o g part is =
          let time = left_in_time limits (clock_at its) (parts_in limits its) o.key part is in
          same_payload header o g part (subst (λ k. k < part.last + limits.timeout) old.clock time)
          (old.parts o.key part (left_same limits (clock_at its) (parts_in limits its) o.key part is) (honest_key header o g))

      -- after a segment of the datagram was offered, all parts are so
      after_segment : (its : List Item) → Holding its → (header : Header) (o : SegmentOffer) → HasSegment p header o → (key : ReassemblyKey) (part : Part)
          → get (parts_after limits (clock_at its) o (parts_in limits its)) key ≡ Some part → IsHonest nodes configs (v4_ip key.source) → InStep key part
      after_segment its old header o segment key part is own = cases (offered_parts limits (clock_at its) o (parts_in limits its) key part is)
        where
          g : IsOfMessage p header o source.given
          g = of_message header o segment

          cases : (get (parts_at limits (clock_at its) (parts_in limits its)) key ≡ Some part) ⊎ IsJoined (clock_at its) o (parts_at limits (clock_at its) (parts_in limits its)) key part → InStep key part
          cases (inl left) = old.parts key part (left_same limits (clock_at its) (parts_in limits its) key part left) own
          cases (inr joined) =
              let last : part.last ≡ now = ap (λ (x : Part). x.last) joined.is ∙ old.clock in
              Now g.message g.is
              (subst (λ k. Arrives nodes configs ss n place part.last g.message (plain_key k)) (sym joined.same)
              (subst (λ k. Arrives nodes configs ss n place k g.message (plain_key o.key)) (sym last) (arrives header o g)))
              (joined_holds (clock_at its) o g.message (parts_at limits (clock_at its) (parts_in limits its)) key part g.segment (left_holds its old header o g) joined)

      -- after each item that is met in the step, all parts are so
      after_item : (item : Item) (its : List Item) → MetBy h does.input item → Holding its → (key : ReassemblyKey) (part : Part) → get (parts_by limits item (clock_at its) (parts_in limits its)) key ≡ Some part
          → IsHonest nodes configs (v4_ip key.source) → InStep key part
      after_item (items.SegmentOffered o) its by old key part stands own =
          let brings : Brings h does.input (TakesSegment o) by.brought.earlier = subst (λ r. Brings h does.input r by.brought.earlier) by.holds by.brought.brings in
          let segment : (header : Header) × HasSegment p header o = subst (λ x. Brings h x (TakesSegment o) by.brought.earlier) is brings in
          after_segment its old segment.0 o segment.1 key part stands own
      after_item item its by old key part stands own = old.parts key part (no_new_parts limits item (clock_at its) (parts_in limits its) key part (λ o e same. absurd cc) stands) own

      -- one item more leaves the clock and the parts so
      one_more : (item : Item) (its : List Item) → MetBy h does.input item → Holding its → Holding (item ∷ its)
      one_more item its by old = record {
        clock = leaves_clock h does.input (ap is_tick is) item by (clock_at its) ∙ old.clock;
        parts = after_item item its by old;
      }

      -- all that is met in the step, one item after the other, leaves the clock and the parts so
      pub holding_on : (at : History) (xs : List Item) → AllByRecursion (MetBy h does.input) xs → Holding at.items → Holding (after at xs).items
      holding_on at [] all old = old
      holding_on at (x ∷ xs) all old = holding_on (met at x) xs all.1 (one_more x at.items all.0 old)

      -- at the beginning of the step they are so
      pub holding_first : Holding h.items
      holding_first = record { clock = refl; parts = λ key part stands own. Before (was key part stands own) }

      -- a message that a segment makes whole is the one that was given
      pub whole_given : (its : List Item) → Holding its → (header : Header) (o : SegmentOffer) (segment : HasSegment p header o) (payload : List ℕ)
          → message_at (parts_after limits (clock_at its) o (parts_in limits its)) o.key ≡ Some payload → payload ≡ (of_message header o segment).message.payload
      whole_given its old header o segment payload whole =
          whole_payload (parts_after limits (clock_at its) o (parts_in limits its)) o.key (of_message header o segment).message.payload payload
          (λ part stands. cases part (offered_parts limits (clock_at its) o (parts_in limits its) o.key part stands)) whole
        where
          cases : (part : Part) → (get (parts_at limits (clock_at its) (parts_in limits its)) o.key ≡ Some part) ⊎ IsJoined (clock_at its) o (parts_at limits (clock_at its) (parts_in limits its)) o.key part
              → HoldsOnly (of_message header o segment).message.payload part
          cases part (inl left) = left_holds its old header o (of_message header o segment) part left
          cases part (inr joined) =
              joined_holds (clock_at its) o (of_message header o segment).message (parts_at limits (clock_at its) (parts_in limits its)) o.key part (of_message header o segment).segment
              (left_holds its old header o (of_message header o segment)) joined

      -- what is held in the step is held before the next one, where the node lives on
      pub held_on : LivesOn nodes configs ss place n (suc n) → (step_lives : (i : ℕ) → LivesOn nodes configs ss place i n → LivesOn nodes configs ss place i (suc n)) → (key : ReassemblyKey) (part : Part) → InStep key part
          → IsHeld (suc n) place key part
      held_on alive lives_on key part (Before held) =
          let early = held.before in record { step = held.step; before = omega (arith, early); lives = lives_on held.step held.lives; message = held.message; arrived = held.arrived; holds = held.holds }
      held_on alive lives_on key part (Now m given arrived holds) = record { step = n; before = omega arith; lives = alive; message = m; arrived = arrived; holds = holds }
