-- What is kept of the segments that came to a node, after a step.
use Rattle.std.proofs.Common.{◌≡◌, inl, inr, arith, ℕ, ◌+◌, suc, Bool, true, false, cond, List, slice_get, Option, None, Some, refl, sym, ap, subst, ◌∙◌}
use Rattle.std.specs.FinMap as finite
use Rattle.std.specs.FinMap.{FinMap, get-insert}
use Rattle.std.specs.List.{AllZip}
use Rattle.std.specs.Option.{option_map}
use Rattle.std.specs.Ordering.{eq_by_cmp}
use Rattle.someip_tables.proofs.Entries.{own_test, same_by_test}
use Rattle.someip_wire.specs.Spelling.{MessageValue}
use Rattle.someip_reassembly.specs.declared.key.ReassemblyKey.{ReassemblyKey}
use Rattle.someip_node_rules.specs.forms.GoodConfigs.{is_good}
use Rattle.someip_node_rules.specs.histories.History.{History}
use Rattle.someip_node_rules.specs.rules.Inputs as inputs
use Rattle.someip_node_rules.specs.rules.Inputs.{Input}
use Rattle.someip_node_rules.specs.histories.Questions.{clock_at}
use Rattle.someip_node_rules.specs.declared.config.Config.{Config}
use Rattle.someip_world_schedule.specs.declared.step.Step.{Step}
use Rattle.someip_world_schedule.specs.declared.step.Step.TheVariants as steps
use Rattle.someip_world_setup.specs.declared.setup_node.SetupNode.{SetupNode}
use Rattle.someip_world_rules.specs.Announced.{AllFits}
use Rattle.someip_world_rules.specs.Datagrams.{SentDatagram}
use Rattle.someip_world_rules.specs.Deeds.{Takes}
use Rattle.someip_world_rules.specs.Turns.{Turn}
use Rattle.someip_world_rules.specs.declared.line.Line.{Line}
use Rattle.someip_world_rules.specs.exchanges.CleanReuse.{Arrives}
use Rattle.someip_world_rules.specs.Deliveries.{Delivers, GoesOut, IsInjected, Sends, dispatches_in}
use Rattle.someip_world_rules.proofs.Deliverings.{delivered_in, one_delivery, one_turn}
use Rattle.someip_world_rules.proofs.InjectionLemmas.{no_node_sent}
use Rattle.someip_world_rules.proofs.Sendings.{sent_before}
use Rattle.someip_world_verdict.specs.Books.{LifeKept, NoteKept, PayloadNumbers}
use Rattle.someip_world_verdict.specs.Booking.{Publication, arrived, arrived_with, life_on, published_session}
use Rattle.someip_world_verdict.specs.Contents.{stream_in}
use Rattle.someip_world_verdict.specs.StreamOrder.{exact_streams, stream_cmp, streams_total}
use Rattle.someip_world_verdict.specs.Streams.{stream_of}
use Rattle.someip_world_verdict.specs.declared.life.Arrival.{Arrival}
use Rattle.someip_world_verdict.specs.declared.stream.Stream.{Stream}
use Rattle.someip_world_verdict.proofs.Kept.{IsNoted, KnowsArrival, PayloadsGrow}
use Rattle.someip_world_verdict.proofs.lives.LifeSpans.{arrival_stays}
use Rattle.someip_world_verdict.proofs.StepInputs.{IsInputOf}
use Rattle.someip_world_verdict.proofs.reading.StreamReading.{IsSegmentOf, arrives_read, one_key, segment_sent}
use Rattle.someip_world_verdict.proofs.lives.TakenSpans.{lives_here, noted_here, taken_no_restart}

-- ---- deliveries

-- a step is a delivery
abbrev is_delivery : Step → Bool
is_delivery (steps.Deliver number node) = true
is_delivery s = false

module _ (h : History) (lines : List Line) (input : Input) where
  -- a step that is no delivery leaves the arrivals
  no_delivery : (notes : List NoteKept) (life : LifeKept) (s : Step) → IsInputOf h lines input s → is_delivery s ≡ false → (life_on notes life s).arrivals ≡ life.arrivals
  no_delivery notes life (steps.Tick node ms) is none = refl
  no_delivery notes life (steps.Deliver number node) is none = absurd cc
  no_delivery notes life (steps.Call node kind instance method payload) is none = refl
  no_delivery notes life (steps.Answer node token reply payload) is none = refl
  no_delivery notes life (steps.Publish node instance event payload) is none = refl
  no_delivery notes life (steps.PublishTo node group to event payload) is none = refl
  no_delivery notes life (steps.Subscribe node group) is none = refl
  no_delivery notes life (steps.Unsubscribe node group) is none = refl
  no_delivery notes life (steps.StopOffer node instance) is none = refl
  no_delivery notes life (steps.Restart node delay) is none = absurd is
  no_delivery notes life (steps.Inject node port to payload) is none = absurd is

  -- and one that is gives a datagram
  delivery_came : (s : Step) → IsInputOf h lines input s → is_delivery s ≡ true → (d : SentDatagram) × (input ≡ inputs.Datagram d.from d.to d.bytes)
  delivery_came (steps.Deliver number node) is some = (is.0, is.2)
  delivery_came s is some = absurd cc

-- a publication leaves them too
pub published_arrivals : (o : Option Publication) (life : LifeKept) → (published_session o life).arrivals ≡ life.arrivals
published_arrivals None life = refl
published_arrivals (Some p) life = refl

-- ---- what is kept

module _ (nodes : List SetupNode) (configs : List Config) (ss : List Step) (n : ℕ) (s : Step) (t : Turn nodes configs ss n s) (input : Input) (is : t.deed ≡ Takes input)
    (fits : AllFits nodes configs ss) (well : (place : ℕ) (c : Config) → slice_get configs place ≡ Some c → is_good c ≡ true)
    (payloads more : PayloadNumbers) (grow : PayloadsGrow payloads more) (life : LifeKept) (now : life.clock ≡ clock_at t.history.items)
    (knows : (key : ReassemblyKey) → KnowsArrival nodes configs ss payloads n t.place key (finite.get life.arrivals (stream_of key))) where
  -- what is known of each key after the step
  abbrev pub KnowsThen : FinMap stream_cmp Arrival → Type 0
  KnowsThen arrivals = (key : ReassemblyKey) → KnowsArrival nodes configs ss more (suc n) t.place key (finite.get arrivals (stream_of key))

  -- a key under which no segment comes
  other_key : (key : ReassemblyKey) → ((at : ℕ) (m : MessageValue) → Arrives nodes configs ss n t.place at m key → ⊥)
      → KnowsArrival nodes configs ss more (suc n) t.place key (finite.get life.arrivals (stream_of key))
  other_key key none =
      arrival_stays nodes configs ss n t.place (taken_no_restart nodes configs ss n s t input is) payloads more grow key none (finite.get life.arrivals (stream_of key)) (knows key)

  -- a datagram that the step delivers, and what sent it
  module _ (sent : ℕ) (d : SentDatagram) (del : Delivers nodes configs ss n sent d) (sends : Sends nodes configs ss sent d) where
    -- what comes in the step is of its stream
    arrives_here : (at : ℕ) (m : MessageValue) (key : ReassemblyKey) → Arrives nodes configs ss n t.place at m key → stream_in d ≡ Some key
    arrives_here at m key a =
        let one = one_delivery nodes configs ss n a.sent sent a.datagram d a.delivers del in
        ap stream_in (sym one.1) ∙ arrives_read nodes configs ss fits well n t.place at m key a

    -- a segment that comes now is the last one of its key
    last_now : (key : ReassemblyKey) (segment : IsSegmentOf sends.given d key) (number : ℕ) → finite.get payloads segment.message.payload ≡ Some number
        → KnowsArrival nodes configs ss more (suc n) t.place key (Some (record { moment = life.clock; payload = number }))
    last_now key segment number numbered =
        let one = one_turn nodes configs ss n s t _ del.turn in
        record {
          i = n;
          before = omega arith;
          lives = lives_here nodes configs ss n s t input is;
          message = segment.message;
          arrives = record {
            sent = sent;
            datagram = d;
            delivers = del;
            at = sym one.place;
            clock = ap (λ (h : History). clock_at h.items) (sym one.history) ∙ sym now;
            sends = sends;
            given = segment.sends;
            long = segment.long;
            keyed = segment.keyed;
          };
          payload = grow segment.message.payload number numbered;
          last = λ k at m after lt a. absurd (omega (arith, after, lt));
        }

    -- no segment comes
    none_then : stream_in d ≡ None → KnowsThen life.arrivals
    none_then none key = other_key key (λ at m a. let some = arrives_here at m key a in absurd cc)

    -- a segment of a message comes
    segment_then : (own : ReassemblyKey) → stream_in d ≡ Some own → (segment : IsSegmentOf sends.given d own) (number : ℕ)
        → finite.get payloads segment.message.payload ≡ Some number → KnowsThen (finite.insert life.arrivals (stream_of own) (record { moment = life.clock; payload = number }))
    segment_then own read segment number numbered key =
        let arrival : Arrival = record { moment = life.clock; payload = number } in
        subst (KnowsArrival nodes configs ss more (suc n) t.place key) (sym (get-insert streams_total life.arrivals (stream_of own) arrival (stream_of key)))
        (cases (eq_by_cmp stream_cmp (stream_of key) (stream_of own)) refl)
      where
        cases : (b : Bool) → eq_by_cmp stream_cmp (stream_of key) (stream_of own) ≡ b
            → KnowsArrival nodes configs ss more (suc n) t.place key (cond b (Some (record { moment = life.clock; payload = number })) (finite.get life.arrivals (stream_of key)))
        cases true e =
            let same = one_key own key (sym (same_by_test exact_streams (stream_of key) (stream_of own) e)) in
            subst (λ k. KnowsArrival nodes configs ss more (suc n) t.place k (Some (record { moment = life.clock; payload = number }))) same (last_now own segment number numbered)
        cases false e =
            other_key key (λ at m a.
            let some = arrives_here at m key a in
            let same : own ≡ key = cc in
            let tied : eq_by_cmp stream_cmp (stream_of key) (stream_of own) ≡ true = ap (λ k. eq_by_cmp stream_cmp (stream_of k) (stream_of own)) (sym same) ∙ own_test streams_total (stream_of own) in
            absurd cc)

  module _ (notes : List NoteKept) (noted : AllZip (IsNoted nodes configs ss payloads) (dispatches_in t.before.lines) notes) where
    -- what is kept of a datagram that comes, of one that a node sent
    note_then : (d : SentDatagram) (note : NoteKept) → Delivers nodes configs ss n note.step d → Sends nodes configs ss note.step d
        → IsNoted nodes configs ss payloads (record { step = note.step + 1; datagram = d }) note → KnowsThen (arrived note.stream note.payload life).arrivals
    note_then d note del sends kept = cases (stream_in d) refl
      where
        stream : note.stream ≡ option_map stream_of (stream_in d)
        stream = kept.stream sends

        cases : (o : Option ReassemblyKey) → stream_in d ≡ o → KnowsThen (arrived note.stream note.payload life).arrivals
        cases None read =
            let none : note.stream ≡ None = stream ∙ ap (option_map stream_of) read in
            subst (λ x. KnowsThen (arrived x note.payload life).arrivals) (sym none) (none_then note.step d del sends read)
        cases (Some own) read =
            let some : note.stream ≡ Some (stream_of own) = stream ∙ ap (option_map stream_of) read in
            let segment = segment_sent nodes configs ss fits well note.step d sends own read in
            let numbered = kept.payload sends segment.message segment.sends segment.long in
            subst (λ (p : Option Stream × Option ℕ). KnowsThen (arrived p.0 p.1 life).arrivals) (λ i. (sym some i, sym numbered.is i))
            (segment_then note.step d del sends own read segment numbered.at numbered.kept)

    -- and of one that a liar sent
    mute_then : (d : SentDatagram) (note : NoteKept) → Delivers nodes configs ss n note.step d → IsInjected nodes configs ss note.step d
        → note.stream ≡ None → KnowsThen (arrived note.stream note.payload life).arrivals
    mute_then d note del injected mute =
        subst (λ x. KnowsThen (arrived x note.payload life).arrivals) (sym mute)
        (λ key. other_key key (λ at m a. no_node_sent nodes configs ss n note.step d del injected a.sent a.datagram a.delivers a.sends))

    -- so of one that comes
    goes_then : (d : SentDatagram) (note : NoteKept) → Delivers nodes configs ss n note.step d → GoesOut nodes configs ss note.step d
        → IsNoted nodes configs ss payloads (record { step = note.step + 1; datagram = d }) note → KnowsThen (arrived note.stream note.payload life).arrivals
    goes_then d note del (inl sends) kept = note_then d note del sends kept
    goes_then d note del (inr injected) kept = mute_then d note del injected (kept.mute injected).1

    -- a datagram comes
    datagram_then : (sent : ℕ) (d : SentDatagram) → Delivers nodes configs ss n sent d → KnowsThen (life_on notes life s).arrivals
    datagram_then sent d del =
        let here = noted_here nodes configs ss n s t input is payloads notes noted sent d del in
        let kept = here.kept in
        let step = kept.step in
        let same : sent ≡ here.note.step = omega (arith, step) in
        let goes = (sent_before nodes configs ss n sent d del).1 in
        subst KnowsThen (sym (ap (λ x. (life_on notes life x).arrivals) here.step ∙ ap (λ o. (arrived_with o life).arrivals) here.at))
        (goes_then d here.note (subst (λ k. Delivers nodes configs ss n k d) same del) (subst (λ k. GoesOut nodes configs ss k d) same goes)
        (subst (λ k. IsNoted nodes configs ss payloads (record { step = k + 1; datagram = d }) here.note) same kept))

    -- what is kept of the segments after the step
    pub arrivals_on : IsInputOf t.history t.before.lines input s → KnowsThen (life_on notes life s).arrivals
    arrivals_on so = cases (is_delivery s) refl
      where
        cases : (b : Bool) → is_delivery s ≡ b → KnowsThen (life_on notes life s).arrivals
        cases true e =
            let came = delivery_came t.history t.before.lines input s so e in
            let there = delivered_in nodes configs ss n came.0 s t (is ∙ ap Takes came.1) in
            datagram_then there.sent came.0 there.delivers
        cases false e =
            subst KnowsThen (sym (no_delivery t.history t.before.lines input notes life s so e))
            (λ key. other_key key (λ at m a.
            let one = one_turn nodes configs ss n s t _ a.delivers.turn in
            let some : is_delivery s ≡ true = ap is_delivery one.step in
            absurd cc))
