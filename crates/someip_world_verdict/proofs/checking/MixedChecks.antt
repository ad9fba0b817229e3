-- The book tells whether a step delivers a segment where lately one of another payload came under its reassembly key.
use Rattle.std.proofs.Common.{◌≡◌, ◌≢◌, ◌<◌, ◌≤◌, ◌⊎◌, inl, inr, arith, ℕ, ◌+◌, true, false, List, slice_get, Option, None, Some, refl, sym, ap, subst, ◌∙◌}
use Rattle.std.specs.FinMap as finite
use Rattle.std.specs.Option.{option_map}
use Rattle.std.proofs.lemmas.Bool.{cases_lt}
use Rattle.someip_wire.specs.Spelling.{MessageValue}
use Rattle.someip_reassembly.specs.Sent.{is_long}
use Rattle.someip_reassembly.specs.declared.key.ReassemblyKey.{ReassemblyKey}
use Rattle.someip_node_rules.specs.forms.GoodConfigs.{is_good}
use Rattle.someip_node_rules.specs.forms.Outputs as outputs
use Rattle.someip_node_rules.specs.histories.Questions.{clock_at}
use Rattle.someip_node_rules.specs.declared.config.Config.{Config}
use Rattle.someip_world_schedule.specs.declared.step.Step.{Step}
use Rattle.someip_world_setup.specs.declared.setup_node.SetupNode.{SetupNode}
use Rattle.someip_world_rules.specs.Announced.{AllFits}
use Rattle.someip_world_rules.specs.Datagrams.{SentDatagram}
use Rattle.someip_world_rules.specs.exchanges.CleanReuse.{Arrives, DeliversMixed, IsCleanBefore, Mixed, message_key}
use Rattle.someip_world_rules.specs.Deliveries.{Delivers, GoesOut, LivesOn, Sends}
use Rattle.someip_world_rules.proofs.Sendings.{sent_before}
use Rattle.someip_world_verdict.specs.Books.{LifeKept, NoteKept, PayloadNumbers, arrival_at, is_mixed}
use Rattle.someip_world_verdict.specs.Booking.{payload_of}
use Rattle.someip_world_verdict.specs.Contents.{stream_in}
use Rattle.someip_world_verdict.specs.Streams.{stream_of}
use Rattle.someip_world_verdict.specs.declared.life.Arrival.{Arrival}
use Rattle.someip_world_verdict.proofs.lives.ClockSpans.{clock_goes_on}
use Rattle.someip_world_verdict.proofs.noting.DeliveryNotes.{HasNote}
use Rattle.someip_world_verdict.proofs.Kept.{IsLastArrival, IsNumbered, KeepsLife, KeepsPayloads, KnowsArrival}
use Rattle.someip_world_verdict.proofs.checking.MixedTests.{HasMixed, IsMixedWith, mixed_passed, mixed_passes}
use Rattle.someip_world_verdict.proofs.reading.SentReadings.{IsSegmented, long_stream, one_arrival, one_config, sent_segmented}

module _ (nodes : List SetupNode) (configs : List Config) (ss : List Step) (fits : AllFits nodes configs ss)
    (well : (place : ℕ) (c : Config) → slice_get configs place ≡ Some c → is_good c ≡ true)
    (n sent : ℕ) (d : SentDatagram) (del : Delivers nodes configs ss n sent d) (payloads : PayloadNumbers) (note : NoteKept) (has : HasNote nodes configs ss payloads sent d note)
    (life : LifeKept) (keeps : KeepsLife nodes configs ss payloads n del.turn.place del.turn.history life) where
  -- the timeout of the node that it is delivered to
  abbrev timeout : ℕ
  timeout = del.turn.history.config.common.reassembly_timeout_ms

  -- ---- what the book calls mixed is so

  -- other numbers are those of other payloads
  of_payload : (m : MessageValue) (arrival : Arrival) (number : ℕ) → arrival.payload ≢ number → note.payload ≡ Some number
      → IsNumbered nodes configs ss payloads m.payload note.payload → (other : MessageValue) → finite.get payloads other.payload ≡ Some arrival.payload → other.payload ≢ m.payload
  of_payload m arrival number differs is numbered other came same =
      let own = numbered.is in
      let kept = numbered.kept in
      let there : Some arrival.payload ≡ Some numbered.at = sym came ∙ ap (finite.get payloads) same ∙ kept in
      differs cc

  -- a segment came under the reassembly key of this one
  mixed_segment : (s : Sends nodes configs ss sent d) (mixed : HasMixed timeout life.clock life note.payload (stream_in d)) → IsSegmented d s.given mixed.key → DeliversMixed nodes configs ss n
  mixed_segment s mixed segment =
      let clock = keeps.clock in
      let last = subst (KnowsArrival nodes configs ss payloads n del.turn.place mixed.key) mixed.came (keeps.arrivals mixed.key) in
      record {
        place = del.turn.place;
        now = clock_at del.turn.history.items;
        key = mixed.key;
        message = segment.message;
        arrives = record {
          sent = sent;
          datagram = d;
          delivers = del;
          at = refl;
          clock = refl;
          sends = s;
          given = segment.given;
          long = segment.long;
          keyed = segment.keyed;
        };
        earlier = last.i;
        before = last.before;
        lives = last.lives;
        moment = mixed.arrival.moment;
        other = last.message;
        arrived = last.arrives;
        differs =
            of_payload segment.message mixed.arrival mixed.number mixed.mixed.other mixed.numbered (has.payload s segment.message segment.given segment.long) last.message last.payload;
        recent = subst (λ now. now < mixed.arrival.moment + timeout) clock mixed.mixed.recent;
      }

  -- where the test passes, segments are mixed
  pub mixed_so : is_mixed timeout life.clock (arrival_at life note.stream) note.payload ≡ true → DeliversMixed nodes configs ss n
  mixed_so is = cases (sent_before nodes configs ss n sent d del).1
    where
      cases : GoesOut nodes configs ss sent d → DeliversMixed nodes configs ss n
      cases (inl s) =
          let mixed =
          mixed_passed timeout life.clock life note.payload (stream_in d)
          (ap (λ o. is_mixed timeout life.clock (arrival_at life o) note.payload) (sym (has.stream s)) ∙ is) in
          mixed_segment s mixed (sent_segmented nodes configs ss fits well sent d s mixed.key mixed.is)
      cases (inr injected) =
          let none = (has.mute injected).1 in
          let not : is_mixed timeout life.clock (arrival_at life note.stream) note.payload ≡ false =
          ap (λ o. is_mixed timeout life.clock (arrival_at life o) note.payload) none in
          absurd cc

  -- ---- and what is mixed the book calls so

  module _ (kept : KeepsPayloads nodes configs ss payloads) (clean : IsCleanBefore nodes configs ss n)
      (s : Sends nodes configs ss sent d) (m : MessageValue) (key : ReassemblyKey) (given : s.given ≡ outputs.Sends d.from d.to m) (long : is_long m.payload ≡ true) (keyed : key ≡ message_key d m)
      (earlier moment : ℕ) (before : earlier < n) (lives : LivesOn nodes configs ss del.turn.place earlier n) (other : MessageValue)
      (arrived : Arrives nodes configs ss earlier del.turn.place moment other key) (differs : other.payload ≢ m.payload)
      (recent : clock_at del.turn.history.items < moment + timeout) where
    -- payloads of one number are one
    one_payload : (a b : List ℕ) (number : ℕ) → finite.get payloads a ≡ Some number → finite.get payloads b ≡ Some number → a ≡ b
    one_payload a b number at there =
        let mine = kept a number at in
        let yours = kept b number there in
        let own = mine.1 in
        let its = yours.1 in
        let same : mine.0 ≡ yours.0 = cc in
        let step : Some a ≡ Some b = sym mine.2 ∙ ap payload_of same ∙ yours.2 in
        cc

    module _ (arrival : Arrival) (last : IsLastArrival nodes configs ss payloads n del.turn.place key arrival) where
      -- the last segment came no earlier
      no_earlier : earlier ≤ last.i
      no_earlier = cases (cases_lt last.i earlier)
        where
          cases : (last.i < earlier) ⊎ (earlier ≤ last.i) → earlier ≤ last.i
          cases (inl lt) = absurd (last.last earlier moment other lt before arrived)
          cases (inr le) = le

      -- by the clock too
      no_earlier_moment : moment ≤ arrival.moment
      no_earlier_moment =
          let a = arrived.delivers.turn in
          let b = last.arrives.delivers.turn in
          let place : a.place ≡ del.turn.place = arrived.at in
          let at : a.place ≡ b.place = arrived.at ∙ sym last.arrives.at in
          let less = last.before in
          let goes = clock_goes_on nodes configs ss earlier _ a last.i _ b at no_earlier
          (subst (λ p. LivesOn nodes configs ss p earlier last.i) (sym place) (λ k since lt. lives k since (omega (arith, lt, less)))) in
          let mine = arrived.clock in
          let yours = last.arrives.clock in
          omega (arith, goes, mine, yours)

      -- and before now
      no_later_moment : arrival.moment ≤ clock_at del.turn.history.items
      no_later_moment =
          let b = last.arrives.delivers.turn in
          let less = last.before in
          let goes = clock_goes_on nodes configs ss last.i _ b n _ del.turn last.arrives.at (omega (arith, less))
          (subst (λ p. LivesOn nodes configs ss p last.i n) (sym last.arrives.at) last.lives) in
          let yours = last.arrives.clock in
          omega (arith, goes, yours)

      -- had that the payload of this one, its step broke clean reuse itself
      breaks_itself : last.message.payload ≡ m.payload → DeliversMixed nodes configs ss last.i
      breaks_itself same =
          let le = no_earlier in
          let first = no_earlier_moment in
          let later = no_later_moment in
          let config = one_config nodes configs ss last.i n _ _ last.arrives.delivers.turn del.turn last.arrives.at in
          let less = last.before in
          let one_timeout : last.arrives.delivers.turn.history.config.common.reassembly_timeout_ms ≡ timeout = ap (λ (c : Config). c.common.reassembly_timeout_ms) config in
          record {
            place = del.turn.place;
            now = arrival.moment;
            key = key;
            message = last.message;
            arrives = last.arrives;
            earlier = earlier;
            before = apart le;
            lives = λ k since lt. lives k since (omega (arith, lt, less));
            moment = moment;
            other = other;
            arrived = arrived;
            differs = λ e. differs (e ∙ same);
            recent = omega (arith, later, recent, one_timeout);
          }
        where
          -- two that one step delivers are of one payload
          apart : earlier ≤ last.i → earlier < last.i
          apart le = by (cases_lt earlier last.i)
            where
              by : (earlier < last.i) ⊎ (last.i ≤ earlier) → earlier < last.i
              by (inl lt) = lt
              by (inr ge) =
                  let one : earlier ≡ last.i = omega (arith, le, ge) in
                  let here = subst (λ k. Arrives nodes configs ss k del.turn.place moment other key) one arrived in
                  absurd (differs (one_arrival nodes configs ss last.i del.turn.place del.turn.place moment arrival.moment other last.message key key here last.arrives ∙ same))

      -- but no step before did, so it had another one
      mixed_with_last : (number : ℕ) → finite.get payloads m.payload ≡ Some number → IsMixedWith timeout life.clock arrival number
      mixed_with_last number at =
          let clock = keeps.clock in
          let first = no_earlier_moment in
          record {
            other = λ e.
                let numbered = last.payload in
                let there : finite.get payloads last.message.payload ≡ Some number = numbered ∙ ap Some e in
                clean last.i last.before (Mixed (breaks_itself (one_payload last.message.payload m.payload number there at)));
            recent = omega (arith, clock, recent, first);
          }

    -- the book keeps the last segment, since there is one
    last_known : (o : Option Arrival) → KnowsArrival nodes configs ss payloads n del.turn.place key o → IsNumbered nodes configs ss payloads m.payload note.payload
        → is_mixed timeout life.clock o note.payload ≡ true
    last_known None knows numbered = absurd (knows earlier moment other before lives arrived)
    last_known (Some arrival) knows numbered =
        ap (is_mixed timeout life.clock (Some arrival)) numbered.is
        ∙ mixed_passes timeout life.clock arrival numbered.at (mixed_with_last arrival knows numbered.at numbered.kept)

    -- where segments are mixed, the test passes
    pub mixed_only : is_mixed timeout life.clock (arrival_at life note.stream) note.payload ≡ true
    mixed_only =
        let stream : note.stream ≡ Some (stream_of key) = has.stream s ∙ ap (option_map stream_of) (long_stream nodes configs ss fits well sent d s m given long ∙ ap Some (sym keyed)) in
        ap (λ o. is_mixed timeout life.clock (arrival_at life o) note.payload) stream
        ∙ last_known (finite.get life.arrivals (stream_of key)) (keeps.arrivals key) (has.payload s m given long)
