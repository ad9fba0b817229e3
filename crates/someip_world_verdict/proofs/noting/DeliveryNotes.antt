-- What is kept of the datagram that a step delivers, and of the life of the node that it is delivered to.
use Rattle.std.proofs.Common.{◌≡◌, arith, ℕ, ◌+◌, true, List, [], slice_get, None, Some, refl, ap, subst, ◌∙◌}
use Rattle.std.specs.Option.{option_map}
use Rattle.someip_wire.specs.Spelling.{MessageValue}
use Rattle.someip_reassembly.specs.Sent.{is_long}
use Rattle.someip_node_rules.specs.forms.Outputs as outputs
use Rattle.someip_node_rules.specs.declared.config.Config.{Config}
use Rattle.someip_world_schedule.specs.declared.step.Step.{Step}
use Rattle.someip_world_schedule.specs.declared.step.Step.TheVariants as steps
use Rattle.someip_world_setup.specs.declared.setup_node.SetupNode.{SetupNode}
use Rattle.someip_world_rules.specs.Datagrams.{SentDatagram}
use Rattle.someip_world_rules.specs.Turns.{Turn}
use Rattle.someip_world_rules.specs.Deliveries.{Delivers, Dispatch, IsInjected, Sends, dispatch_at}
use Rattle.someip_world_verdict.specs.Books.{Book, LifeKept, NoteKept, PayloadNumbers, note_at}
use Rattle.someip_world_verdict.specs.Contents.{said_in, stream_in}
use Rattle.someip_world_verdict.specs.Streams.{stream_of}
use Rattle.someip_world_verdict.proofs.Kept.{IsNoted, IsNumbered, KeepsLife, Kept, KnowsAnswered}
use Rattle.someip_world_verdict.proofs.noting.Zipped.{dispatch_of_number, note_of_number}

module _ (nodes : List SetupNode) (configs : List Config) (ss : List Step) where
  -- a datagram that a step sent has this note
  pub record HasNote (payloads : PayloadNumbers) (sent : ℕ) (d : SentDatagram) (note : NoteKept) : Type 0 where
    pub step : note.step ≡ sent
    pub said : Sends nodes configs ss sent d → note.said ≡ said_in d
    pub stream : Sends nodes configs ss sent d → note.stream ≡ option_map stream_of (stream_in d)
    pub mute : IsInjected nodes configs ss sent d → (note.said ≡ []) × (note.stream ≡ None)
    pub answers : KnowsAnswered nodes configs ss sent d note.answers
    pub payload : (s : Sends nodes configs ss sent d) (m : MessageValue) → s.given ≡ outputs.Sends d.from d.to m → is_long m.payload ≡ true
        → IsNumbered nodes configs ss payloads m.payload note.payload

  -- the step by the note is that which sent it
  noted_so : (payloads : PayloadNumbers) (dispatch : Dispatch) (note : NoteKept) (sent : ℕ) → note.step ≡ sent → IsNoted nodes configs ss payloads dispatch note
      → HasNote payloads sent dispatch.datagram note
  noted_so payloads dispatch note sent step noted =
      let own : HasNote payloads note.step dispatch.datagram note =
      record { step = refl; said = noted.said; stream = noted.stream; mute = noted.mute; answers = noted.answers; payload = noted.payload } in
      subst (λ k. HasNote payloads k dispatch.datagram note) step own

  module _ (n : ℕ) (book : Book) where
    -- what is delivered is kept
    pub record IsKept (sent : ℕ) (d : SentDatagram) (number : ℕ) : Type 0 where
      pub note : NoteKept
      pub at : note_at book.notes number ≡ Some note
      pub has : HasNote book.payloads sent d note

    pub delivery_kept : (sent : ℕ) (d : SentDatagram) (del : Delivers nodes configs ss n sent d) → Kept nodes configs ss n del.turn.before book → IsKept sent d del.number
    delivery_kept sent d del kept =
        let there = note_of_number (IsNoted nodes configs ss book.payloads) del.turn.before.lines book.notes kept.notes del.number (record { step = sent + 1; datagram = d }) del.numbered in
        let step = there.2.step in
        record { note = there.0; at = there.1; has = noted_so book.payloads (record { step = sent + 1; datagram = d }) there.0 sent (omega (arith, step)) there.2 }

    -- and what is kept was sent
    pub record IsDelivered (number : ℕ) (node : List ℕ) (t : Turn nodes configs ss n (steps.Deliver number node)) (note : NoteKept) : Type 0 where
      pub datagram : SentDatagram
      pub numbered : dispatch_at t.before.lines number ≡ Some (record { step = note.step + 1; datagram = datagram })
      pub has : HasNote book.payloads note.step datagram note

    pub note_delivered : (number : ℕ) (node : List ℕ) (t : Turn nodes configs ss n (steps.Deliver number node)) → Kept nodes configs ss n t.before book
        → (note : NoteKept) → note_at book.notes number ≡ Some note → IsDelivered number node t note
    note_delivered number node t kept note at =
        let there = dispatch_of_number (IsNoted nodes configs ss book.payloads) t.before.lines book.notes kept.notes number note at in
        record {
          datagram = there.0.datagram;
          numbered = there.1 ∙ ap (λ k. Some (record { step = k; datagram = there.0.datagram })) there.2.step;
          has = noted_so book.payloads there.0 note note.step refl there.2;
        }

    -- the life at the place of a step is kept
    pub life_kept : (s : Step) (t : Turn nodes configs ss n s) → Kept nodes configs ss n t.before book → (life : LifeKept) → slice_get book.lives t.place ≡ Some life
        → KeepsLife nodes configs ss book.payloads n t.place t.history life
    life_kept s t kept life is =
        let there = kept.lives t.place t.history t.stands in
        let lives = there.1 in
        let same : there.0 ≡ life = cc in
        subst (KeepsLife nodes configs ss book.payloads n t.place t.history) same there.2
