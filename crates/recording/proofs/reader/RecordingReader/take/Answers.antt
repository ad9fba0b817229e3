use Rattle.std.proofs.Common.{arith, ◌≡◌, ◌∙◌, ◌≤◌, ◌<◌, [], true, false, ap, length, drop, Option, None}
use Rattle.std.specs.Prelude.{option_map}
use Rattle.std.proofs.lemmas.List.{take_rest}
use Rattle.std.proofs.lemmas.Result.{err_from_is_err_and}
use Rattle.recording.specs.declared.packet.Packet.{Packet}
use Rattle.recording.specs.View.{record_at, packet_behind, LiesIn}
use Rattle.recording.specs.Told.{EndsTold}
use Rattle.recording.proofs.ReaderLemmas.{comes, record_comes, too_few, nothing}
use Rattle.recording.proofs.reader.RecordingReader.take.Goals as goal
use Rattle.recording.proofs.reader.RecordingReader.take.Goals.{in-Some, in-None+then-self, in-None+else-self}

pub returns-clause-next : goal.returns-clause-next
returns-clause-next c =
    let bytes = c.self.inside.bytes.items in
    let start = c.self.inside.start in
    let told = c.in_ok-told.told in
    let format = c.args.format in
    let before = c.self.inside.interfaces.items in
    let after = c.next_told.new.interfaces.items in
    let p = c.self.inside.place in
    let takes = rw (c.deref.ensures.value, take_rest) at c.in_ok-told.ensures.takes in
    let within : told.len ≤ length (drop start bytes) = rw (c.deref.ensures.value, take_rest) at c.in_ok-told.ensures.within in
    let lies : LiesIn (drop start bytes) told.packet = rw (c.deref.ensures.value, take_rest) at c.in_ok-told.ensures.packet in
    elim c.match-told.branch [
      | in-Some w ↦
          let some : 0 < told.len = rw (w.in-Some.is) at c.in_ok-told.ensures.some in
          rw (w.result-is, ← c.self.view_is) (
            record_at bytes (packet_behind start w.in-Some.field-0),
            ap (λ (k : Option Packet). option_map (record_at bytes) k) (c.behind-self-inside.ensures ∙ ap (option_map (packet_behind start)) w.in-Some.is),
            omega (arith, some),
            λ rest follows. record_comes format before after p bytes start told within w.in-Some.field-0 rest c.self.invariant.0 w.in-Some.is lies (takes rest follows),
          )
      | in-None+then-self w ↦
          let ends : EndsTold true (drop start bytes) told = rw (c.deref.ensures.value, take_rest, w.in-None.is, w.if-self.true) at c.in_ok-told.ensures.ends in
          rw (w.result-is, ← c.self.view_is) (
            λ rest follows.
                let empty : rest ≡ [] = rw w.if-self.true at follows in
                let none = nothing format before after p bytes start told within rest ends empty in
                (comes format before after p bytes start told within None rest w.in-None.is (takes rest follows) ∙ none, none),
            ap (λ (k : Option Packet). option_map (record_at bytes) k) (c.behind-self-inside.ensures ∙ ap (option_map (packet_behind start)) w.in-None.is),
          )
      | in-None+else-self w ↦
          let ends : EndsTold false (drop start bytes) told = rw (c.deref.ensures.value, take_rest, w.in-None.is, w.if-self.false) at c.in_ok-told.ensures.ends in
          rw (w.result-is, ← c.self.view_is) (
            w.if-self.false,
            too_few format before after p bytes start told within ends,
            λ rest. comes format before after p bytes start told within None rest w.in-None.is (takes rest (rw w.if-self.false tt)),
            ap (λ (k : Option Packet). option_map (record_at bytes) k) (c.behind-self-inside.ensures ∙ ap (option_map (packet_behind start)) w.in-None.is),
          )
    ]

pub returns-in_err-told-clause-memory : goal.returns-in_err-told-clause-memory
returns-in_err-told-clause-memory c =
    let p = err_from_is_err_and c.from_residual.result c.from_residual.ensures.1 in
    rw (p.1, p.2, ← c.self.view_is) (rw (c.deref.ensures.value, take_rest) at c.in_err-told.ensures.memory)
