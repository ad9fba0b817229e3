use Rattle.std.proofs.Common.{◌≡◌, ◌≤◌, ◌∙◌, sym, true, false, length, drop, arith, inl, inr}
use Rattle.std.proofs.lemmas.List.{length-drop}
use Rattle.recording.specs.contracts.reader.RecordingReader.{the_view}
use Rattle.recording.proofs.ReaderLemmas.{unread}
use Rattle.recording.proofs.reader.RecordingReader.read_from.Goals as goal

pub returns-then-self-clause-read : goal.returns-then-self-clause-read
returns-then-self-clause-read g c =
    let enough : c.self.inside.is_whole ≡ false → 16777216 ≤ length (drop c.self.inside.start c.self.inside.bytes.items) = λ not. elim c.then-self.either [
      | inl whole ↦ absurd (let same : false ≡ true = sym not ∙ whole in cc)
      | inr held ↦ omega (arith, held.1, c.len.ensures, c.self.inside.bytes.ok, length-drop c.self.inside.start c.self.inside.bytes.items)
    ] in
    rw (← c.self.view_is) (unread (the_view c.self.inside) (g.R.Read.remaining c.args.reader.now) enough)
