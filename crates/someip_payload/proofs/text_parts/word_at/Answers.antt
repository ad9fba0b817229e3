use Rattle.std.proofs.Common.{◌≡◌, ℕ, List, Bor, sym}
use Rattle.someip_payload.proofs.Beginnings.{AllByRecursion-at, whole_word}
use Rattle.someip_payload.proofs.text_parts.word_at.Goals as goal

pub returns-then-eq-clause-found : goal.returns-then-eq-clause-found
returns-then-eq-clause-found g c name each =
    let there = AllByRecursion-at (λ (word : Bor (List ℕ) × g.row.T.Denot). word.0.now ≡ name word.1) c.args.words.now c.loop-word.word-index c.loop-word-item.result c.loop-word-test.true each in
    let own : c.loop-word-item.result.0.now ≡ name c.loop-word-item.result.1 = rw (← c.loop-word-item.is) at there in
    whole_word c.loop-word-item.result.0.now c.as_bytes.result.now c.args.text.now (name c.loop-word-item.result.1) c.args.at c.longest_front-count.result c.as_bytes.ensures.value (sym c.if-eq.ensures) own
