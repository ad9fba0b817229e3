use Rattle.std.proofs.Common.{sym, ◌∙◌}
use Rattle.std.proofs.lemmas.List.{take_rest}
use Rattle.someipctl_show.proofs.VerdictLemmas.{judged_all, judged_more, vectors_from_asks}
use Rattle.someipctl_show.proofs.vectors.judge.Goals as goal

pub loop-i-preserved : goal.loop-i-preserved
loop-i-preserved c =
    let is = sym c.index-lines-i.is ∙ c.in-Asks.is in
    let next = vectors_from_asks c.args.lines.now c.loop-i.i c.index-lines-i.result c.in-Asks.question c.loop-i-test.true is in
    rw c.in_ok-push.ensures.items (judged_more _ _ _ _ _ _ next (rw take_rest at c.in_ok-passed.ensures) c.loop-i.invariant)

pub returns : goal.returns
returns c = judged_all c.args.lines.now c.loop-i.i c.loop-i.results.items c.loop-i-test.false c.loop-i.invariant
