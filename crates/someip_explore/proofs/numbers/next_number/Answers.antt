use Rattle.std.proofs.Common.{arith, ap, ◌∙◌}
use Rattle.someip_explore.specs.Goals.{number_after}
use Rattle.someip_explore.proofs.GoalLemmas.{number_within, numbered_on}
use Rattle.someip_explore.proofs.numbers.next_number.Goals as goal

-- src/numbers.rt:25:5
pub loop-line-preserved : goal.loop-line-preserved
loop-line-preserved c =
    let line = c.line-item.result in
    let i = c.loop-line.line-index in
    record {
      numbered = c.number_after-number.ensures ∙ ap (λ n. number_after n line) c.loop-line.invariant.numbered ∙ numbered_on c.args.lines.now i line c.loop-line-test.true c.line-item.is;
      within = omega (arith, c.number_after-number.ensures, number_within c.loop-line.number line, c.loop-line.invariant.within);
    }
