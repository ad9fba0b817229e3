use Rattle.std.proofs.Common.{arith, ap, sym, ◌∙◌}
use Rattle.someip_explore.specs.Goals.{number_after}
use Rattle.someip_explore.specs.GoalViews.{goal_of}
use Rattle.someip_explore.proofs.GoalLemmas.{line_does_not, number_within, numbered_on}
use Rattle.someip_explore.proofs.goal.reaches.Goals as goal

-- src/goal.rt:129:5
pub loop-place-preserved : goal.loop-place-preserved
loop-place-preserved c =
    let line = c.index-lines-place.result in
    let i = c.loop-place.place in
    record {
      left = line_does_not c.args.nodes.now (goal_of c.args.goal.now) c.args.done c.args.lines.now i line c.loop-place-test.true c.index-lines-place.is
          (sym c.in_ok-line_reaches.ensures ∙ c.if-branch.false) ∙ c.loop-place.invariant.left;
      numbered = c.number_after-number.ensures ∙ ap (λ n. number_after n line) c.loop-place.invariant.numbered ∙ numbered_on c.args.lines.now i line c.loop-place-test.true c.index-lines-place.is;
      within = omega (arith, c.number_after-number.ensures, number_within c.loop-place.number line, c.loop-place.invariant.within);
    }
