-- The verdicts on the worked run are those of the definitions.
use Rattle.std.proofs.Common.{ℕ, arith, ◌≡◌, ◌∙◌, List, [], ◌∷◌, ◌++◌, length, ap, sym}
use Rattle.std.specs.List.{AllByRecursion}
use Rattle.someip_world_schedule.specs.declared.step.Step.{Step}
use Rattle.someip_world_setup.specs.GoodSetups.{Network}
use Rattle.someip_world_rules.specs.Announced.{FitsStep}
use Rattle.someip_world_rules.specs.LateAnswer.{answered_late}
use Rattle.someip_world_rules.specs.Runs.{told_lines}
use Rattle.someip_world_rules.specs.declared.line.Line.{Line}
use Rattle.someip_world_rules.specs.declared.reuse.Reuse.{Reuse}
use Rattle.someip_world_rules.proofs.FitRunLemmas.{all_given_fits, copies_fit}
use Rattle.someip_world_verdict.specs.Judging.{judged}
use Rattle.someip_world_verdict.specs.VerdictExamples.{IsOfTwo, IsVerdictThen}
use Rattle.someip_world_verdict.proofs.examples.LastLines.{judged_then}
use Rattle.someip_world_verdict.proofs.VerdictLemmas.{verdict_so}

-- a verdict that is computed over two nodes, whatever the last step tells
pub verdict_is : (network : Network) (two : IsOfTwo network) (steps : List Step) (lines : List Line) (verdict : Reuse) → AllByRecursion FitsStep steps
    → judged (two.first ∷ two.second ∷ []) steps lines ≡ verdict → IsVerdictThen network.nodes steps lines verdict
verdict_is network two steps lines verdict fit is place given =
    verdict_so network two.good steps (lines ++ told_lines (length steps) place given) verdict
    (λ configs are. all_given_fits network.nodes configs (copies_fit network.nodes configs are two.fits) steps fit)
    (sym is ∙ ap (λ nodes. judged nodes steps lines) (sym two.are) ∙ sym (judged_then network.nodes steps lines place given))

-- the numbers of their steps fit
pub late_fits : (number : ℕ) (node : List ℕ) → AllByRecursion FitsStep (answered_late number node)
late_fits number node = (tt, (tt, ((omega arith, omega arith), (tt, (tt, (tt, ((omega arith, omega arith), (omega arith, (tt, tt)))))))))
