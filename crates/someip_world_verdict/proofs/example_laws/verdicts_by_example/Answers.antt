use Rattle.std.proofs.Common.{◌≡◌, true, [], ◌∷◌, Ok, ap, subst, sym, ◌∙◌}
use Rattle.std.specs.List.{AllByRecursion}
use Rattle.std.proofs.lemmas.List.Elements.{recursion_from_All}
use Rattle.someip_node_rules.specs.forms.GoodConfigs.{is_good_delay}
use Rattle.someip_node_rules.specs.declared.output.Output.TheVariants.{Answered}
use Rattle.someip_node_laws.specs.WorkedRun.{method}
use Rattle.someip_world_setup.specs.GoodSetups.{IsGoodNode, Network}
use Rattle.someip_world_rules.specs.Runs.{run_of}
use Rattle.someip_world_rules.proofs.LateAnswerLemmas.{late_answer_taken}
use Rattle.someip_world_rules.specs.WorkedTrace.{a, b}
use Rattle.someip_world_rules.specs.declared.reuse.Reuse.TheVariants.{Broken, Clean}
use Rattle.someip_world_rules.specs.LateAnswer.{answered_late, answered_late_lines}
use Rattle.someip_world_verdict.specs.VerdictExamples.{IsOfTwo}
use Rattle.someip_world_verdict.proofs.examples.LateAnswers as late
use Rattle.someip_world_verdict.proofs.examples.WorkedVerdicts.{late_fits, verdict_is}
use Rattle.someip_world_verdict.proofs.example_laws.verdicts_by_example.Goals as goal

-- the second node may begin again with the delay of its start
begins_again : (network : Network) (two : IsOfTwo network) → is_good_delay two.second.config 10 ≡ true
begins_again network two =
    let nodes = subst (AllByRecursion (IsGoodNode network.common)) two.are (recursion_from_All (IsGoodNode network.common) network.nodes two.good.nodes) in
    ap (is_good_delay two.second.config) (sym two.named.second_delay) ∙ nodes.1.0.delay

pub returns-clause-old_answer : goal.returns-clause-old_answer
returns-clause-old_answer c network two = verdict_is network two (answered_late 4 b) answered_late_lines (Broken 9) (late_fits 4 b) (late.old_answer two.first two.second two.named)

pub returns-clause-old_answer_run : goal.returns-clause-old_answer_run
returns-clause-old_answer_run c network two offers wants = (
  ap (λ nodes. run_of nodes (two.first.config ∷ two.second.config ∷ []) (answered_late 4 b)) two.are
      ∙ late_answer_taken two.first two.second two.first.config two.second.config two.named offers wants (begins_again network two),
  verdict_is network two (answered_late 4 b) answered_late_lines (Broken 9) (late_fits 4 b) (late.old_answer two.first two.second two.named) 1
      (Ok (Answered method 1 (record { 0 = 0 }) (3 ∷ []) ∷ [])),
)

pub returns-clause-request_behind_the_answer : goal.returns-clause-request_behind_the_answer
returns-clause-request_behind_the_answer c network two = verdict_is network two (answered_late 3 a) answered_late_lines Clean (late_fits 3 a) (late.second_request two.first two.second two.named)
