use Rattle.std.proofs.Common.{◌≡◌, ap, ◌∙◌}
use Rattle.std.proofs.lemmas.Result.{IfOk-weaker}
use Rattle.someip_world_rules.specs.exchanges.CleanReuse.{IsVerdictOn}
use Rattle.someip_world_verdict.specs.Judging.{judged}
use Rattle.someip_world_verdict.proofs.VerdictLemmas.{verdict_so}
use Rattle.someip_world_verdict.proofs.verdict.verdict_on.Goals as goal

pub returns : goal.returns
returns c =
    let network = c.args.setup.now in
    let steps = c.args.steps.now in
    let lines = c.args.lines.now in
    IfOk-weaker c.judge.result (λ verdict. verdict ≡ judged c.nodes.result.now steps lines) (IsVerdictOn network.nodes steps lines)
    (λ verdict is. verdict_so network c.nodes.ensures.good steps lines verdict c.all_that_a_setup_gives_fits.ensures (is ∙ ap (λ nodes. judged nodes steps lines) c.nodes.ensures.nodes)) c.judge.ensures
