use Rattle.std.proofs.Common.{◌≡◌}
use Rattle.std.proofs.lemmas.Result.{IfOk-weaker}
use Rattle.someip_world_rules.specs.exchanges.CleanReuse.{IsVerdictOn}
use Rattle.someip_explore.specs.Traces.{verdict_of}
use Rattle.someip_explore.proofs.ExploringLemmas.{verdict_so}
use Rattle.someip_explore.proofs.traced.verdict_traced.Goals as goal

pub returns : goal.returns
returns c =
    let nodes = c.args.setup.now.nodes in
    let steps = c.args.steps.now in
    let lines = c.args.lines.now in
    IfOk-weaker c.verdict_on.result (IsVerdictOn nodes steps lines) (λ verdict. verdict ≡ verdict_of nodes steps lines)
    (λ verdict on. verdict_so nodes steps lines verdict c.requires on (c.verdicts_are_told.ensures lines)) c.verdict_on.ensures
