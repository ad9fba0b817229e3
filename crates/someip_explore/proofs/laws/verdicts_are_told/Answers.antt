use Rattle.std.proofs.Common.{refl}
use Rattle.someip_world_verdict.proofs.VerdictLemmas.{verdict_so}
use Rattle.someip_explore.specs.Traces.{verdict_of}
use Rattle.someip_explore.proofs.laws.verdicts_are_told.Goals as goal

pub returns : goal.returns
returns c lines =
    let network = c.args.setup.now in
    let steps = c.args.steps.now in
    verdict_so network c.nodes-nodes.ensures.good steps lines (verdict_of network.nodes steps lines) c.all_that_a_setup_gives_fits.ensures refl
