use Rattle.someip_explore.proofs.ExploringLemmas.{traced_so}
use Rattle.someip_explore.proofs.traced.run_traced.Goals as goal

pub returns-clause-traced : goal.returns-clause-traced
returns-clause-traced g c = traced_so c.args.actors.now.nodes c.args.steps.now c.run_lines.result c.run_lines.ensures.told
