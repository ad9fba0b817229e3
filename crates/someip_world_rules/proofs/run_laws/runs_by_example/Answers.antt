use Rattle.std.proofs.Common.{[], arith, refl}
use Rattle.someip_world_rules.specs.Runs.{world_of}
use Rattle.someip_world_rules.proofs.run_laws.runs_by_example.Goals as goal

pub returns-clause-step : goal.returns-clause-step
returns-clause-step c node instance payload = omega arith

pub returns-clause-wide_step : goal.returns-clause-wide_step
returns-clause-wide_step c node instance payload fits = omega (arith, fits)

pub returns-clause-no_node : goal.returns-clause-no_node
returns-clause-no_node c = tt

pub returns-clause-wide_node : goal.returns-clause-wide_node
returns-clause-wide_node c node is fits = let client = fits.0.client in omega (arith, is, client)

pub returns-clause-no_step : goal.returns-clause-no_step
returns-clause-no_step c = record { configs = []; copies = tt; comes = refl; world = world_of [] []; led = refl; told = refl }

pub returns-clause-other_lines : goal.returns-clause-other_lines
returns-clause-other_lines c line run = let comes = run.comes in absurd cc
