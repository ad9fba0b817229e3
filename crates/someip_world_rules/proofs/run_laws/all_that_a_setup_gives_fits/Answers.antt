use Rattle.someip_world_rules.proofs.FitRunLemmas.{all_given_fits, copies_fit}
use Rattle.someip_world_rules.proofs.run_laws.all_that_a_setup_gives_fits.Goals as goal

pub returns : goal.returns
returns c configs are =
    all_given_fits c.args.setup.now.nodes configs (copies_fit c.args.setup.now.nodes configs are c.setup_fits.ensures) c.args.steps.now c.steps_fit.ensures
