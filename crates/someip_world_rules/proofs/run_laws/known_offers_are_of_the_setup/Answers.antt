use Rattle.std.proofs.Common.{take}
use Rattle.someip_node_rules.proofs.lists.MemberLemmas.{all_take}
use Rattle.someip_world_rules.specs.Announced.{FitsStep}
use Rattle.someip_world_rules.proofs.ConfiguredLemmas.{as_configured, configured_without_liars}
use Rattle.someip_world_rules.proofs.FitRunLemmas.{copies_fit}
use Rattle.someip_world_rules.proofs.run_laws.known_offers_are_of_the_setup.Goals as goal

pub returns-clause-on_the_way : goal.returns-clause-on_the_way
returns-clause-on_the_way c configs i w are led =
    as_configured c.args.setup.now.nodes configs (take i c.args.steps.now) w led (copies_fit c.args.setup.now.nodes configs are c.setup_fits.ensures)
    (all_take FitsStep i c.args.steps.now c.steps_fit.ensures)

pub returns-clause-at_the_end : goal.returns-clause-at_the_end
returns-clause-at_the_end c lines run =
    as_configured c.args.setup.now.nodes run.configs c.args.steps.now run.world run.led
    (copies_fit c.args.setup.now.nodes run.configs run.copies c.setup_fits.ensures) c.steps_fit.ensures

pub returns-clause-without_liars : goal.returns-clause-without_liars
returns-clause-without_liars c none configs i w are led =
    configured_without_liars c.args.setup.now.nodes configs (take i c.args.steps.now) w led (copies_fit c.args.setup.now.nodes configs are c.setup_fits.ensures)
    (all_take FitsStep i c.args.steps.now c.steps_fit.ensures) none

pub returns-clause-at_the_end_without : goal.returns-clause-at_the_end_without
returns-clause-at_the_end_without c none lines run =
    configured_without_liars c.args.setup.now.nodes run.configs c.args.steps.now run.world run.led
    (copies_fit c.args.setup.now.nodes run.configs run.copies c.setup_fits.ensures) c.steps_fit.ensures none
