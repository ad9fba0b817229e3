use Rattle.std.proofs.Common.{ℕ, List}
use Rattle.someip_node_rules.specs.declared.config.Config.{Config}
use Rattle.someip_world_schedule.specs.declared.step.Step.{Step}
use Rattle.someip_world_setup.specs.GoodSetups.{IsGoodNetwork, Network}
use Rattle.someip_world_rules.specs.Announced.{AllFits}
use Rattle.someip_world_rules.specs.Runs.{AreCopies}
use Rattle.someip_world_rules.specs.exchanges.CleanReuse.{IsCleanBefore}
use Rattle.someip_world_safety.specs.CleanRuns.{AreShort, CountsOnce}
use Rattle.someip_world_safety.proofs.networks.AddressLemmas.{off_group, own_addresses}
use Rattle.someip_world_safety.proofs.runs.CleanLemmas.{opens_once_is_clean}
use Rattle.someip_world_safety.proofs.runs.CountLemmas.{counts_once_opens_once}
use Rattle.someip_world_safety.proofs.networks.OfferLemmas.{own_offers}
use Rattle.someip_world_safety.proofs.networks.PortLemmas.{own_ports}
use Rattle.someip_world_safety.proofs.runs.SafeRuns.{always_clean}
use Rattle.someip_world_safety.proofs.safety.runs_that_count_once_are_clean.Goals as goal

-- no step breaks clean reuse
never_broken : (network : Network) → IsGoodNetwork network → (configs : List Config) (steps : List Step) → AreCopies network.nodes configs → AllFits network.nodes configs steps
    → CountsOnce network.nodes configs steps → AreShort network.nodes configs steps → (n : ℕ) → IsCleanBefore network.nodes configs steps n
never_broken network good configs steps are fits once short n i before =
    let own = own_addresses network good configs are in
    let offers = own_offers network good configs are in
    opens_once_is_clean network.nodes configs steps fits own (off_group network good configs are) offers short
    (counts_once_opens_once network.nodes configs steps own offers (own_ports network good configs are) once) i

pub returns-clause-clean : goal.returns-clause-clean
returns-clause-clean c configs are once short =
    never_broken c.args.setup.now c.nodes.ensures.good configs c.args.steps.now are (c.all_that_a_setup_gives_fits.ensures configs are) once short

pub returns-clause-verdict : goal.returns-clause-verdict
returns-clause-verdict c lines verdict judged configs are comes once short =
    always_clean c.args.setup.now.nodes configs c.args.steps.now verdict (judged configs are comes)
    (never_broken c.args.setup.now c.nodes.ensures.good configs c.args.steps.now are (c.all_that_a_setup_gives_fits.ensures configs are) once short)
