-- What a step publishes goes to those who are subscribed, and the offers that nodes know from peers that are no liars are configured.
use Rattle.std.proofs.Common.{◌≡◌, ℕ, List, Ok, subst, take}
use Rattle.std.specs.List.{AllByRecursion}
use Rattle.someip_node_rules.specs.declared.config.Config.{Config}
use Rattle.someip_node_laws.specs.Fitting.{FitsConfig}
use Rattle.someip_node_rules.specs.steps.Steps.{step}
use Rattle.someip_node_rules.proofs.lists.MemberLemmas.{all_take}
use Rattle.someip_node_laws.proofs.rules.PublishedLemmas.{is_published, is_published_to}
use Rattle.someip_world_schedule.specs.declared.step.Step.{Step}
use Rattle.someip_world_setup.specs.declared.setup_node.SetupNode.{SetupNode}
use Rattle.someip_world_rules.specs.Announced.{FitsStep}
use Rattle.someip_world_rules.specs.Liars.{HasNoLiars}
use Rattle.someip_world_rules.proofs.ConfiguredLemmas.{as_configured, configured_without_liars}
use Rattle.someip_world_safety.specs.Safety.{HonestOffersAreConfigured, OffersAreConfigured, PublishesToAll, PublishesToOne}

module _ (nodes : List SetupNode) (configs : List Config) (steps : List Step) where
  -- an event that a step publishes goes to each live endpoint
  pub publishes_to_all : (i : ℕ) → PublishesToAll nodes configs steps i
  publishes_to_all i does instance event payload is =
      is_published does.turn.history instance event payload does.done (subst (λ input. step does.turn.history input ≡ Ok does.done) is does.happened)

  -- an event that a step publishes to one endpoint goes to that, which is live
  pub publishes_to_one : (i : ℕ) → PublishesToOne nodes configs steps i
  publishes_to_one i does instance eventgroup endpoint event payload is =
      is_published_to does.turn.history instance eventgroup endpoint event payload does.done
      (subst (λ input. step does.turn.history input ≡ Ok does.done) is does.happened)

  -- the offers that nodes know after some steps, from peers that are no liars, are configured
  pub offers_are_configured : AllByRecursion FitsConfig configs → AllByRecursion FitsStep steps → (n : ℕ) → HonestOffersAreConfigured nodes configs steps n
  offers_are_configured fit all n w le led = as_configured nodes configs (take n steps) w led fit (all_take FitsStep n steps all)

  -- in a setup without liars all are
  pub offers_without_liars : HasNoLiars nodes → AllByRecursion FitsConfig configs → AllByRecursion FitsStep steps → (n : ℕ) → OffersAreConfigured nodes configs steps n
  offers_without_liars none fit all n w le led = configured_without_liars nodes configs (take n steps) w led fit (all_take FitsStep n steps all) none
