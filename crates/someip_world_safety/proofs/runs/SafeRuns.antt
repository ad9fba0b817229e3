-- The answers and the events that a step hands up of messages from no liar are safe, where keys are reused cleanly up to it and with it.
use Rattle.std.proofs.Common.{◌≡◌, ℕ, arith, suc, List, refl, subst}
use Rattle.std.specs.Net.Socket.{v4_ip}
use Rattle.someip_node_rules.specs.rules.Inputs.{Input, Datagram}
use Rattle.someip_node_rules.specs.declared.config.Config.{Config}
use Rattle.someip_world_schedule.specs.declared.step.Step.{Step}
use Rattle.someip_world_setup.specs.declared.setup_node.SetupNode.{SetupNode}
use Rattle.someip_world_rules.specs.Announced.{AllFits}
use Rattle.someip_world_rules.specs.Liars.{HasNoLiars, IsFromLiar}
use Rattle.someip_world_rules.specs.declared.line.Line.{Line}
use Rattle.someip_world_rules.specs.declared.reuse.Reuse.{Reuse}
use Rattle.someip_world_rules.specs.declared.reuse.Reuse.TheVariants.{Broken, Clean}
use Rattle.someip_world_rules.proofs.InjectionLemmas.{all_honest}
use Rattle.someip_world_rules.specs.exchanges.CleanReuse.{IsCleanBefore, IsVerdict}
use Rattle.someip_world_safety.specs.Addresses.{HaveOwnAddresses}
use Rattle.someip_world_safety.specs.OwnOffers.{HaveOwnOffers}
use Rattle.someip_world_safety.specs.Safety.{AcknowledgedAreSafe, AnswersAreSafe, EventsAreSafe, HonestAcknowledgedAreSafe, HonestAnswersAreSafe, HonestEventsAreSafe, IsCleanUpTo}
use Rattle.someip_world_safety.proofs.messages.CameGiven.{came_was_given}
use Rattle.someip_world_safety.proofs.answers.ProducedAnswers.{answer_was_produced}
use Rattle.someip_world_safety.proofs.answers.SafeAnswers.{answer_is_safe}
use Rattle.someip_world_safety.proofs.events.SafeEvents.{event_is_safe}

module _ (nodes : List SetupNode) (configs : List Config) (steps : List Step) (fits : AllFits nodes configs steps) (n : ℕ) (clean : IsCleanBefore nodes configs steps (suc n)) where
  -- the message that came was given, and what was given as an answer was produced for its call
  pub answers_are_safe : HaveOwnAddresses configs → HaveOwnOffers configs → HonestAnswersAreSafe nodes configs steps n
  answers_are_safe own offers does message session code payload stands honest =
      answer_is_safe nodes configs steps fits own n clean does message session code payload stands honest
      (λ i less d s from to m given kind client. answer_was_produced nodes configs steps fits offers i (λ j lt. clean j (omega (arith, lt, less))) d s from to m given kind client)

  -- the message that came was given, by a publication
  pub events_are_safe : HonestEventsAreSafe nodes configs steps n
  events_are_safe does instance event payload stands honest =
      event_is_safe nodes configs steps fits n does instance event payload stands
      (λ p header done earlier later input trail goal came.
      came_was_given nodes configs steps fits n does p header payload done earlier later input (subst (λ x. IsFromLiar nodes configs x → ⊥) input honest) trail goal came clean)

-- in a setup without liars no input is from one
none_from_liar : (nodes : List SetupNode) (configs : List Config) → HasNoLiars nodes → (input : Input) → IsFromLiar nodes configs input → ⊥
none_from_liar nodes configs none (Datagram from to bytes) liar = all_honest nodes configs none (v4_ip from) liar
none_from_liar nodes configs none input liar = absurd liar

module _ (nodes : List SetupNode) (configs : List Config) (steps : List Step) (none : HasNoLiars nodes) (n : ℕ) where
  -- so all answers are safe there
  pub answers_without_liars : HonestAnswersAreSafe nodes configs steps n → AnswersAreSafe nodes configs steps n
  answers_without_liars safe does message session code payload stands = safe does message session code payload stands (none_from_liar nodes configs none does.input)

  -- and all events
  pub events_without_liars : HonestEventsAreSafe nodes configs steps n → EventsAreSafe nodes configs steps n
  events_without_liars safe does instance event payload stands = safe does instance event payload stands (none_from_liar nodes configs none does.input)

  -- and all subscriptions that clients tell of
  pub acknowledged_without_liars : HonestAcknowledgedAreSafe nodes configs steps n → AcknowledgedAreSafe nodes configs steps n
  acknowledged_without_liars safe does eventgroup counter stands = safe does eventgroup counter stands (none_from_liar nodes configs none does.input)

-- where a verdict says that keys are reused cleanly up to a step, they are
pub clean_up_to : (nodes : List SetupNode) (configs : List Config) (steps : List Step) (verdict : Reuse) (n : ℕ) → IsVerdict nodes configs steps verdict → IsCleanUpTo nodes configs steps verdict n
    → IsCleanBefore nodes configs steps n
clean_up_to nodes configs steps Clean n is up i less = is i (omega (arith, up, less))
clean_up_to nodes configs steps (Broken at) n is up i less = let index = is.1 in is.3 i (omega (arith, up, less, index))

-- and so up to the step of a line and with it
pub clean_through : (nodes : List SetupNode) (configs : List Config) (steps : List Step) (verdict : Reuse) (line : Line) (n : ℕ) → IsVerdict nodes configs steps verdict → line.step ≡ suc n
    → IsCleanUpTo nodes configs steps verdict line.step → IsCleanBefore nodes configs steps (suc n)
clean_through nodes configs steps verdict line n is index up = subst (IsCleanBefore nodes configs steps) index (clean_up_to nodes configs steps verdict line.step is up)

-- where no step breaks clean reuse, the verdict is that none does
pub always_clean : (nodes : List SetupNode) (configs : List Config) (steps : List Step) (verdict : Reuse) → IsVerdict nodes configs steps verdict
    → ((n : ℕ) → IsCleanBefore nodes configs steps n) → verdict ≡ Clean
always_clean nodes configs steps Clean is clean = refl
always_clean nodes configs steps (Broken at) is clean = absurd (clean (suc is.0) is.0 (omega arith) is.2)
