-- No eventgroup of a node in hand has more live subscriptions than it may.
use Rattle.std.proofs.Common.{◌≡◌, ℕ, Bool, true, false, Option, None, Some, Result, Ok, Err, refl, ap, sym, subst, ◌∙◌}
use Rattle.std.specs.Option.{IsSome}
use Rattle.someip_node_engine.specs.declared.outputs.Giving.{Giving}
use Rattle.someip_node_engine.specs.Handled.{Handled, or_no_memory}
use Rattle.someip_node_engine.specs.Working.{working}
use Rattle.someip_node_rules.specs.declared.config.Config.{Config}
use Rattle.someip_node_rules.specs.declared.error.NodeError.{NodeError}
use Rattle.someip_node_rules.specs.histories.History.{History}
use Rattle.someip_node_rules.specs.rules.Inputs.{Input, plan_of, refusal_of}
use Rattle.someip_node_rules.specs.rules.Plans.{Work}
use Rattle.someip_node_rules.specs.histories.Starts.{started_tables}
use Rattle.someip_node_rules.specs.steps.Steps.{StandsFor}
use Rattle.someip_node_rules.specs.steps.SubscriberLimits.{AreWithinLimits}
use Rattle.someip_node_rules.specs.histories.SubscriberQuestions.{subscribers_in}
use Rattle.someip_node_rules.specs.histories.Tables.{Tables}
use Rattle.someip_node_rules.proofs.histories.Stands.{answers, answers_started, seen}
use Rattle.someip_node_rules.proofs.histories.SubscriberLimitLemmas.{Fits, run_fits, started_fits}
use Rattle.someip_node.specs.Finishings.{is_fatal}

-- ---- a node that took an input

module _ (input : Input) (old : Tables) (before : Giving) (new : Tables) (after : Giving) (fits : AreWithinLimits old.config old.subscribers) where
  of_own : Fits old.config new → AreWithinLimits new.config new.subscribers
  of_own new_fits = subst (λ c. AreWithinLimits c new.subscribers) (sym new_fits.0) new_fits.1

  refused_fits : (refusal : Option NodeError) (error : NodeError) → error ≡ or_no_memory refusal → (IsSome refusal → new ≡ old) → is_fatal (Err error) ≡ false
      → AreWithinLimits new.config new.subscribers
  refused_fits None error told same fine = let fatal = ap (λ e. is_fatal (Err e)) told in absurd (cc)
  refused_fits (Some refusal) error told same fine = subst (λ (t : Tables). AreWithinLimits t.config t.subscribers) (sym (same refl)) fits

  pub handled_fits : (done : Result (Unit {0}) NodeError) → Handled input old before done new after → is_fatal done ≡ false → AreWithinLimits new.config new.subscribers
  handled_fits (Ok _) handled fine =
      of_own (subst (λ (w : Work Tables). Fits old.config w.state) (sym handled.1) (run_fits old.config (plan_of input) (working old before) (refl, fits)))
  handled_fits (Err error) handled fine = refused_fits (refusal_of input old) error handled.0 handled.1 fine

-- ---- a node in hand

pub node_within : (failed : Bool) (t : Tables) (h : History) → StandsFor (seen failed t) h → (failed ≡ false → AreWithinLimits t.config t.subscribers) → AreWithinLimits h.config (subscribers_in h.items)
node_within true t h is fit = let tables = ap (λ n. n.tables) is in absurd (cc)
node_within false t h is fit = subst (λ (u : Tables). AreWithinLimits u.config u.subscribers) (answers false t h refl is) (fit refl)

-- one that was just started
pub start_within : (config : Config) (delay : ℕ) (t : Tables) → t ≡ started_tables config delay → AreWithinLimits t.config t.subscribers
start_within config delay t is = subst (λ (u : Tables). AreWithinLimits u.config u.subscribers) (answers_started config delay ∙ sym is) (started_fits config delay).1
