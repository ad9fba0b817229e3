-- Which instances are up.
use Rattle.std.proofs.Common.{◌≡◌, ℕ, ◌+◌, Bool, true, false, not, cond, ◌&&◌, ◌||◌, List, [], ◌∷◌, map, Option, None, Some, refl, ap, ◌∙◌}
use Rattle.std.specs.List.{list_any}
use Rattle.std.specs.Option.{is_some, option_map}
use Rattle.std.specs.Ordering.{eq_by_cmp}
use Rattle.std.specs.BTreeMap.{is_at}
use Rattle.std.specs.Map.{lookup}
use Rattle.sd_core.specs.declared.keys.InstanceId.{InstanceId}
use Rattle.sd_core.specs.declared.sending.Sending.{Sending}
use Rattle.sd_core.specs.KeyOrder.{instances_total, exact_instances}
use Rattle.sd_core.specs.Keys.{instance_cmp}
use Rattle.sd_core.specs.Sendings.{sent_if_due}
use Rattle.someip_node_rules.specs.declared.config.Config.{Config}
use Rattle.someip_node_rules.specs.histories.History.{History, answers_of}
use Rattle.someip_node_rules.specs.histories.Items.{Item, OfferStopped, Ticked}
use Rattle.someip_node_rules.specs.steps.Lives.{was_stopped}
use Rattle.someip_node_rules.specs.histories.OfferQuestions.{offered_instances, offering_at}
use Rattle.someip_node_rules.specs.histories.Questions.{clock_at}
use Rattle.someip_node_rules.specs.forms.Setups.{offered_as}
use Rattle.someip_node_rules.specs.histories.Tables.{is_up}
use Rattle.someip_node_rules.proofs.histories.QuestionLemmas.{get-table_of}

-- one that the node is set up to offer stays up until its offer is stopped
stays_up : (config : Config) (delay : ℕ) (items : List Item) (q : InstanceId) → is_some (offering_at config.common.phases delay items q) ≡ not (was_stopped items q)
stays_up config delay [] q = refl
stays_up config delay (item ∷ before) q = cases item (stays_up config delay before q)
  where
    same : (f : Sending → Sending) (v : Option Sending) → is_some (option_map f v) ≡ is_some v
    same f None = refl
    same f (Some sending) = refl

    stopped : (t w : Bool) (v : Option Sending) → is_some v ≡ not w → is_some (cond t None v) ≡ not (t || w)
    stopped true w v is = refl
    stopped false w v is = is

    cases : (item : Item) → is_some (offering_at config.common.phases delay before q) ≡ not (was_stopped before q)
        → is_some (offering_at config.common.phases delay (item ∷ before) q) ≡ not (was_stopped (item ∷ before) q)
    cases (Ticked ms) rest = same (sent_if_due config.common.phases (clock_at before + ms)) (offering_at config.common.phases delay before q) ∙ rest
    cases (OfferStopped instance) rest = stopped (eq_by_cmp instance_cmp q instance) (was_stopped before q) (offering_at config.common.phases delay before q) rest
    cases item rest = rest

-- an instance is among those of some entries
named : {A : Type 0} (q : InstanceId) (es : List (InstanceId × A)) → list_any (eq_by_cmp instance_cmp q) (map (λ e. e.0) es) ≡ is_some (lookup (is_at (instance_cmp q)) es)
named q [] = refl
named q (e ∷ es) = cases (eq_by_cmp instance_cmp q e.0) (named q es)
  where
    cases : (t : Bool) → list_any (eq_by_cmp instance_cmp q) (map (λ x. x.0) es) ≡ is_some (lookup (is_at (instance_cmp q)) es)
        → (t || list_any (eq_by_cmp instance_cmp q) (map (λ x. x.0) es)) ≡ is_some (cond t (Some e.1) (lookup (is_at (instance_cmp q)) es))
    cases true rest = refl
    cases false rest = rest

pub up_is : (h : History) (instance : InstanceId) → is_up (answers_of h) instance ≡ (is_some (offered_as h.config instance) && not (was_stopped h.items instance))
up_is h instance =
    ap is_some (get-table_of instances_total exact_instances (offered_instances h.config) (offering_at h.config.common.phases h.delay h.items) instance)
    ∙ cases (list_any (eq_by_cmp instance_cmp instance) (offered_instances h.config)) (offering_at h.config.common.phases h.delay h.items instance)
    ∙ ap (λ b. list_any (eq_by_cmp instance_cmp instance) (offered_instances h.config) && b) (stays_up h.config h.delay h.items instance)
    ∙ ap (λ b. b && not (was_stopped h.items instance)) (named instance h.config.offers.entries)
  where
    cases : (b : Bool) (v : Option Sending) → is_some (cond b v None) ≡ (b && is_some v)
    cases true v = refl
    cases false v = refl
