-- A node that stands for a history.
use Rattle.std.proofs.Common.{◌≡◌, ℕ, Bool, true, false, cond, ◌||◌, if◌then◌else◌, List, [], ◌∷◌, map, Option, None, Some, refl, ap, sym, ◌∙◌}
use Rattle.std.specs.List.{list_any}
use Rattle.std.specs.Option.{option_and_then}
use Rattle.std.specs.Ordering.{eq_by_cmp}
use Rattle.std.specs.FinMap.{find, get-from_entries, same_map}
use Rattle.std.proofs.lemmas.Option.{same_Some}
use Rattle.sd_core.specs.declared.keys.InstanceId.{InstanceId}
use Rattle.sd_core.specs.declared.sending.Sending.{Sending}
use Rattle.sd_core.specs.KeyOrder.{instances_total, exact_instances}
use Rattle.sd_core.specs.Keys.{instance_cmp}
use Rattle.sd_core.specs.Sendings.{first_at}
use Rattle.sd_core.specs.Shown.{map_values}
use Rattle.sd_core.proofs.ShownLemmas.{get-shown}
use Rattle.someip_tables.specs.Tables.{map_of}
use Rattle.someip_node_rules.specs.declared.config.Config.{Config}
use Rattle.someip_node_rules.specs.histories.History.{History, answers_of, start_of}
use Rattle.someip_node_rules.specs.histories.OfferQuestions.{version_of}
use Rattle.someip_node_rules.specs.histories.Questions.{table_of}
use Rattle.someip_node_rules.specs.histories.Starts.{started_tables}
use Rattle.someip_node_rules.specs.steps.Steps.{NodeView, StandsFor}
use Rattle.someip_node_rules.specs.histories.Tables.{Tables}
use Rattle.someip_node_rules.proofs.histories.QuestionLemmas.{get-table_of}

-- ---- a start

-- keys that all have one value
module _ {A B : Type 0} (f : A → B) (first : Sending) where
  find-all : (q : InstanceId) (es : List (InstanceId × A))
      → option_and_then (λ _. Some first) (find instance_cmp q (map (λ e. (e.0, f e.1)) es)) ≡ cond (list_any (eq_by_cmp instance_cmp q) (map (λ e. e.0) es)) (Some first) None
  find-all q [] = refl
  find-all q (e ∷ es) = cases (eq_by_cmp instance_cmp q e.0) (find-all q es)
    where
      cases : (t : Bool) → option_and_then (λ _. Some first) (find instance_cmp q (map (λ x. (x.0, f x.1)) es)) ≡ cond (list_any (eq_by_cmp instance_cmp q) (map (λ x. x.0) es)) (Some first) None
          → option_and_then (λ _. Some first) (cond t (Some (f e.1)) (find instance_cmp q (map (λ x. (x.0, f x.1)) es)))
          ≡ cond (t || list_any (eq_by_cmp instance_cmp q) (map (λ x. x.0) es)) (Some first) None
      cases true rest = refl
      cases false rest = rest

  table-first : (es : List (InstanceId × A))
      → table_of {R = instance_cmp} (map (λ e. e.0) es) (λ _. Some first) ≡ map_values (λ _. first) (map_of instance_cmp (map (λ e. (e.0, f e.1)) es))
  table-first es =
      same_map instances_total exact_instances _ _ (λ q.
      get-table_of instances_total exact_instances (map (λ e. e.0) es) (λ _. Some first) q ∙ sym (find-all q es)
      ∙ ap (option_and_then (λ _. Some first)) (sym (get-from_entries instances_total (map (λ e. (e.0, f e.1)) es) q))
      ∙ sym (get-shown instances_total exact_instances (λ _. Some first) (map_of instance_cmp (map (λ e. (e.0, f e.1)) es)) q))

pub answers_started : (config : Config) (delay : ℕ) → answers_of (start_of config delay) ≡ started_tables config delay
answers_started config delay = λ i. record (started_tables config delay) {
  offers = record (started_tables config delay).offers { up = table-first version_of (first_at delay) config.offers.entries i };
  seek = record (started_tables config delay).seek { finding = table-first (λ want. want.major) (first_at delay) config.wants.entries i };
}

-- ---- a node with some tables

-- as its callers see it
abbrev pub seen : Bool → Tables → NodeView
seen failed t = record { config = t.config; tables = if failed then None else Some t }

pub answers : (failed : Bool) (t : Tables) (h : History) → failed ≡ false → StandsFor (seen failed t) h → t ≡ answers_of h
answers true t h works is = absurd (cc)
answers false t h works is = same_Some _ _ (ap (λ n. n.tables) is)

pub stands : (failed : Bool) (t : Tables) (h : History) → failed ≡ false → t ≡ answers_of h → StandsFor (seen failed t) h
stands true t h works is = absurd (cc)
stands false t h works is = ap (seen false) is

-- a node that was started has met nothing
pub started_stands : (config : Config) (delay : ℕ) (t : Tables) → t ≡ started_tables config delay → StandsFor (seen false t) (start_of config delay)
started_stands config delay t is = stands false t (start_of config delay) refl (is ∙ sym (answers_started config delay))

pub none_of : {X : Type 0} (v : Option X) → ((x : X) → v ≡ Some x → ⊥) → v ≡ None
none_of None not = refl
none_of (Some x) not = absurd (not x refl)
