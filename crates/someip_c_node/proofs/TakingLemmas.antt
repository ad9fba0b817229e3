-- From what is left of a list to what taking an output comes to.
use Rattle.std.proofs.Common.{◌≡◌, ◌∙◌, arith, refl, sym, ap, subst, ℕ, ◌<◌, ◌≤◌, List, [], ◌∷◌, length}
use Rattle.std.proofs.lemmas.List.{length-drop}
use Rattle.std.specs.Prelude.{◌≢◌, ◌++◌, drop}
use Rattle.someip_node_rules.specs.declared.output.Output.{Output}
use Rattle.someip_node_rules.specs.steps.Steps.{NodeView}
use Rattle.someip_c_node.specs.declared.outcome.Outcome.{Outcome}
use Rattle.someip_c_node.specs.declared.outcome.Outcome.TheVariants.{Done, NothingLeft}
use Rattle.someip_c_node.specs.declared.record.OutputRecord.{OutputRecord}
use Rattle.someip_c_node.specs.Calls.{CNodeView, Takes, TakesFirst, TakesOf}
use Rattle.someip_c_node.specs.Records.{payload_of, record_of}

pub some_left : {X : Type 0} (xs : List X) (k : ℕ) → k < length xs → drop k xs ≢ []
some_left xs k less = λ e. omega (arith, less, sym (length-drop k xs) ∙ ap length e)

pub nothing_left : (old : CNodeView) (told : OutputRecord) (space : List ℕ) → old.waiting ≡ [] → Takes old told space NothingLeft old told space
nothing_left old told space none = subst (λ w. TakesOf w old told space NothingLeft old told space) (sym none) (refl, (refl, (refl, refl)))

-- the first output is the one that is taken, or not
pub first_taken : (old : CNodeView) (before : OutputRecord) (space : List ℕ) (outcome : Outcome) (new : CNodeView) (told : OutputRecord) (bytes : List ℕ) (output : Output) (rest : List Output)
    → old.waiting ≡ output ∷ rest → TakesFirst output rest old.node space outcome new told bytes → Takes old before space outcome new told bytes
first_taken old before space outcome new told bytes output rest first takes = subst (λ w. TakesOf w old before space outcome new told bytes) (sym first) takes

pub fits : (output : Output) (rest : List Output) (node : NodeView) (space : List ℕ) → length (payload_of output) ≤ length space
    → TakesFirst output rest node space Done (record { node = node; waiting = rest }) (record_of output) (payload_of output ++ drop (length (payload_of output)) space)
fits output rest node space most = (refl, ((λ _. (refl, (refl, refl))), (λ less. absurd (omega (arith, most, less)))))
