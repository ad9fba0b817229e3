-- A move that does not fit a setup stands for steps that can't happen.
use Rattle.std.proofs.Common.{◌≡◌, ℕ, zero, suc, ◌<◌, Bool, true, false, List, [], ◌∷◌, map, slice_get, Option, None, Some, Result, Ok, Err, refl, sym, ap, subst, ◌∙◌, arith}
use Rattle.std.specs.List.{Contains}
use Rattle.someip_node_rules.specs.histories.History.{History}
use Rattle.someip_world_schedule.specs.declared.step.Step.{Step}
use Rattle.someip_world_schedule.specs.declared.step.Step.TheVariants as steps
use Rattle.someip_world_schedule.specs.StepNodes.{node_of}
use Rattle.someip_world_setup.specs.declared.setup_node.SetupNode.{SetupNode}
use Rattle.someip_world_rules.specs.Deeds.{Deed, deed_at}
use Rattle.someip_world_rules.specs.Liars.{is_liar_at}
use Rattle.someip_world_rules.specs.Runs.{World, happens, happens_at, happens_to, place_of, unless_bad}
use Rattle.someip_world_rules.specs.declared.line.Line.{Line}
use Rattle.someip_world_rules.specs.declared.step_fault.StepFault.{StepFault}
use Rattle.someip_world_rules.specs.declared.step_fault.StepFault.TheVariants.{IsLiar, NotLiar, UnknownNode}
use Rattle.someip_explore.specs.declared.moves.Move.{Move}
use Rattle.someip_explore.specs.declared.moves.Move.TheVariants.{Plain, DeliverAnyTo, DeliverAny, AnswerAny}
use Rattle.someip_explore.specs.Misfits.{is_injection, misfit, misfit_at, misfit_of, step_misfit}
use Rattle.someip_explore.specs.Moves.{answer_to, numbers_to, present_token, sent_in, stands_for, with_token}
use Rattle.someip_explore.proofs.TriedLemmas.{from_flat}

-- ---- what does not fit can't be done

-- no fault is not one
abbrev nothing : Option StepFault
nothing = None

no_fault : (fault : StepFault) (P : Type 0) → nothing ≡ Some fault → P
no_fault fault P is = absurd cc

-- a deed that a fault keeps from being done
abbrev bad : StepFault → Result Deed StepFault
bad fault = Err fault

as_fault : (one fault : StepFault) → Some one ≡ Some fault → bad one ≡ bad fault
as_fault one fault is = let same : one ≡ fault = cc in ap bad same

deed_misfit : (liar : Bool) (h : History) (lines : List Line) (s : Step) (fault : StepFault) → misfit_of liar (is_injection s) ≡ Some fault → deed_at liar h lines s ≡ Err fault
deed_misfit true h lines (steps.Tick node ms) fault is = as_fault IsLiar fault is
deed_misfit true h lines (steps.Deliver number node) fault is = as_fault IsLiar fault is
deed_misfit true h lines (steps.Call node kind instance method payload) fault is = as_fault IsLiar fault is
deed_misfit true h lines (steps.Answer node token reply payload) fault is = as_fault IsLiar fault is
deed_misfit true h lines (steps.Publish node instance event payload) fault is = as_fault IsLiar fault is
deed_misfit true h lines (steps.PublishTo node eventgroup to event payload) fault is = as_fault IsLiar fault is
deed_misfit true h lines (steps.Subscribe node eventgroup) fault is = as_fault IsLiar fault is
deed_misfit true h lines (steps.Unsubscribe node eventgroup) fault is = as_fault IsLiar fault is
deed_misfit true h lines (steps.StopOffer node instance) fault is = as_fault IsLiar fault is
deed_misfit true h lines (steps.Restart node delay) fault is = as_fault IsLiar fault is
deed_misfit true h lines (steps.Inject node port to payload) fault is = no_fault fault _ is
deed_misfit false h lines (steps.Tick node ms) fault is = no_fault fault _ is
deed_misfit false h lines (steps.Deliver number node) fault is = no_fault fault _ is
deed_misfit false h lines (steps.Call node kind instance method payload) fault is = no_fault fault _ is
deed_misfit false h lines (steps.Answer node token reply payload) fault is = no_fault fault _ is
deed_misfit false h lines (steps.Publish node instance event payload) fault is = no_fault fault _ is
deed_misfit false h lines (steps.PublishTo node eventgroup to event payload) fault is = no_fault fault _ is
deed_misfit false h lines (steps.Subscribe node eventgroup) fault is = no_fault fault _ is
deed_misfit false h lines (steps.Unsubscribe node eventgroup) fault is = no_fault fault _ is
deed_misfit false h lines (steps.StopOffer node instance) fault is = no_fault fault _ is
deed_misfit false h lines (steps.Restart node delay) fault is = no_fault fault _ is
deed_misfit false h lines (steps.Inject node port to payload) fault is = as_fault NotLiar fault is

-- a step of a node that a setup has
pub known_misfit : (nodes : List SetupNode) (index : ℕ) (w : World) (s : Step) (place : ℕ) (h : History) (fault : StepFault) → place_of nodes (node_of s) ≡ Some place
    → slice_get w.histories place ≡ Some h → step_misfit nodes s ≡ Some fault → happens nodes index w s ≡ Err fault
known_misfit nodes index w s place h fault named here is =
    let known : misfit_of (is_liar_at nodes place) (is_injection s) ≡ Some fault = subst (λ found. misfit_at nodes (is_injection s) found ≡ Some fault) named is in
    ap (happens_to nodes index w s) named ∙ ap (happens_at (is_liar_at nodes place) index w s place) here
    ∙ ap (unless_bad index place w h) (deed_misfit (is_liar_at nodes place) h w.lines s fault known)

-- a step of a node that it has not
pub unknown_misfit : (nodes : List SetupNode) (index : ℕ) (w : World) (s : Step) → place_of nodes (node_of s) ≡ None
    → (step_misfit nodes s ≡ Some UnknownNode) × (happens nodes index w s ≡ Err UnknownNode)
unknown_misfit nodes index w s named = (ap (misfit_at nodes (is_injection s)) named, ap (happens_to nodes index w s) named)

-- ---- the steps of a move that does not fit

only_one : (x s : Step) → Contains (x ∷ []) s → x ≡ s
only_one x s (zero, lt, is) = is
only_one x s (suc k, lt, is) = absurd (omega (arith, lt))

none_in : (s : Step) (P : Type 0) → Contains [] s → P
none_in s P inside = let lt = inside.1 in absurd (omega (arith, lt))

from_map : {X : Type 0} (f : X → Step) (xs : List X) (s : Step) → Contains (map f xs) s → (x : X) × (f x ≡ s)
from_map f [] s inside = none_in s _ inside
from_map f (x ∷ xs) s (zero, lt, is) = (x, is)
from_map f (x ∷ xs) s (suc k, lt, is) = from_map f xs s (k, omega (arith, lt), is)

same_answer : (nodes : List SetupNode) (token : ℕ) (s : Step) → step_misfit nodes (with_token token s) ≡ step_misfit nodes s
same_answer nodes token (steps.Tick node ms) = refl
same_answer nodes token (steps.Deliver number node) = refl
same_answer nodes token (steps.Call node kind instance method payload) = refl
same_answer nodes token (steps.Answer node old reply payload) = refl
same_answer nodes token (steps.Publish node instance event payload) = refl
same_answer nodes token (steps.PublishTo node eventgroup to event payload) = refl
same_answer nodes token (steps.Subscribe node eventgroup) = refl
same_answer nodes token (steps.Unsubscribe node eventgroup) = refl
same_answer nodes token (steps.StopOffer node instance) = refl
same_answer nodes token (steps.Restart node delay) = refl
same_answer nodes token (steps.Inject node port to payload) = refl

answer_misfit : (nodes : List SetupNode) (answer : Step) (token : Option ℕ) (s : Step) → Contains (answer_to answer token) s → step_misfit nodes s ≡ step_misfit nodes answer
answer_misfit nodes answer None s inside = none_in s _ inside
answer_misfit nodes answer (Some token) s inside = sym (ap (step_misfit nodes) (only_one (with_token token answer) s inside)) ∙ same_answer nodes token answer

pub moved_misfit : (nodes : List SetupNode) (ss : List Step) (lines : List Line) (move : Move) (fault : StepFault) (s : Step) → misfit nodes move ≡ Some fault
    → Contains (stands_for nodes ss lines move) s → step_misfit nodes s ≡ Some fault
moved_misfit nodes ss lines (Plain step) fault s is inside = sym (ap (step_misfit nodes) (only_one step s inside)) ∙ is
moved_misfit nodes ss lines (DeliverAnyTo node) fault s is inside =
    let found = from_map (λ number. steps.Deliver number node) (numbers_to (sent_in lines)) s inside in sym (ap (step_misfit nodes) found.1) ∙ is
moved_misfit nodes ss lines DeliverAny fault s is inside = no_fault fault _ is
moved_misfit nodes ss lines (AnswerAny answer) fault s is inside =
    let found = from_flat (λ line. answer_to answer (present_token nodes ss (node_of answer) line)) lines s inside in
    answer_misfit nodes answer (present_token nodes ss (node_of answer) found.0) s found.2 ∙ is
