-- From the call of a step to what the step comes to.
use Rattle.std.proofs.Common.{◌≡◌, ◌∙◌, sym, ap, subst, inr, ℕ, List}
use Rattle.std.specs.Prelude.{Bool, false, Ok}
use Rattle.someip_node_rules.specs.declared.config.Config.{Config}
use Rattle.someip_world_schedule.specs.declared.step.Step.{Step}
use Rattle.someip_c_node.specs.declared.outcome.Outcome.{Outcome}
use Rattle.someip_c_node.specs.Acts.{DoesStep, JudgedTo, Lends, OrLacksMemory, Within, is_too_long}
use Rattle.someip_c_node.specs.Calls.{CNodeView}

-- the step that it is was done
pub done : {step is : Step} (old : CNodeView) (outcome : Outcome) (new : CNodeView) → step ≡ is → DoesStep is old outcome new → OrLacksMemory (DoesStep step) old outcome new
done old outcome new same does = inr (subst (λ s. DoesStep s old outcome new) (sym same) does)

-- a call with the bytes that were lent is one with the payload, which is not too long
pub lent : (P : List ℕ → CNodeView → Outcome → CNodeView → Type 0) (config : Config) (payload bytes slice : List ℕ) (old : CNodeView) (outcome : Outcome) (new : CNodeView)
    → config ≡ old.node.config → Lends config payload (Ok bytes) → slice ≡ bytes → P slice old outcome new → Within payload (P payload) old outcome new
lent P config payload bytes slice old outcome new same lends is does =
    let judged : is_too_long old.node.config payload ≡ false = ap (λ c. is_too_long c payload) (sym same) ∙ lends.1 in
    let whole : P payload old outcome new = subst (λ b. P b old outcome new) (is ∙ lends.0) does in
    subst (λ (b : Bool). JudgedTo b (P payload) old outcome new) (sym judged) whole
