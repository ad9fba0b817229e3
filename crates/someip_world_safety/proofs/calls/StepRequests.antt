-- A request that is open after a step was open before it, or was handed up in it, under a token that no request had before.
use Rattle.std.proofs.Common.{◌≡◌, ℕ, ◌≤◌, Bool, true, false, if◌then◌else◌, List, [], ◌∷◌, ◌++◌, Some, inl, inr, arith, refl, sym, ap, subst, append_assoc, ◌∙◌}
use Rattle.std.specs.List.{Contains}
use Rattle.std.specs.Ordering.{eq_by_cmp, nat_cmp}
use Rattle.std.proofs.lemmas.List.{append-nil}
use Rattle.std.proofs.lemmas.List.Elements.{Contains-append_right}
use Rattle.std.proofs.lemmas.Map.Lookups.{exact_unsigned}
use Rattle.someip_tables.proofs.Entries.{same_by_test}
use Rattle.someip_wire.specs.declared.header.Header.{Header}
use Rattle.someip_rpc.specs.declared.request.Asked.{Asked}
use Rattle.sd_core.specs.declared.keys.InstanceId.{InstanceId}
use Rattle.someip_node_rules.specs.declared.output.Output.TheVariants.{Request}
use Rattle.someip_node_rules.specs.trails.Bringing.{WasBrought}
use Rattle.someip_node_rules.specs.histories.CallQuestions.{next_token, open_request_at}
use Rattle.someip_node_rules.specs.histories.History.{History, answers_of, met}
use Rattle.someip_node_rules.specs.rules.Inputs.{Input, plan_of}
use Rattle.someip_node_rules.specs.histories.Items as items
use Rattle.someip_node_rules.specs.trails.Meanings.{GivenBy, IsTokenFor}
use Rattle.someip_node_rules.specs.trails.Meetings.{IsRequestedBy}
use Rattle.someip_node_rules.specs.forms.Outputs.{Tells}
use Rattle.someip_node_rules.specs.steps.Steps.{work_on}
use Rattle.someip_node_rules.specs.trails.Trails.{Done, after, met_by, outcome_of, trail_of}
use Rattle.someip_node_rules.proofs.lists.MemberLemmas.{at_member}
use Rattle.someip_node_rules.proofs.rules.PlanLemmas.{before_each}
use Rattle.someip_node_rules.proofs.rules.StepRules.{all_brought}
use Rattle.someip_world_safety.proofs.calls.RequestItems.{Hands, Kinds, Quiet, kinds_of, next_grows, quiet_after}
use Rattle.someip_world_safety.proofs.subscriptions.RuleItems.{after_more}

-- a token is the next one
is_next : (header : Header) (next token : ℕ) → IsTokenFor header next (Some token) → token ≡ next
is_next header next token (inl is) = let same = is.1 in cc
is_next header next token (inr is) = let none = is.1 in absurd cc

module _ (h : History) (input : Input) where
  -- the rules of the step
  abbrev trail : List Done
  trail = trail_of h input

  -- ---- what is open after the step

  -- a request is open within the step: it was open before, or a rule that was done handed it up under the next token
  pub data IsOpenIn (token : ℕ) (request : Asked) : Type 0 where
    Stood : open_request_at h.items token ≡ Some request → IsOpenIn token request
    Handed : (d : Done) → Contains trail d → IsRequestedBy d.by (answers_of d.before.state) request → token ≡ next_token d.before.state.items → IsOpenIn token request

  -- all that are open at a history are so
  abbrev AllOpenIn : History → Type 0
  AllOpenIn at = (token : ℕ) (request : Asked) → open_request_at at.items token ≡ Some request → IsOpenIn token request

  module _ (d : Done) (among : Contains trail d) (old : AllOpenIn d.before.state) where
    -- a rule hands up a request
    hands_step : (own : Asked) → IsRequestedBy d.by (answers_of d.before.state) own → AllOpenIn (met d.before.state (items.Requested own))
    hands_step own m token request is = cases (eq_by_cmp nat_cmp token (next_token d.before.state.items)) refl is
      where
        cases : (b : Bool) → eq_by_cmp nat_cmp token (next_token d.before.state.items) ≡ b → (if b then Some own else open_request_at d.before.state.items token) ≡ Some request → IsOpenIn token request
        cases true same e =
            let one : own ≡ request = cc in
            Handed d among (subst (IsRequestedBy d.by (answers_of d.before.state)) one m) (same_by_test exact_unsigned token (next_token d.before.state.items) same)
        cases false same e = old token request e

    -- any rule
    done_step : Kinds d.by (answers_of d.before.state) → AllOpenIn (after d.before.state (outcome_of d).items)
    done_step (Quiet all) = λ token request is. old token request (quiet_after (outcome_of d).items d.before.state token request all is)
    done_step (Hands own m one) = subst (λ xs. AllOpenIn (after d.before.state xs)) (sym one) (hands_step own m)

  -- through the rules of the step, one after the other
  walk : (earlier later : List Done) → trail ≡ earlier ++ later → AllOpenIn (after h (met_by earlier)) → AllOpenIn (after h (met_by trail))
  walk earlier [] is old = subst (λ ds. AllOpenIn (after h (met_by ds))) (sym (is ∙ append-nil earlier)) old
  walk earlier (d ∷ later) is old =
      let at = (before_each (plan_of input) (work_on h) earlier later d is).0 in
      let among : Contains trail d = subst (λ ds. Contains ds d) (sym is) (Contains-append_right earlier (d ∷ later) d (0, omega arith, refl)) in
      let here : AllOpenIn d.before.state = subst AllOpenIn (sym at) old in
      let next : AllOpenIn (after d.before.state (outcome_of d).items) = done_step d among here (kinds_of d.by (answers_of d.before.state)) in
      walk (earlier ++ d ∷ []) later (is ∙ sym (append_assoc earlier (d ∷ []) later))
      (subst AllOpenIn (ap (λ x. after x (outcome_of d).items) at ∙ after_more h earlier d) next)

  -- the whole step
  pub open_in_step : (token : ℕ) (request : Asked) → open_request_at (after h (met_by trail)).items token ≡ Some request → IsOpenIn token request
  open_in_step = walk [] trail refl (λ token request is. Stood is)

  -- ---- what is handed up in the step

  -- it has a token that was not given before
  pub up_is_new : (token : ℕ) (instance : InstanceId) (method : ℕ) (payload : List ℕ) → GivenBy h input (Tells (Request (Some token) instance method payload)) → next_token h.items ≤ token
  up_is_new token instance method payload by =
      let up = by.holds in
      let was = by.brought in
      let next : token ≡ next_token by.done.before.state.items = is_next up.1 (next_token by.done.before.state.items) token up.3.numbered in
      let same : next_token by.done.before.state.items ≡ next_token (after h (met_by was.earlier)).items = ap (λ x. next_token x.items) was.at in
      let grows = next_grows h (met_by was.earlier) in
      omega (arith, next, same, grows)

  -- and what a rule took from an endpoint to an instance is handed up
  pub is_given : (token : ℕ) (request : Asked) (d : Done) → Contains trail d → (m : IsRequestedBy d.by (answers_of d.before.state) request) → token ≡ next_token d.before.state.items
      → (by : GivenBy h input (Tells (Request (Some token) m.instance m.header.method m.payload))) × (by.done ≡ d)
  is_given token request d among m same = (
    record {
      done = d;
      among = among;
      brought = at_member (WasBrought h input) trail d (all_brought h input) among;
      holds = (
        m.from,
        m.header,
        m.taken,
        record { service = m.service; offered = m.offered; checked = m.checked; named = refl; numbered = inl (m.kind, ap Some same) },
      );
    },
    refl,
  )
