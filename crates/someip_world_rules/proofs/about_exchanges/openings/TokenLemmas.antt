-- A token is among what a step hands up exactly where a rule of the step gives it.
use Rattle.std.proofs.Common.{◌≡◌, inl, inr, ℕ, List, [], ◌∷◌, Some, Ok, ap, refl, subst, sym, ◌∙◌}
use Rattle.std.specs.List.{Contains}
use Rattle.std.specs.Option.{option_map_or}
use Rattle.std.specs.declared.net.socket_addr.SocketAddrV4.{SocketAddrV4}
use Rattle.sd_core.specs.declared.keys.InstanceId.{InstanceId}
use Rattle.someip_wire.specs.declared.header.Header.{Header}
use Rattle.someip_wire.specs.declared.header.MessageType.TheVariants as kinds
use Rattle.someip_rpc.specs.Requests.{request_fault}
use Rattle.someip_node_rules.specs.declared.output.Output.{Output}
use Rattle.someip_node_rules.specs.declared.output.Output.TheVariants.{Request}
use Rattle.someip_node_rules.specs.histories.History.{History, answers_of}
use Rattle.someip_node_rules.specs.rules.Inputs.{Input}
use Rattle.someip_node_rules.specs.trails.Meanings.{GivenBy, IsRequest, IsTokenFor}
use Rattle.someip_node_rules.specs.rules.Messages.{by_type, oneway_by, request_by, request_to}
use Rattle.someip_node_rules.specs.rules.Outcomes.{nothing}
use Rattle.someip_node_rules.specs.forms.Outputs.{Tells, written}
use Rattle.someip_node_rules.specs.rules.Plans as plans
use Rattle.someip_node_rules.specs.rules.Plans.{Work, rule}
use Rattle.someip_node_rules.specs.steps.Steps.{step}
use Rattle.someip_node_rules.specs.histories.Tables.{Tables, is_up}
use Rattle.someip_node_rules.specs.trails.Trails.{Done, given_by, outcome_of, trail_of}
use Rattle.someip_node_rules.proofs.trails.MeaningLemmas.{all_given, outputs_written, told_from_output}
use Rattle.someip_node_rules.proofs.lists.MemberLemmas.{at_member}
use Rattle.someip_world_rules.proofs.about_exchanges.runs.Among.{among_all, is_among}

-- ---- the rule of a request

module _ (t : Tables) (instance : InstanceId) (from : SocketAddrV4) (header : Header) (payload : List ℕ) (token method : ℕ) where
  -- a rule that hands up a token is that of a REQUEST
  token_request : IsTokenFor header t.server.next (Some token) → (header.kind ≡ kinds.Request) × (token ≡ t.server.next)
  token_request (inl is) = let same = is.1 in (is.0, cc)
  token_request (inr is) = let none = is.1 in absurd cc

  -- what it gives is that
  hands_up : IsRequest header t (Some token) instance method
      → (rule (plans.TakesRequest instance from header payload) t).given ≡ Tells (Request (Some token) instance method payload) ∷ []
  hands_up r =
      let is = token_request r.numbered in
      let fault = request_fault r.service.rules (is_up t instance) header t.server.requests t.server.next in
      ap (λ o. (option_map_or (λ service. request_to instance service from header payload t) o nothing).given) r.offered
      ∙ ap (λ kind. (by_type kind (request_by instance r.service.rules from header payload fault t) (oneway_by instance header payload fault)).given) is.0
      ∙ ap (λ f. (request_by instance r.service.rules from header payload f t).given) r.checked
      ∙ (λ i. Tells (Request (Some (sym is.1 i)) instance (sym r.named i) payload) ∷ [])

-- ---- steps

module _ (h : History) (input : Input) (done : Work History) (happened : step h input ≡ Ok done)
    (token : ℕ) (instance : InstanceId) (method : ℕ) (payload : List ℕ) where
  abbrev up : Output
  up = Request (Some token) instance method payload

  -- a request among the outputs was given with its token
  pub token_given : Contains done.outputs up → GivenBy h input (Tells up)
  token_given among =
      at_member (GivenBy h input) (given_by (trail_of h input)) (Tells up) (all_given h input)
      (told_from_output (given_by (trail_of h input)) up (subst (λ os. Contains os up) (outputs_written h input done happened) among) refl)

  -- and one that is given is among the outputs
  pub given_token : GivenBy h input (Tells up) → Contains done.outputs up
  given_token by =
      let r = by.holds in
      let t : Tables = answers_of by.done.before.state in
      let gives : (outcome_of by.done).given ≡ Tells up ∷ [] =
      ap (λ x. (rule x t).given) r.2 ∙ hands_up t instance r.0 r.1 payload token method r.3 in
      let told : Contains (given_by (trail_of h input)) (Tells up) =
      among_all (λ (d : Done). (outcome_of d).given) (trail_of h input) by.done (Tells up) by.among
      (subst (λ gs. Contains gs (Tells up)) (sym gives) (is_among (Tells up) (Tells up) refl)) in
      subst (λ os. Contains os up) (sym (outputs_written h input done happened))
      (among_all written (given_by (trail_of h input)) (Tells up) up told (is_among up up refl))
