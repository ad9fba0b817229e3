-- The tokens that the lines of a step tell of, and what is kept of them.
use Rattle.std.proofs.Common.{◌≡◌, ℕ, Bool, true, false, ◌||◌, cond, List, [], ◌∷◌, arith, Option, None, Some, Ok, refl, sym, ap, subst, ◌∙◌}
use Rattle.std.specs.Cmp.{nat_cmp_total}
use Rattle.std.specs.FinMap as finite
use Rattle.std.specs.FinMap.{FinMap, get-insert}
use Rattle.std.specs.List.{AllByRecursion, Contains, cons_option, list_any}
use Rattle.std.specs.Ordering.{eq_by_cmp, nat_cmp}
use Rattle.std.proofs.lemmas.Bool.{or_parts}
use Rattle.std.proofs.lemmas.List.Elements.{Contains-append_right, Contains-get_or}
use Rattle.std.proofs.lemmas.Map.Lookups.{exact_unsigned}
use Rattle.someip_tables.proofs.Entries.{own_test, same_by_test}
use Rattle.sd_core.specs.declared.keys.InstanceId.{InstanceId}
use Rattle.someip_node_rules.specs.declared.output.Output.{Output}
use Rattle.someip_node_rules.specs.declared.output.Output.TheVariants.{Request}
use Rattle.someip_node_rules.specs.histories.History.{History}
use Rattle.someip_node_rules.specs.rules.Inputs.{Input}
use Rattle.someip_node_rules.proofs.lists.MemberLemmas.{at_member}
use Rattle.someip_world_schedule.specs.declared.step.Step.{Step}
use Rattle.someip_world_schedule.specs.declared.step.Step.TheVariants as steps
use Rattle.someip_world_rules.specs.Runs.{told_lines}
use Rattle.someip_world_rules.specs.declared.line.Line.{Line}
use Rattle.someip_world_rules.specs.declared.line.Told.TheVariants.{Gave}
use Rattle.someip_world_verdict.specs.Books.{LifeKept, NoteKept, note_at}
use Rattle.someip_world_verdict.specs.Booking.{Publication, arrived, arrived_with, handed_up, life_on, published_session, token_in, tokens_told}
use Rattle.someip_world_verdict.specs.declared.stream.Stream.{Stream}
use Rattle.someip_world_verdict.proofs.StepInputs.{IsInputOf}

-- two tokens are the same
abbrev same : ℕ → ℕ → Bool
same = eq_by_cmp nat_cmp

-- a token is one of some
abbrev pub is_told : ℕ → List ℕ → Bool
is_told token told = list_any (same token) told

-- ---- what is kept of a token

-- what is so in either case
either : {X : Type 0} (a b : Bool) (x y : X) → cond b x (cond a x y) ≡ cond (a || b) x y
either true true x y = refl
either true false x y = refl
either false true x y = refl
either false false x y = refl

-- what is kept of a token after all that are told of
handed_then : (sent : ℕ) (told : List ℕ) (tokens : FinMap nat_cmp ℕ) (token : ℕ)
    → finite.get (handed_up (Some sent) told tokens) token ≡ cond (is_told token told) (Some sent) (finite.get tokens token)
handed_then sent [] tokens token = refl
handed_then sent (t ∷ told) tokens token =
    handed_then sent told (finite.insert tokens t sent) token
    ∙ ap (cond (is_told token told) (Some sent)) (get-insert nat_cmp_total tokens t sent token)
    ∙ either (same token t) (is_told token told) (Some sent) (finite.get tokens token)

-- one that is told of is kept with the step that sent its request
pub handed_told : (o : Option ℕ) (sent : ℕ) → o ≡ Some sent → (told : List ℕ) (tokens : FinMap nat_cmp ℕ) (token : ℕ) → is_told token told ≡ true
    → finite.get (handed_up o told tokens) token ≡ Some sent
handed_told o sent answered told tokens token is =
    ap (λ x. finite.get (handed_up x told tokens) token) answered ∙ handed_then sent told tokens token ∙ ap (λ b. cond b (Some sent) (finite.get tokens token)) is

-- any other stays
pub handed_other : (o : Option ℕ) (told : List ℕ) (tokens : FinMap nat_cmp ℕ) (token : ℕ) → is_told token told ≡ false
    → finite.get (handed_up o told tokens) token ≡ finite.get tokens token
handed_other None told tokens token is = refl
handed_other (Some sent) told tokens token is = handed_then sent told tokens token ∙ ap (λ b. cond b (Some sent) (finite.get tokens token)) is

-- ---- what is told of tokens

-- the request of a token
token_request : (o : Output) (token : ℕ) → token_in (Gave o) ≡ Some token
    → (instance : InstanceId) × (method : ℕ) × (payload : List ℕ) × (o ≡ Request (Some token) instance method payload)
token_request (Request t instance method payload) token is = (instance, method, payload, ap (λ x. Request x instance method payload) is)
token_request o token is = absurd cc

module _ (index place token : ℕ) where
  abbrev pub tokens_of : List Output → List ℕ
  tokens_of outputs = tokens_told (told_lines index place (Ok outputs))

  -- the request of the token is among some outputs
  abbrev IsUp : List Output → Type 0
  IsUp outputs = (instance : InstanceId) × (method : ℕ) × (payload : List ℕ) × Contains outputs (Request (Some token) instance method payload)

  later_up : (o : Output) (outputs : List Output) → IsUp outputs → IsUp (o ∷ outputs)
  later_up o outputs up = (up.0, up.1, up.2, Contains-append_right (o ∷ []) outputs (Request (Some token) up.0 up.1 up.2) up.3)

  first_up : (o : Output) (outputs : List Output) → token_in (Gave o) ≡ Some token → IsUp (o ∷ outputs)
  first_up o outputs is =
      let r = token_request o token is in
      (r.0, r.1, r.2, subst (Contains (o ∷ outputs)) r.3 (Contains-get_or (o ∷ outputs) 0 o (omega arith)))

  -- a token that is told of is that of a request among the outputs
  pub told_output : (outputs : List Output) → is_told token (tokens_of outputs) ≡ true → IsUp outputs
  told_output [] is = absurd cc
  told_output (o ∷ outputs) is = cases (token_in (Gave o)) refl is (told_output outputs)
    where
      by_test : (t : ℕ) → token_in (Gave o) ≡ Some t → (b : Bool) → same token t ≡ b → (b || is_told token (tokens_of outputs)) ≡ true → (is_told token (tokens_of outputs) ≡ true → IsUp outputs)
          → IsUp (o ∷ outputs)
      by_test t at true own e rest = first_up o outputs (at ∙ ap Some (sym (same_by_test exact_unsigned token t own)))
      by_test t at false own e rest = later_up o outputs (rest e)

      cases : (t : Option ℕ) → token_in (Gave o) ≡ t → is_told token (cons_option t (tokens_of outputs)) ≡ true → (is_told token (tokens_of outputs) ≡ true → IsUp outputs) → IsUp (o ∷ outputs)
      cases None at e rest = later_up o outputs (rest e)
      cases (Some t) at e rest = by_test t at (same token t) refl e rest

  -- an output is no request of the token
  abbrev HasNot : Output → Type 0
  HasNot o = token_in (Gave o) ≡ Some token → ⊥

  -- where it is not told of, no output is its request
  untold : (outputs : List Output) → is_told token (tokens_of outputs) ≡ false → AllByRecursion HasNot outputs
  untold [] is = tt
  untold (o ∷ outputs) is = cases (token_in (Gave o)) refl is (untold outputs)
    where
      cases : (t : Option ℕ) → token_in (Gave o) ≡ t → is_told token (cons_option t (tokens_of outputs)) ≡ false → (is_told token (tokens_of outputs) ≡ false → AllByRecursion HasNot outputs)
          → AllByRecursion HasNot (o ∷ outputs)
      cases None at e rest = ((λ up. absurd cc), rest e)
      cases (Some t) at e rest =
          let parts = or_parts (same token t) (is_told token (tokens_of outputs)) e in
          let apart = parts.0 in
          ((λ up. let one : t ≡ token = cc in let own : same token t ≡ true = ap (same token) one ∙ own_test nat_cmp_total token in absurd cc), rest parts.1)

  -- and a request among the outputs is told of
  pub output_told : (outputs : List Output) (instance : InstanceId) (method : ℕ) (payload : List ℕ) → is_told token (tokens_of outputs) ≡ false
      → Contains outputs (Request (Some token) instance method payload) → ⊥
  output_told outputs instance method payload is among =
      at_member HasNot outputs (Request (Some token) instance method payload) (untold outputs is) among refl

-- ---- what a step does before it gives anything

-- a publication leaves the tokens
pub published_tokens : (o : Option Publication) (life : LifeKept) → (published_session o life).tokens ≡ life.tokens
published_tokens None life = refl
published_tokens (Some p) life = refl

-- and so does what comes
arrived_tokens : (stream : Option Stream) (payload : Option ℕ) (life : LifeKept) → (arrived stream payload life).tokens ≡ life.tokens
arrived_tokens None payload life = refl
arrived_tokens (Some stream) None life = refl
arrived_tokens (Some stream) (Some payload) life = refl

arrived_with_tokens : (note : Option NoteKept) (life : LifeKept) → (arrived_with note life).tokens ≡ life.tokens
arrived_with_tokens None life = refl
arrived_with_tokens (Some note) life = arrived_tokens note.stream note.payload life

-- and any other input
pub tokens_on : (h : History) (lines : List Line) (input : Input) (notes : List NoteKept) (life : LifeKept) (s : Step) → IsInputOf h lines input s
    → (life_on notes life s).tokens ≡ life.tokens
tokens_on h lines input notes life (steps.Tick node ms) is = refl
tokens_on h lines input notes life (steps.Deliver number node) is = arrived_with_tokens (note_at notes number) life
tokens_on h lines input notes life (steps.Call node kind instance method payload) is = refl
tokens_on h lines input notes life (steps.Answer node token reply payload) is = refl
tokens_on h lines input notes life (steps.Publish node instance event payload) is = refl
tokens_on h lines input notes life (steps.PublishTo node group to event payload) is = refl
tokens_on h lines input notes life (steps.Subscribe node group) is = refl
tokens_on h lines input notes life (steps.Unsubscribe node group) is = refl
tokens_on h lines input notes life (steps.StopOffer node instance) is = refl
tokens_on h lines input notes life (steps.Restart node delay) is = absurd is
tokens_on h lines input notes life (steps.Inject node port to payload) is = absurd is
