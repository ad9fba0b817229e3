-- The numbers of payloads after a step: those that were given stay, and each is still that of one payload.
use Rattle.std.proofs.Common.{◌≡◌, ℕ, Bool, true, false, cond, if◌then◌else◌, List, slice_get, Option, None, Some, refl, sym, ap, subst, ◌∙◌}
use Rattle.std.specs.FinMap as finite
use Rattle.std.specs.FinMap.{get-insert}
use Rattle.std.specs.Option.{option_map_or}
use Rattle.std.specs.Cmp.{Equal-is}
use Rattle.std.specs.Cmp.Lexicographic.{slice_cmp}
use Rattle.std.specs.Ordering.{eq_by_cmp, nat_cmp}
use Rattle.std.proofs.lemmas.Cmp.{nat_list_cmp_total}
use Rattle.std.proofs.lemmas.Map.Lookups.{exact_bytes}
use Rattle.someip_reassembly.specs.Sent.{is_long}
use Rattle.someip_node_rules.specs.declared.config.Config.{Config}
use Rattle.someip_world_schedule.specs.declared.step.Step.{Step}
use Rattle.someip_world_setup.specs.declared.setup_node.SetupNode.{SetupNode}
use Rattle.someip_world_verdict.specs.Books.{PayloadNumbers}
use Rattle.someip_world_verdict.specs.Booking.{long_payload_of, number_of, numbered, payload_of}
use Rattle.someip_world_verdict.proofs.Kept.{KeepsPayloads, PayloadsGrow}

-- two payloads are the same
abbrev same : List ℕ → List ℕ → Bool
same = eq_by_cmp (slice_cmp nat_cmp)

same_is : (a b : List ℕ) → same a b ≡ true → a ≡ b
same_is a b is = exact_bytes a b ((Equal-is (slice_cmp nat_cmp a b)).0 is)

-- the number of a payload after another was given one
pub number_then : (payloads : PayloadNumbers) (payload : List ℕ) (number : ℕ) (q : List ℕ)
    → finite.get (finite.insert payloads payload number) q ≡ cond (same q payload) (Some number) (finite.get payloads q)
number_then payloads payload number q = get-insert nat_list_cmp_total payloads payload number q

-- ---- numbers stay

module _ (payloads : PayloadNumbers) (n : ℕ) where
  numbered_before : (payload : List ℕ) (number : ℕ) → finite.get payloads payload ≡ Some number → number_of payloads n payload ≡ number
  numbered_before payload number is = ap (λ o. option_map_or (λ k. k) o n) is

  pub numbers_stay : (o : Option (List ℕ)) → PayloadsGrow payloads (numbered n o payloads)
  numbers_stay None payload number is = is
  numbers_stay (Some given) payload number is = number_then payloads given (number_of payloads n given) payload ∙ cases (same payload given) refl
    where
      cases : (b : Bool) → same payload given ≡ b → cond b (Some (number_of payloads n given)) (finite.get payloads payload) ≡ Some number
      cases true e = ap Some (numbered_before given number (ap (finite.get payloads) (sym (same_is payload given e)) ∙ is))
      cases false e = is

-- ---- each is that of one payload

module _ (nodes : List SetupNode) (configs : List Config) (ss : List Step) (payloads : PayloadNumbers) (kept : KeepsPayloads nodes configs ss payloads) (n : ℕ) (s : Step) (here : slice_get ss n ≡ Some s) where
  -- a step with a number sends a payload
  abbrev Has : List ℕ → ℕ → Type 0
  Has payload number = (step : Step) × (slice_get ss number ≡ Some step) × (payload_of step ≡ Some payload)

  -- the payload that a step sends in segments is its payload
  long_is : (payload : List ℕ) (o : Option (List ℕ)) → option_map_or (λ p. if is_long p then Some p else None) o None ≡ Some payload → o ≡ Some payload
  long_is payload None is = absurd cc
  long_is payload (Some p) is = ap Some (cases (is_long p) is)
    where
      cases : (b : Bool) → (if b then Some p else None) ≡ Some payload → p ≡ payload
      cases true e = cc
      cases false e = absurd cc

  own_number : (payload : List ℕ) → payload_of s ≡ Some payload → (o : Option ℕ) → finite.get payloads payload ≡ o → Has payload (option_map_or (λ k. k) o n)
  own_number payload sends None at = (s, here, sends)
  own_number payload sends (Some number) at = kept payload number at

  given_number : (given payload : List ℕ) (number : ℕ) → payload_of s ≡ Some given → (b : Bool) → same payload given ≡ b
      → cond b (Some (number_of payloads n given)) (finite.get payloads payload) ≡ Some number → Has payload number
  given_number given payload number sends true e is =
      let one : number_of payloads n given ≡ number = cc in
      subst (λ q. Has q number) (sym (same_is payload given e)) (subst (Has given) one (own_number given sends (finite.get payloads given) refl))
  given_number given payload number sends false e is = kept payload number is

  with_given : (o : Option (List ℕ)) → long_payload_of s ≡ o → KeepsPayloads nodes configs ss (numbered n o payloads)
  with_given None long payload number is = kept payload number is
  with_given (Some given) long payload number is =
      given_number given payload number (long_is given (payload_of s) long) (same payload given) refl (sym (number_then payloads given (number_of payloads n given) payload) ∙ is)

  pub numbers_kept : KeepsPayloads nodes configs ss (numbered n (long_payload_of s) payloads)
  numbers_kept = with_given (long_payload_of s) refl
