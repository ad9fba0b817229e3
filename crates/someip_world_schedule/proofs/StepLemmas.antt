-- Steps by how many words they have.
use Rattle.std.proofs.Common.{◌≡◌, ℕ, List, [], ◌∷◌, length, get_or, map, None, Bor, refl, arith}
use Rattle.someip_rpc.specs.declared.call.CallKind.{CallKind}
use Rattle.someip_world_schedule.specs.Steps.{call_step, Answered, answer_step, publish_step, publish_to_step, inject_step}

-- what the words of a list stand for
abbrev pub texts : List (Bor (List ℕ)) → List (List ℕ)
texts words = map (λ w. w.now) words

-- what `slice_index` gives past the end of a list of words
abbrev pub past : Bor (List ℕ)
past = record { ref_ptr = (0, 0); now = [] }

-- a list of two words
pub two : (ws : List (Bor (List ℕ))) → length ws ≡ 2 → texts ws ≡ (get_or ws 0 past).now ∷ (get_or ws 1 past).now ∷ []
two [] h = absurd (omega (arith, h))
two (a ∷ []) h = absurd (omega (arith, h))
two (a ∷ b ∷ []) h = refl
two (a ∷ b ∷ c ∷ ws) h = absurd (omega (arith, h))

-- a list of three words
pub three : (ws : List (Bor (List ℕ))) → length ws ≡ 3 → texts ws ≡ (get_or ws 0 past).now ∷ (get_or ws 1 past).now ∷ (get_or ws 2 past).now ∷ []
three [] h = absurd (omega (arith, h))
three (a ∷ []) h = absurd (omega (arith, h))
three (a ∷ b ∷ []) h = absurd (omega (arith, h))
three (a ∷ b ∷ c ∷ []) h = refl
three (a ∷ b ∷ c ∷ e ∷ ws) h = absurd (omega (arith, h))

-- a list of four words
pub four : (ws : List (Bor (List ℕ))) → length ws ≡ 4
    → texts ws ≡ (get_or ws 0 past).now ∷ (get_or ws 1 past).now ∷ (get_or ws 2 past).now ∷ (get_or ws 3 past).now ∷ []
four [] h = absurd (omega (arith, h))
four (a ∷ []) h = absurd (omega (arith, h))
four (a ∷ b ∷ []) h = absurd (omega (arith, h))
four (a ∷ b ∷ c ∷ []) h = absurd (omega (arith, h))
four (a ∷ b ∷ c ∷ e ∷ []) h = refl
four (a ∷ b ∷ c ∷ e ∷ f ∷ ws) h = absurd (omega (arith, h))

-- a list of six words
pub six : (ws : List (Bor (List ℕ))) → length ws ≡ 6
    → texts ws ≡ (get_or ws 0 past).now ∷ (get_or ws 1 past).now ∷ (get_or ws 2 past).now ∷ (get_or ws 3 past).now ∷ (get_or ws 4 past).now ∷ (get_or ws 5 past).now ∷ []
six [] h = absurd (omega (arith, h))
six (a ∷ []) h = absurd (omega (arith, h))
six (a ∷ b ∷ []) h = absurd (omega (arith, h))
six (a ∷ b ∷ c ∷ []) h = absurd (omega (arith, h))
six (a ∷ b ∷ c ∷ e ∷ []) h = absurd (omega (arith, h))
six (a ∷ b ∷ c ∷ e ∷ f ∷ []) h = absurd (omega (arith, h))
six (a ∷ b ∷ c ∷ e ∷ f ∷ g ∷ []) h = refl
six (a ∷ b ∷ c ∷ e ∷ f ∷ g ∷ i ∷ ws) h = absurd (omega (arith, h))

-- other numbers of words spell no such step
pub no_call : (kind : CallKind) (ws : List (Bor (List ℕ))) → (length ws ≡ 4 → ⊥) → call_step kind (texts ws) ≡ None
no_call kind [] h = refl
no_call kind (a ∷ []) h = refl
no_call kind (a ∷ b ∷ []) h = refl
no_call kind (a ∷ b ∷ c ∷ []) h = refl
no_call kind (a ∷ b ∷ c ∷ e ∷ []) h = absurd (h refl)
no_call kind (a ∷ b ∷ c ∷ e ∷ f ∷ ws) h = refl

pub no_answer : (reply : Answered) (ws : List (Bor (List ℕ))) → (length ws ≡ 4 → ⊥) → answer_step reply (texts ws) ≡ None
no_answer reply [] h = refl
no_answer reply (a ∷ []) h = refl
no_answer reply (a ∷ b ∷ []) h = refl
no_answer reply (a ∷ b ∷ c ∷ []) h = refl
no_answer reply (a ∷ b ∷ c ∷ e ∷ []) h = absurd (h refl)
no_answer reply (a ∷ b ∷ c ∷ e ∷ f ∷ ws) h = refl

pub no_publish : (ws : List (Bor (List ℕ))) → (length ws ≡ 4 → ⊥) → publish_step (texts ws) ≡ None
no_publish [] h = refl
no_publish (a ∷ []) h = refl
no_publish (a ∷ b ∷ []) h = refl
no_publish (a ∷ b ∷ c ∷ []) h = refl
no_publish (a ∷ b ∷ c ∷ e ∷ []) h = absurd (h refl)
no_publish (a ∷ b ∷ c ∷ e ∷ f ∷ ws) h = refl

pub no_inject : (ws : List (Bor (List ℕ))) → (length ws ≡ 4 → ⊥) → inject_step (texts ws) ≡ None
no_inject [] h = refl
no_inject (a ∷ []) h = refl
no_inject (a ∷ b ∷ []) h = refl
no_inject (a ∷ b ∷ c ∷ []) h = refl
no_inject (a ∷ b ∷ c ∷ e ∷ []) h = absurd (h refl)
no_inject (a ∷ b ∷ c ∷ e ∷ f ∷ ws) h = refl

pub no_publish_to : (ws : List (Bor (List ℕ))) → (length ws ≡ 6 → ⊥) → publish_to_step (texts ws) ≡ None
no_publish_to [] h = refl
no_publish_to (a ∷ []) h = refl
no_publish_to (a ∷ b ∷ []) h = refl
no_publish_to (a ∷ b ∷ c ∷ []) h = refl
no_publish_to (a ∷ b ∷ c ∷ e ∷ []) h = refl
no_publish_to (a ∷ b ∷ c ∷ e ∷ f ∷ []) h = refl
no_publish_to (a ∷ b ∷ c ∷ e ∷ f ∷ g ∷ []) h = absurd (h refl)
no_publish_to (a ∷ b ∷ c ∷ e ∷ f ∷ g ∷ i ∷ ws) h = refl
