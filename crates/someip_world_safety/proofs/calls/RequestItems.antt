-- Which requests are open once more was met: a token is given once, and what is open was open before or is handed up by a rule.
use Rattle.std.proofs.Common.{◌≡◌, ◌⊎◌, inl, inr, ℕ, ◌<◌, ◌≤◌, Bool, true, false, if◌then◌else◌, List, [], ◌∷◌, None, Some, arith, refl, sym, ap, ◌∙◌}
use Rattle.std.specs.List.{AllByRecursion}
use Rattle.std.specs.Option.{option_map_or}
use Rattle.std.specs.Ordering.{eq_by_cmp, nat_cmp}
use Rattle.std.proofs.lemmas.Map.Lookups.{exact_unsigned}
use Rattle.someip_tables.proofs.Entries.{same_by_test}
use Rattle.someip_rpc.specs.declared.request.Asked.{Asked}
use Rattle.someip_rpc.specs.Requests.{request_fault}
use Rattle.someip_node_rules.specs.histories.CallQuestions.{next_token, open_request_at}
use Rattle.someip_node_rules.specs.histories.History.{History, met}
use Rattle.someip_node_rules.specs.histories.Items as items
use Rattle.someip_node_rules.specs.histories.Items.{Item}
use Rattle.someip_node_rules.specs.trails.Meetings.{IsMet, IsRequestedBy}
use Rattle.someip_node_rules.specs.rules.Messages.{by_type, oneway_by, request_by, request_to}
use Rattle.someip_node_rules.specs.rules.Outcomes.{nothing}
use Rattle.someip_node_rules.specs.rules.Plans.{Rule, rule}
use Rattle.someip_node_rules.specs.histories.Tables.{Tables, is_up}
use Rattle.someip_node_rules.specs.trails.Trails.{after}
use Rattle.someip_node_rules.proofs.trails.MeetingLemmas.{rule_noted}

-- ---- tokens

-- an item more gives no smaller next token
next_on : (x : Item) (xs : List Item) → next_token xs ≤ next_token (x ∷ xs)
next_on (items.Requested request) xs = omega arith
next_on x xs = omega arith

-- nor do several
pub next_grows : (h : History) (xs : List Item) → next_token h.items ≤ next_token (after h xs).items
next_grows h [] = omega arith
next_grows h (x ∷ xs) =
    let here = next_on x h.items in
    let rest = next_grows (met h x) xs in
    omega (arith, here, rest)

-- the token of an open request was given
pub open_below : (xs : List Item) (token : ℕ) (request : Asked) → open_request_at xs token ≡ Some request → token < next_token xs
open_below [] token request is = absurd cc
open_below (items.Requested own ∷ before) token request is = cases (eq_by_cmp nat_cmp token (next_token before)) refl is (open_below before token request)
  where
    cases : (b : Bool) → eq_by_cmp nat_cmp token (next_token before) ≡ b → (if b then Some own else open_request_at before token) ≡ Some request
        → (open_request_at before token ≡ Some request → token < next_token before) → token < next_token (items.Requested own ∷ before)
    cases true same e rest = let one : token ≡ next_token before = same_by_test exact_unsigned token (next_token before) same in omega (arith, one)
    cases false same e rest = let less = rest e in omega (arith, less)
open_below (items.Answered own ∷ before) token request is = cases (eq_by_cmp nat_cmp token own) is (open_below before token request)
  where
    cases : (b : Bool) → (if b then None else open_request_at before token) ≡ Some request → (open_request_at before token ≡ Some request → token < next_token before) → token < next_token (items.Answered own ∷ before)
    cases true e rest = absurd cc
    cases false e rest = rest e
open_below (x ∷ before) token request is = open_below before token request is

-- ---- items that hand up no request

-- an item is none by which a request is handed up
abbrev pub is_quiet : Item → Bool
is_quiet (items.Requested request) = false
is_quiet item = true

-- nor is any of several
abbrev pub AllQuiet : List Item → Type 0
AllQuiet xs = AllByRecursion (λ x. is_quiet x ≡ true) xs

-- what is open after such an item was open before
quiet_back : (x : Item) (before : List Item) (token : ℕ) (request : Asked) → is_quiet x ≡ true → open_request_at (x ∷ before) token ≡ Some request → open_request_at before token ≡ Some request
quiet_back (items.Requested own) before token request quiet is = absurd cc
quiet_back (items.Answered own) before token request quiet is = cases (eq_by_cmp nat_cmp token own) is
  where
    cases : (b : Bool) → (if b then None else open_request_at before token) ≡ Some request → open_request_at before token ≡ Some request
    cases true e = absurd cc
    cases false e = e
quiet_back x before token request quiet is = is

-- and so after several
pub quiet_after : (xs : List Item) (h : History) (token : ℕ) (request : Asked) → AllQuiet xs → open_request_at (after h xs).items token ≡ Some request → open_request_at h.items token ≡ Some request
quiet_after [] h token request all is = is
quiet_after (x ∷ xs) h token request all is = quiet_back x h.items token request all.0 (quiet_after xs (met h x) token request all.1 is)

-- ---- what a rule meets

-- no request, or one that it hands up, alone
pub data Kinds (r : Rule) (t : Tables) : Type 0 where
  Quiet : AllQuiet (rule r t).items → Kinds r t
  Hands : (request : Asked) → IsRequestedBy r t request → (rule r t).items ≡ items.Requested request ∷ [] → Kinds r t

module _ (r : Rule) (t : Tables) where
  -- a rule that hands up a request meets nothing else
  request_alone : (request : Asked) → IsRequestedBy r t request → (rule r t).items ≡ items.Requested request ∷ []
  request_alone request m =
      let fault = request_fault m.service.rules (is_up t m.instance) m.header t.server.requests t.server.next in
      ap (λ x. (rule x t).items) m.taken
      ∙ ap (λ o. (option_map_or (λ service. request_to m.instance service m.from m.header m.payload t) o nothing).items) m.offered
      ∙ ap (λ kind. (by_type kind (request_by m.instance m.service.rules m.from m.header m.payload fault t) (oneway_by m.instance m.header m.payload fault)).items) m.kind
      ∙ ap (λ f. (request_by m.instance m.service.rules m.from m.header m.payload f t).items) m.checked
      ∙ ap (λ x. items.Requested x ∷ []) (sym m.is)

  -- a request is handed up
  abbrev IsHandedUp : Type 0
  IsHandedUp = (request : Asked) × IsRequestedBy r t request

  -- of one item
  one_kind : (x : Item) → IsMet x r t → (is_quiet x ≡ true) ⊎ IsHandedUp
  one_kind (items.Requested request) m = inr (request, m)
  one_kind x m = inl refl

  -- of several
  some_kind : (xs : List Item) → AllByRecursion (λ x. IsMet x r t) xs → AllQuiet xs ⊎ IsHandedUp
  some_kind [] all = inl tt
  some_kind (x ∷ xs) all = both (one_kind x all.0) (some_kind xs all.1)
    where
      both : (is_quiet x ≡ true) ⊎ IsHandedUp → AllQuiet xs ⊎ IsHandedUp → AllQuiet (x ∷ xs) ⊎ IsHandedUp
      both (inl one) (inl rest) = inl (one, rest)
      both (inr up) rest = inr up
      both (inl one) (inr up) = inr up

  -- of all that a rule meets
  pub kinds_of : Kinds r t
  kinds_of = cases (some_kind (rule r t).items (rule_noted t r))
    where
      cases : AllQuiet (rule r t).items ⊎ IsHandedUp → Kinds r t
      cases (inl all) = Quiet all
      cases (inr up) = Hands up.0 up.1 (request_alone up.0 up.1)
