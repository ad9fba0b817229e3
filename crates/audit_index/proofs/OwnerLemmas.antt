-- What addresses own, as values come and go.
use Rattle.std.proofs.Common.{◌≡◌, ◌⊎◌, inl, inr, ℕ, Bool, true, false, cond, not, ◌||◌, Option, None, Some, refl, ap, sym, subst, ◌∙◌}
use Rattle.std.specs.declared.cmp.Ordering.{Ordering}
use Rattle.std.specs.declared.cmp.Ordering.TheVariants.{Less, Equal, Greater}
use Rattle.std.specs.declared.net.ipv4_addr.Ipv4Addr.{Ipv4Addr}
use Rattle.std.specs.Ordering.{eq_by_cmp, is_eq, ordering_then}
use Rattle.std.specs.Cmp.{IsTotalOrder, tied_itself}
use Rattle.std.specs.FinMap.{FinMap, IsAntisymmetric, empty, get, insert, remove, get-empty, get-insert, get-remove, same_map}
use Rattle.std.proofs.lemmas.Bool.{or_left, or_right}
use Rattle.someip_tables.specs.Endpoints.{address_cmp}
use Rattle.someip_tables.specs.EndpointOrder.{addresses_total, exact_addresses}
use Rattle.someip_tables.specs.Retained.{kept_if, retain}
use Rattle.someip_tables.specs.hashed.Dues.{WantsMemory}
use Rattle.someip_tables.proofs.Entries.{get-retain, own_test, same_by_test}
use Rattle.audit_index.specs.Owners.{AreOwned, AreOwnedBut, IsLeftAlone, IsLess, WantsRoom, is_owned}
use Rattle.audit_index.specs.Slots.{is_same_slot}

-- ---- slots

then_eq : (a b : Ordering) → is_eq (ordering_then a b) ≡ true → (is_eq a ≡ true) × (is_eq b ≡ true)
then_eq Equal b is = (refl, is)
then_eq Less b is = absurd (cc)
then_eq Greater b is = absurd (cc)

-- a slot that is another has its key
pub same_key : {K : Type 0} (R : K → K → Ordering) (place : Ipv4Addr) (key : K) (other : Ipv4Addr) (at : K) → is_same_slot address_cmp R place key other at ≡ true
    → (eq_by_cmp address_cmp place other ≡ true) × (eq_by_cmp R key at ≡ true)
same_key R place key other at is = then_eq (address_cmp place other) (R key at) is

-- a slot is itself
pub slot_itself : {K : Type 0} {R : K → K → Ordering} (o : IsTotalOrder R) (place : Ipv4Addr) (key : K) → is_same_slot address_cmp R place key place key ≡ true
slot_itself {R = R} o place key = ap (λ r. is_eq (ordering_then r (R key key))) (tied_itself addresses_total place) ∙ own_test o key

either_true : (a b : Bool) → (a || b) ≡ true → (a ≡ true) ⊎ (b ≡ true)
either_true true b is = inl refl
either_true false b is = inr is

-- what stays where one slot is set
pub stays : {K : Type 0} (R : K → K → Ordering) (value : Bool) (place : Ipv4Addr) (key : K) (before after : Ipv4Addr → K → Bool)
    → ((other : Ipv4Addr) (at : K) → after other at ≡ cond (is_same_slot address_cmp R place key other at) value (before other at))
    → (other : Ipv4Addr) (at : K) → (is_same_slot address_cmp R place key other at ≡ true → value ≡ true) → before other at ≡ true → after other at ≡ true
stays R value place key before after set other at same there = set other at ∙ cases (is_same_slot address_cmp R place key other at) refl
  where
    cases : (b : Bool) → is_same_slot address_cmp R place key other at ≡ b → cond b value (before other at) ≡ true
    cases true is = same is
    cases false is = there

-- where a key is taken from a place, others stay
pub alone : {K : Type 0} (R : K → K → Ordering) (place : Ipv4Addr) (key : K) (before after : Ipv4Addr → K → Bool)
    → ((other : Ipv4Addr) (at : K) → after other at ≡ cond (is_same_slot address_cmp R place key other at) false (before other at)) → IsLeftAlone R key before after
alone R place key before after set other at differs there =
    stays R false place key before after set other at (λ is. let same = (same_key R place key other at is).1 in absurd (cc)) there

-- and so does the key at an address that is another
pub elsewhere : {K : Type 0} (R : K → K → Ordering) (place : Ipv4Addr) (key : K) (before after : Ipv4Addr → K → Bool)
    → ((other : Ipv4Addr) (at : K) → after other at ≡ cond (is_same_slot address_cmp R place key other at) false (before other at))
    → (owner : Ipv4Addr) → eq_by_cmp address_cmp owner place ≡ false → before owner key ≡ true → after owner key ≡ true
elsewhere R place key before after set owner differs there =
    stays R false place key before after set owner key
    (λ is.
    let same : place ≡ owner = same_by_test exact_addresses place owner (same_key R place key owner key is).0 in
    let itself : eq_by_cmp address_cmp owner place ≡ true = ap (eq_by_cmp address_cmp owner) same ∙ own_test addresses_total owner in
    absurd (cc)) there

pub neither : (a b : Bool) → (a || b) ≡ false → (a ≡ false) × (b ≡ false)
neither true b is = absurd (cc)
neither false b is = (refl, is)

module _ {K V : Type 0} {R : K → K → Ordering} (o : IsTotalOrder R) (exact : IsAntisymmetric R) (owners : K → V → Ipv4Addr × Ipv4Addr) where
  -- an empty table has none
  pub none_owned : (there : Ipv4Addr → K → Bool) (m : FinMap R V) → m ≡ empty → AreOwned owners there m
  none_owned there m is key value found = let none : get m key ≡ None = ap (λ n. get n key) is ∙ get-empty R key in absurd (cc)

  pub owned_more : (before after : Ipv4Addr → K → Bool) (m : FinMap R V) → ((address : Ipv4Addr) (key : K) → before address key ≡ true → after address key ≡ true) → AreOwned owners before m → AreOwned owners after m
  owned_more before after m kept owned key value found = let there = owned key value found in (kept _ _ there.0, kept _ _ there.1)

  -- memory is wanted for owners for which a key is not there
  pub wants_owners : (moment : V → Option ℕ) (there : Ipv4Addr → K → Bool) (m : FinMap R V) (key : K) (value : V) → AreOwned owners there m
      → (there (owners key value).0 key ≡ false) ⊎ (there (owners key value).1 key ≡ false) → WantsRoom owners moment key (get m key) value
  wants_owners moment there m key value owned lacks = cases (get m key) refl
    where
      lacking : (there (owners key value).0 key ≡ false) ⊎ (there (owners key value).1 key ≡ false) → there (owners key value).0 key ≡ true → there (owners key value).1 key ≡ true → ⊥
      lacking (inl less) first second = cc
      lacking (inr less) first second = cc

      cases : (v : Option V) → get m key ≡ v → WantsRoom owners moment key v value
      cases None found = tt
      cases (Some earlier) found = inl (λ same.
          let both = owned key earlier found in
          let first : there (owners key value).0 key ≡ true = ap (λ p. there p.0 key) (sym same) ∙ both.0 in
          let second : there (owners key value).1 key ≡ true = ap (λ p. there p.1 key) (sym same) ∙ both.1 in
          lacking lacks first second)

  pub wants_moment : (moment : V → Option ℕ) (key : K) (value : V) (earlier : Option V) → WantsMemory moment earlier (moment value) → WantsRoom owners moment key earlier value
  wants_moment moment key value None wants = tt
  wants_moment moment key value (Some earlier) wants = inr wants

  -- a value is put under a key that is there for its owners
  pub owned_insert : (before after : Ipv4Addr → K → Bool) (m n : FinMap R V) (key : K) (value : V) → n ≡ insert m key value → AreOwned owners before m → IsLeftAlone R key before after
      → after (owners key value).0 key ≡ true → after (owners key value).1 key ≡ true → AreOwned owners after n
  owned_insert before after m n key value put owned alone first second other held found =
      cases (eq_by_cmp R other key) refl (sym (get-insert o m key value other) ∙ ap (λ k. get k other) (sym put) ∙ found)
    where
      cases : (t : Bool) → eq_by_cmp R other key ≡ t → cond t (Some value) (get m other) ≡ Some held → (after (owners other held).0 other ≡ true) × (after (owners other held).1 other ≡ true)
      cases true is same =
          let key_is : other ≡ key = same_by_test exact other key is in
          let value_is : value ≡ held = inside value held same in (
            subst (λ v. after (owners other v).0 other ≡ true) value_is (subst (λ k. after (owners k value).0 k ≡ true) (sym key_is) first),
            subst (λ v. after (owners other v).1 other ≡ true) value_is (subst (λ k. after (owners k value).1 k ≡ true) (sym key_is) second),
          )
        where
          inside : (x y : V) → Some x ≡ Some y → x ≡ y
          inside x y e = cc
      cases false is same =
          let there = owned other held same in
          let differs : eq_by_cmp R key other ≡ false = turned other is in
          (alone _ other differs there.0, alone _ other differs there.1)
        where
          turned : (k : K) → eq_by_cmp R k key ≡ false → eq_by_cmp R key k ≡ false
          turned k differs = by (eq_by_cmp R key k) refl
            where
              by : (b : Bool) → eq_by_cmp R key k ≡ b → b ≡ false
              by false e = refl
              by true e = let same : key ≡ k = same_by_test exact key k e in let itself : eq_by_cmp R k key ≡ true = ap (eq_by_cmp R k) same ∙ own_test o k in cc

  -- a key is taken out
  pub owned_remove : (before after : Ipv4Addr → K → Bool) (m n : FinMap R V) (key : K) → n ≡ remove m key → ((other : K) (value : V) → eq_by_cmp R key other ≡ false → get m other ≡ Some value
      → (before (owners other value).0 other ≡ true) × (before (owners other value).1 other ≡ true)) → IsLeftAlone R key before after → AreOwned owners after n
  owned_remove before after m n key taken owned alone other held found =
      cases (eq_by_cmp R other key) refl (sym (get-remove o m key other) ∙ ap (λ k. get k other) (sym taken) ∙ found)
    where
      cases : (t : Bool) → eq_by_cmp R other key ≡ t → cond t None (get m other) ≡ Some held → (after (owners other held).0 other ≡ true) × (after (owners other held).1 other ≡ true)
      cases true is same = absurd (cc)
      cases false is same =
          let differs : eq_by_cmp R key other ≡ false = turned (eq_by_cmp R key other) refl in
          let there = owned other held differs same in
          (alone _ other differs there.0, alone _ other differs there.1)
        where
          turned : (b : Bool) → eq_by_cmp R key other ≡ b → b ≡ false
          turned false e = refl
          turned true e = let one : key ≡ other = same_by_test exact key other e in let itself : eq_by_cmp R other key ≡ true = ap (eq_by_cmp R other) one ∙ own_test o other in cc

  -- ---- an address is forgotten

  -- a key that was taken from the address
  pub taken_from : (before after : Ipv4Addr → K → Bool) (m : FinMap R V) (address : Ipv4Addr) (key : K) → AreOwned owners before m
      → ((other : Ipv4Addr) (at : K) → after other at ≡ cond (is_same_slot address_cmp R address key other at) false (before other at)) → AreOwnedBut owners address key after m
  taken_from before after m address key owned set other held found =
      let there = owned other held found in
      cases (is_same_slot address_cmp R address key (owners other held).0 other) (is_same_slot address_cmp R address key (owners other held).1 other) refl refl there.0 there.1
    where
      owner : (place : Ipv4Addr) → is_same_slot address_cmp R address key place other ≡ true → eq_by_cmp address_cmp place address ≡ true
      owner place is =
          let same : address ≡ place = same_by_test exact_addresses address place (same_key R address key place other is).0 in
          ap (eq_by_cmp address_cmp place) same ∙ own_test addresses_total place

      cases : (a b : Bool) → is_same_slot address_cmp R address key (owners other held).0 other ≡ a → is_same_slot address_cmp R address key (owners other held).1 other ≡ b
          → before (owners other held).0 other ≡ true → before (owners other held).1 other ≡ true
          → ((eq_by_cmp R key other ≡ true) × (is_owned owners address other held ≡ true)) ⊎ ((after (owners other held).0 other ≡ true) × (after (owners other held).1 other ≡ true))
      cases true b x y there then = inl ((same_key R address key _ other x).1, or_left _ _ (owner _ x))
      cases false true x y there then = inl ((same_key R address key _ other y).1, or_right _ _ (owner _ y))
      cases false false x y there then = inr (set _ other ∙ rw x there, set _ other ∙ rw y then)

  -- it goes where the address owns it
  pub less_remove : (m n : FinMap R V) (address : Ipv4Addr) (key : K) (value : V) → n ≡ remove m key → get m key ≡ Some value → is_owned owners address key value ≡ true → IsLess owners address m n
  less_remove m n address key value taken found owned other =
      cases (eq_by_cmp R other key) refl
    where
      cases : (t : Bool) → eq_by_cmp R other key ≡ t → (get n other ≡ get m other) ⊎ ((get n other ≡ None) × (kept_if (λ v. not (is_owned owners address other v)) (get m other) ≡ None))
      cases true is =
          let one : other ≡ key = same_by_test exact other key is in
          inr (
            ap (λ k. get k other) taken ∙ get-remove o m key other ∙ rw is refl,
            subst (λ k. kept_if (λ v. not (is_owned owners address k v)) (get m k) ≡ None) (sym one) (rw (found, owned) refl),
          )
      cases false is = inl (ap (λ k. get k other) taken ∙ get-remove o m key other ∙ rw is refl)

  pub less_same : (m n : FinMap R V) (address : Ipv4Addr) → n ≡ m → IsLess owners address m n
  less_same m n address is other = inl (ap (λ k. get k other) is)

  pub less_more : (m n l : FinMap R V) (address : Ipv4Addr) → IsLess owners address m n → IsLess owners address n l → IsLess owners address m l
  less_more m n l address first second key = cases (first key) (second key)
    where
      cases : (get n key ≡ get m key) ⊎ ((get n key ≡ None) × (kept_if (λ v. not (is_owned owners address key v)) (get m key) ≡ None))
          → (get l key ≡ get n key) ⊎ ((get l key ≡ None) × (kept_if (λ v. not (is_owned owners address key v)) (get n key) ≡ None))
          → (get l key ≡ get m key) ⊎ ((get l key ≡ None) × (kept_if (λ v. not (is_owned owners address key v)) (get m key) ≡ None))
      cases (inl is) (inl same) = inl (same ∙ is)
      cases (inr gone) (inl same) = inr (same ∙ gone.0, gone.1)
      cases (inl is) (inr none) = inr (none.0, ap (kept_if (λ v. not (is_owned owners address key v))) (sym is) ∙ none.1)
      cases (inr gone) (inr none) = inr (none.0, gone.1)

  -- it stays where the address does not own it, and is then there for its owners
  pub owned_still : (there : Ipv4Addr → K → Bool) (m : FinMap R V) (address : Ipv4Addr) (key : K) → AreOwnedBut owners address key there m
      → ((value : V) → get m key ≡ Some value → is_owned owners address key value ≡ false) → AreOwned owners there m
  owned_still there m address key but none other held found = cases (but other held found)
    where
      cases : ((eq_by_cmp R key other ≡ true) × (is_owned owners address other held ≡ true)) ⊎ ((there (owners other held).0 other ≡ true) × (there (owners other held).1 other ≡ true))
          → (there (owners other held).0 other ≡ true) × (there (owners other held).1 other ≡ true)
      cases (inl one) =
          let same : key ≡ other = same_by_test exact key other one.0 in
          let no : is_owned owners address other held ≡ false = subst (λ k. get m k ≡ Some held → is_owned owners address k held ≡ false) same (none held) found in
          let yes : is_owned owners address other held ≡ true = one.1 in
          absurd (cc)
      cases (inr both) = both

  -- others than it are there for their owners
  pub others_owned : (there : Ipv4Addr → K → Bool) (m : FinMap R V) (address : Ipv4Addr) (key : K) → AreOwnedBut owners address key there m
      → (other : K) (value : V) → eq_by_cmp R key other ≡ false → get m other ≡ Some value → (there (owners other value).0 other ≡ true) × (there (owners other value).1 other ≡ true)
  others_owned there m address key but other value differs found = cases (but other value found)
    where
      cases : ((eq_by_cmp R key other ≡ true) × (is_owned owners address other value ≡ true)) ⊎ ((there (owners other value).0 other ≡ true) × (there (owners other value).1 other ≡ true))
          → (there (owners other value).0 other ≡ true) × (there (owners other value).1 other ≡ true)
      cases (inl one) = let same : eq_by_cmp R key other ≡ true = one.0 in absurd (cc)
      cases (inr both) = both

  -- once none is there for the address, all of it is gone
  pub all_gone : (there : Ipv4Addr → K → Bool) (m n : FinMap R V) (address : Ipv4Addr) → AreOwned owners there n → IsLess owners address m n → ((key : K) → there address key ≡ false)
      → n ≡ retain m (λ key value. not (is_owned owners address key value))
  all_gone there m n address owned less none =
      same_map o exact _ _ (λ key. sym (get-retain o exact m (λ k v. not (is_owned owners address k v)) key ∙ is key (get n key) refl))
    where
      at_owner : (key : K) (place : Ipv4Addr) → eq_by_cmp address_cmp place address ≡ true → there place key ≡ true → ⊥
      at_owner key place is stands = let at : there address key ≡ true = ap (λ a. there a key) (sym (same_by_test exact_addresses place address is)) ∙ stands in let no : there address key ≡ false = none key in cc

      by_owner : (key : K) (value : V) → (there (owners key value).0 key ≡ true) × (there (owners key value).1 key ≡ true)
          → (eq_by_cmp address_cmp (owners key value).0 address ≡ true) ⊎ (eq_by_cmp address_cmp (owners key value).1 address ≡ true) → ⊥
      by_owner key value both (inl first) = at_owner key _ first both.0
      by_owner key value both (inr second) = at_owner key _ second both.1

      not_owned : (key : K) (value : V) → get n key ≡ Some value → is_owned owners address key value ≡ false
      not_owned key value found = cases (is_owned owners address key value) refl
        where
          cases : (b : Bool) → is_owned owners address key value ≡ b → b ≡ false
          cases false is = refl
          cases true is = absurd (by_owner key value (owned key value found) (either_true _ _ is))

      stays_kept : (key : K) (v : Option V) → get n key ≡ v → kept_if (λ x. not (is_owned owners address key x)) v ≡ v
      stays_kept key None found = refl
      stays_kept key (Some value) found = rw (not_owned key value found) refl

      is : (key : K) (v : Option V) → get n key ≡ v → kept_if (λ x. not (is_owned owners address key x)) (get m key) ≡ v
      is key v found = cases (less key)
        where
          cases : (get n key ≡ get m key) ⊎ ((get n key ≡ None) × (kept_if (λ x. not (is_owned owners address key x)) (get m key) ≡ None))
              → kept_if (λ x. not (is_owned owners address key x)) (get m key) ≡ v
          cases (inl same) = ap (kept_if (λ x. not (is_owned owners address key x))) (sym same ∙ found) ∙ stays_kept key v found
          cases (inr gone) = gone.1 ∙ sym gone.0 ∙ found
