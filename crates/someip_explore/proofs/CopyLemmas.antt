-- What a node is asked of its configuration depends on the values of that alone, and not on where its maps lie.
use Rattle.std.proofs.Common.{◌≡◌, ℕ, Bool, true, false, cond, List, [], ◌∷◌, map, find, option_map, Option, Some, refl, ap, ◌∙◌}
use Rattle.std.specs.List.{AllZip}
use Rattle.std.specs.Map.{lookup}
use Rattle.std.specs.BTreeMap.{BTreeMap}
use Rattle.std.specs.BTreeSet.{BTreeSet}
use Rattle.sd_core.specs.declared.keys.InstanceId.{InstanceId}
use Rattle.someip_node_rules.specs.trails.Copies.{IsCopyOfOffer, IsCopyOfWant}
use Rattle.someip_node_rules.specs.declared.config.OfferedService.{OfferedService}
use Rattle.someip_node_rules.specs.declared.config.WantedService.{WantedService}

-- ---- an offer and a want with another map

abbrev pub Events : Type 0
Events = BTreeMap ℕ (BTreeSet ℕ)

abbrev pub laid_offer : OfferedService → Events → OfferedService
laid_offer s m = record s { rules = record s.rules { events = m } }

abbrev pub laid_want : WantedService → Events → WantedService
laid_want w m = record w { groups = m }

module _ {A : Type 0} where
  -- what depends on the entries alone is the same of copies
  pub of_offer : (F : OfferedService → A) → ((s : OfferedService) (m : Events) → m.entries ≡ s.rules.events.entries → F (laid_offer s m) ≡ F s) → (s c : OfferedService)
      → IsCopyOfOffer s c → F c ≡ F s
  of_offer F blind s c is =
      ap F (is.0 ∙ (λ i. record s { rules = is.1.0 i })) ∙ blind s c.rules.events is.1.1

  pub of_want : (F : WantedService → A) → ((w : WantedService) (m : Events) → m.entries ≡ w.groups.entries → F (laid_want w m) ≡ F w) → (w c : WantedService)
      → IsCopyOfWant w c → F c ≡ F w
  of_want F blind w c is = ap F is.0 ∙ blind w c.groups is.1

-- ---- what stands under the same instances

abbrev pub key_of : {S : Type 0} → Option (InstanceId × S) → Option InstanceId
key_of o = option_map (λ e. e.0) o

module _ {S : Type 0} (Copies : S → S → Type 0) where
  abbrev pub Alike : List (InstanceId × S) → List (InstanceId × S) → Type 0
  Alike xs ys = AllZip (λ a b. (b.0 ≡ a.0) × Copies a.1 b.1) xs ys

  module _ {A : Type 0} where
    -- what is made of each
    pub mapped : (G : InstanceId × S → A) → ((k : InstanceId) (a b : S) → Copies a b → G (k, b) ≡ G (k, a)) → (xs ys : List (InstanceId × S)) → Alike xs ys → map G ys ≡ map G xs
    mapped G same [] [] all = refl
    mapped G same [] (y ∷ ys) all = absurd all
    mapped G same (x ∷ xs) [] all = absurd all
    mapped G same (x ∷ xs) (y ∷ ys) all =
        (λ i. G (all.0.0 i, y.1) ∷ map G ys) ∙ (λ i. same x.0 x.1 y.1 all.0.1 i ∷ mapped G same xs ys all.1 i)

    -- what is made of the one that is found, or of none
    pub found_so : (R : Option S → A) → ((a b : S) → Copies a b → R (Some b) ≡ R (Some a)) → (test : InstanceId → Bool) → (xs ys : List (InstanceId × S)) → Alike xs ys
        → R (lookup test ys) ≡ R (lookup test xs)
    found_so R same test [] [] all = refl
    found_so R same test [] (y ∷ ys) all = absurd all
    found_so R same test (x ∷ xs) [] all = absurd all
    found_so R same test (x ∷ xs) (y ∷ ys) all =
        (λ i. R (cond (test (all.0.0 i)) (Some y.1) (lookup test ys))) ∙ cases (test x.0) (found_so R same test xs ys all.1)
      where
        cases : (b : Bool) → R (lookup test ys) ≡ R (lookup test xs) → R (cond b (Some y.1) (lookup test ys)) ≡ R (cond b (Some x.1) (lookup test xs))
        cases true others = same x.1 y.1 all.0.1
        cases false others = others

  -- the key of the first that passes a test
  pub first_key : (test : InstanceId × S → Bool) → ((k : InstanceId) (a b : S) → Copies a b → test (k, b) ≡ test (k, a)) → (xs ys : List (InstanceId × S)) → Alike xs ys
      → key_of (find test ys) ≡ key_of (find test xs)
  first_key test same [] [] all = refl
  first_key test same [] (y ∷ ys) all = absurd all
  first_key test same (x ∷ xs) [] all = absurd all
  first_key test same (x ∷ xs) (y ∷ ys) all =
      (λ i. key_of (cond (test (all.0.0 i, y.1)) (Some (all.0.0 i, y.1)) (find test ys)))
      ∙ (λ i. key_of (cond (same x.0 x.1 y.1 all.0.1 i) (Some (x.0, y.1)) (find test ys)))
      ∙ cases (test x) (first_key test same xs ys all.1)
    where
      cases : (b : Bool) → key_of (find test ys) ≡ key_of (find test xs) → key_of (cond b (Some (x.0, y.1)) (find test ys)) ≡ key_of (cond b (Some x) (find test xs))
      cases true others = refl
      cases false others = others
