-- How kinds are treated, one after the other.
use Rattle.std.proofs.Common.{◌≡◌, ℕ, ◌+◌, ◌<◌, ◌≤◌, List, [], ◌∷◌, ◌++◌, length, take, drop, get_or, set, Option, None, Some, refl, sym, ap, ◌∙◌, append_assoc, append-nil}
use Rattle.std.specs.Option.{option_and_then}
use Rattle.std.proofs.lemmas.List.{drop_all, drop_more, take_all, take_more_set}
use Rattle.toml.specs.Data.{Data}
use Rattle.audit_rules.specs.Kinds.{all_kinds}
use Rattle.audit_rules.specs.declared.kind.Kind.{Kind}
use Rattle.audit_rules.specs.declared.rule.Treatment.{Treatment}
use Rattle.someipctl_rules.specs.Treating.{each_treated, treated_in}

-- those that are left, behind the first ones
abbrev pub behind : List Treatment → Option (List Treatment) → Option (List Treatment)
behind front others = option_and_then (λ rest. Some (front ++ rest)) others

-- with one more in front
abbrev pub with_one : Option Treatment → Option (List Treatment) → Option (List Treatment)
with_one treatment others = option_and_then (λ one. option_and_then (λ rest. Some (one ∷ rest)) others) treatment

module _ (allowed : List Data) (bounds : Option Data) (kinds : List Kind) where
  -- so many kinds are treated so
  abbrev pub IsTreatedTo : ℕ → List Treatment → Type 0
  IsTreatedTo i treatments = each_treated allowed bounds kinds ≡ behind (take i treatments) (each_treated allowed bounds (drop i kinds))

  next : (i : ℕ) (kind : Kind) (treatments : List Treatment) → i < length kinds → IsTreatedTo i treatments
      → each_treated allowed bounds kinds ≡ behind (take i treatments) (with_one (treated_in allowed bounds (get_or kinds i kind)) (each_treated allowed bounds (drop (i + 1) kinds)))
  next i kind treatments within is = is ∙ ap (λ l. behind (take i treatments) (each_treated allowed bounds l)) (drop_more kinds i kind within)

  -- the next one is treated in no way
  pub treated_none : (i : ℕ) (kind : Kind) (treatments : List Treatment) → i < length kinds → treated_in allowed bounds (get_or kinds i kind) ≡ None → IsTreatedTo i treatments
      → each_treated allowed bounds kinds ≡ None
  treated_none i kind treatments within none is =
      next i kind treatments within is ∙ ap (λ o. behind (take i treatments) (with_one o (each_treated allowed bounds (drop (i + 1) kinds)))) none

  pushed : (i : ℕ) (treatments : List Treatment) (treatment : Treatment) (others : Option (List Treatment)) → i < length treatments
      → behind (take i treatments) (with_one (Some treatment) others) ≡ behind (take (i + 1) (set treatments i treatment)) others
  pushed i treatments treatment None within = refl
  pushed i treatments treatment (Some rest) within =
      ap Some (sym (ap (λ (l : List Treatment). l ++ rest) (take_more_set treatments i treatment within) ∙ append_assoc (take i treatments) (treatment ∷ []) rest))

  -- the next one is treated so
  pub treated_more : (i : ℕ) (kind : Kind) (treatments : List Treatment) (treatment : Treatment) → i < length kinds → i < length treatments
      → treated_in allowed bounds (get_or kinds i kind) ≡ Some treatment → IsTreatedTo i treatments → IsTreatedTo (i + 1) (set treatments i treatment)
  treated_more i kind treatments treatment within long some is =
      next i kind treatments within is ∙ ap (λ o. behind (take i treatments) (with_one o (each_treated allowed bounds (drop (i + 1) kinds)))) some
      ∙ pushed i treatments treatment (each_treated allowed bounds (drop (i + 1) kinds)) long

  -- all are treated so
  pub treated_all : (i : ℕ) (treatments : List Treatment) → length kinds ≤ i → length treatments ≤ i → IsTreatedTo i treatments → each_treated allowed bounds kinds ≡ Some treatments
  treated_all i treatments past long is =
      is ∙ ap (λ l. behind (take i treatments) (each_treated allowed bounds l)) (drop_all i kinds past)
      ∙ ap (λ (l : List Treatment). Some l) (append-nil (take i treatments) ∙ take_all i treatments long)

  pub treated_first : (treatments : List Treatment) → IsTreatedTo 0 treatments
  treated_first treatments = by (each_treated allowed bounds kinds)
    where
      by : (o : Option (List Treatment)) → o ≡ behind [] o
      by None = refl
      by (Some l) = refl

-- how many kinds there are
pub many_kinds : length all_kinds ≡ 28
unfolding all_kinds
many_kinds = refl

pub so_many : (kinds : List Kind) → kinds ≡ all_kinds → length kinds ≡ 28
so_many kinds is = ap length is ∙ many_kinds
