-- Orders that are total and in which only equal keys tie: of numbers, of pairs, and of what is made of parts.
use Rattle.std.proofs.Common.{◌≡◌, ap, sym, ◌∙◌}
use Rattle.std.specs.declared.cmp.Ordering.{Ordering}
use Rattle.std.specs.Ordering.{nat_cmp, ordering_then}
use Rattle.std.specs.Cmp.{IsTotalOrder, nat_cmp_total}
use Rattle.std.specs.Cmp.Lexicographic.{slice_cmp}
use Rattle.std.proofs.lemmas.Cmp.{on_total, then_total, nat_list_cmp_total}
use Rattle.std.proofs.lemmas.Map.Lookups.{CmpEqualImpliesEq, exact_pairs, exact_unsigned, exact_bytes}

-- an order that is total, and in which only equal keys tie
pub record KeyOrder {K : Type 0} (cmp : K → K → Ordering) : Type 0 where
  pub total : IsTotalOrder cmp
  pub exact : CmpEqualImpliesEq cmp

pub numbers : KeyOrder nat_cmp
numbers = record { total = nat_cmp_total; exact = exact_unsigned }

pub slices : KeyOrder (slice_cmp nat_cmp)
slices = record { total = nat_list_cmp_total; exact = exact_bytes }

-- by the first, and then by the second
abbrev pub then_by : {A B : Type 0} → (A → A → Ordering) → (B → B → Ordering) → A × B → A × B → Ordering
then_by P Q a b = ordering_then (P a.0 b.0) (Q a.1 b.1)

pub by_pair : {A B : Type 0} {P : A → A → Ordering} {Q : B → B → Ordering} → KeyOrder P → KeyOrder Q → KeyOrder (then_by P Q)
by_pair {P = P} {Q = Q} p q = record { total = then_total (on_total (λ x. x.0) p.total) (on_total (λ x. x.1) q.total); exact = exact_pairs P Q p.exact q.exact }

-- by the order of the parts, from which a key can be made again
pub by_parts : {K P : Type 0} {cmp : P → P → Ordering} → KeyOrder cmp → (parts : K → P) (whole : P → K) → ((k : K) → whole (parts k) ≡ k) → KeyOrder (λ a b. cmp (parts a) (parts b))
by_parts parts_order parts whole back =
    record { total = on_total parts parts_order.total; exact = λ a b tie. sym (back a) ∙ (ap whole (parts_order.exact (parts a) (parts b) tie) ∙ back b) }
