-- The order of instances, and their code.
use Rattle.std.specs.Prelude.{ℕ, refl}
use Rattle.std.specs.declared.cmp.Ordering.{Ordering}
use Rattle.std.specs.Ordering.{nat_cmp, ordering_then}
use Rattle.std.specs.Coded.{Coded, code_by, coded×, coded_ℕ}
use Rattle.sd_core.specs.declared.keys.InstanceId.{InstanceId}

-- by service, and then by instance
abbrev pub instance_cmp : InstanceId → InstanceId → Ordering
instance_cmp a b = ordering_then (nat_cmp a.service b.service) (nat_cmp a.instance b.instance)

-- an instance is stored as its two numbers
abbrev pub coded_instance : Coded InstanceId
coded_instance = code_by (ℕ × ℕ) (coded× coded_ℕ coded_ℕ) (λ i. (i.service, i.instance)) (λ p. record { service = p.0; instance = p.1 }) (λ _. refl)
