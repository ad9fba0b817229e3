-- The order of the eventgroups of instances, and their code.
use Rattle.std.specs.Prelude.{ℕ, refl}
use Rattle.std.specs.declared.cmp.Ordering.{Ordering}
use Rattle.std.specs.Ordering.{nat_cmp, ordering_then}
use Rattle.std.specs.Coded.{Coded, code_by, coded×, coded_ℕ}
use Rattle.sd_core.specs.declared.keys.InstanceId.{InstanceId}
use Rattle.sd_core.specs.declared.eventgroup.Eventgroup.{Eventgroup}
use Rattle.sd_core.specs.Keys.{instance_cmp, coded_instance}

-- by instance, and then by Eventgroup ID
abbrev pub eventgroup_cmp : Eventgroup → Eventgroup → Ordering
eventgroup_cmp a b = ordering_then (instance_cmp a.instance b.instance) (nat_cmp a.id b.id)

-- an eventgroup is stored as its instance and ID
abbrev pub coded_eventgroup : Coded Eventgroup
coded_eventgroup = code_by (InstanceId × ℕ) (coded× coded_instance coded_ℕ) (λ g. (g.instance, g.id)) (λ p. record { instance = p.0; id = p.1 }) (λ _. refl)
