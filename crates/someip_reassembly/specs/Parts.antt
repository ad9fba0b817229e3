-- Messages that have come in part (SOME/IP Protocol, "SOME/IP-TP", reassembly; slots, limit and timeout are our own).
use Rattle.std.specs.Prelude.{◌≡◌, ◌≤◌, ℕ, ◌+◌, Bool, not, nat_le, Option, Some, refl}
use Rattle.std.specs.Ordering.{nat_cmp}
use Rattle.std.specs.Coded.{Coded, code_by, coded×, coded_ℕ, coded_option}
use Rattle.std.specs.FinMap.{FinMap, code, get}
use Rattle.someip_reassembly.specs.declared.key.ReassemblyKey.{ReassemblyKey}
use Rattle.someip_reassembly.specs.Keys.{key_cmp, coded_key}
use Rattle.someip_tables.specs.Retained.{retain}

-- what bounds a store: how many parts it holds, the places that a message may have, and how long a part stands
-- after its last segment
pub record Limits : Type 0 where
  pub slots : ℕ
  pub limit : ℕ
  pub timeout : ℕ

-- a message that has come in part: the bytes at their places, its total if it is known, and the moment at which
-- its last segment was accepted
pub record Part : Type 0 where
  pub bytes : FinMap nat_cmp ℕ
  pub total : Option ℕ
  pub last : ℕ

-- the parts under their reassembly keys
abbrev pub Parts : Type 0
Parts = FinMap key_cmp Part

-- a part's time is over
abbrev pub is_gone : ℕ → ℕ → Part → Bool
is_gone timeout now part = nat_le (part.last + timeout) now

-- the parts that are left at a moment
unfoldable pub parts_at : Limits → ℕ → Parts → Parts
parts_at limits now parts = retain parts (λ key part. not (is_gone limits.timeout now part))

-- no part had a segment after this moment
abbrev pub NoneAfter : ℕ → Parts → Type 0
NoneAfter now parts = (key : ReassemblyKey) (part : Part) → get parts key ≡ Some part → part.last ≤ now

-- codes, by which a proof tells values apart: a Model whose Value holds parts or limits makes its own of these
abbrev pub coded_part : Coded Part
coded_part = code_by (FinMap nat_cmp ℕ × (Option ℕ × ℕ)) (coded× (code coded_ℕ coded_ℕ) (coded× (coded_option coded_ℕ) coded_ℕ)) (λ p. (p.bytes, (p.total, p.last))) (λ c. record { bytes = c.0; total = c.1.0; last = c.1.1 }) (λ _. refl)

abbrev pub coded_parts : Coded Parts
coded_parts = code coded_key coded_part

abbrev pub coded_limits : Coded Limits
coded_limits = code_by (ℕ × (ℕ × ℕ)) (coded× coded_ℕ (coded× coded_ℕ coded_ℕ)) (λ l. (l.slots, (l.limit, l.timeout))) (λ c. record { slots = c.0; limit = c.1.0; timeout = c.1.1 }) (λ _. refl)
