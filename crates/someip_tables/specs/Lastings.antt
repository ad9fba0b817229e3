-- What lasts until a deadline.
use Rattle.std.specs.Prelude.{◌≢◌, ⊤, refl, ℕ, not, Option, None, Some}
use Rattle.std.specs.declared.cmp.Ordering.{Ordering}
use Rattle.std.specs.FinMap.{FinMap}
use Rattle.std.specs.Coded.{Coded, code_by, coded×}
use Rattle.someip_tables.specs.declared.deadline.Deadline.{Deadline}
use Rattle.someip_tables.specs.declared.deadline.Deadline.TheVariants.{Never}
use Rattle.someip_tables.specs.declared.lasting.Lasting.{Lasting}
use Rattle.someip_tables.specs.Deadlines.{has_passed, coded_deadline}
use Rattle.someip_tables.specs.Retained.{kept_if, retain}

-- until when the value lasts, if there is one
abbrev pub until_of : {V : Type 0} → Option (Lasting V) → Option Deadline
until_of None = None
until_of (Some lasting) = Some lasting.until

-- the value, unless its deadline has passed
abbrev pub unless_passed : {V : Type 0} → ℕ → Option (Lasting V) → Option (Lasting V)
unless_passed now = kept_if (λ lasting. not (has_passed now lasting.until))

-- the entries whose deadline has passed at a moment
abbrev pub expired : {K V : Type 0} {R : K → K → Ordering} → ℕ → FinMap R (Lasting V) → FinMap R (Lasting V)
expired now m = retain m (λ _ lasting. has_passed now lasting.until)

-- the entries whose deadline has not passed at a moment
abbrev pub unexpired : {K V : Type 0} {R : K → K → Ordering} → ℕ → FinMap R (Lasting V) → FinMap R (Lasting V)
unexpired now m = retain m (λ _ lasting. not (has_passed now lasting.until))

-- memory may be needed to keep a value until this deadline in place of what there is: for a new key, and for a new
-- deadline that will pass
abbrev pub NeedsMemory : {V : Type 0} → Option (Lasting V) → Deadline → Type 0
NeedsMemory None until = ⊤
NeedsMemory (Some lasting) until = (lasting.until ≢ until) × (until ≢ Never)

-- a value is stored with its deadline
abbrev pub coded_lasting : {V : Type 0} → Coded V → Coded (Lasting V)
coded_lasting {V} v = code_by (V × Deadline) (coded× v coded_deadline) (λ x. (x.value, x.until)) (λ p. record { value = p.0; until = p.1 }) (λ _. refl)
