-- What waits for a moment, and what is due.
use Rattle.std.specs.Prelude.{◌↔◌, ℕ, Bool, false, nat_le, if◌then◌else◌, IsTrue, Option, None, Some}
use Rattle.std.specs.declared.cmp.Ordering.{Ordering}
use Rattle.std.specs.FinMap.{FinMap}
use Rattle.someip_tables.specs.Retained.{retain}

-- a moment has come, if it is waited for
abbrev pub is_due_by : ℕ → Option ℕ → Bool
is_due_by now None = false
is_due_by now (Some at) = nat_le at now

-- from this moment on, if there is one, something holds, and at no moment before it
abbrev pub HoldsFrom : Option ℕ → (ℕ → Type 0) → Type 0
HoldsFrom first holds = (now : ℕ) → IsTrue (is_due_by now first) ↔ holds now

-- the earlier of two moments, or the one that there is
abbrev pub earlier : Option ℕ → Option ℕ → Option ℕ
earlier None b = b
earlier (Some a) None = Some a
earlier (Some a) (Some b) = if nat_le a b then Some a else Some b

-- the entries whose moment has come
abbrev pub due_by : {K V : Type 0} {R : K → K → Ordering} → (V → Option ℕ) → ℕ → FinMap R V → FinMap R V
due_by moment now m = retain m (λ _ value. is_due_by now (moment value))
