-- What stands under the keys of a map, and the intervals of what ended.
use Rattle.std.specs.Prelude.{◌≡◌, ℕ, Bool, not, if◌then◌else◌, List, [], ◌∷◌, ◌++◌, map, Option, None, Some}
use Rattle.std.specs.List.{list_any}
use Rattle.std.specs.Ordering.{eq_by_cmp}
use Rattle.std.specs.declared.cmp.Ordering.{Ordering}
use Rattle.std.specs.FinMap as finite
use Rattle.std.specs.FinMap.{FinMap}
use Rattle.someip_tables.specs.declared.deadline.Deadline.{Deadline}
use Rattle.someip_tables.specs.declared.lasting.Lasting.{Lasting}
use Rattle.someip_tables.specs.Retained.{kept_if}
use Rattle.audit_services.specs.declared.stay.Ended.{Ended}
use Rattle.audit_services.specs.declared.stay.Interval.{Interval}
use Rattle.audit_services.specs.declared.stay.Since.{Since}
use Rattle.audit_services.specs.declared.why.Why.{Why}

-- what stands under a key, since when, and until when
abbrev pub Stay : Type 0 → Type 0
Stay V = Lasting (Since V)

-- what stands under each key
abbrev pub Stays : {K : Type 0} → (K → K → Ordering) → Type 0 → Type 0
Stays R V = FinMap R (Stay V)

-- the interval of what stood, once it ended at a moment
abbrev pub interval_of : {V : Type 0} → Why → ℕ → Stay V → Interval V
interval_of why at stay = record { value = stay.value.value; from = stay.value.since; until = at; why = why }

-- the same, under its key
abbrev pub ended_of : {K V : Type 0} → Why → ℕ → K × Stay V → Ended K V
ended_of why at entry = record { key = entry.0; interval = interval_of why at entry.1 }

-- all that stands, once it ended at a moment, by rising key
abbrev pub all_ended : {K V : Type 0} {R : K → K → Ordering} → Why → ℕ → Stays R V → List (Ended K V)
all_ended why at stays = map (ended_of why at) (finite.entries stays)

-- what stands, until another deadline
abbrev pub lasting_until : {V : Type 0} → Deadline → Stay V → Stay V
lasting_until until stay = record { value = stay.value; until = until }

-- an entry before others, if there is one under its key
abbrev pub entry_before : {K X : Type 0} → K → Option X → List (K × X) → List (K × X)
entry_before key None rest = rest
entry_before key (Some value) rest = (key, value) ∷ rest

-- the entries of a map under the keys of a list, in the order of the list
abbrev pub entries_at : {K X : Type 0} {R : K → K → Ordering} → FinMap R X → List K → List (K × X)
entries_at m [] = []
entries_at m (key ∷ keys) = entry_before key (finite.get m key) (entries_at m keys)

-- a map without the keys of a list
abbrev pub without_keys : {K X : Type 0} {R : K → K → Ordering} → FinMap R X → List K → FinMap R X
without_keys {R = R} m keys = finite.retain_keys m (λ key. not (list_any (eq_by_cmp R key) keys))

-- of what is told a beginning was appended
abbrev pub IsBegun : {X : Type 0} → List X → List X → List X → Type 0
IsBegun {X} before after told = (told_first : List X) × (told_later : List X) × (after ≡ before ++ told_first) × (told ≡ told_first ++ told_later)

-- under the keys of a list there is just what passes a test
abbrev pub HasJust : {K X : Type 0} {R : K → K → Ordering} → FinMap R X → (K → X → Bool) → List K → Type 0
HasJust {K = K} {R = R} m test keys = (key : K) → (if list_any (eq_by_cmp R key) keys then finite.get m key else None) ≡ kept_if (test key) (finite.get m key)
