-- What a book of intervals holds, and what it tells.
use Rattle.std.specs.Prelude.{◌≡◌, ◌≤◌, ◌<◌, ℕ, Bool, true, false, not, ◌&&◌, if◌then◌else◌, List, [], ◌∷◌, ◌++◌, Option, None, Some}
use Rattle.std.specs.Option.{option_map, option_to_list}
use Rattle.std.specs.declared.cmp.Ordering.{Ordering}
use Rattle.std.specs.Ordering.{eq_by_cmp}
use Rattle.std.specs.FinMap as finite
use Rattle.someip_tables.specs.declared.lasting.Lasting.{Lasting}
use Rattle.someip_tables.specs.Changed.{each_changed}
use Rattle.someip_tables.specs.Deadlines.{deadline_after}
use Rattle.someip_tables.specs.Lastings.{expired, unexpired}
use Rattle.someip_tables.specs.Retained.{retain}
use Rattle.someip_tables.specs.Tables.{map_of}
use Rattle.someip_tables.specs.hashed.Rooms.{may_hold}
use Rattle.audit_services.specs.declared.stay.Ended.{Ended}
use Rattle.audit_services.specs.declared.why.Why.{Why}
use Rattle.audit_services.specs.declared.why.Why.TheVariants.{Expired, Moved}
use Rattle.audit_services.specs.Places.{is_among}
use Rattle.audit_services.specs.Stays.{Stay, Stays, all_ended, ended_of, lasting_until}

-- what stands, how much may at once, and whether it was told that it is full
pub record Book {K : Type 0} (R : K → K → Ordering) (V : Type 0) : Type 0 where
  pub limit : ℕ
  pub stays : Stays R V
  pub told_full : Bool

-- the same as the parts of which it is made
pub record Kept (K V : Type 0) : Type 0 where
  pub limit : ℕ
  pub entries : List (K × Stay V)
  pub told_full : Bool

abbrev pub book_of : {K V : Type 0} → (R : K → K → Ordering) → Kept K V → Book R V
book_of R kept = record { limit = kept.limit; stays = map_of R kept.entries; told_full = kept.told_full }

abbrev pub book_begun : {K V : Type 0} {R : K → K → Ordering} → ℕ → Book R V
book_begun limit = record { limit = limit; stays = finite.empty; told_full = false }

-- what is told of a key that ends
abbrev pub told_of : {K V : Type 0} → Why → ℕ → K → Option (Stay V) → List (Ended K V)
told_of why now key stood = option_to_list (option_map (λ stay. ended_of why now (key, stay)) stood)

-- ---- a value begins to stand, or goes on

-- the same value stood
abbrev pub is_same : {V : Type 0} → (V → V → Ordering) → V → Option (Stay V) → Bool
is_same C value None = false
is_same C value (Some stay) = eq_by_cmp C stay.value.value value

-- since when: where the same stood, since then
abbrev pub since_of : {V : Type 0} → (V → V → Ordering) → ℕ → V → Option (Stay V) → ℕ
since_of C now value None = now
since_of C now value (Some stay) = if eq_by_cmp C stay.value.value value then stay.value.since else now

-- what stands then
abbrev pub begun : {V : Type 0} → (V → V → Ordering) → ℕ → V → ℕ → Option (Stay V) → Stay V
begun C now value ttl stood = record { value = record { value = value; since = since_of C now value stood }; until = deadline_after now ttl }

-- another value has moved
abbrev pub told_moved : {K V : Type 0} → (V → V → Ordering) → ℕ → K → V → Option (Stay V) → List (Ended K V)
told_moved C now key value stood = if is_same C value stood then [] else told_of Moved now key stood

abbrev pub told_begun : {K V : Type 0} {R : K → K → Ordering} → (V → V → Ordering) → ℕ → K → V → Book R V → List (Ended K V)
told_begun C now key value book = if may_hold book.limit book.stays key then told_moved C now key value (finite.get book.stays key) else []

abbrev pub after_begun : {K V : Type 0} {R : K → K → Ordering} → (V → V → Ordering) → ℕ → K → V → ℕ → Book R V → Book R V
after_begun C now key value ttl book =
    if may_hold book.limit book.stays key then record book { stays = finite.insert book.stays key (begun C now value ttl (finite.get book.stays key)) }
    else record book { told_full = true }

-- that there is no room is told for the first time
abbrev pub begins_full : {K V : Type 0} {R : K → K → Ordering} → K → Book R V → Bool
begins_full key book = not (may_hold book.limit book.stays key) && not book.told_full

-- ---- what stands under a key ends, or all at a place

abbrev pub told_ended : {K V : Type 0} {R : K → K → Ordering} → Why → ℕ → K → Book R V → List (Ended K V)
told_ended why now key book = told_of why now key (finite.get book.stays key)

abbrev pub after_ended : {K V : Type 0} {R : K → K → Ordering} → K → Book R V → Book R V
after_ended key book = record book { stays = finite.remove book.stays key }

abbrev pub told_ended_at : {P K V : Type 0} {R : K → K → Ordering} → (P → P → Ordering) → (K → (P × P) × (P × P)) → Why → ℕ → P → Book R V → List (Ended K V)
told_ended_at Q places why now place book = all_ended why now (retain book.stays (λ key _. is_among Q place (places key)))

abbrev pub after_ended_at : {P K V : Type 0} {R : K → K → Ordering} → (P → P → Ordering) → (K → (P × P) × (P × P)) → P → Book R V → Book R V
after_ended_at Q places place book = record book { stays = retain book.stays (λ key _. not (is_among Q place (places key))) }

-- ---- all at a place goes on

abbrev pub renewed : {P K V : Type 0} → (P → P → Ordering) → (K → (P × P) × (P × P)) → ℕ → P → ℕ → K → Stay V → Stay V
renewed Q places now place ttl key stay = if is_among Q place (places key) then lasting_until (deadline_after now ttl) stay else stay

abbrev pub after_renewed : {P K V : Type 0} {R : K → K → Ordering} → (P → P → Ordering) → (K → (P × P) × (P × P)) → ℕ → P → ℕ → Book R V → Book R V
after_renewed Q places now place ttl book = record book { stays = each_changed (renewed Q places now place ttl) book.stays }

-- ---- what expires

-- a moment is the first at which something has expired
abbrev pub IsFirstDeadline : {K V : Type 0} {R : K → K → Ordering} → ℕ → Stays R V → Type 0
IsFirstDeadline at stays = (expired at stays ≡ finite.empty → ⊥) × ((earlier : ℕ) → earlier < at → expired earlier stays ≡ finite.empty)

-- what has expired by a moment is told as ended then, and stands no more
abbrev pub told_expired : {K V : Type 0} {R : K → K → Ordering} → ℕ → Book R V → List (Ended K V)
told_expired at book = all_ended Expired at (expired at book.stays)

abbrev pub after_expired : {K V : Type 0} {R : K → K → Ordering} → ℕ → Book R V → Book R V
after_expired at book = record book { stays = unexpired at book.stays }
