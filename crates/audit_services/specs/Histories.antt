-- What a recording shows of keys and places, and what a book tells of it. A list of events has the newest first.
use Rattle.std.specs.Prelude.{◌≡◌, ◌≤◌, ◌<◌, ⊤, ℕ, zero, suc, Bool, false, if◌then◌else◌, List, [], ◌∷◌, ◌++◌, filter, map}
use Rattle.std.specs.declared.cmp.Ordering.{Ordering}
use Rattle.std.specs.Ordering.{eq_by_cmp}
use Rattle.std.specs.FinMap as finite
use Rattle.someip_tables.specs.Lastings.{expired, unexpired}
use Rattle.audit_services.specs.declared.stay.Ended.{Ended}
use Rattle.audit_services.specs.declared.stay.Interval.{Interval}
use Rattle.audit_services.specs.declared.shown.Shown.{Shown}
use Rattle.audit_services.specs.declared.shown.Shown.TheVariants.{KeyBegins, KeyEnds, Nothing, PlaceEnds, PlaceGoesOn}
use Rattle.audit_services.specs.declared.why.Why.{Why}
use Rattle.audit_services.specs.declared.why.Why.TheVariants.{Expired}
use Rattle.audit_services.specs.Books.{Book, IsFirstDeadline, after_begun, after_ended, after_ended_at, after_renewed, begins_full, book_begun, told_begun, told_ended, told_ended_at}
use Rattle.audit_services.specs.Places.{is_among}
use Rattle.audit_services.specs.Stays.{all_ended}
use Rattle.audit_services.specs.Timelines.{Begins, Change, Changed, Ends, GoesOn, Leaves}

-- what is shown of keys and places at a moment
pub record Event (P K V : Type 0) : Type 0 where
  pub at : ℕ
  pub shown : Shown P K V

module _ {P K V : Type 0} (Q : P → P → Ordering) (R : K → K → Ordering) (C : V → V → Ordering) (places : K → (P × P) × (P × P)) where
  -- what it does to a key
  abbrev pub change_of : Shown P K V → K → Change V
  change_of Nothing key = Leaves
  change_of (KeyBegins one value ttl) key = if eq_by_cmp R key one then Begins value ttl else Leaves
  change_of (KeyEnds one why) key = if eq_by_cmp R key one then Ends why else Leaves
  change_of (PlaceEnds place why) key = if is_among Q place (places key) then Ends why else Leaves
  change_of (PlaceGoesOn place ttl) key = if is_among Q place (places key) then GoesOn ttl else Leaves

  abbrev pub changed_by : K → Event P K V → Changed V
  changed_by key event = record { at = event.at; change = change_of event.shown key }

  -- all that happens to a key
  abbrev pub timeline : List (Event P K V) → K → List (Changed V)
  timeline events key = map (changed_by key) events

  -- ---- the book

  abbrev pub book_after : ℕ → Shown P K V → Book R V → Book R V
  book_after now Nothing book = book
  book_after now (KeyBegins key value ttl) book = after_begun C now key value ttl book
  book_after now (KeyEnds key why) book = after_ended key book
  book_after now (PlaceEnds place why) book = after_ended_at Q places place book
  book_after now (PlaceGoesOn place ttl) book = after_renewed Q places now place ttl book

  abbrev pub told_by : ℕ → Shown P K V → Book R V → List (Ended K V)
  told_by now Nothing book = []
  told_by now (KeyBegins key value ttl) book = told_begun C now key value book
  told_by now (KeyEnds key why) book = told_ended why now key book
  told_by now (PlaceEnds place why) book = told_ended_at Q places why now place book
  told_by now (PlaceGoesOn place ttl) book = []

  -- that it has no room for a key is told for the first time
  abbrev pub full_by : Shown P K V → Book R V → Bool
  full_by Nothing book = false
  full_by (KeyBegins key value ttl) book = begins_full key book
  full_by (KeyEnds key why) book = false
  full_by (PlaceEnds place why) book = false
  full_by (PlaceGoesOn place ttl) book = false

  -- the book was asked so often for what expired by a moment, until nothing was left
  abbrev pub Expires : ℕ → ℕ → Book R V → List (Ended K V) → Book R V → Type 0
  Expires now zero book told left = (expired now book.stays ≡ finite.empty) × (told ≡ []) × (left ≡ book)
  Expires now (suc count) book told left =
      (at : ℕ) × (later : List (Ended K V)) × (at ≤ now) × IsFirstDeadline at book.stays × (told ≡ all_ended Expired at (expired at book.stays) ++ later)
      × Expires now count (record book { stays = unexpired at book.stays }) later left

  -- what a book with a limit told of these events, and what it holds then, where before each it was asked for what expired
  abbrev pub Tells : ℕ → List (Event P K V) → List (Ended K V) → Book R V → Type 0
  Tells limit [] told book = (told ≡ []) × (book ≡ book_begun limit)
  Tells limit (event ∷ earlier) told book =
      (before : List (Ended K V)) × (was : Book R V) × (count : ℕ) × (gone : List (Ended K V)) × (left : Book R V)
      × Tells limit earlier before was × Expires event.at count was gone left × (told ≡ before ++ (gone ++ told_by event.at event.shown left)) × (book ≡ book_after event.at event.shown left)

-- ---- what a datagram shows

-- several events of one moment, the oldest first, before which others came
abbrev pub events_at : {P K V : Type 0} → ℕ → List (Shown P K V) → List (Event P K V) → List (Event P K V)
events_at now [] earlier = earlier
events_at now (shown ∷ others) earlier = events_at now others (record { at = now; shown = shown } ∷ earlier)

-- what begins to stand or goes on lasts for a second at least
abbrev pub IsLasting : {P K V : Type 0} → Shown P K V → Type 0
IsLasting Nothing = ⊤
IsLasting (KeyBegins key value ttl) = 0 < ttl
IsLasting (KeyEnds key why) = ⊤
IsLasting (PlaceEnds place why) = ⊤
IsLasting (PlaceGoesOn place ttl) = 0 < ttl

abbrev pub AreLasting : {P K V : Type 0} → List (Shown P K V) → Type 0
AreLasting [] = ⊤
AreLasting (shown ∷ others) = IsLasting shown × AreLasting others

module _ {P K V : Type 0} (Q : P → P → Ordering) (R : K → K → Ordering) (C : V → V → Ordering) (places : K → (P × P) × (P × P)) where
  -- the book once they came, and what it told of them
  abbrev pub after_all : ℕ → List (Shown P K V) → Book R V → Book R V
  after_all now [] book = book
  after_all now (shown ∷ others) book = after_all now others (book_after Q R C places now shown book)

  abbrev pub told_all : ℕ → List (Shown P K V) → Book R V → List (Ended K V)
  told_all now [] book = []
  told_all now (shown ∷ others) book = told_by Q R C places now shown book ++ told_all now others (book_after Q R C places now shown book)

-- the intervals of a key among those that were told
abbrev pub intervals_under : {K V : Type 0} → (K → K → Ordering) → K → List (Ended K V) → List (Interval V)
intervals_under R key told = map (λ ended. ended.interval) (filter (λ ended. eq_by_cmp R key ended.key) told)
