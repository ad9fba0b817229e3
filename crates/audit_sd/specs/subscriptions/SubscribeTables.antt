-- The Subscribes that wait for their answer.
use Rattle.std.specs.Prelude.{◌≡◌, ℕ, ◌==◌, ◌≤◌, nat_lt, Bool, true, false, not, ◌&&◌, ◌||◌, if◌then◌else◌, Option, None, Some, is_some, refl}
use Rattle.std.specs.Option.{is_none}
use Rattle.std.specs.Coded.{Coded, code_by, coded×, coded_ℕ, coded_bool}
use Rattle.std.specs.FinMap as finite
use Rattle.std.specs.FinMap.{FinMap}
use Rattle.std.specs.declared.net.ipv4_addr.Ipv4Addr.{Ipv4Addr}
use Rattle.someip_tables.specs.Retained.{retain}
use Rattle.someip_tables.specs.declared.hashed.origin.Origin.{Origin}
use Rattle.someip_tables.specs.hashed.Dues.{IsFirstDue}
use Rattle.someip_tables.specs.hashed.Origins.{coded_origin}
use Rattle.someip_tables.specs.hashed.Rooms.{may_hold, told_when_full}
use Rattle.audit_sd.specs.declared.subscriptions.entry.Asked.{Asked}
use Rattle.audit_sd.specs.declared.subscriptions.entry.EntryKind.{EntryKind}
use Rattle.audit_sd.specs.declared.subscriptions.entry.EntryKind.TheVariants.{Answer, Subscribe}
use Rattle.audit_sd.specs.declared.subscriptions.entry.SubscribeEntry.{SubscribeEntry}
use Rattle.audit_sd.specs.declared.subscriptions.finding.Finding.{Finding}
use Rattle.audit_sd.specs.declared.subscriptions.finding.Finding.TheVariants.{Full}
use Rattle.audit_sd.specs.declared.subscriptions.finding.Unanswered.{Unanswered}
use Rattle.audit_sd.specs.declared.subscriptions.key.SubscriptionKey.{SubscriptionKey}
use Rattle.audit_sd.specs.subscriptions.SubscriptionKeys.{subscription_cmp, coded_key}
use Rattle.audit_sd.specs.subscriptions.OwedAnswers.{Owing, coded_owed, once_answered, once_asked}
use Rattle.audit_sd.specs.subscriptions.SubscribeRules.{asked_at, is_late, is_of, told_of_answer, unasked_as, waits_until}

-- the Subscribes that wait, by their subscription
abbrev pub Waiting : Type 0
Waiting = FinMap subscription_cmp Asked

-- what a book holds, how many Subscribes it may hold, how many milliseconds an answer may take, from which moment an answer is
-- known to be asked for or not, and whether the book told that it is full
pub record SubscribeTable : Type 0 where
  pub limit : ℕ
  pub answer_ms : ℕ
  pub settled : ℕ
  pub waiting : Waiting
  pub owed : Owing
  pub told_full : Bool

-- a book for so many that holds none
abbrev pub no_subscribes : ℕ → ℕ → ℕ → SubscribeTable
no_subscribes limit answer_ms settled =
    record { limit = limit; answer_ms = answer_ms; settled = settled; waiting = finite.empty; owed = finite.empty; told_full = false }

-- there is room for a Subscribe: it may wait, and its answer may be owed
abbrev pub has_room : SubscriptionKey → SubscribeTable → Bool
has_room key book = may_hold book.limit book.waiting key && may_hold book.limit book.owed key

-- ---- an entry

-- what is told of a Subscribe: nothing, but where there is no room for it
abbrev pub told_of_subscribe : SubscribeEntry → SubscribeTable → Option Finding
told_of_subscribe entry book = if entry.ttl == 0 || has_room entry.key book then None else told_when_full Full book.told_full

-- what is told of an entry
abbrev pub told_of : EntryKind → SubscribeEntry → SubscribeTable → Option Finding
told_of Subscribe entry book = told_of_subscribe entry book
told_of Answer entry book = told_of_answer entry

abbrev pub told_by : SubscribeEntry → SubscribeTable → Option Finding
told_by entry book = told_of entry.kind entry book

-- whether an answer of a subscription was asked for is not known: what came before the recording may have asked for it, or what
-- the book did not take; or one is owed
abbrev pub may_be_asked : ℕ → SubscriptionKey → SubscribeTable → Bool
may_be_asked now key book = nat_lt now book.settled || book.told_full || is_some (finite.get book.owed key)

-- what is told of an answer that nobody asked for
abbrev pub unasked_by : ℕ → SubscribeEntry → SubscribeTable → Option Finding
unasked_by now entry book = if may_be_asked now entry.key book then None else unasked_as entry.kind entry

-- the Subscribes that wait once one more came: where one waits under its key, that one goes on to wait
abbrev pub waiting_with : ℕ → ℕ → SubscribeEntry → Waiting → Waiting
waiting_with now answer_ms entry waiting =
    if is_some (finite.get waiting entry.key) then waiting else finite.insert waiting entry.key (asked_at now answer_ms entry)

-- the book once a Subscribe came; a StopSubscribe changes nothing: the Subscribe before it waits
abbrev pub after_subscribe : ℕ → SubscribeEntry → SubscribeTable → SubscribeTable
after_subscribe now entry book =
    if entry.ttl == 0 then book
    else if has_room entry.key book then record book { waiting = waiting_with now book.answer_ms entry book.waiting; owed = once_asked entry.key book.owed }
    else record book { told_full = true }

-- the book once an entry came: an Ack or a Nack is the answer
abbrev pub after : ℕ → EntryKind → SubscribeEntry → SubscribeTable → SubscribeTable
after now Subscribe entry book = after_subscribe now entry book
after now Answer entry book = record book { waiting = finite.remove book.waiting entry.key; owed = once_answered entry.key book.owed }

abbrev pub after_entry : ℕ → SubscribeEntry → SubscribeTable → SubscribeTable
after_entry now entry book = after now entry.kind entry book

-- an entry asks: it is a Subscribe, and not a StopSubscribe
abbrev pub asks : EntryKind → SubscribeEntry → Bool
asks Subscribe entry = not (entry.ttl == 0)
asks Answer entry = false

-- memory may be wanted for a Subscribe that none of its subscription waits beside, or that is the first to be owed an answer,
-- where there is room for it
abbrev pub is_new : SubscriptionKey → SubscribeTable → Bool
is_new key book = is_none (finite.get book.waiting key) || is_none (finite.get book.owed key)

abbrev pub needs_memory : SubscribeEntry → SubscribeTable → Bool
needs_memory entry book = asks entry.kind entry && has_room entry.key book && is_new entry.key book

-- ---- a reboot

-- the book once an address began again: what it asked and what was asked of it waits no more, and no answer is owed
abbrev pub without : Ipv4Addr → SubscribeTable → SubscribeTable
without address book = record book { waiting = retain book.waiting (λ key _. not (is_of address key)); owed = retain book.owed (λ key _. not (is_of address key)) }

-- ---- what falls due

-- what is told once a moment came: the Subscribe that waited too long first, by deadline and then by key, if one has; else
-- none has
abbrev pub FallsDue : ℕ → Waiting → Option Unanswered → Type 0
FallsDue now waiting None = (key : SubscriptionKey) (asked : Asked) → finite.get waiting key ≡ Some asked → is_late now asked ≡ false
FallsDue now waiting (Some told) =
    IsFirstDue waits_until waiting (Some (record { at = told.at; key = told.key }))
    × (finite.get waiting told.key ≡ Some (record { origin = told.origin; until = told.at })) × (told.at ≤ now)

-- the book once it was told: it waits no more
abbrev pub after_due : Option Unanswered → SubscribeTable → SubscribeTable
after_due None book = book
after_due (Some told) book = record book { waiting = finite.remove book.waiting told.key }

-- ---- codes, by which a proof tells values apart

abbrev pub coded_asked : Coded Asked
coded_asked = code_by (Origin × ℕ) (coded× coded_origin coded_ℕ) (λ a. (a.origin, a.until)) (λ c. record { origin = c.0; until = c.1 }) (λ _. refl)

abbrev pub coded_subscribes : Coded SubscribeTable
coded_subscribes =
    code_by ((ℕ × (ℕ × ℕ)) × ((Waiting × Owing) × Bool))
    (coded× (coded× coded_ℕ (coded× coded_ℕ coded_ℕ)) (coded× (coded× (finite.code coded_key coded_asked) (finite.code coded_key coded_owed)) coded_bool))
    (λ b. ((b.limit, (b.answer_ms, b.settled)), ((b.waiting, b.owed), b.told_full)))
    (λ c. record { limit = c.0.0; answer_ms = c.0.1.0; settled = c.0.1.1; waiting = c.1.0.0; owed = c.1.0.1; told_full = c.1.1 }) (λ _. refl)
