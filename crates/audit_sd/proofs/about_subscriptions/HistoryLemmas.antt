-- What a book holds of the events so far.
use Rattle.std.proofs.Common.{◌≡◌, ℕ, ◌==◌, nat_lt, Bool, true, false, cond, if◌then◌else◌, not, ◌||◌, List, [], ◌∷◌, Option, None, Some, is_some, refl, sym, ap, ◌∙◌}
use Rattle.std.specs.Ordering.{eq_by_cmp}
use Rattle.std.specs.FinMap as finite
use Rattle.std.specs.FinMap.{FinMap}
use Rattle.std.specs.declared.net.ipv4_addr.Ipv4Addr.{Ipv4Addr}
use Rattle.someip_tables.specs.Retained.{kept_if, retain}
use Rattle.someip_tables.proofs.Entries.{get-retain, same_by_test}
use Rattle.someip_tables.specs.hashed.Rooms.{told_when_full}
use Rattle.audit_sd.specs.declared.subscriptions.entry.Asked.{Asked}
use Rattle.audit_sd.specs.declared.subscriptions.entry.EntryKind.{EntryKind}
use Rattle.audit_sd.specs.declared.subscriptions.entry.EntryKind.TheVariants.{Answer, Subscribe}
use Rattle.audit_sd.specs.declared.subscriptions.entry.SubscribeEntry.{SubscribeEntry}
use Rattle.audit_sd.specs.declared.subscriptions.finding.Finding.TheVariants.{Full, Nack}
use Rattle.audit_sd.specs.declared.subscriptions.key.SubscriptionKey.{SubscriptionKey}
use Rattle.audit_sd.specs.declared.subscriptions.owed.Owed.{Owed}
use Rattle.audit_sd.specs.subscriptions.SubscriptionKeys.{subscription_cmp}
use Rattle.audit_sd.specs.subscriptions.SubscriptionOrder.{subscriptions_total, exact_subscriptions}
use Rattle.audit_sd.specs.subscriptions.OwedAnswers.{Owing, once_answered, once_asked, one_less, one_more, with_owed}
use Rattle.audit_sd.specs.subscriptions.SubscribeRules.{asked_at, is_late, is_of, unasked_as, unless_late}
use Rattle.audit_sd.specs.subscriptions.SubscribeTables.{SubscribeTable, Waiting, after, after_entry, after_subscribe, asks, has_room, told_by, told_of, unasked_by, waiting_with}
use Rattle.audit_sd.specs.subscriptions.SubscribeHistories.{BeganAgain, Entry, Event, Shown, book_after, book_of, changed_by, or_asked, owed_after, owed_by, owed_in, unasked_in, waiting_in, waits_after, without_late}

-- ---- one entry

-- a Subscribe waits under its key, or goes on to
get-waiting : (now answer_ms : ℕ) (entry : SubscribeEntry) (waiting : Waiting) (key : SubscriptionKey)
    → finite.get (waiting_with now answer_ms entry waiting) key
    ≡ (if eq_by_cmp subscription_cmp key entry.key then or_asked (finite.get waiting key) (asked_at now answer_ms entry) else finite.get waiting key)
get-waiting now answer_ms entry waiting key = cases (finite.get waiting entry.key) refl
  where
    goes_on : (asked : Asked) (t : Bool) → finite.get waiting entry.key ≡ Some asked → eq_by_cmp subscription_cmp key entry.key ≡ t
        → finite.get waiting key ≡ cond t (or_asked (finite.get waiting key) (asked_at now answer_ms entry)) (finite.get waiting key)
    goes_on asked true is tie =
        let here : finite.get waiting key ≡ Some asked = ap (finite.get waiting) (same_by_test exact_subscriptions key entry.key tie) ∙ is in
        rw here refl
    goes_on asked false is tie = refl

    new : (t : Bool) → finite.get waiting entry.key ≡ None → eq_by_cmp subscription_cmp key entry.key ≡ t
        → cond t (Some (asked_at now answer_ms entry)) (finite.get waiting key) ≡ cond t (or_asked (finite.get waiting key) (asked_at now answer_ms entry)) (finite.get waiting key)
    new true is tie =
        let here : finite.get waiting key ≡ None = ap (finite.get waiting) (same_by_test exact_subscriptions key entry.key tie) ∙ is in
        rw here refl
    new false is tie = refl

    cases : (v : Option Asked) → finite.get waiting entry.key ≡ v
        → finite.get (cond (is_some v) waiting (finite.insert waiting entry.key (asked_at now answer_ms entry))) key
        ≡ cond (eq_by_cmp subscription_cmp key entry.key) (or_asked (finite.get waiting key) (asked_at now answer_ms entry)) (finite.get waiting key)
    cases (Some asked) is = goes_on asked (eq_by_cmp subscription_cmp key entry.key) is refl
    cases None is = finite.get-insert subscriptions_total waiting entry.key (asked_at now answer_ms entry) key ∙ new (eq_by_cmp subscription_cmp key entry.key) is refl

either : {X : Type 0} (t : Bool) (x : X) → x ≡ cond t x x
either true x = refl
either false x = refl

-- the book once a Subscribe came: one with a TTL of 0 or not, that there is room for or not
abbrev subscribed : ℕ → SubscribeEntry → SubscribeTable → Bool → Bool → SubscribeTable
subscribed now entry book z b =
    if z then book
    else if b then record book { waiting = waiting_with now book.answer_ms entry book.waiting; owed = once_asked entry.key book.owed }
    else record book { told_full = true }

get-subscribe : (now : ℕ) (entry : SubscribeEntry) (book : SubscribeTable) (key : SubscriptionKey) → (after_subscribe now entry book).told_full ≡ false
    → finite.get (after_subscribe now entry book).waiting key
    ≡ (if eq_by_cmp subscription_cmp key entry.key then waits_after Subscribe now book.answer_ms entry (finite.get book.waiting key) else finite.get book.waiting key)
get-subscribe now entry book key fits = cases (entry.ttl == 0) (has_room entry.key book) fits
  where
    cases : (z b : Bool) → (subscribed now entry book z b).told_full ≡ false
        → finite.get (subscribed now entry book z b).waiting key
        ≡ cond (eq_by_cmp subscription_cmp key entry.key) (if z then finite.get book.waiting key else or_asked (finite.get book.waiting key) (asked_at now book.answer_ms entry)) (finite.get book.waiting key)
    cases true b still = either (eq_by_cmp subscription_cmp key entry.key) (finite.get book.waiting key)
    cases false true still = get-waiting now book.answer_ms entry book.waiting key
    cases false false still = absurd (cc)

get-after : (kind : EntryKind) (now : ℕ) (entry : SubscribeEntry) (book : SubscribeTable) (key : SubscriptionKey) → (after now kind entry book).told_full ≡ false
    → finite.get (after now kind entry book).waiting key
    ≡ (if eq_by_cmp subscription_cmp key entry.key then waits_after kind now book.answer_ms entry (finite.get book.waiting key) else finite.get book.waiting key)
get-after Subscribe now entry book key fits = get-subscribe now entry book key fits
get-after Answer now entry book key fits = finite.get-remove subscriptions_total book.waiting entry.key key

-- ---- the answers that are owed

get-owed : (v : Option Owed) (owing : Owing) (one key : SubscriptionKey) → finite.get (with_owed v one owing) key ≡ cond (eq_by_cmp subscription_cmp key one) v (finite.get owing key)
get-owed None owing one key = finite.get-remove subscriptions_total owing one key
get-owed (Some owed) owing one key = finite.get-insert subscriptions_total owing one owed key

-- what becomes of what is owed under the key of an entry, by what was owed under that key
by_key : (f : Option Owed → Option Owed) (owing : Owing) (one key : SubscriptionKey) (t : Bool) → eq_by_cmp subscription_cmp key one ≡ t
    → cond t (f (finite.get owing one)) (finite.get owing key) ≡ cond t (f (finite.get owing key)) (finite.get owing key)
by_key f owing one key true tie = ap (λ q. f (finite.get owing q)) (sym (same_by_test exact_subscriptions key one tie))
by_key f owing one key false tie = refl

get-answered : (owing : Owing) (one key : SubscriptionKey) → finite.get (once_answered one owing) key ≡ cond (eq_by_cmp subscription_cmp key one) (one_less (finite.get owing key)) (finite.get owing key)
get-answered owing one key = get-owed (one_less (finite.get owing one)) owing one key ∙ by_key one_less owing one key (eq_by_cmp subscription_cmp key one) refl

get-asked : (owing : Owing) (one key : SubscriptionKey) → finite.get (once_asked one owing) key ≡ cond (eq_by_cmp subscription_cmp key one) (Some (one_more (finite.get owing key))) (finite.get owing key)
get-asked owing one key = finite.get-insert subscriptions_total owing one (one_more (finite.get owing one)) key ∙ by_key (λ v. Some (one_more v)) owing one key (eq_by_cmp subscription_cmp key one) refl

owed-after : (kind : EntryKind) (now : ℕ) (entry : SubscribeEntry) (book : SubscribeTable) (key : SubscriptionKey) → (after now kind entry book).told_full ≡ false
    → finite.get (after now kind entry book).owed key
    ≡ (if eq_by_cmp subscription_cmp key entry.key then owed_after kind entry (finite.get book.owed key) else finite.get book.owed key)
owed-after Answer now entry book key fits = get-answered book.owed entry.key key
owed-after Subscribe now entry book key fits = cases (entry.ttl == 0) (has_room entry.key book) fits
  where
    cases : (z b : Bool) → (subscribed now entry book z b).told_full ≡ false
        → finite.get (subscribed now entry book z b).owed key
        ≡ cond (eq_by_cmp subscription_cmp key entry.key) (if z then finite.get book.owed key else Some (one_more (finite.get book.owed key))) (finite.get book.owed key)
    cases true b still = either (eq_by_cmp subscription_cmp key entry.key) (finite.get book.owed key)
    cases false true still = get-asked book.owed entry.key key
    cases false false still = absurd (cc)

-- ---- a reboot

get-without : {X : Type 0} (address : Ipv4Addr) (held : FinMap subscription_cmp X) (key : SubscriptionKey)
    → finite.get (retain held (λ key _. not (is_of address key))) key ≡ (if is_of address key then None else finite.get held key)
get-without {X} address held key = get-retain subscriptions_total exact_subscriptions held (λ key _. not (is_of address key)) key ∙ at (is_of address key) (finite.get held key)
  where
    at : (b : Bool) (v : Option X) → kept_if (λ _. not b) v ≡ cond b None v
    at true None = refl
    at false None = refl
    at true (Some x) = refl
    at false (Some x) = refl

-- ---- whether a book is full, and how long an answer may take

full_after : (now : ℕ) (entry : SubscribeEntry) (kind : EntryKind) (book : SubscribeTable) → book.told_full ≡ true → (after now kind entry book).told_full ≡ true
full_after now entry Answer book is = is
full_after now entry Subscribe book is = cases (entry.ttl == 0) (has_room entry.key book)
  where
    cases : (z b : Bool) → (subscribed now entry book z b).told_full ≡ true
    cases true b = is
    cases false true = is
    cases false false = refl

pub full_stays : (now : ℕ) (entry : SubscribeEntry) (book : SubscribeTable) → book.told_full ≡ true → (after_entry now entry book).told_full ≡ true
full_stays now entry book is = full_after now entry entry.kind book is

-- a book that is not full after something was shown was not full before
not_before : (now : ℕ) (shown : Shown) (book : SubscribeTable) (b : Bool) → book.told_full ≡ b → (book_after now shown book).told_full ≡ false → book.told_full ≡ false
not_before now shown book false is fits = is
not_before now (Entry entry) book true is fits = let full = full_stays now entry book is in absurd (cc)
not_before now (BeganAgain address) book true is fits = fits

same_time : (now : ℕ) (entry : SubscribeEntry) (kind : EntryKind) (book : SubscribeTable) → ((after now kind entry book).answer_ms ≡ book.answer_ms) × ((after now kind entry book).settled ≡ book.settled)
same_time now entry Answer book = (refl, refl)
same_time now entry Subscribe book = cases (entry.ttl == 0) (has_room entry.key book)
  where
    cases : (z b : Bool) → ((subscribed now entry book z b).answer_ms ≡ book.answer_ms) × ((subscribed now entry book z b).settled ≡ book.settled)
    cases true b = (refl, refl)
    cases false true = (refl, refl)
    cases false false = (refl, refl)

time_is : (limit answer_ms settled : ℕ) (events : List Event) → ((book_of limit answer_ms settled events).answer_ms ≡ answer_ms) × ((book_of limit answer_ms settled events).settled ≡ settled)
time_is limit answer_ms settled [] = (refl, refl)
time_is limit answer_ms settled (event ∷ earlier) =
    let one = after_shown event.shown in
    let rest = time_is limit answer_ms settled earlier in
    (one.0 ∙ rest.0, one.1 ∙ rest.1)
  where
    after_shown : (shown : Shown) → ((book_after event.at shown (without_late event.at (book_of limit answer_ms settled earlier))).answer_ms ≡ (book_of limit answer_ms settled earlier).answer_ms)
        × ((book_after event.at shown (without_late event.at (book_of limit answer_ms settled earlier))).settled ≡ (book_of limit answer_ms settled earlier).settled)
    after_shown (Entry entry) = same_time event.at entry entry.kind (without_late event.at (book_of limit answer_ms settled earlier))
    after_shown (BeganAgain address) = (refl, refl)

-- ---- all events

get-shown : (now : ℕ) (shown : Shown) (book : SubscribeTable) (key : SubscriptionKey) → (book_after now shown book).told_full ≡ false
    → finite.get (book_after now shown book).waiting key ≡ changed_by now book.answer_ms shown key (finite.get book.waiting key)
get-shown now (Entry entry) book key fits = get-after entry.kind now entry book key fits
get-shown now (BeganAgain address) book key fits = get-without address book.waiting key

owed-shown : (now : ℕ) (shown : Shown) (book : SubscribeTable) (key : SubscriptionKey) → (book_after now shown book).told_full ≡ false
    → finite.get (book_after now shown book).owed key ≡ owed_by shown key (finite.get book.owed key)
owed-shown now (Entry entry) book key fits = owed-after entry.kind now entry book key fits
owed-shown now (BeganAgain address) book key fits = get-without address book.owed key

-- a book that was never full holds the Subscribes that wait
pub waits : (limit answer_ms settled : ℕ) (events : List Event) (key : SubscriptionKey) → (book_of limit answer_ms settled events).told_full ≡ false
    → finite.get (book_of limit answer_ms settled events).waiting key ≡ waiting_in answer_ms events key
waits limit answer_ms settled [] key fits = finite.get-empty subscription_cmp key
waits limit answer_ms settled (event ∷ earlier) key fits =
    let before = not_before event.at event.shown (without_late event.at (book_of limit answer_ms settled earlier)) (book_of limit answer_ms settled earlier).told_full refl fits in
    get-shown event.at event.shown (without_late event.at (book_of limit answer_ms settled earlier)) key fits
    ∙ ap (λ ms. changed_by event.at ms event.shown key (finite.get (without_late event.at (book_of limit answer_ms settled earlier)).waiting key)) (time_is limit answer_ms settled earlier).0
    ∙ ap (changed_by event.at answer_ms event.shown key)
    (get-retain subscriptions_total exact_subscriptions (book_of limit answer_ms settled earlier).waiting (λ _ asked. not (is_late event.at asked)) key
    ∙ ap (unless_late event.at) (waits limit answer_ms settled earlier key before))

-- and the answers that are owed
pub owes : (limit answer_ms settled : ℕ) (events : List Event) (key : SubscriptionKey) → (book_of limit answer_ms settled events).told_full ≡ false
    → finite.get (book_of limit answer_ms settled events).owed key ≡ owed_in events key
owes limit answer_ms settled [] key fits = finite.get-empty subscription_cmp key
owes limit answer_ms settled (event ∷ earlier) key fits =
    let before = not_before event.at event.shown (without_late event.at (book_of limit answer_ms settled earlier)) (book_of limit answer_ms settled earlier).told_full refl fits in
    owed-shown event.at event.shown (without_late event.at (book_of limit answer_ms settled earlier)) key fits
    ∙ ap (owed_by event.shown key) (owes limit answer_ms settled earlier key before)

-- and tells the answers that nobody asked for
pub unasked : (limit answer_ms settled : ℕ) (events : List Event) (now : ℕ) (entry : SubscribeEntry) → (book_of limit answer_ms settled events).told_full ≡ false
    → unasked_by now entry (book_of limit answer_ms settled events) ≡ unasked_in settled events now entry
unasked limit answer_ms settled events now entry fits =
    by (book_of limit answer_ms settled events) settled (owed_in events entry.key) (time_is limit answer_ms settled events).1 fits (owes limit answer_ms settled events entry.key fits)
  where
    by : (book : SubscribeTable) (from : ℕ) (owed : Option Owed) → book.settled ≡ from → book.told_full ≡ false → finite.get book.owed entry.key ≡ owed
        → unasked_by now entry book ≡ (if nat_lt now from || is_some owed then None else unasked_as entry.kind entry)
    by book from owed is fits has = rw (is, fits, has) (ap (λ t. if t then None else unasked_as entry.kind entry) (drop (nat_lt now from) (is_some owed)))
      where
        drop : (b c : Bool) → (b || false || c) ≡ (b || c)
        drop true c = refl
        drop false c = refl

-- ---- that it is full is told once

full_by : (now : ℕ) (entry : SubscribeEntry) (kind : EntryKind) (book : SubscribeTable) → told_of kind entry book ≡ Some Full → (book.told_full ≡ false) × ((after now kind entry book).told_full ≡ true)
full_by now entry Answer book is = absurd (never (entry.ttl == 0) is)
  where
    never : (b : Bool) → (if b then Some Nack else None) ≡ Some Full → ⊥
    never true e = cc
    never false e = cc
full_by now entry Subscribe book is = cases (entry.ttl == 0) (has_room entry.key book) book.told_full is
  where
    cases : (z b t : Bool) → (if z || b then None else told_when_full Full t) ≡ Some Full
        → (t ≡ false) × ((subscribed now entry book z b).told_full ≡ true)
    cases true b t e = absurd (cc)
    cases false true t e = absurd (cc)
    cases false false true e = absurd (cc)
    cases false false false e = (refl, refl)

pub full_noted : (now : ℕ) (entry : SubscribeEntry) (book : SubscribeTable) → told_by entry book ≡ Some Full → (book.told_full ≡ false) × ((after_entry now entry book).told_full ≡ true)
full_noted now entry book is = full_by now entry entry.kind book is

pub full_told : (entry : SubscribeEntry) (book : SubscribeTable) → asks entry.kind entry ≡ true → has_room entry.key book ≡ false → book.told_full ≡ false
    → told_by entry book ≡ Some Full
full_told entry book asked refused fits = by entry.kind asked
  where
    cases : (z : Bool) → not z ≡ true → (if z || has_room entry.key book then None else told_when_full Full book.told_full) ≡ Some Full
    cases true e = absurd (cc)
    cases false e = rw (refused, fits) refl

    by : (kind : EntryKind) → asks kind entry ≡ true → told_of kind entry book ≡ Some Full
    by Answer e = absurd (cc)
    by Subscribe e = cases (entry.ttl == 0) e

-- and then no answer is told as unasked
pub silent_once_full : (now : ℕ) (entry : SubscribeEntry) (book : SubscribeTable) → book.told_full ≡ true → unasked_by now entry book ≡ None
silent_once_full now entry book full = cases (nat_lt now book.settled)
  where
    cases : (b : Bool) → (if b || book.told_full || is_some (finite.get book.owed entry.key) then None else unasked_as entry.kind entry) ≡ None
    cases true = refl
    cases false = rw full refl
