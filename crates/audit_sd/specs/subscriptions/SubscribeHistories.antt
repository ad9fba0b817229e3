-- Which Subscribes wait after all that a recording showed so far, without a table. A list has the newest first.
use Rattle.std.specs.Prelude.{ℕ, ◌==◌, nat_lt, is_some, not, ◌||◌, if◌then◌else◌, List, [], ◌∷◌, Option, None, Some}
use Rattle.std.specs.Ordering.{eq_by_cmp}
use Rattle.std.specs.declared.net.ipv4_addr.Ipv4Addr.{Ipv4Addr}
use Rattle.someip_tables.specs.Retained.{kept_if, retain}
use Rattle.audit_sd.specs.declared.subscriptions.entry.Asked.{Asked}
use Rattle.audit_sd.specs.declared.subscriptions.entry.EntryKind.{EntryKind}
use Rattle.audit_sd.specs.declared.subscriptions.entry.EntryKind.TheVariants.{Answer, Subscribe}
use Rattle.audit_sd.specs.declared.subscriptions.entry.SubscribeEntry.{SubscribeEntry}
use Rattle.audit_sd.specs.declared.subscriptions.finding.Finding.{Finding}
use Rattle.audit_sd.specs.declared.subscriptions.key.SubscriptionKey.{SubscriptionKey}
use Rattle.audit_sd.specs.declared.subscriptions.owed.Owed.{Owed}
use Rattle.audit_sd.specs.subscriptions.SubscriptionKeys.{subscription_cmp}
use Rattle.audit_sd.specs.subscriptions.OwedAnswers.{one_less, one_more}
use Rattle.audit_sd.specs.subscriptions.SubscribeRules.{asked_at, is_late, is_of, unasked_as, unless_late}
use Rattle.audit_sd.specs.subscriptions.SubscribeTables.{SubscribeTable, after_entry, no_subscribes, without}

-- what a recording shows of subscriptions: an entry, or that an address began again
pub data Shown : Type 0 where
  Entry : SubscribeEntry → Shown
  BeganAgain : Ipv4Addr → Shown

-- at a moment
pub record Event : Type 0 where
  pub at : ℕ
  pub shown : Shown

-- a Subscribe goes on to wait, and else a new one does
abbrev pub or_asked : Option Asked → Asked → Option Asked
or_asked None asked = Some asked
or_asked (Some earlier) asked = Some earlier

-- the Subscribe that waits under the key of an entry once this came: a Subscribe waits, and an answer ends that
abbrev pub waits_after : EntryKind → ℕ → ℕ → SubscribeEntry → Option Asked → Option Asked
waits_after Subscribe now answer_ms entry before = if entry.ttl == 0 then before else or_asked before (asked_at now answer_ms entry)
waits_after Answer now answer_ms entry before = None

-- the Subscribe that waits under a key once something was shown
abbrev pub changed_by : ℕ → ℕ → Shown → SubscriptionKey → Option Asked → Option Asked
changed_by now answer_ms (Entry entry) key before = if eq_by_cmp subscription_cmp key entry.key then waits_after entry.kind now answer_ms entry before else before
changed_by now answer_ms (BeganAgain address) key before = if is_of address key then None else before

-- the Subscribe that waits under a key after these events. One that has waited too long by the next event waits no more then
abbrev pub waiting_in : ℕ → List Event → SubscriptionKey → Option Asked
waiting_in answer_ms [] key = None
waiting_in answer_ms (event ∷ earlier) key = changed_by event.at answer_ms event.shown key (unless_late event.at (waiting_in answer_ms earlier key))

-- the Subscribe under a key that had no answer in time, by a moment before which nothing else comes
abbrev pub unanswered_in : ℕ → List Event → ℕ → SubscriptionKey → Option Asked
unanswered_in answer_ms events now key = kept_if (is_late now) (waiting_in answer_ms events key)

-- what is owed to the subscription of an entry once this came: one answer more for a Subscribe, and one less by an answer
abbrev pub owed_after : EntryKind → SubscribeEntry → Option Owed → Option Owed
owed_after Subscribe entry before = if entry.ttl == 0 then before else Some (one_more before)
owed_after Answer entry before = one_less before

-- what is owed under a key once something was shown
abbrev pub owed_by : Shown → SubscriptionKey → Option Owed → Option Owed
owed_by (Entry entry) key before = if eq_by_cmp subscription_cmp key entry.key then owed_after entry.kind entry before else before
owed_by (BeganAgain address) key before = if is_of address key then None else before

-- the answers that are owed under a key after these events
abbrev pub owed_in : List Event → SubscriptionKey → Option Owed
owed_in [] key = None
owed_in (event ∷ earlier) key = owed_by event.shown key (owed_in earlier key)

-- what an entry is told as that nobody asked for, after these events
abbrev pub unasked_in : ℕ → List Event → ℕ → SubscribeEntry → Option Finding
unasked_in settled events now entry = if nat_lt now settled || is_some (owed_in events entry.key) then None else unasked_as entry.kind entry

-- the book once something was shown
abbrev pub book_after : ℕ → Shown → SubscribeTable → SubscribeTable
book_after now (Entry entry) book = after_entry now entry book
book_after now (BeganAgain address) book = without address book

-- the book without what has waited too long
abbrev pub without_late : ℕ → SubscribeTable → SubscribeTable
without_late now book = record book { waiting = retain book.waiting (λ _ asked. not (is_late now asked)) }

-- the book after these events, where before each it was asked for all that fell due
abbrev pub book_of : ℕ → ℕ → ℕ → List Event → SubscribeTable
book_of limit answer_ms settled [] = no_subscribes limit answer_ms settled
book_of limit answer_ms settled (event ∷ earlier) = book_after event.at event.shown (without_late event.at (book_of limit answer_ms settled earlier))
