-- Why a Subscribe is told as unanswered, and an answer as unasked, in plain words. A list of events has the newest first.
use Rattle.std.specs.Prelude.{◌≡◌, ◌≤◌, ℕ, ◌==◌, Bool, true, false, not, ◌||◌, if◌then◌else◌, List, [], ◌∷◌, ◌++◌, None}
use Rattle.std.specs.Ordering.{eq_by_cmp}
use Rattle.audit_sd.specs.declared.subscriptions.entry.Asked.{Asked}
use Rattle.audit_sd.specs.declared.subscriptions.entry.EntryKind.{EntryKind}
use Rattle.audit_sd.specs.declared.subscriptions.entry.EntryKind.TheVariants.{Answer, Subscribe}
use Rattle.audit_sd.specs.declared.subscriptions.entry.SubscribeEntry.{SubscribeEntry}
use Rattle.audit_sd.specs.declared.subscriptions.finding.Finding.{Finding}
use Rattle.audit_sd.specs.declared.subscriptions.finding.Finding.TheVariants.{UnaskedAck, UnaskedNack}
use Rattle.audit_sd.specs.declared.subscriptions.key.SubscriptionKey.{SubscriptionKey}
use Rattle.audit_sd.specs.subscriptions.SubscriptionKeys.{subscription_cmp}
use Rattle.audit_sd.specs.subscriptions.SubscribeRules.{asked_at, is_late, is_of, unless_late}
use Rattle.audit_sd.specs.subscriptions.SubscribeHistories.{BeganAgain, Entry, Event, Shown, owed_in, waiting_in}

-- an entry is an Ack or a Nack
abbrev pub is_answer : EntryKind → Bool
is_answer Answer = true
is_answer Subscribe = false

-- what is shown leaves a Subscribe of a key waiting: it is no answer to it, and no reboot of either side
abbrev pub leaves : SubscriptionKey → Shown → Bool
leaves key (Entry entry) = not (eq_by_cmp subscription_cmp key entry.key) || not (is_answer entry.kind)
leaves key (BeganAgain address) = not (is_of address key)

-- each of these events came while the Subscribe waited, and left it waiting
abbrev pub NoneSince : SubscriptionKey → Asked → List Event → Type 0
NoneSince key asked [] = Unit {0}
NoneSince key asked (event ∷ newer) = (is_late event.at asked ≡ false) × (leaves key event.shown ≡ true) × NoneSince key asked newer

-- among the events a Subscribe of a key came, by which this one waits, and none waited then. Since then it did not wait too
-- long before the last of them, and no answer or reboot ended the wait
abbrev pub IsWaiting : ℕ → SubscriptionKey → Asked → List Event → Type 0
IsWaiting answer_ms key asked events =
    (newer : List Event) × (at : ℕ) × (entry : SubscribeEntry) × (older : List Event)
    × (events ≡ newer ++ record { at = at; shown = Entry entry } ∷ older) × (entry.key ≡ key) × (entry.kind ≡ Subscribe) × ((entry.ttl == 0) ≡ false)
    × (unless_late at (waiting_in answer_ms older key) ≡ None) × (asked_at at answer_ms entry ≡ asked) × NoneSince key asked newer

-- an answer comes, no earlier than it is known what was asked, and by the events before no Subscribe of its subscription is owed
-- one. It is an Ack or a Nack
abbrev pub IsUnasked : ℕ → ℕ → SubscribeEntry → Finding → List Event → Type 0
IsUnasked settled now entry finding events =
    (entry.kind ≡ Answer) × (settled ≤ now) × (owed_in events entry.key ≡ None) × (finding ≡ (if entry.ttl == 0 then UnaskedNack else UnaskedAck))
