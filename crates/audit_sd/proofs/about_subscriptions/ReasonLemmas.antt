-- Why a Subscribe is told as unanswered, and an answer as unasked.
use Rattle.std.proofs.Common.{◌≡◌, ℕ, ◌==◌, ◌≤◌, nat_lt, Bool, true, false, cond, if◌then◌else◌, not, ◌||◌, List, [], ◌∷◌, ◌++◌, Option, None, Some, is_some, refl, sym, ap, ◌∙◌, arith}
use Rattle.std.proofs.lemmas.Bool.Decides.{nat_tests}
use Rattle.std.specs.Ordering.{eq_by_cmp}
use Rattle.someip_tables.specs.Retained.{kept_if}
use Rattle.someip_tables.proofs.Entries.{own_test, same_by_test}
use Rattle.audit_sd.specs.declared.subscriptions.entry.Asked.{Asked}
use Rattle.audit_sd.specs.declared.subscriptions.entry.EntryKind.{EntryKind}
use Rattle.audit_sd.specs.declared.subscriptions.entry.EntryKind.TheVariants.{Answer, Subscribe}
use Rattle.audit_sd.specs.declared.subscriptions.entry.SubscribeEntry.{SubscribeEntry}
use Rattle.audit_sd.specs.declared.subscriptions.finding.Finding.{Finding}
use Rattle.audit_sd.specs.declared.subscriptions.finding.Finding.TheVariants.{UnaskedAck, UnaskedNack}
use Rattle.audit_sd.specs.declared.subscriptions.key.SubscriptionKey.{SubscriptionKey}
use Rattle.audit_sd.specs.declared.subscriptions.owed.Owed.{Owed}
use Rattle.audit_sd.specs.subscriptions.SubscriptionKeys.{subscription_cmp}
use Rattle.audit_sd.specs.subscriptions.SubscriptionOrder.{subscriptions_total, exact_subscriptions}
use Rattle.audit_sd.specs.subscriptions.SubscribeRules.{asked_at, is_late, is_of, unasked_as, unless_late}
use Rattle.audit_sd.specs.subscriptions.SubscribeHistories.{BeganAgain, Entry, Event, Shown, changed_by, or_asked, owed_in, unanswered_in, unasked_in, waiting_in, waits_after}
use Rattle.audit_sd.specs.subscriptions.SubscribeReasons.{IsUnasked, IsWaiting, NoneSince, is_answer, leaves}

kept : (p : Asked → Bool) (v : Option Asked) (asked : Asked) → kept_if p v ≡ Some asked → (v ≡ Some asked) × (p asked ≡ true)
kept p None asked is = absurd (cc)
kept p (Some held) asked is = cases (p held) refl is
  where
    cases : (b : Bool) → p held ≡ b → cond b (Some held) None ≡ Some asked → (Some held ≡ Some asked) × (p asked ≡ true)
    cases true passes e = let same : held ≡ asked = cc in (e, ap p (sym same) ∙ passes)
    cases false passes e = absurd (cc)

not_true : (b : Bool) → not b ≡ true → b ≡ false
not_true true is = absurd (cc)
not_true false is = refl

-- ---- one event

-- it is a Subscribe by which one waits
abbrev Made : ℕ → SubscriptionKey → Asked → ℕ → Shown → Type 0
Made answer_ms key asked at (Entry entry) = (entry.key ≡ key) × (entry.kind ≡ Subscribe) × ((entry.ttl == 0) ≡ false) × (asked_at at answer_ms entry ≡ asked)
Made answer_ms key asked at (BeganAgain address) = ⊥

data Change (answer_ms : ℕ) (key : SubscriptionKey) (asked : Asked) (at : ℕ) (shown : Shown) (before : Option Asked) : Type 0 where
  left : before ≡ Some asked → leaves key shown ≡ true → Change answer_ms key asked at shown before
  made : before ≡ None → Made answer_ms key asked at shown → Change answer_ms key asked at shown before

changed : (answer_ms : ℕ) (key : SubscriptionKey) (asked : Asked) (at : ℕ) (shown : Shown) (before : Option Asked) → changed_by at answer_ms shown key before ≡ Some asked → Change answer_ms key asked at shown before
changed answer_ms key asked at (BeganAgain address) before is = cases (is_of address key) refl is
  where
    cases : (b : Bool) → is_of address key ≡ b → cond b None before ≡ Some asked → Change answer_ms key asked at (BeganAgain address) before
    cases true of e = absurd (cc)
    cases false of e = left e (ap not of)
changed answer_ms key asked at (Entry entry) before is = cases (eq_by_cmp subscription_cmp key entry.key) refl is
  where
    new : eq_by_cmp subscription_cmp key entry.key ≡ true → entry.kind ≡ Subscribe → (entry.ttl == 0) ≡ false → (v : Option Asked) → before ≡ v → or_asked v (asked_at at answer_ms entry) ≡ Some asked
        → Change answer_ms key asked at (Entry entry) before
    new tie kind above None none e = made none (sym (same_by_test exact_subscriptions key entry.key tie), kind, above, (let s : asked_at at answer_ms entry ≡ asked = cc in s))
    new tie kind above (Some earlier) some e = left (some ∙ e) (rw (tie, kind) refl)

    subscribes : eq_by_cmp subscription_cmp key entry.key ≡ true → entry.kind ≡ Subscribe → (z : Bool) → (entry.ttl == 0) ≡ z
        → (if z then before else or_asked before (asked_at at answer_ms entry)) ≡ Some asked → Change answer_ms key asked at (Entry entry) before
    subscribes tie kind true is_z e = left e (rw (tie, kind) refl)
    subscribes tie kind false is_z e = new tie kind is_z before refl e

    by : eq_by_cmp subscription_cmp key entry.key ≡ true → (kind : EntryKind) → entry.kind ≡ kind → waits_after kind at answer_ms entry before ≡ Some asked → Change answer_ms key asked at (Entry entry) before
    by tie Subscribe kind e = subscribes tie kind (entry.ttl == 0) refl e
    by tie Answer kind e = absurd (cc)

    cases : (t : Bool) → eq_by_cmp subscription_cmp key entry.key ≡ t → cond t (waits_after entry.kind at answer_ms entry before) before ≡ Some asked → Change answer_ms key asked at (Entry entry) before
    cases false tie e = left e (rw tie refl)
    cases true tie e = by tie entry.kind refl e

-- what leaves a Subscribe waiting changes nothing
unchanged : (answer_ms : ℕ) (key : SubscriptionKey) (asked : Asked) (at : ℕ) (shown : Shown) → leaves key shown ≡ true → changed_by at answer_ms shown key (Some asked) ≡ Some asked
unchanged answer_ms key asked at (BeganAgain address) is = rw (not_true (is_of address key) is) refl
unchanged answer_ms key asked at (Entry entry) is = cases (eq_by_cmp subscription_cmp key entry.key) is
  where
    by : (kind : EntryKind) → not (is_answer kind) ≡ true → waits_after kind at answer_ms entry (Some asked) ≡ Some asked
    by Subscribe e = either (entry.ttl == 0)
      where
        either : (z : Bool) → (if z then Some asked else Some asked) ≡ Some asked
        either true = refl
        either false = refl
    by Answer e = absurd (cc)

    cases : (t : Bool) → (not t || not (is_answer entry.kind)) ≡ true → cond t (waits_after entry.kind at answer_ms entry (Some asked)) (Some asked) ≡ Some asked
    cases false e = refl
    cases true e = by entry.kind e

-- ---- all events

further : (answer_ms : ℕ) (key : SubscriptionKey) (asked : Asked) (event : Event) (earlier : List Event) → is_late event.at asked ≡ false → leaves key event.shown ≡ true
    → IsWaiting answer_ms key asked earlier → IsWaiting answer_ms key asked (event ∷ earlier)
further answer_ms key asked event earlier waits leaves_it one =
    (event ∷ one.0, one.1, one.2, one.3, ap (λ es. event ∷ es) one.4, one.5, one.6, one.7, one.8, one.9, (waits, leaves_it, one.10))

pub waiting_is : (answer_ms : ℕ) (key : SubscriptionKey) (asked : Asked) (events : List Event) → waiting_in answer_ms events key ≡ Some asked → IsWaiting answer_ms key asked events
waiting_is answer_ms key asked [] is = absurd (cc)
waiting_is answer_ms key asked (event ∷ earlier) is =
    by (changed answer_ms key asked event.at event.shown (unless_late event.at (waiting_in answer_ms earlier key)) is) (waiting_is answer_ms key asked earlier)
  where
    begun : (shown : Shown) → event.shown ≡ shown → unless_late event.at (waiting_in answer_ms earlier key) ≡ None → Made answer_ms key asked event.at shown → IsWaiting answer_ms key asked (event ∷ earlier)
    begun (BeganAgain address) same none it = absurd it
    begun (Entry entry) same none it =
        ([], event.at, entry, earlier, ap (λ (s : Shown). record { at = event.at; shown = s } ∷ earlier) same, it.0, it.1, it.2, none, it.3, tt)

    by : Change answer_ms key asked event.at event.shown (unless_late event.at (waiting_in answer_ms earlier key)) → (waiting_in answer_ms earlier key ≡ Some asked → IsWaiting answer_ms key asked earlier)
        → IsWaiting answer_ms key asked (event ∷ earlier)
    by (left before leaves_it) rest =
        let stays = kept (λ a. not (is_late event.at a)) (waiting_in answer_ms earlier key) asked before in
        further answer_ms key asked event earlier (not_true (is_late event.at asked) stays.1) leaves_it (rest stays.0)
    by (made none it) rest = begun event.shown refl none it

waits_on : (answer_ms : ℕ) (key : SubscriptionKey) (asked : Asked) (newer rest : List Event) → waiting_in answer_ms rest key ≡ Some asked → NoneSince key asked newer → waiting_in answer_ms (newer ++ rest) key ≡ Some asked
waits_on answer_ms key asked [] rest is since = is
waits_on answer_ms key asked (event ∷ newer) rest is since =
    ap (λ v. changed_by event.at answer_ms event.shown key (unless_late event.at v)) (waits_on answer_ms key asked newer rest is since.2)
    ∙ rw since.0 (unchanged answer_ms key asked event.at event.shown since.1)

pub is_waiting : (answer_ms : ℕ) (key : SubscriptionKey) (asked : Asked) (events : List Event) → IsWaiting answer_ms key asked events → waiting_in answer_ms events key ≡ Some asked
is_waiting answer_ms key asked events one =
    ap (λ es. waiting_in answer_ms es key) one.4 ∙ waits_on answer_ms key asked one.0 (record { at = one.1; shown = Entry one.2 } ∷ one.3) (begins one.5 one.6 one.7 one.8 one.9) one.10
  where
    begins : one.2.key ≡ key → one.2.kind ≡ Subscribe → (one.2.ttl == 0) ≡ false → unless_late one.1 (waiting_in answer_ms one.3 key) ≡ None → asked_at one.1 answer_ms one.2 ≡ asked
        → waiting_in answer_ms (record { at = one.1; shown = Entry one.2 } ∷ one.3) key ≡ Some asked
    begins same kind above none made_it =
        let tie : eq_by_cmp subscription_cmp key one.2.key ≡ true = ap (eq_by_cmp subscription_cmp key) same ∙ own_test subscriptions_total key in
        rw (none, tie, kind, above) (ap (λ a. Some a) made_it)

pub unanswered_is : (answer_ms now : ℕ) (key : SubscriptionKey) (asked : Asked) (events : List Event) → unanswered_in answer_ms events now key ≡ Some asked → IsWaiting answer_ms key asked events × (is_late now asked ≡ true)
unanswered_is answer_ms now key asked events is = let late = kept (is_late now) (waiting_in answer_ms events key) asked is in (waiting_is answer_ms key asked events late.0, late.1)

pub is_unanswered : (answer_ms now : ℕ) (key : SubscriptionKey) (asked : Asked) (events : List Event) → IsWaiting answer_ms key asked events → is_late now asked ≡ true → unanswered_in answer_ms events now key ≡ Some asked
is_unanswered answer_ms now key asked events waits late = ap (kept_if (is_late now)) (is_waiting answer_ms key asked events waits) ∙ rw late refl

-- ---- an answer that nobody asked for

at_least : (a b : ℕ) → nat_lt a b ≡ false → b ≤ a
at_least a b is = grind (arith, nat_tests)

not_below : (a b : ℕ) → b ≤ a → nat_lt a b ≡ false
not_below a b is = grind (arith, nat_tests)

pub unasked_is : (settled now : ℕ) (entry : SubscribeEntry) (finding : Finding) (events : List Event) → unasked_in settled events now entry ≡ Some finding → IsUnasked settled now entry finding events
unasked_is settled now entry finding events is = cases (nat_lt now settled) (owed_in events entry.key) refl refl is
  where
    by : (kind : EntryKind) → entry.kind ≡ kind → nat_lt now settled ≡ false → owed_in events entry.key ≡ None → unasked_as kind entry ≡ Some finding → IsUnasked settled now entry finding events
    by Subscribe kind later none e = absurd (cc)
    by Answer kind later none e = (kind, at_least now settled later, none, (let same : (if entry.ttl == 0 then UnaskedNack else UnaskedAck) ≡ finding = cc in sym same))

    cases : (b : Bool) (v : Option Owed) → nat_lt now settled ≡ b → owed_in events entry.key ≡ v → (if b || is_some v then None else unasked_as entry.kind entry) ≡ Some finding
        → IsUnasked settled now entry finding events
    cases true v later none e = absurd (cc)
    cases false (Some owed) later none e = absurd (cc)
    cases false None later none e = by entry.kind refl later none e

pub is_unasked : (settled now : ℕ) (entry : SubscribeEntry) (finding : Finding) (events : List Event) → IsUnasked settled now entry finding events → unasked_in settled events now entry ≡ Some finding
is_unasked settled now entry finding events one = rw (not_below now settled one.1, one.2, one.0) (ap (λ f. Some f) (sym one.3))
