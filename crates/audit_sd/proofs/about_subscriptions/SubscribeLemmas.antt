-- How many Subscribes wait, and how many subscriptions an answer is owed to.
use Rattle.std.specs.Prelude.{◌≢◌}
use Rattle.std.proofs.Common.{◌≡◌, ℕ, ◌+◌, ◌-◌, ◌<◌, ◌≤◌, nat_lt, Bool, true, false, cond, if◌then◌else◌, ◌||◌, Option, None, Some, is_some, Result, Ok, Err, refl, ap, arith}
use Rattle.std.specs.Result.{IfOk, OnErr}
use Rattle.std.proofs.lemmas.Bool.{ltb-true}
use Rattle.std.specs.FinMap as finite
use Rattle.std.specs.FinMap.{FinMap}
use Rattle.someip_tables.specs.hashed.Dues.{WantsMemory}
use Rattle.someip_tables.proofs.MapLaws.{len-insert_known, len-remove-≤, remove-insert_absent}
use Rattle.someip_tables.specs.hashed.Rooms.{may_hold}
use Rattle.audit_sd.specs.declared.subscriptions.entry.Asked.{Asked}
use Rattle.audit_sd.specs.declared.subscriptions.entry.SubscribeEntry.{SubscribeEntry}
use Rattle.audit_sd.specs.declared.subscriptions.key.SubscriptionKey.{SubscriptionKey}
use Rattle.audit_sd.specs.declared.subscriptions.owed.Owed.{Owed}
use Rattle.audit_sd.specs.subscriptions.OwedAnswers.{Owing, once_answered, once_asked, one_less, one_more, waits_for_none, with_owed}
use Rattle.audit_sd.specs.subscriptions.SubscriptionKeys.{subscription_cmp}
use Rattle.audit_sd.specs.subscriptions.SubscriptionOrder.{subscriptions_total, exact_subscriptions}
use Rattle.audit_sd.specs.subscriptions.SubscribeRules.{asked_at}
use Rattle.audit_sd.specs.subscriptions.SubscribeTables.{Waiting, waiting_with}

-- none is held
pub none_within : {X : Type 0} (held : FinMap subscription_cmp X) (limit : ℕ) → held ≡ finite.empty → finite.len held ≤ limit
none_within {X} held limit none = rw (none, finite.len-empty subscription_cmp X) (omega arith)

-- a Subscribe makes one more where there is room
with_room : (now answer_ms : ℕ) (entry : SubscribeEntry) (limit : ℕ) (waiting : Waiting) → finite.len waiting ≤ limit → may_hold limit waiting entry.key ≡ true
    → finite.len (waiting_with now answer_ms entry waiting) ≤ limit
with_room now answer_ms entry limit waiting few may = cases (is_some (finite.get waiting entry.key)) refl may
  where
    cases : (b : Bool) → is_some (finite.get waiting entry.key) ≡ b → (b || nat_lt (finite.len waiting) limit) ≡ true
        → finite.len (cond b waiting (finite.insert waiting entry.key (asked_at now answer_ms entry))) ≤ limit
    cases true is m = few
    cases false is m =
        let below : finite.len waiting < limit = ltb-true (finite.len waiting) limit m in
        rw (finite.len-insert subscriptions_total waiting entry.key (asked_at now answer_ms entry), is) (omega (arith, below))

pub waits_within : {T E : Type 0} (now answer_ms : ℕ) (entry : SubscribeEntry) (limit : ℕ) (old new : Waiting) (result : Result T E) → finite.len old ≤ limit → may_hold limit old entry.key ≡ true
    → IfOk result (λ _. new ≡ waiting_with now answer_ms entry old) → OnErr result (new ≡ old) → finite.len new ≤ limit
waits_within now answer_ms entry limit old new (Ok told) few may after err = rw after (with_room now answer_ms entry limit old few may)
waits_within now answer_ms entry limit old new (Err e) few may after err = rw err few

-- one more that is held where there is room, whether or not there was memory for it
put_within : {X : Type 0} (limit : ℕ) (old : FinMap subscription_cmp X) (key : SubscriptionKey) (x : X) → finite.len old ≤ limit → may_hold limit old key ≡ true → finite.len (finite.insert old key x) ≤ limit
put_within limit old key x few may = rw (finite.len-insert subscriptions_total old key x) (cases (is_some (finite.get old key)) may)
  where
    cases : (b : Bool) → (b || nat_lt (finite.len old) limit) ≡ true → cond b (finite.len old) (finite.len old + 1) ≤ limit
    cases true m = few
    cases false m = let below : finite.len old < limit = ltb-true (finite.len old) limit m in omega (arith, below)

pub owed_within : {T E : Type 0} (entry : SubscribeEntry) (limit : ℕ) (old new : Owing) (result : Result T E) → finite.len old ≤ limit → may_hold limit old entry.key ≡ true
    → IfOk result (λ _. new ≡ once_asked entry.key old) → OnErr result (new ≡ old) → finite.len new ≤ limit
owed_within entry limit old new (Ok told) few may after err = rw after (put_within limit old entry.key (one_more (finite.get old entry.key)) few may)
owed_within entry limit old new (Err e) few may after err = rw err few

-- an answer makes none more
pub answered_within : (key : SubscriptionKey) (old : Owing) → finite.len (once_answered key old) ≤ finite.len old
answered_within key old = cases (finite.get old key) refl
  where
    left : (owed : Owed) (b : Bool) → finite.get old key ≡ Some owed → finite.len (with_owed (if b then Some (record { answers = owed.answers - 1 }) else None) key old) ≤ finite.len old
    left owed true is = rw (len-insert_known subscriptions_total exact_subscriptions old key (record { answers = owed.answers - 1 }) owed is) (omega arith)
    left owed false is = len-remove-≤ subscriptions_total exact_subscriptions old key

    cases : (v : Option Owed) → finite.get old key ≡ v → finite.len (with_owed (one_less v) key old) ≤ finite.len old
    cases None is = len-remove-≤ subscriptions_total exact_subscriptions old key
    cases (Some owed) is = left owed (nat_lt 1 owed.answers) is

-- what may be left over once an answer came is owed already
pub left_is_owed : (v : Option Owed) (left : Owed) → one_less v ≡ Some left → v ≢ None
left_is_owed v left is none = never (ap one_less none) is
  where
    never : one_less v ≡ None → one_less v ≡ Some left → ⊥
    never e s = cc

-- a value in place of another takes no memory, since it waits for no moment
pub no_memory : (v : Option Owed) → v ≢ None → WantsMemory waits_for_none v None → ⊥
no_memory None is wants = is refl
no_memory (Some owed) is wants = wants.1 refl

-- a Subscribe that waits no longer, since there was no memory for what it is owed
pub taken_back : (now answer_ms : ℕ) (entry : SubscribeEntry) (old between new : Waiting) → is_some (finite.get old entry.key) ≡ false → between ≡ waiting_with now answer_ms entry old
    → new ≡ finite.remove between entry.key → new ≡ old
taken_back now answer_ms entry old between new none waits removed = rw (removed, waits, none) (remove-insert_absent subscriptions_total exact_subscriptions old entry.key (asked_at now answer_ms entry) (absent (finite.get old entry.key) none))
  where
    absent : (v : Option Asked) → is_some v ≡ false → v ≡ None
    absent None is = refl
    absent (Some asked) is = absurd (cc)
