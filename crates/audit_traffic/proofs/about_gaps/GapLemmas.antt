-- How many sessions wait, and which of them is lost first.
use Rattle.std.proofs.Common.{◌≡◌, ℕ, zero, suc, ◌+◌, ◌<◌, ◌≤◌, Bool, true, false, cond, None, Some, is_some, Result, Ok, Err, refl, sym, ap, ◌∙◌, arith}
use Rattle.std.specs.Result.{OnErr, OnOk}
use Rattle.std.specs.Option.{option_and_then}
use Rattle.std.proofs.lemmas.Bool.Decides.{nat_tests}
use Rattle.std.specs.FinMap as finite
use Rattle.someip_tables.specs.declared.hashed.due.Due.{Due}
use Rattle.someip_tables.specs.hashed.Dues.{IsFirstDue}
use Rattle.someip_tables.proofs.about_hashed.FirstDues.{not_before}
use Rattle.audit_traffic.specs.declared.events.flow.EventFlow.{EventFlow}
use Rattle.audit_traffic.specs.declared.gaps.awaited.Awaited.{Awaited}
use Rattle.audit_traffic.specs.declared.gaps.gap.Gap.{Gap}
use Rattle.audit_traffic.specs.declared.gaps.key.MissingEvent.{MissingEvent}
use Rattle.audit_traffic.specs.gaps.GapRules.{missing_count, session_after, waits_until}
use Rattle.audit_traffic.specs.gaps.GapTables.{FallsDue, IsBegunGap, IsSkippedInPart, Waiting, is_wide, key_count, once_skipped, or_waits, run_of_gap, with_missing}
use Rattle.audit_traffic.specs.gaps.MissingKeys.{missing_cmp, missing_of}
use Rattle.audit_traffic.specs.gaps.MissingOrder.{missing_total}

-- ---- how many wait

pub none_within : (waiting : Waiting) (limit : ℕ) → waiting ≡ finite.empty → finite.len waiting ≤ limit
none_within waiting limit none = rw (none, finite.len-empty missing_cmp Awaited) (omega arith)

one_more : (key : MissingEvent) (awaited : Awaited) (waiting : Waiting) → finite.len (or_waits key awaited waiting) ≤ finite.len waiting + 1
one_more key awaited waiting = cases (is_some (finite.get waiting key)) refl
  where
    cases : (b : Bool) → is_some (finite.get waiting key) ≡ b → finite.len (cond b waiting (finite.insert waiting key awaited)) ≤ finite.len waiting + 1
    cases true is = omega arith
    cases false is = rw (finite.len-insert missing_total waiting key awaited, is) (omega arith)

pub at_most : (flow : EventFlow) (first : ℕ) (awaited : Awaited) (n : ℕ) (waiting : Waiting) → finite.len (with_missing flow first awaited n waiting) ≤ finite.len waiting + n
at_most flow first awaited zero waiting = omega arith
at_most flow first awaited (suc n) waiting =
    let before = at_most flow first awaited n waiting in
    let more = one_more (missing_of flow (session_after first n)) awaited (with_missing flow first awaited n waiting) in
    omega (arith, before, more)

pub within : (flow : EventFlow) (first : ℕ) (awaited : Awaited) (n count limit : ℕ) (waiting new : Waiting) → new ≡ with_missing flow first awaited n waiting → n ≤ count → finite.len waiting + count ≤ limit → finite.len new ≤ limit
within flow first awaited n count limit waiting new is few room =
    let most = at_most flow first awaited n waiting in
    rw is (omega (arith, most, few, room))

-- whether the sessions of a gap began to wait or some of them did, there is room for them
begun_within : {T E : Type 0} (flow : EventFlow) (first : ℕ) (awaited : Awaited) (count limit : ℕ) (old new : Waiting) (result : Result T E) → finite.len old + count ≤ limit
    → OnOk result (new ≡ with_missing flow first awaited count old) → OnErr result (IsBegunGap flow first awaited count old new) → finite.len new ≤ limit
begun_within flow first awaited count limit old new (Ok told) room ok err = within flow first awaited count count limit old new ok (omega arith) room
begun_within flow first awaited count limit old new (Err e) room ok err = within flow first awaited err.0 count limit old new err.2 err.1 room

-- and of any gap
pub skipped_within : {T E : Type 0} (gap : Gap) (awaited : Awaited) (limit : ℕ) (old new : Waiting) (result : Result T E) → finite.len old + key_count gap ≤ limit
    → OnOk result (new ≡ once_skipped gap awaited old) → OnErr result (IsSkippedInPart gap awaited old new) → finite.len new ≤ limit
skipped_within {T = T} {E = E} gap awaited limit old new result room ok err = cases (is_wide gap) result room ok err
  where
    wide : (r : Result T E) → finite.len old + 1 ≤ limit → OnOk r (new ≡ or_waits (run_of_gap gap) awaited old) → OnErr r (IsBegunGap gap.flow gap.first awaited 0 old new) → finite.len new ≤ limit
    wide (Ok told) few is in_part =
        let more = one_more (run_of_gap gap) awaited old in
        rw is (omega (arith, more, few))
    wide (Err e) few is in_part = within gap.flow gap.first awaited in_part.0 0 limit old new in_part.2 in_part.1 (omega (arith, few))

    cases : (w : Bool) (r : Result T E) → finite.len old + cond w 1 (missing_count gap) ≤ limit
        → OnOk r (new ≡ cond w (or_waits (run_of_gap gap) awaited old) (with_missing gap.flow gap.first awaited (missing_count gap) old))
        → OnErr r (IsBegunGap gap.flow gap.first awaited (cond w 0 (missing_count gap)) old new) → finite.len new ≤ limit
    cases true r few is in_part = wide r few is in_part
    cases false r few is in_part = begun_within gap.flow gap.first awaited (missing_count gap) limit old new r few is in_part

-- ---- what is lost first

pub none_by : (now : ℕ) (waiting : Waiting) (first : Due MissingEvent) → IsFirstDue waits_until waiting (Some first) → now < first.at → FallsDue now waiting None
none_by now waiting first is later key awaited has =
    let le : first.at ≤ awaited.until = not_before missing_cmp first (record { at = awaited.until; key = key }) (is.1 (record { at = awaited.until; key = key }) (ap (option_and_then waits_until) has)) in
    let lt : now < awaited.until = omega (arith, le, later) in
    grind (arith, nat_tests)

pub none_ever : (now : ℕ) (waiting : Waiting) → IsFirstDue waits_until waiting None → FallsDue now waiting None
none_ever now waiting none key awaited has = absurd (never (ap (option_and_then waits_until) (sym has) ∙ none key))
  where
    never : Some awaited.until ≡ None → ⊥
    never is = cc
