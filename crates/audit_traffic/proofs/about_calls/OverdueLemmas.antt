-- The calls that fall due, one after the other.
use Rattle.std.proofs.Common.{◌≡◌, ℕ, ◌+◌, ◌<◌, ◌≤◌, nat_le, Bool, true, false, cond, Option, None, Some, sym, ap, ◌∙◌, arith}
use Rattle.std.specs.Option.{option_and_then}
use Rattle.std.specs.Ordering.{is_le}
use Rattle.std.specs.FinMap.{get, insert, len}
use Rattle.someip_tables.specs.Retained.{kept_if}
use Rattle.someip_tables.proofs.Entries.{get-retain, len-retain-≤}
use Rattle.someip_tables.proofs.MapLaws.{len-insert_known}
use Rattle.someip_tables.specs.declared.hashed.due.Due.{Due}
use Rattle.someip_tables.specs.hashed.Dues.{IsFirstDue, due_cmp}
use Rattle.someip_tables.proofs.about_hashed.FirstDues.{not_before}
use Rattle.audit_traffic.specs.declared.calls.call.AuditedCall.{AuditedCall}
use Rattle.audit_traffic.specs.declared.calls.finding.Unanswered.{Unanswered}
use Rattle.audit_traffic.specs.declared.calls.known.Known.{Known}
use Rattle.audit_traffic.specs.declared.calls.known.Known.TheVariants.{Open, Overdue, Answered}
use Rattle.audit_traffic.specs.declared.calls.known.OpenCall.{OpenCall}
use Rattle.audit_traffic.specs.calls.AuditedCalls.{call_cmp}
use Rattle.audit_traffic.specs.calls.CallOrder.{calls_total, exact_calls}
use Rattle.audit_traffic.specs.calls.CallBooks.{Calls}
use Rattle.audit_traffic.specs.calls.KnownCalls.{is_known_at, waits_of}
use Rattle.audit_traffic.specs.calls.CallTables.{is_open, open_of}
use Rattle.audit_traffic.specs.calls.Overdue.{IsOpenCall, due_of, most_messages, still_known, told_cmp, unanswered, with_room}

-- the moment that a call waits for, if it is known and waits
abbrev pub wait_of : Calls → AuditedCall → Option ℕ
wait_of calls call = option_and_then waits_of (get calls call)

-- ---- room

-- what is open stays
module _ (limit now : ℕ) (old : Calls) where
  kept_open : (call : AuditedCall) (open_call : OpenCall) (v : Option Known) → v ≡ Some (Open open_call) → kept_if (is_known_at now) v ≡ Some (Open open_call)
  kept_open call open_call v is = ap (kept_if (is_known_at now)) is

  pub stays_open : (call : AuditedCall) (open_call : OpenCall) → get old call ≡ Some (Open open_call) → get (with_room limit now old) call ≡ Some (Open open_call)
  stays_open call open_call is = cases (nat_le (len old + most_messages) limit)
    where
      cases : (b : Bool) → get (cond b old (still_known now old)) call ≡ Some (Open open_call)
      cases true = is
      cases false = get-retain calls_total exact_calls old (λ _ what. is_known_at now what) call ∙ kept_open call open_call (get old call) is

  pub no_more : len (with_room limit now old) ≤ len old
  no_more = cases (nat_le (len old + most_messages) limit)
    where
      cases : (b : Bool) → len (cond b old (still_known now old)) ≤ len old
      cases true = omega arith
      cases false = len-retain-≤ calls_total exact_calls old (λ _ what. is_known_at now what)

-- ---- the first of those that wait, which is open and told

module _ (limit : ℕ) (old : Calls) (due : Due AuditedCall) (open_call : OpenCall) (first : IsFirstDue waits_of old (Some due)) (there : get old due.key ≡ Some (Open open_call)) where
  abbrev told : Unanswered
  told = unanswered due.key open_call

  pub until_is : open_call.until ≡ due.at
  until_is = same_some (ap (option_and_then waits_of) (sym there) ∙ first.0)
    where
      same_some : {a b : ℕ} → Some a ≡ Some b → a ≡ b
      same_some e = cc

  due_is : due_of told ≡ due
  due_is = ap (λ (at : ℕ). record { at = at; key = due.key }) until_is

  pub told_is_first : (other : Unanswered) → IsOpenCall old other → is_le (told_cmp told other) ≡ true
  told_is_first other there_too =
      let until : other.until ≡ there_too.0.until = ap (λ (u : Unanswered). u.until) there_too.2 in
      let waits : wait_of old other.call ≡ Some other.until = ap (option_and_then waits_of) there_too.1 ∙ ap Some (sym until) in
      ap (λ (d : Due AuditedCall). is_le (due_cmp call_cmp d (due_of other))) due_is ∙ first.1 (due_of other) waits

  pub told_stays : is_open (get (with_room limit due.at old) due.key) ≡ true
  told_stays = ap is_open (stays_open limit due.at old due.key open_call there)

  pub told_adds_none : len (insert (with_room limit due.at old) due.key (Overdue open_call.since)) ≤ len old
  told_adds_none =
      let same = len-insert_known calls_total exact_calls (with_room limit due.at old) due.key (Overdue open_call.since) (Open open_call) (stays_open limit due.at old due.key open_call there) in
      let few = no_more limit due.at old in
      omega (arith, same, few)

-- ---- nothing that waits is due

pub none_is_open : (now : ℕ) (old : Calls) → ((call : AuditedCall) (at : ℕ) → wait_of old call ≡ Some at → now < at) → (other : Unanswered) → IsOpenCall old other → now < other.until
none_is_open now old later other there_too =
    let until : other.until ≡ there_too.0.until = ap (λ (u : Unanswered). u.until) there_too.2 in
    later other.call other.until (ap (option_and_then waits_of) there_too.1 ∙ ap Some (sym until))

-- nothing is due before the first
pub all_later : (now : ℕ) (calls : Calls) (first : Due AuditedCall) → IsFirstDue waits_of calls (Some first) → (first.at ≤ now → ⊥)
    → (call : AuditedCall) (at : ℕ) → wait_of calls call ≡ Some at → now < at
all_later now calls first is not call at waits =
    let after = not_before call_cmp first (record { at = at; key = call }) (is.1 (record { at = at; key = call }) waits) in
    omega (arith, after, not)

pub none_waits : (now : ℕ) (calls : Calls) → ((call : AuditedCall) → wait_of calls call ≡ None) → (call : AuditedCall) (at : ℕ) → wait_of calls call ≡ Some at → now < at
none_waits now calls none call at waits = let e : wait_of calls call ≡ None = none call in cc

-- ---- what is told, or not

pub open_is : (v : Option Known) (open_call : OpenCall) → open_of v ≡ Some open_call → v ≡ Some (Open open_call)
open_is None open_call is = cc
open_is (Some (Open call)) open_call is = let same : call ≡ open_call = cc in ap (λ (c : OpenCall). Some (Open c)) same
open_is (Some (Overdue since)) open_call is = cc
open_is (Some (Answered until)) open_call is = cc
