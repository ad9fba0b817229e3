-- The messages whose timeout has come.
use Rattle.std.proofs.Common.{◌≡◌, ℕ, ◌+◌, ◌<◌, ◌≤◌, nat_le, Bool, true, false, cond, not, Option, None, Some, IfSome, IfNone, refl, sym, ap, ◌∙◌, arith}
use Rattle.std.specs.Option.{option_and_then}
use Rattle.std.specs.Ordering.{is_le}
use Rattle.std.specs.FinMap.{get}
use Rattle.std.proofs.lemmas.Bool.Decides.{nat_tests}
use Rattle.someip_tables.specs.Retained.{kept_if}
use Rattle.someip_reassembly.specs.declared.key.ReassemblyKey.{ReassemblyKey}
use Rattle.someip_reassembly.specs.Parts.{Limits, Part, Parts, is_gone, parts_at}
use Rattle.someip_tables.specs.declared.hashed.due.Due.{Due}
use Rattle.someip_tables.specs.hashed.Dues.{IsFirstDue, due_cmp}
use Rattle.someip_tables.proofs.about_hashed.FirstDues.{not_before}
use Rattle.audit_traffic.specs.declared.segments.key.MessageKey.{MessageKey}
use Rattle.audit_traffic.specs.declared.segments.told.Missing.{Missing}
use Rattle.audit_traffic.specs.declared.segments.waiting.Waiting.{Waiting}
use Rattle.audit_traffic.specs.segments.MessageKeys.{message_key, message_cmp}
use Rattle.audit_traffic.specs.segments.SegmentBooks.{IsInPart, IsWaiting, missing_cmp, waiting_after_due}
use Rattle.audit_traffic.specs.segments.SegmentWaits.{Agrees, WaitTable, part_until, still_until, waits_of}
use Rattle.audit_traffic.proofs.about_segments.WaitLemmas.{agrees_later, forget_agrees, get-parts_at}

-- ---- by the table of timeouts

waits : (waiting : WaitTable) (other : Missing) → IsWaiting waiting other → option_and_then waits_of (get waiting (message_key other.key)) ≡ Some other.until
waits waiting other is = ap (option_and_then waits_of) is

pub all_later : (now : ℕ) (waiting : WaitTable) (first : Due MessageKey) → IsFirstDue waits_of waiting (Some first) → now < first.at → (other : Missing) → IsWaiting waiting other
    → now < other.until
all_later now waiting first is later other there =
    let after = not_before message_cmp first (record { at = other.until; key = message_key other.key }) (is.1 (record { at = other.until; key = message_key other.key }) (waits waiting other there)) in
    omega (arith, after, later)

pub none_waits : (now : ℕ) (waiting : WaitTable) → IsFirstDue waits_of waiting None → (other : Missing) → IsWaiting waiting other → now < other.until
none_waits now waiting none other there =
    let e : option_and_then waits_of (get waiting (message_key other.key)) ≡ None = none (message_key other.key) in
    let f = waits waiting other there in
    absurd (cc)

-- the first that waits is told
pub until_is : (waiting : WaitTable) (first : Due MessageKey) (told : Waiting) → IsFirstDue waits_of waiting (Some first) → Some told ≡ get waiting first.key → told.until ≡ first.at
until_is waiting first told is there = same (ap (option_and_then waits_of) there ∙ is.0)
  where
    same : {a b : ℕ} → Some a ≡ Some b → a ≡ b
    same e = cc

pub told_is_first : (waiting : WaitTable) (first : Due MessageKey) (told : Waiting) → IsFirstDue waits_of waiting (Some first) → Some told ≡ get waiting first.key → (other : Missing)
    → IsWaiting waiting other → is_le (missing_cmp (record { key = first.key.0; numbers = told.numbers; until = told.until }) other) ≡ true
told_is_first waiting first told is there other waits_too =
    ap (λ (n : ℕ). is_le (due_cmp message_cmp (record { at = n; key = first.key }) (record { at = other.until; key = message_key other.key }))) (until_is waiting first told is there)
    ∙ is.1 (record { at = other.until; key = message_key other.key }) (waits waiting other waits_too)

-- ---- by the parts

same_until : {a b : ℕ} → Some a ≡ Some b → a ≡ b
same_until e = cc

-- a part that stands until a moment
part_there : (timeout until : ℕ) (v : Option Part) → part_until timeout v ≡ Some until → (part : Part) × (v ≡ Some part) × (until ≡ part.last + timeout)
part_there timeout until None is = absurd (cc)
part_there timeout until (Some part) is = (part, refl, same_until (sym is))

kept_there : (timeout now : ℕ) (v : Option Part) (part : Part) → kept_if (λ p. not (is_gone timeout now p)) v ≡ Some part → v ≡ Some part
kept_there timeout now None part is = is
kept_there timeout now (Some other) part is = cases (not (is_gone timeout now other)) is
  where
    cases : (b : Bool) → cond b (Some other) None ≡ Some part → Some other ≡ Some part
    cases true e = e
    cases false e = absurd (cc)

in_part_at : (limits : Limits) (latest : ℕ) (parts : Parts) (waiting : WaitTable) → Agrees limits latest parts waiting → (missing : Missing) → IsWaiting waiting missing → latest < missing.until
    → IsInPart limits parts missing
in_part_at limits latest parts waiting agrees missing there later =
    let early : nat_le missing.until latest ≡ false = grind (arith, nat_tests) in
    let stands : part_until limits.timeout (get (parts_at limits latest parts) missing.key) ≡ Some missing.until =
    agrees missing.key ∙ ap (still_until latest) there ∙ ap (λ b. cond b None (Some missing.until)) early in
    let part = part_there limits.timeout missing.until (get (parts_at limits latest parts) missing.key) stands in
    (part.0, kept_there limits.timeout latest (get parts missing.key) part.0 (sym (get-parts_at limits latest parts missing.key) ∙ part.1), part.2)

pub in_part : (limits : Limits) (latest : ℕ) (parts : Parts) (waiting : WaitTable) (r : Option Missing) → Agrees limits latest parts waiting → IfSome r (λ missing. IsWaiting waiting missing)
    → IfSome r (λ missing. latest < missing.until → IsInPart limits parts missing)
in_part limits latest parts waiting None agrees there = tt
in_part limits latest parts waiting (Some missing) agrees there = λ later. in_part_at limits latest parts waiting agrees missing there later

-- what a table knows of a part that stands
known_until : (latest until : ℕ) (v : Option Waiting) → still_until latest v ≡ Some until → (waiting : Waiting) × (v ≡ Some waiting) × (waiting.until ≡ until)
known_until latest until None is = absurd (cc)
known_until latest until (Some waiting) is = cases (nat_le waiting.until latest) is
  where
    cases : (b : Bool) → cond b None (Some waiting.until) ≡ Some until → (w : Waiting) × (Some waiting ≡ Some w) × (w.until ≡ until)
    cases true e = absurd (cc)
    cases false e = (waiting, refl, same_until e)

pub all_told : (limits : Limits) (latest now : ℕ) (parts : Parts) (waiting : WaitTable) (r : Option Missing) → Agrees limits latest parts waiting
    → IfNone r ((other : Missing) → IsWaiting waiting other → now < other.until)
    → IfNone r ((key : ReassemblyKey) (part : Part) → get (parts_at limits latest parts) key ≡ Some part → now < part.last + limits.timeout)
all_told limits latest now parts waiting (Some missing) agrees none = tt
all_told limits latest now parts waiting None agrees none = λ key part there.
    let known = known_until latest (part.last + limits.timeout) (get waiting (message_key key)) (sym (agrees key) ∙ ap (part_until limits.timeout) there) in
    let later = none (record { key = key; numbers = known.0.numbers; until = known.0.until }) known.1 in
    let until : known.0.until ≡ part.last + limits.timeout = known.2 in
    omega (arith, later, until)

-- what was told is forgotten
pub due_agrees : (limits : Limits) (latest now : ℕ) (parts : Parts) (waiting : WaitTable) (r : Option Missing) → latest ≤ now → Agrees limits latest parts waiting
    → IfSome r (λ missing. IsWaiting waiting missing) → IfSome r (λ missing. missing.until ≤ now) → Agrees limits now parts (waiting_after_due r waiting)
due_agrees limits latest now parts waiting None le agrees there over = agrees_later limits latest now parts waiting le agrees
due_agrees limits latest now parts waiting (Some missing) le agrees there over =
    forget_agrees limits now parts waiting (agrees_later limits latest now parts waiting le agrees) missing.key (record { numbers = missing.numbers; until = missing.until }) there over
