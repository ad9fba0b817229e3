-- What a change makes of a book's calls.
use Rattle.std.proofs.Common.{◌≡◌, ◌≢◌, ℕ, ◌+◌, ◌<◌, ◌≤◌, nat_le, nat_lt, Bool, true, false, cond, ◌||◌, Option, None, Some, Result, Ok, Err, OnOk, OnErr, refl, sym, ap, ◌∙◌, arith}
use Rattle.std.specs.Option.{is_some}
use Rattle.std.proofs.lemmas.Bool.{ltb-true}
use Rattle.std.specs.FinMap.{get, insert, len, contains_key, len-insert}
use Rattle.someip_tables.proofs.MapLaws.{get-insert_own}
use Rattle.someip_tables.specs.hashed.Rooms.{may_hold}
use Rattle.audit_traffic.specs.declared.calls.call.AuditedCall.{AuditedCall}
use Rattle.audit_traffic.specs.declared.calls.known.Known.{Known}
use Rattle.audit_traffic.specs.declared.calls.known.Known.TheVariants.{Open, Overdue, Answered}
use Rattle.audit_traffic.specs.declared.calls.known.OpenCall.{OpenCall}
use Rattle.audit_traffic.specs.calls.CallTables.{unless_answered}
use Rattle.audit_traffic.specs.calls.CallOrder.{calls_total, exact_calls}
use Rattle.audit_traffic.specs.calls.CallBooks.{Calls, known, with_known}
use Rattle.audit_traffic.specs.calls.KnownCalls.{known_at, known_by_answer, known_by_request}

-- what was not known of a call changes the calls
pub changed : (calls : Calls) (call : AuditedCall) (value what : Known) → value ≡ what → get calls call ≢ Some value → insert calls call what ≢ calls
changed calls call value what is anew same = anew (sym (ap (λ m. get m call) same) ∙ get-insert_own calls_total exact_calls calls call what ∙ ap Some (sym is))

pub changed_some : (calls : Calls) (call : AuditedCall) (value : Known) (v : Option Known) → v ≡ Some value → get calls call ≢ Some value → with_known call v calls ≢ calls
changed_some calls call value None is anew = cc
changed_some calls call value (Some what) is anew = let e : value ≡ what = cc in changed calls call value what e anew

-- a REQUEST leaves the same known of a call, whether an answer before it was known or not
pub known_alike : (now : ℕ) (new : OpenCall) (v : Option Known) → known_by_request new (known_at now (unless_answered v)) ≡ known_by_request new (known_at now v)
known_alike now new None = refl
known_alike now new (Some (Open call)) = refl
known_alike now new (Some (Overdue since)) = refl
known_alike now new (Some (Answered until)) = cases (nat_le until now)
  where
    cases : (b : Bool) → Open new ≡ known_by_request new (cond b None (Some (Answered until)))
    cases true = refl
    cases false = refl

-- calls with one more that there is room for are within the limit
within_put : (limit : ℕ) (calls : Calls) (call : AuditedCall) (what : Known) → may_hold limit calls call ≡ true → len calls ≤ limit → len (insert calls call what) ≤ limit
within_put limit calls call what room few = rw (len-insert calls_total calls call what) (cases (contains_key calls call) room)
  where
    cases : (b : Bool) → (b || nat_lt (len calls) limit) ≡ true → cond b (len calls) (len calls + 1) ≤ limit
    cases true may = few
    cases false may = let below : len calls < limit = ltb-true (len calls) limit may in omega (arith, below)

pub within_room : (limit : ℕ) (calls next : Calls) (call : AuditedCall) (what : Known) (b : Bool) → may_hold limit calls call ≡ b → len calls ≤ limit
    → next ≡ cond b (insert calls call what) calls → len next ≤ limit
within_room limit calls next call what true room few is = rw is (within_put limit calls call what room few)
within_room limit calls next call what false room few is = rw is few

-- what is known of a call that is held adds none
pub within_known : (limit : ℕ) (calls next : Calls) (call : AuditedCall) (v : Option Known) → (v ≢ None → is_some (get calls call) ≡ true) → len calls ≤ limit
    → next ≡ with_known call v calls → len next ≤ limit
within_known limit calls next call None held few is = rw is few
within_known limit calls next call (Some what) held few is = rw is (within_put limit calls call what (rw (held (λ e. cc)) refl) few)

-- an answer adds none: it tells of a call that is held
answer_held : (now until : ℕ) (v : Option Known) → known_by_answer until (known_at now v) ≢ None → is_some v ≡ true
answer_held now until None some = absurd (some refl)
answer_held now until (Some what) some = refl

pub within_answer : (limit now until : ℕ) (calls next : Calls) (call : AuditedCall) → len calls ≤ limit → next ≡ with_known call (known_by_answer until (known now calls call)) calls
    → len next ≤ limit
within_answer limit now until calls next call few is =
    within_known limit calls next call (known_by_answer until (known now calls call)) (answer_held now until (get calls call)) few is

-- calls that were changed, or left as they were where memory ran out
pub within_either : {T E : Type 0} (limit : ℕ) (r : Result T E) (old changed_calls next : Calls) → OnOk r (next ≡ changed_calls) → OnErr r (next ≡ old)
    → (next ≡ changed_calls → len next ≤ limit) → len old ≤ limit → len next ≤ limit
within_either limit (Ok x) old changed_calls next ok err then few = then ok
within_either limit (Err e) old changed_calls next ok err then few = rw err few
