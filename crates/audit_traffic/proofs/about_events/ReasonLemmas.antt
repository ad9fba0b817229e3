-- Why something is told of an event.
use Rattle.std.specs.Prelude.{◌≢◌}
use Rattle.std.proofs.Common.{◌≡◌, ℕ, ◌==◌, Bool, true, false, if◌then◌else◌, not, ◌||◌, List, Option, None, Some, refl, sym, ap, ap₂, subst, ◌∙◌}
use Rattle.std.proofs.lemmas.Bool.{eqb-true, eqb-false, eq-eqb, ne_eqb}
use Rattle.std.specs.List.{list_any}
use Rattle.someip_tables.specs.Sessions.{next_session}
use Rattle.audit_traffic.specs.declared.events.notification.Notification.{Notification}
use Rattle.audit_traffic.specs.declared.events.finding.Finding.TheVariants.{Behind, Gap, Repeated}
use Rattle.audit_traffic.specs.events.EventRules.{is_behind, is_skipped}
use Rattle.audit_traffic.specs.events.EventHistories.{Shown, Since, is_lost, shown_after, shown_since, since_in}
use Rattle.audit_traffic.specs.events.EventReasons.{IsBehind, IsGap, IsLast, IsRepeated}
use Rattle.audit_traffic.proofs.about_events.SinceLemmas.{known_last, last_known}

pub repeated_why : (event : Notification) (shown : List Shown) → shown_after shown event ≡ Some Repeated → IsRepeated event shown
repeated_why event shown told = cases (event.session == 0) (since_in shown event.flow) refl told
  where
    same : (since : Since) → since_in shown event.flow ≡ Some since → event.session ≡ since.session → IsRepeated event shown
    same since known is =
        let found = known_last event.flow shown since known in
        (found.0, subst (λ s. IsLast event.flow s found.0 shown) (sym is) found.1)

    at : (since : Since) → since_in shown event.flow ≡ Some since → (b d l : Bool) → (event.session == since.session) ≡ b
        → (if b then Some Repeated else if d then Some Behind else if l then Some (Gap event.session (next_session since.session)) else None) ≡ Some Repeated → IsRepeated event shown
    at since known true d l is e = same since known (eqb-true event.session since.session is)
    at since known false true l is e = absurd (cc)
    at since known false false true is e = absurd (cc)
    at since known false false false is e = absurd (cc)

    cases : (z : Bool) (v : Option Since) → since_in shown event.flow ≡ v → (if z then None else shown_since v event.session) ≡ Some Repeated → IsRepeated event shown
    cases true v known e = absurd (cc)
    cases false None known e = absurd (cc)
    cases false (Some since) known e = at since known (event.session == since.session) (is_behind since.session event.session) (is_lost since event.session) refl e

pub why_repeated : (event : Notification) (shown : List Shown) → IsRepeated event shown → shown_after shown event ≡ Some Repeated
why_repeated event shown why =
    let last = why.1 in
    let found = last_known event.flow event.session why.0 last.0 last.1 last.3 last.4 last.5 last.6 last.7 in
    let known : since_in shown event.flow ≡ Some found.0 = ap (λ l. since_in l event.flow) last.2 ∙ found.1 in
    of found.0 known (sym found.2.session) last.5
  where
    of : (since : Since) → since_in shown event.flow ≡ Some since → event.session ≡ since.session → event.session ≢ 0 → shown_after shown event ≡ Some Repeated
    of since known same some = rw (ne_eqb event.session 0 some, known, eq-eqb event.session since.session same) refl

pub behind_why : (event : Notification) (shown : List Shown) → shown_after shown event ≡ Some Behind → IsBehind event shown
behind_why event shown told = cases (event.session == 0) refl (since_in shown event.flow) refl told
  where
    found_behind : (since : Since) → since_in shown event.flow ≡ Some since → event.session ≢ 0 → event.session ≢ since.session → is_behind since.session event.session ≡ true → IsBehind event shown
    found_behind since known some apart behind = let found = known_last event.flow shown since known in (since.session, found.0, found.1, some, apart, behind)

    at : (since : Since) → since_in shown event.flow ≡ Some since → event.session ≢ 0 → (b : Bool) → (event.session == since.session) ≡ b → (d : Bool) → is_behind since.session event.session ≡ d → (l : Bool)
        → (if b then Some Repeated else if d then Some Behind else if l then Some (Gap event.session (next_session since.session)) else None) ≡ Some Behind → IsBehind event shown
    at since known some true is d d_is l e = absurd (cc)
    at since known some false is true behind l e = found_behind since known some (eqb-false event.session since.session is) behind
    at since known some false is false behind true e = absurd (cc)
    at since known some false is false behind false e = absurd (cc)

    cases : (z : Bool) → (event.session == 0) ≡ z → (v : Option Since) → since_in shown event.flow ≡ v → (if z then None else shown_since v event.session) ≡ Some Behind → IsBehind event shown
    cases true z v known e = absurd (cc)
    cases false z None known e = absurd (cc)
    cases false z (Some since) known e = at since known (eqb-false event.session 0 z) (event.session == since.session) refl (is_behind since.session event.session) refl (is_lost since event.session) e

pub why_behind : (event : Notification) (shown : List Shown) → IsBehind event shown → shown_after shown event ≡ Some Behind
why_behind event shown why =
    let last = why.2 in
    let found = last_known event.flow why.0 why.1 last.0 last.1 last.3 last.4 last.5 last.6 last.7 in
    let known : since_in shown event.flow ≡ Some found.0 = ap (λ l. since_in l event.flow) last.2 ∙ found.1 in
    let same : found.0.session ≡ why.0 = found.2.session in
    of found.0 known why.3 (λ is. why.4 (is ∙ same)) (ap (λ l. is_behind l event.session) same ∙ why.5)
  where
    of : (since : Since) → since_in shown event.flow ≡ Some since → event.session ≢ 0 → event.session ≢ since.session → is_behind since.session event.session ≡ true → shown_after shown event ≡ Some Behind
    of since known some apart behind = rw (ne_eqb event.session 0 some, known, ne_eqb event.session since.session apart, behind) refl

lost_parts : (d n a : Bool) → not (d || n || a) ≡ true → (d ≡ false) × (n ≡ false) × (a ≡ false)
lost_parts false false false is = (refl, refl, refl)
lost_parts true n a is = absurd (cc)
lost_parts false true a is = absurd (cc)
lost_parts false false true is = absurd (cc)

pub gap_why : (session expected : ℕ) (event : Notification) (shown : List Shown) → shown_after shown event ≡ Some (Gap session expected) → IsGap session expected event shown
gap_why session expected event shown told = cases (event.session == 0) refl (since_in shown event.flow) refl told
  where
    found_gap : (since : Since) → since_in shown event.flow ≡ Some since → event.session ≢ 0 → event.session ≢ since.session → is_behind since.session event.session ≡ false → is_lost since event.session ≡ true
        → IsGap event.session (next_session since.session) event shown
    found_gap since known some apart ahead lost =
        let found = known_last event.flow shown since known in
        let parts = lost_parts since.is_disturbed (event.session == next_session since.session) (list_any (is_skipped since.session event.session) since.got) lost in
        (since.session, found.0, found.1, refl, some, apart, ahead, refl, eqb-false event.session (next_session since.session) parts.1, found.2.disturbed parts.0, found.2.skipped event.session parts.2)

    at : (since : Since) → since_in shown event.flow ≡ Some since → event.session ≢ 0 → (b : Bool) → (event.session == since.session) ≡ b → (d : Bool) → is_behind since.session event.session ≡ d → (l : Bool) → is_lost since event.session ≡ l
        → (if b then Some Repeated else if d then Some Behind else if l then Some (Gap event.session (next_session since.session)) else None) ≡ Some (Gap session expected) → IsGap session expected event shown
    at since known some true is d d_is l lost e = absurd (cc)
    at since known some false is true d l lost e = absurd (cc)
    at since known some false is false d false lost e = absurd (cc)
    at since known some false is false d true lost e =
        let s : event.session ≡ session = cc in
        let x : next_session since.session ≡ expected = cc in
        subst (λ y. IsGap session y event shown) x (subst (λ y. IsGap y (next_session since.session) event shown) s (found_gap since known some (eqb-false event.session since.session is) d lost))

    cases : (z : Bool) → (event.session == 0) ≡ z → (v : Option Since) → since_in shown event.flow ≡ v → (if z then None else shown_since v event.session) ≡ Some (Gap session expected) → IsGap session expected event shown
    cases true z v known e = absurd (cc)
    cases false z None known e = absurd (cc)
    cases false z (Some since) known e = at since known (eqb-false event.session 0 z) (event.session == since.session) refl (is_behind since.session event.session) refl (is_lost since event.session) refl e

pub why_gap : (session expected : ℕ) (event : Notification) (shown : List Shown) → IsGap session expected event shown → shown_after shown event ≡ Some (Gap session expected)
why_gap session expected event shown why =
    let last = why.2 in
    let found = last_known event.flow why.0 why.1 last.0 last.1 last.3 last.4 last.5 last.6 last.7 in
    let known : since_in shown event.flow ≡ Some found.0 = ap (λ l. since_in l event.flow) last.2 ∙ found.1 in
    let same : found.0.session ≡ why.0 = found.2.session in
    let next : next_session found.0.session ≡ expected = ap next_session same ∙ why.7 in
    let ahead : is_behind found.0.session event.session ≡ false = ap₂ is_behind same why.3 ∙ why.6 in
    let free : list_any (is_skipped found.0.session event.session) found.0.got ≡ false = ap₂ (λ a b. list_any (is_skipped a b) found.0.got) same why.3 ∙ found.2.unskipped session why.10 in
    of found.0 known (λ z. why.4 (sym why.3 ∙ z)) (λ is. why.5 (sym why.3 ∙ is ∙ same)) ahead (found.2.undisturbed why.9) (λ is. why.8 (sym why.3 ∙ is ∙ next)) free ∙ ap₂ (λ a b. Some (Gap a b)) why.3 next
  where
    of : (since : Since) → since_in shown event.flow ≡ Some since → event.session ≢ 0 → event.session ≢ since.session → is_behind since.session event.session ≡ false → since.is_disturbed ≡ false → event.session ≢ next_session since.session
        → list_any (is_skipped since.session event.session) since.got ≡ false → shown_after shown event ≡ Some (Gap event.session (next_session since.session))
    of since known some apart ahead calm far free = rw (ne_eqb event.session 0 some, known, ne_eqb event.session since.session apart, ahead, calm, ne_eqb event.session (next_session since.session) far, free) refl
