-- The last event of a flow, and what was shown since.
use Rattle.std.specs.Prelude.{◌≢◌}
use Rattle.std.proofs.Common.{◌≡◌, ℕ, ◌==◌, Bool, true, false, if◌then◌else◌, ◌⊎◌, inl, inr, List, [], ◌∷◌, ◌++◌, Option, None, Some, refl, sym, ap, subst, ◌∙◌}
use Rattle.std.proofs.lemmas.Bool.{eqb-true, eqb-false, eq-eqb, ne_eqb, or_from, or_parts}
use Rattle.std.specs.List.{list_any}
use Rattle.std.specs.Option.{option_map}
use Rattle.std.specs.Ordering.{eq_by_cmp}
use Rattle.std.specs.declared.net.ipv4_addr.Ipv4Addr.{Ipv4Addr}
use Rattle.someip_tables.specs.Sessions.{next_session}
use Rattle.someip_tables.proofs.Entries.{own_test, same_by_test}
use Rattle.audit_traffic.specs.declared.events.flow.EventFlow.{EventFlow}
use Rattle.audit_traffic.specs.declared.events.notification.Notification.{Notification}
use Rattle.audit_traffic.specs.declared.events.finding.Finding.TheVariants.{Behind, Gap, Repeated}
use Rattle.audit_traffic.specs.events.FlowKeys.{flow_cmp}
use Rattle.audit_traffic.specs.events.FlowOrder.{flows_total, exact_flows}
use Rattle.audit_traffic.specs.events.EventRules.{is_at, is_behind, is_between, is_of_service, is_other, is_skipped}
use Rattle.audit_traffic.specs.events.EventHistories.{BeganAgain, Came, Changed, Shown, Since, Withdrawn, is_lost, shown_after, shown_since, since_after, since_disturbed, since_event, since_got, since_in}
use Rattle.audit_traffic.proofs.about_events.FlowLemmas.{not_its_own}
use Rattle.audit_traffic.specs.events.EventReasons.{Each, IsLast, LeavesLast, LeavesReceivers, LeavesSkipped}

-- what is known of a flow says what was shown since
pub record Agrees (flow : EventFlow) (last : ℕ) (newer : List Shown) (since : Since) : Type 0 where
  pub session : since.session ≡ last
  pub undisturbed : Each (LeavesReceivers flow) newer → since.is_disturbed ≡ false
  pub disturbed : since.is_disturbed ≡ false → Each (LeavesReceivers flow) newer
  pub unskipped : (s : ℕ) → Each (LeavesSkipped flow last s) newer → list_any (is_skipped last s) since.got ≡ false
  pub skipped : (s : ℕ) → list_any (is_skipped last s) since.got ≡ false → Each (LeavesSkipped flow last s) newer

pub anew : (flow : EventFlow) (last : ℕ) → Agrees flow last [] (record { session = last; is_disturbed = false; got = [] })
anew flow last = record { session = refl; undisturbed = λ _. refl; disturbed = λ _. tt; unskipped = λ s _. refl; skipped = λ s _. tt }

-- ---- what leaves the last event

plain : (flow : EventFlow) (last : ℕ) (one : Shown) (newer : List Shown) (since : Since) → LeavesReceivers flow one → ((s : ℕ) → LeavesSkipped flow last s one) → Agrees flow last newer since → Agrees flow last (one ∷ newer) since
plain flow last one newer since receivers none a = record {
  session = a.session;
  undisturbed = λ e. a.undisturbed e.1;
  disturbed = λ is. (receivers, a.disturbed is);
  unskipped = λ s e. a.unskipped s e.1;
  skipped = λ s is. (none s, a.skipped s is);
}

more_got : (flow : EventFlow) (last : ℕ) (event : Notification) (newer : List Shown) (since : Since) → event.session ≢ 0 → is_other event.flow flow ≡ true → Agrees flow last newer since
    → Agrees flow last (Came event ∷ newer) (since_got event.session since)
more_got flow last event newer since some other a = record {
  session = a.session;
  undisturbed = λ e. a.undisturbed e.1;
  disturbed = λ is. (tt, a.disturbed is);
  unskipped = λ s e. or_from (is_skipped last s event.session) (list_any (is_skipped last s) since.got) (e.0 some other) (a.unskipped s e.1);
  skipped = λ s is. let both = or_parts (is_skipped last s event.session) (list_any (is_skipped last s) since.got) is in (λ _ _. both.0, a.skipped s both.1);
}

now_disturbed : (flow : EventFlow) (last : ℕ) (one : Shown) (newer : List Shown) (since : Since) → (LeavesReceivers flow one → ⊥) → ((s : ℕ) → LeavesSkipped flow last s one) → Agrees flow last newer since
    → Agrees flow last (one ∷ newer) (since_disturbed since)
now_disturbed flow last one newer since not_left none a = record {
  session = a.session;
  undisturbed = λ e. absurd (not_left e.0);
  disturbed = λ is. absurd (cc);
  unskipped = λ s e. a.unskipped s e.1;
  skipped = λ s is. (none s, a.skipped s is);
}

not_self : (one flow : EventFlow) → flow ≡ one → is_other one flow ≡ true → ⊥
not_self one flow same other = let own : is_other one flow ≡ false = ap (is_other one) same ∙ not_its_own one in cc

same_since : (session : ℕ) (since : Since) → session ≡ since.session → since_event session (Some since) ≡ since
same_since session since is = ap (λ b. if b then since else if is_behind since.session session then since else record { session = session; is_disturbed = false; got = [] }) (eq-eqb session since.session is)

behind_since : (session : ℕ) (since : Since) → is_behind since.session session ≡ true → since_event session (Some since) ≡ since
behind_since session since is = rw is (cases (session == since.session))
  where
    cases : (b : Bool) → (if b then since else since) ≡ since
    cases true = refl
    cases false = refl

-- the same last event, and what came since agrees
abbrev Goes : EventFlow → ℕ → List Shown → Option Since → Type 0
Goes flow last newer after = (since : Since) × (after ≡ Some since) × Agrees flow last newer since

pub goes_on : (flow : EventFlow) (last : ℕ) (one : Shown) (newer : List Shown) (since : Since) → LeavesLast flow last one → Agrees flow last newer since → Goes flow last (one ∷ newer) (since_after one flow (Some since))
goes_on flow last (Came event) newer since left a = cases (event.session == 0) refl (eq_by_cmp flow_cmp flow event.flow) refl (is_other event.flow flow) refl
  where
    own : event.session ≢ 0 → (event.session ≡ 0) ⊎ ((event.session ≡ last) ⊎ (is_behind last event.session ≡ true)) → since_event event.session (Some since) ≡ since
    own some (inl is) = absurd (some is)
    own some (inr (inl is)) = same_since event.session since (is ∙ sym a.session)
    own some (inr (inr is)) = behind_since event.session since (ap (λ l. is_behind l event.session) a.session ∙ is)

    cases : (z : Bool) → (event.session == 0) ≡ z → (t : Bool) → eq_by_cmp flow_cmp flow event.flow ≡ t → (o : Bool) → is_other event.flow flow ≡ o
        → Goes flow last (Came event ∷ newer) (if z then Some since else if t then Some (since_event event.session (Some since)) else if o then Some (since_got event.session since) else Some since)
    cases true z t t_is o o_is = (since, refl, plain flow last (Came event) newer since tt (λ s some. absurd (some (eqb-true event.session 0 z))) a)
    cases false z true tie o o_is =
        let is : since_event event.session (Some since) ≡ since = own (eqb-false event.session 0 z) (left (sym (same_by_test exact_flows flow event.flow tie))) in
        (since, ap Some is, plain flow last (Came event) newer since tt (λ s some other. absurd (not_self event.flow flow (same_by_test exact_flows flow event.flow tie) other)) a)
    cases false z false tie true other = (since_got event.session since, refl, more_got flow last event newer since (eqb-false event.session 0 z) other a)
    cases false z false tie false other = (since, refl, plain flow last (Came event) newer since tt (λ s some is. absurd (cc)) a)
goes_on flow last (Changed client server service) newer since left a = cases (is_between client server service flow) refl
  where
    cases : (b : Bool) → is_between client server service flow ≡ b → Goes flow last (Changed client server service ∷ newer) (if b then Some (since_disturbed since) else Some since)
    cases true is = (since_disturbed since, refl, now_disturbed flow last (Changed client server service) newer since (λ none. cc) (λ s. tt) a)
    cases false is = (since, refl, plain flow last (Changed client server service) newer since is (λ s. tt) a)
goes_on flow last (Withdrawn server service) newer since left a = cases (is_of_service server service flow) refl
  where
    cases : (b : Bool) → is_of_service server service flow ≡ b → Goes flow last (Withdrawn server service ∷ newer) (if b then Some (since_disturbed since) else Some since)
    cases true is = (since_disturbed since, refl, now_disturbed flow last (Withdrawn server service) newer since (λ none. cc) (λ s. tt) a)
    cases false is = (since, refl, plain flow last (Withdrawn server service) newer since is (λ s. tt) a)
goes_on flow last (BeganAgain address) newer since left a = (since, ap (λ b. if b then None else Some since) left, plain flow last (BeganAgain address) newer since tt (λ s. tt) a)

-- ---- the last event

-- an event is neither repeated nor behind
abbrev IsNew : List Shown → Notification → Type 0
IsNew older event = (shown_after older event ≢ Some Repeated) × (shown_after older event ≢ Some Behind)

-- the event that is the last one
first_one : (event : Notification) (older : List Shown) (flow : EventFlow) → event.flow ≡ flow → event.session ≢ 0 → IsNew older event
    → since_in (Came event ∷ older) flow ≡ Some (record { session = event.session; is_disturbed = false; got = [] })
first_one event older flow own some new =
    let z : (event.session == 0) ≡ false = ne_eqb event.session 0 some in
    let tie : eq_by_cmp flow_cmp flow event.flow ≡ true = ap (eq_by_cmp flow_cmp flow) own ∙ own_test flows_total flow in
    rw (z, tie) (by (since_in older event.flow) (since_in older flow) (ap (since_in older) own) (λ is. new.0 (rw z is)) (λ is. new.1 (rw z is)))
  where
    by : (before same : Option Since) → before ≡ same → (shown_since before event.session ≢ Some Repeated) → (shown_since before event.session ≢ Some Behind)
        → Some (since_event event.session same) ≡ Some (record { session = event.session; is_disturbed = false; got = [] })
    by before None is none ahead = refl
    by before (Some since) is none ahead = cases (event.session == since.session) refl (is_behind since.session event.session) refl
      where
        cases : (b : Bool) → (event.session == since.session) ≡ b → (d : Bool) → is_behind since.session event.session ≡ d
            → Some (if b then since else if d then since else record { session = event.session; is_disturbed = false; got = [] }) ≡ Some (record { session = event.session; is_disturbed = false; got = [] })
        cases false e false i = refl
        cases false e true i = absurd (ahead (rw (is, e, i) refl))
        cases true e d i = absurd (none (rw (is, e) refl))

-- where an event is the last one, it is what is known of the flow
pub last_known : (flow : EventFlow) (last : ℕ) (newer : List Shown) (event : Notification) (older : List Shown) → event.flow ≡ flow → event.session ≡ last → last ≢ 0 → IsNew older event
    → Each (LeavesLast flow last) newer → Goes flow last newer (since_in (newer ++ Came event ∷ older) flow)
last_known flow last [] event older own is some new left =
    (record { session = last; is_disturbed = false; got = [] }, first_one event older flow own (λ none. some (sym is ∙ none)) new ∙ ap (λ s. Some (record { session = s; is_disturbed = false; got = [] })) is, anew flow last)
last_known flow last (one ∷ newer) event older own is some new left =
    let before = last_known flow last newer event older own is some new left.1 in
    let on = goes_on flow last one newer before.0 left.0 before.2 in
    (on.0, ap (since_after one flow) before.1 ∙ on.1, on.2)

-- what is known of a flow is its last event
abbrev Found : EventFlow → List Shown → Since → Type 0
Found flow shown since = (newer : List Shown) × IsLast flow since.session newer shown × Agrees flow since.session newer since

one_since : (v : Option Since) (a b : Since) → v ≡ Some a → v ≡ Some b → a ≡ b
one_since v a b p q = cc

-- what one that was shown does to a last event: it leaves it, takes its place, or forgets it
data Leaving (flow : EventFlow) (last : ℕ) (one : Shown) : Type 0 where
  Stays : LeavesLast flow last one → Leaving flow last one
  Renews : (event : Notification) → one ≡ Came event → event.flow ≡ flow → event.session ≢ 0 → event.session ≢ last → is_behind last event.session ≡ false → Leaving flow last one
  Forgets : (address : Ipv4Addr) → one ≡ BeganAgain address → is_at address flow ≡ true → Leaving flow last one

leaving : (flow : EventFlow) (last : ℕ) (one : Shown) → Leaving flow last one
leaving flow last (Came event) = cases (eq_by_cmp flow_cmp event.flow flow) refl (event.session == 0) refl (event.session == last) refl (is_behind last event.session) refl
  where
    cases : (t : Bool) → eq_by_cmp flow_cmp event.flow flow ≡ t → (z : Bool) → (event.session == 0) ≡ z → (l : Bool) → (event.session == last) ≡ l → (d : Bool) → is_behind last event.session ≡ d → Leaving flow last (Came event)
    cases false tie z z_is l l_is d d_is = Stays (λ own. let tied : eq_by_cmp flow_cmp event.flow flow ≡ true = ap (λ f. eq_by_cmp flow_cmp f flow) own ∙ own_test flows_total flow in absurd (cc))
    cases true tie true z l l_is d d_is = Stays (λ own. inl (eqb-true event.session 0 z))
    cases true tie false z true l d d_is = Stays (λ own. inr (inl (eqb-true event.session last l)))
    cases true tie false z false l true d = Stays (λ own. inr (inr d))
    cases true tie false z false l false d = Renews event refl (same_by_test exact_flows event.flow flow tie) (eqb-false event.session 0 z) (eqb-false event.session last l) d
leaving flow last (Changed client server service) = Stays tt
leaving flow last (Withdrawn server service) = Stays tt
leaving flow last (BeganAgain address) = cases (is_at address flow) refl
  where
    cases : (b : Bool) → is_at address flow ≡ b → Leaving flow last (BeganAgain address)
    cases true is = Forgets address refl is
    cases false is = Stays is

-- an event with another session than the last one, and not behind, is new
is_new : (earlier : List Shown) (flow : EventFlow) (event : Notification) → event.flow ≡ flow → (v : Option Since) → since_in earlier flow ≡ v
    → ((b : Since) → v ≡ Some b → (event.session ≢ b.session) × (is_behind b.session event.session ≡ false)) → IsNew earlier event
is_new earlier flow event own v known other = (λ is. (at (event.session == 0) v other).0 (there ∙ is), λ is. (at (event.session == 0) v other).1 (there ∙ is))
  where
    there : (if event.session == 0 then None else shown_since v event.session) ≡ shown_after earlier event
    there = ap (λ b. if event.session == 0 then None else shown_since b event.session) (sym (ap (since_in earlier) own ∙ known))

    gap : (s : Since) (b : Bool) → ((if b then Some (Gap event.session (next_session s.session)) else None) ≢ Some Repeated) × ((if b then Some (Gap event.session (next_session s.session)) else None) ≢ Some Behind)
    gap s true = (λ i. cc, λ i. cc)
    gap s false = (λ i. cc, λ i. cc)

    at : (z : Bool) (b : Option Since) → ((s : Since) → b ≡ Some s → (event.session ≢ s.session) × (is_behind s.session event.session ≡ false))
        → ((if z then None else shown_since b event.session) ≢ Some Repeated) × ((if z then None else shown_since b event.session) ≢ Some Behind)
    at true b apart = (λ e. cc, λ e. cc)
    at false None apart = (λ e. cc, λ e. cc)
    at false (Some s) apart =
        let parts = apart s refl in
        let same : (if is_lost s event.session then Some (Gap event.session (next_session s.session)) else None) ≡ shown_since (Some s) event.session = rw (ne_eqb event.session s.session parts.0, parts.1) refl in
        let none = gap s (is_lost s event.session) in
        (λ e. none.0 (same ∙ e), λ e. none.1 (same ∙ e))

pub known_last : (flow : EventFlow) (shown : List Shown) (since : Since) → since_in shown flow ≡ Some since → Found flow shown since
known_last flow [] since is = absurd (cc)
known_last flow (one ∷ earlier) since is = by (since_in earlier flow) refl (known_last flow earlier)
  where
    -- a new last event
    new_last : (event : Notification) → event.flow ≡ flow → event.session ≢ 0 → IsNew earlier event → one ≡ Came event → Found flow (one ∷ earlier) since
    new_last event own some new one_is =
        let known : since_in (one ∷ earlier) flow ≡ Some (record { session = event.session; is_disturbed = false; got = [] }) = ap (λ o. since_in (o ∷ earlier) flow) one_is ∙ first_one event earlier flow own some new in
        let same : record { session = event.session; is_disturbed = false; got = [] } ≡ since = one_since (since_in (one ∷ earlier) flow) (record { session = event.session; is_disturbed = false; got = [] }) since known is in
        subst (Found flow (one ∷ earlier)) same ([], (event, earlier, ap (λ o. o ∷ earlier) one_is, own, refl, some, new, tt), anew flow event.session)

    -- the last event stays
    stays : (before : Since) → since_in earlier flow ≡ Some before → Found flow earlier before → LeavesLast flow before.session one → Found flow (one ∷ earlier) since
    stays before known found left =
        let last = found.1 in
        let on = goes_on flow before.session one found.0 before left found.2 in
        let same : on.0 ≡ since = one_since (since_in (one ∷ earlier) flow) on.0 since (ap (since_after one flow) known ∙ on.1) is in
        let session : before.session ≡ since.session = sym on.2.session ∙ ap (λ (s : Since). s.session) same in
        let agrees : Agrees flow before.session (one ∷ found.0) since = subst (Agrees flow before.session (one ∷ found.0)) same on.2 in
        subst (λ s. (newer : List Shown) × IsLast flow s newer (one ∷ earlier) × Agrees flow s newer since) session
        (one ∷ found.0, (last.0, last.1, ap (λ l. one ∷ l) last.2, last.3, last.4, last.5, last.6, (left, last.7)), agrees)

    from_none : (o : Shown) → one ≡ o → since_in earlier flow ≡ None → since_after o flow None ≡ Some since → Found flow (one ∷ earlier) since
    from_none (Came event) one_is none known = cases (event.session == 0) refl (eq_by_cmp flow_cmp flow event.flow) refl (is_other event.flow flow) known
      where
        cases : (z : Bool) → (event.session == 0) ≡ z → (t : Bool) → eq_by_cmp flow_cmp flow event.flow ≡ t → (o : Bool)
            → (if z then None else if t then Some (since_event event.session None) else if o then option_map (since_got event.session) None else None) ≡ Some since → Found flow (one ∷ earlier) since
        cases true z t t_is o e = absurd (cc)
        cases false z true tie o e =
            let own : event.flow ≡ flow = sym (same_by_test exact_flows flow event.flow tie) in
            new_last event own (eqb-false event.session 0 z) (is_new earlier flow event own None none (λ b some. absurd (cc))) one_is
        cases false z false tie true e = absurd (cc)
        cases false z false tie false e = absurd (cc)
    from_none (Changed client server service) one_is none known = cases (is_between client server service flow) known
      where
        cases : (b : Bool) → (if b then option_map since_disturbed None else None) ≡ Some since → Found flow (one ∷ earlier) since
        cases true e = absurd (cc)
        cases false e = absurd (cc)
    from_none (Withdrawn server service) one_is none known = cases (is_of_service server service flow) known
      where
        cases : (b : Bool) → (if b then option_map since_disturbed None else None) ≡ Some since → Found flow (one ∷ earlier) since
        cases true e = absurd (cc)
        cases false e = absurd (cc)
    from_none (BeganAgain address) one_is none known = cases (is_at address flow) known
      where
        cases : (b : Bool) → (if b then None else None) ≡ Some since → Found flow (one ∷ earlier) since
        cases true e = absurd (cc)
        cases false e = absurd (cc)

    from_some : (before : Since) → since_in earlier flow ≡ Some before → Found flow earlier before → Leaving flow before.session one → Found flow (one ∷ earlier) since
    from_some before known found (Stays left) = stays before known found left
    from_some before known found (Renews event one_is own some other ahead) =
        new_last event own some
        (is_new earlier flow event own (Some before) known (λ b is.
        let same : b.session ≡ before.session = ap (λ (s : Since). s.session) (sym (one_since (Some before) before b refl is)) in
        (λ e. other (e ∙ same), ap (λ s. is_behind s event.session) same ∙ ahead)))
        one_is
    from_some before known found (Forgets address one_is at) =
        let gone : since_in (one ∷ earlier) flow ≡ None = ap (λ o. since_after o flow (since_in earlier flow)) one_is ∙ ap (λ b. if b then None else since_in earlier flow) at in
        absurd (cc)

    by : (v : Option Since) → since_in earlier flow ≡ v → ((s : Since) → since_in earlier flow ≡ Some s → Found flow earlier s) → Found flow (one ∷ earlier) since
    by None none before = from_none one refl none (ap (since_after one flow) (sym none) ∙ is)
    by (Some s) known before = from_some s known (before s known) (leaving flow s.session one)
