-- What a book makes of an event.
use Rattle.std.proofs.Common.{◌≡◌, ℕ, ◌==◌, Bool, true, false, cond, ◌||◌, if◌then◌else◌, Option, None, Some, IfSome, refl, ap, sym, ◌∙◌}
use Rattle.std.specs.Cmp.{eq_by_cmp_equiv}
use Rattle.std.specs.FinMap as finite
use Rattle.std.specs.Option.{option_map}
use Rattle.std.specs.Ordering.{eq_by_cmp}
use Rattle.std.proofs.lemmas.Bool.{eq-eqb, eqb-true}
use Rattle.someip_tables.specs.Changed.{each_changed}
use Rattle.someip_tables.proofs.ChangedLemmas.{get-changed}
use Rattle.someip_tables.proofs.Entries.{own_test, same_by_test}
use Rattle.audit_traffic.specs.declared.events.flow.EventFlow.{EventFlow}
use Rattle.audit_traffic.specs.declared.events.last_event.LastEvent.{LastEvent}
use Rattle.audit_traffic.specs.declared.events.notification.Notification.{Notification}
use Rattle.audit_traffic.specs.events.EventRules.{is_other, past, renewed}
use Rattle.audit_traffic.specs.events.EventTables.{Events, Flows, after_event, flows_after, may_take}
use Rattle.audit_traffic.specs.events.FlowGroups.{once_came}
use Rattle.audit_traffic.specs.events.FlowKeys.{flow_cmp}
use Rattle.audit_traffic.specs.events.FlowOrder.{flows_total, exact_flows}
use Rattle.audit_traffic.proofs.about_events.FlowLemmas.{not_its_own}

-- one that comes of a flow that is known is the last of it, and the other flows of the event are told
pub came_is : (event : Notification) (flows : Flows) (last : LastEvent) → finite.get flows event.flow ≡ Some last → each_changed (once_came event) flows ≡ flows_after event flows
came_is event flows last known =
    finite.same_map flows_total exact_flows _ _ (λ q.
    get-changed flows_total exact_flows (once_came event) flows q
    ∙ ap (λ b. option_map (λ l. if b then renewed event.session (Some l) else if is_other event.flow q then past event.session l else l) (finite.get flows q)) ((eq_by_cmp_equiv flows_total).symm event.flow q)
    ∙ cases q (eq_by_cmp flow_cmp q event.flow) refl
    ∙ ap (option_map (λ l. if is_other event.flow q then past event.session l else l)) (sym (finite.get-insert flows_total flows event.flow (renewed event.session (finite.get flows event.flow)) q))
    ∙ sym (get-changed flows_total exact_flows (λ f l. if is_other event.flow f then past event.session l else l) (finite.insert flows event.flow (renewed event.session (finite.get flows event.flow))) q))
  where
    cases : (q : EventFlow) (t : Bool) → eq_by_cmp flow_cmp q event.flow ≡ t
        → option_map (λ l. if t then renewed event.session (Some l) else if is_other event.flow q then past event.session l else l) (finite.get flows q)
        ≡ option_map (λ l. if is_other event.flow q then past event.session l else l) (cond t (Some (renewed event.session (finite.get flows event.flow))) (finite.get flows q))
    cases q false tie = refl
    cases q true tie =
        let same : q ≡ event.flow = same_by_test exact_flows q event.flow tie in
        let here : finite.get flows q ≡ Some last = ap (finite.get flows) same ∙ known in
        let own : is_other event.flow q ≡ false = ap (is_other event.flow) same ∙ not_its_own event.flow in
        rw (here, known, own) refl

-- so is one of a flow that is new, once it was added
pub added_is : (event : Notification) (flows : Flows) → finite.get flows event.flow ≡ None
    → each_changed (once_came event) (finite.insert flows event.flow (renewed event.session None)) ≡ flows_after event flows
added_is event flows absent =
    came_is event added first there
    ∙ ap (λ m. each_changed (λ f l. if is_other event.flow f then past event.session l else l) m)
    (ap (λ v. finite.insert added event.flow (renewed event.session v)) there ∙ ap (finite.insert added event.flow) again ∙ twice ∙ sym (ap (λ v. finite.insert flows event.flow (renewed event.session v)) absent))
  where
    first : LastEvent
    first = renewed event.session None

    added : Flows
    added = finite.insert flows event.flow first

    there : finite.get added event.flow ≡ Some first
    there = finite.get-insert flows_total flows event.flow first event.flow ∙ ap (λ b. cond b (Some first) (finite.get flows event.flow)) (own_test flows_total event.flow)

    again : renewed event.session (Some first) ≡ first
    again = rw (eq-eqb event.session event.session refl) refl

    either : (t : Bool) (v : Option LastEvent) → cond t (Some first) (cond t (Some first) v) ≡ cond t (Some first) v
    either true v = refl
    either false v = refl

    twice : finite.insert added event.flow first ≡ added
    twice =
        finite.same_map flows_total exact_flows _ _ (λ q.
        finite.get-insert flows_total added event.flow first q
        ∙ ap (cond (eq_by_cmp flow_cmp q event.flow) (Some first)) (finite.get-insert flows_total flows event.flow first q)
        ∙ either (eq_by_cmp flow_cmp q event.flow) (finite.get flows q)
        ∙ sym (finite.get-insert flows_total flows event.flow first q))

not_zero : (n : ℕ) → (n ≡ 0 → ⊥) → (n == 0) ≡ false
not_zero n other = cases (n == 0) refl
  where
    cases : (b : Bool) → (n == 0) ≡ b → b ≡ false
    cases true is = absurd (other (eqb-true n 0 is))
    cases false is = refl

-- the book once one came that may be held
pub held_event : (event : Notification) (book : Events) (flows : Flows) → (event.session ≡ 0 → ⊥) → may_take book.limit event.flow book.flows ≡ true → flows ≡ flows_after event book.flows
    → (record book { flows = flows }) ≡ after_event event book
held_event event book flows counted held is = rw (not_zero event.session counted, held) (λ i. record book { flows = is i })

-- one that comes of a flow that was added is known
pub known_then : (event : Notification) (flows added after : Flows) (had : Option LastEvent) (last : LastEvent) → finite.get flows event.flow ≡ None → last ≡ renewed event.session None
    → added ≡ finite.insert flows event.flow last → had ≡ finite.get added event.flow → IfSome had (λ _. after ≡ each_changed (once_came event) added) → after ≡ flows_after event flows
known_then event flows added after had last absent is put found known =
    cases had (found ∙ ap (λ m. finite.get m event.flow) put ∙ finite.get-insert flows_total flows event.flow last event.flow ∙ ap (λ b. cond b (Some last) (finite.get flows event.flow)) (own_test flows_total event.flow)) known
    ∙ ap (each_changed (once_came event)) (put ∙ ap (finite.insert flows event.flow) is)
    ∙ added_is event flows absent
  where
    cases : (v : Option LastEvent) → v ≡ Some last → IfSome v (λ _. after ≡ each_changed (once_came event) added) → after ≡ each_changed (once_came event) added
    cases None n k = absurd (cc)
    cases (Some l) n k = k

-- one for whose flow there is room may be held
pub taken_then : (known : Bool) (room : Bool) → room ≡ true → (known || room) ≡ true
taken_then true room is = refl
taken_then false room is = is
