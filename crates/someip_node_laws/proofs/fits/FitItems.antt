-- The numbers that a history sends again: sessions, requests, wishes and their counters.
use Rattle.std.proofs.Common.{◌≡◌, ℕ, zero, suc, ◌+◌, ◌<◌, ◌^◌, ◌%◌, Bool, true, false, cond, not, eqb, ◌&&◌, ◌||◌, if◌then◌else◌, List, [], ◌∷◌, arith, Option, None, Some, refl, ap, sym, subst, ◌∙◌}
use Rattle.std.specs.List.{AllByRecursion, Contains, cons_option, filter_map, flat_map, list_any}
use Rattle.std.specs.Option.{option_and_then, option_map}
use Rattle.std.specs.declared.cmp.Ordering.{Ordering}
use Rattle.std.specs.declared.net.ipv4_addr.Ipv4Addr.{Ipv4Addr}
use Rattle.std.specs.Ordering.{eq_by_cmp, nat_cmp}
use Rattle.std.specs.Cmp.{IsTotalOrder}
use Rattle.std.specs.FinMap as finite
use Rattle.std.specs.FinMap.{IsAntisymmetric, find, get-entries}
use Rattle.std.proofs.lemmas.Bool.{and_parts, eqb-false}
use Rattle.std.proofs.lemmas.Map.Views.{Contains-from_any}
use Rattle.std.proofs.lemmas.Nat.{mod_below}
use Rattle.someip_tables.specs.declared.deadline.Deadline.{Deadline}
use Rattle.someip_tables.specs.Deadlines.{deadline_after}
use Rattle.someip_tables.specs.Distinct.{are_distinct}
use Rattle.someip_tables.specs.Retained.{kept_if}
use Rattle.someip_tables.proofs.Entries.{entries_distinct, none_found, own_test, same_by_test}
use Rattle.sd_core.specs.declared.eventgroup.Eventgroup.{Eventgroup}
use Rattle.sd_core.specs.declared.keys.InstanceId.{InstanceId}
use Rattle.sd_core.specs.declared.wish.Beginning.{Beginning}
use Rattle.sd_core.specs.declared.wish.OutgoingSubscribe.{OutgoingSubscribe}
use Rattle.sd_core.specs.declared.wish.Stage.{Stage}
use Rattle.sd_core.specs.declared.wish.Stage.TheVariants.{Begun, Unwished as NotWished, Waiting}
use Rattle.sd_core.specs.declared.wish.Wish.{Wish}
use Rattle.sd_core.specs.EventgroupOrder.{eventgroups_total, exact_eventgroups}
use Rattle.sd_core.specs.Keys.{instance_cmp}
use Rattle.sd_core.specs.Wishes.{begun_at, counter_in, is_over, is_renewed_by, is_with, sent_at_once, standing, stands_with, subscribe_of, subscribing, wish_of}
use Rattle.sd_core.specs.WishTables.{subscribes}
use Rattle.someip_rpc.specs.declared.ids.MessageId.{MessageId}
use Rattle.someip_rpc.specs.declared.request.Asked.{Asked}
use Rattle.someip_rpc.specs.Calls.{Pending, is_pending}
use Rattle.someip_rpc.specs.Ids.{message_cmp}
use Rattle.someip_tables.specs.Sessions.{next_session, session_after_last}
use Rattle.someip_rpc.specs.Sessions.{session_after}
use Rattle.someip_node_rules.specs.histories.CallQuestions.{last_session_at, next_token, open_request_at, requests_in}
use Rattle.someip_node_rules.specs.rules.Calling.{first_free, first_free_of}
use Rattle.someip_node_laws.specs.Fitting.{FitsItem}
use Rattle.someip_node_rules.specs.histories.Items.{Item, AckCame, Answered, Called, NackCame, OfferCounted, OfferWithdrawn, PeerRebooted, Requested, Ticked, Unwished, Wished}
use Rattle.someip_node_rules.specs.histories.Questions.{clock_at, table_of}
use Rattle.someip_node_rules.specs.histories.SeekQuestions.{known_offer_at}
use Rattle.someip_node_rules.specs.histories.WishQuestions.{Course, acked_if, begins_at, course_at, ended_if, eventgroup_wished, goes_on, has_lapsed, is_answered_by, is_wished_at, known_peer_at, same_eventgroup, stage_of, subscribes_at, subscribes_if_known, wish_at, wishes_in}
use Rattle.someip_node_rules.proofs.lists.MemberLemmas.{all_flat_map, all_weaker, at_member}
use Rattle.someip_node_laws.proofs.histories.NamedLemmas.{get-request}
use Rattle.someip_node_rules.proofs.histories.QuestionLemmas.{get-table_of}
use Rattle.someip_node_rules.proofs.histories.WishLives.{get-wish}

-- ---- the entries of a table

module _ {K V : Type 0} {R : K → K → Ordering} (o : IsTotalOrder R) (exact : IsAntisymmetric R) where
  -- each entry of a list without repeats is what is found of its key
  each_found : (es : List (K × V)) → are_distinct R es ≡ true → AllByRecursion (λ e. find R e.0 es ≡ Some e.1) es
  each_found [] d = tt
  each_found (e ∷ es) d =
      let parts = and_parts _ _ d in
      let own : find R e.0 (e ∷ es) ≡ Some e.1 = ap (λ b. cond b (Some e.1) (find R e.0 es)) (own_test o e.0) in
      (own, all_weaker (λ x. find R x.0 es ≡ Some x.1) (λ x. find R x.0 (e ∷ es) ≡ Some x.1) (λ x is. further x is (none_found _ parts.0) (eq_by_cmp R x.0 e.0) refl) es (each_found es parts.1))
    where
      further : (x : K × V) → find R x.0 es ≡ Some x.1 → find R e.0 es ≡ None → (b : Bool) → eq_by_cmp R x.0 e.0 ≡ b
          → cond b (Some e.1) (find R x.0 es) ≡ Some x.1
      further x is none true same =
          let here : find R e.0 es ≡ Some x.1 = subst (λ k. find R k es ≡ Some x.1) (same_by_test exact x.0 e.0 same) is in absurd cc
      further x is none false same = is

  named_by : (keys : List K) (stands : K → Option V) (q : K) (v : V) → (b : Bool) → list_any (eq_by_cmp R q) keys ≡ b → cond b (stands q) None ≡ Some v
      → Contains keys q × (stands q ≡ Some v)
  named_by keys stands q v true any is = (Contains-from_any (λ x y. same_by_test exact x y) q keys any, is)
  named_by keys stands q v false any is = absurd cc

  -- what the table has of a key was named, and stands
  pub table_named : (keys : List K) (stands : K → Option V) (q : K) (v : V) → finite.get (table_of {R = R} keys stands) q ≡ Some v
      → Contains keys q × (stands q ≡ Some v)
  table_named keys stands q v is = named_by keys stands q v (list_any (eq_by_cmp R q) keys) refl (sym (get-table_of o exact keys stands q) ∙ is)

  -- what holds of each key that was named with what stands of it holds of each entry
  pub table_entries : (P : K × V → Type 0) (keys : List K) (stands : K → Option V)
      → ((q : K) (v : V) → Contains keys q → stands q ≡ Some v → P (q, v)) → AllByRecursion P (finite.entries (table_of {R = R} keys stands))
  table_entries P keys stands each =
      let m : finite.FinMap R V = table_of keys stands in
      all_weaker (λ e. find R e.0 (finite.entries m) ≡ Some e.1) P
      (λ e is. let named = table_named keys stands e.0 e.1 (get-entries m e.0 ∙ is) in each e.0 e.1 named.0 named.1) (finite.entries m)
      (each_found (finite.entries m) (entries_distinct o exact m))

-- ---- sessions

pub next_fits : (session : ℕ) → session < 2 ^ 16 → next_session session < 2 ^ 16
next_fits session fits = cases (eqb session 0xffff) refl
  where
    cases : (b : Bool) → eqb session 0xffff ≡ b → cond b 1 (session + 1) < 2 ^ 16
    cases true e = omega arith
    cases false e = let ne = eqb-false session 0xffff e in omega (arith, fits, ne)

pub session_after_fits : (n session : ℕ) → session < 2 ^ 16 → session_after n session < 2 ^ 16
session_after_fits zero session fits = fits
session_after_fits (suc n) session fits = next_fits (session_after n session) (session_after_fits n session fits)

free_of_fits : (n : ℕ) (pending : Pending) (message : MessageId) (session : ℕ) → session < 2 ^ 16 → first_free_of n pending message session < 2 ^ 16
free_of_fits zero pending message session fits = fits
free_of_fits (suc n) pending message session fits = cases (is_pending pending message session) (free_of_fits n pending message (next_session session) (next_fits session fits))
  where
    cases : (b : Bool) → first_free_of n pending message (next_session session) < 2 ^ 16 → (if b then first_free_of n pending message (next_session session) else session) < 2 ^ 16
    cases true rest = rest
    cases false rest = fits

pub free_fits : (pending : Pending) (message : MessageId) (session : ℕ) → session < 2 ^ 16 → first_free pending message session < 2 ^ 16
unfolding first_free
free_fits pending message session fits = free_of_fits (finite.len pending) pending message session fits

-- the session after the last one of a Message ID
pub after_last_fits : (items : List Item) (message : MessageId) → AllByRecursion FitsItem items → session_after_last (last_session_at items message) < 2 ^ 16
after_last_fits [] message all = omega arith
after_last_fits (Called call peer session ∷ before) message all = cases (eq_by_cmp message_cmp message call.message) (after_last_fits before message all.1)
  where
    cases : (b : Bool) → session_after_last (last_session_at before message) < 2 ^ 16 → session_after_last (cond b (Some session) (last_session_at before message)) < 2 ^ 16
    cases true rest = next_fits session all.0
    cases false rest = rest
after_last_fits (item ∷ before) message all = after_last_fits before message all.1

-- ---- requests

pub open_fits : (items : List Item) (token : ℕ) (request : Asked) → AllByRecursion FitsItem items → open_request_at items token ≡ Some request → FitsItem (Requested request)
open_fits [] token request all is = absurd cc
open_fits (Requested own ∷ before) token request all is = cases (eq_by_cmp nat_cmp token (next_token before)) is (open_fits before token request all.1)
  where
    cases : (b : Bool) → cond b (Some own) (open_request_at before token) ≡ Some request → (open_request_at before token ≡ Some request → FitsItem (Requested request))
        → FitsItem (Requested request)
    cases true e rest = let same : own ≡ request = cc in subst (λ r. FitsItem (Requested r)) same all.0
    cases false e rest = rest e
open_fits (Answered own ∷ before) token request all is = cases (eq_by_cmp nat_cmp token own) is (open_fits before token request all.1)
  where
    cases : (b : Bool) → cond b None (open_request_at before token) ≡ Some request → (open_request_at before token ≡ Some request → FitsItem (Requested request))
        → FitsItem (Requested request)
    cases true e rest = absurd cc
    cases false e rest = rest e
open_fits (item ∷ before) token request all is = open_fits before token request all.1 is

pub request_fits : (items : List Item) (token : ℕ) (request : Asked) → AllByRecursion FitsItem items → finite.get (requests_in items) token ≡ Some request
    → FitsItem (Requested request)
request_fits items token request all is = open_fits items token request all (sym (get-request items token) ∙ is)

-- ---- wishes

wished_fits : (item : Item) → FitsItem item → AllByRecursion (λ eventgroup. eventgroup.id < 2 ^ 16) (eventgroup_wished item)
wished_fits (Wished eventgroup) fits = (fits, tt)
wished_fits item fits = tt

all_wished : (items : List Item) → AllByRecursion FitsItem items → AllByRecursion (λ eventgroup. eventgroup.id < 2 ^ 16) (flat_map eventgroup_wished items)
all_wished items all =
    all_flat_map (λ eventgroup. eventgroup.id < 2 ^ 16) eventgroup_wished items
    (all_weaker FitsItem (λ item. AllByRecursion (λ eventgroup. eventgroup.id < 2 ^ 16) (eventgroup_wished item)) wished_fits items all)

-- a counter has four bits
abbrev pub FitsCounter : Option Beginning → Type 0
FitsCounter None = Unit {0}
FitsCounter (Some beginning) = beginning.counter < 16

kept_fits : (p : Beginning → Bool) (o : Option Beginning) → FitsCounter o → FitsCounter (kept_if p o)
kept_fits p None fits = tt
kept_fits p (Some beginning) fits = elim (p beginning) as (λ b. FitsCounter (if b then Some beginning else None)) [ true ↦ fits | false ↦ tt ]

acked_fits : (course : Course) (test : Beginning → Bool) (until : Deadline) → FitsCounter course.beginning → FitsCounter (acked_if test until course).beginning
acked_fits course test until fits = cases course.beginning fits
  where
    cases : (o : Option Beginning) → FitsCounter o → FitsCounter (option_map (λ beginning. if test beginning then record beginning { until = Some until } else beginning) o)
    cases None f = tt
    cases (Some beginning) f = elim (test beginning) as (λ b. (if b then record beginning { until = Some until } else beginning).counter < 16) [ true ↦ f | false ↦ f ]

counter_below : (n : ℕ) → n % 16 < 16
counter_below n = mod_below n 16 (omega arith)

at_fits : (now : ℕ) (peer : Ipv4Addr) (course : Course) → FitsCounter course.beginning → FitsCounter (subscribes_at now peer course).beginning
at_fits now peer course fits = elim (goes_on now peer course.beginning) as (λ b. FitsCounter (if b then course else begins_at peer course).beginning) [ true ↦ fits | false ↦ counter_below course.begun ]

if_known_fits : (now : ℕ) (known : Option Ipv4Addr) (course : Course) → FitsCounter course.beginning → FitsCounter (subscribes_if_known now known course).beginning
if_known_fits now None course fits = fits
if_known_fits now (Some peer) course fits = at_fits now peer course fits

either_fits : (b : Bool) (one other : Course) → FitsCounter one.beginning → FitsCounter other.beginning → FitsCounter (if b then one else other).beginning
either_fits true one other f g = f
either_fits false one other f g = g

pub course_fits : (items : List Item) (q : Eventgroup) → FitsCounter (course_at items q).beginning
course_fits [] q = tt
course_fits (OfferCounted offer endpoint ∷ before) q =
    let was : Course = course_at before q in
    let own = course_fits before q in
    either_fits (eq_by_cmp instance_cmp q.instance offer.instance && is_wished_at before q) (subscribes_at (clock_at before) offer.peer was) was (at_fits (clock_at before) offer.peer was own) own
course_fits (Wished eventgroup ∷ before) q =
    let was : Course = course_at before q in
    let own = course_fits before q in
    either_fits (same_eventgroup q eventgroup) (subscribes_if_known (clock_at before) (known_peer_at before eventgroup.instance) was) was
    (if_known_fits (clock_at before) (known_peer_at before eventgroup.instance) was own) own
course_fits (AckCame answer ttl ∷ before) q =
    let was : Course = course_at before q in
    let own = course_fits before q in
    let until : Deadline = deadline_after (clock_at before) ttl in
    either_fits (same_eventgroup q answer.eventgroup) (acked_if (is_answered_by (clock_at before) answer) until was) was (acked_fits was (is_answered_by (clock_at before) answer) until own) own
course_fits (NackCame answer ∷ before) q =
    let was : Course = course_at before q in
    let own = course_fits before q in
    either_fits (same_eventgroup q answer.eventgroup) (ended_if (is_answered_by (clock_at before) answer) was) was (kept_fits (λ b. not (is_answered_by (clock_at before) answer b)) was.beginning own) own
course_fits (Unwished eventgroup ∷ before) q = kept_fits (λ b. not (same_eventgroup q eventgroup)) (course_at before q).beginning (course_fits before q)
course_fits (OfferWithdrawn instance ∷ before) q = kept_fits (λ b. not (eq_by_cmp instance_cmp q.instance instance)) (course_at before q).beginning (course_fits before q)
course_fits (PeerRebooted peer ∷ before) q = kept_fits (λ b. not (is_with peer b)) (course_at before q).beginning (course_fits before q)
course_fits (Ticked ms ∷ before) q =
    kept_fits (λ b. not (is_over (clock_at before + ms) b || has_lapsed (clock_at before + ms) (known_offer_at before q.instance))) (course_at before q).beginning (course_fits before q)
course_fits (item ∷ before) q = course_fits before q

-- the counter of a stage
abbrev pub FitsStage : Stage → Type 0
FitsStage NotWished = Unit {0}
FitsStage Waiting = Unit {0}
FitsStage (Begun beginning) = beginning.counter < 16

stage_fits : (wished : Bool) (o : Option Beginning) → FitsCounter o → FitsStage (stage_of wished o)
stage_fits false o fits = tt
stage_fits true None fits = tt
stage_fits true (Some beginning) fits = fits

pub wish_fits : (items : List Item) (q : Eventgroup) → FitsStage (wish_at items q).stage × ((wish_at items q).next_counter < 16)
wish_fits items q = (stage_fits (is_wished_at items q) (course_at items q).beginning (course_fits items q), counter_below (course_at items q).begun)

abbrev FitsNumber : Option ℕ → Type 0
FitsNumber None = Unit {0}
FitsNumber (Some n) = n < 16

number_of : (stage : Stage) → FitsStage stage → FitsNumber (counter_in stage)
number_of NotWished fits = tt
number_of Waiting fits = tt
number_of (Begun beginning) fits = fits

subscribing_fits : (now : ℕ) (peer : Ipv4Addr) (wish : Wish) → FitsStage wish.stage × (wish.next_counter < 16) → FitsStage (subscribing now peer wish).stage
subscribing_fits now peer wish fits = elim (stands_with now peer wish.stage) as (λ b. FitsStage (if b then wish else begun_at peer wish).stage) [ true ↦ fits.0 | false ↦ fits.1 ]

-- the Subscribe of a wish has a counter of four bits
pub at_once_fits : (items : List Item) (eventgroup : Eventgroup) (now : ℕ) (known : Option Ipv4Addr) (counter : ℕ)
    → sent_at_once now known (wish_of (finite.get (wishes_in items) eventgroup)) ≡ Some counter → counter < 16
at_once_fits items eventgroup now None counter is = absurd cc
at_once_fits items eventgroup now (Some peer) counter is =
    let stage : Stage = (subscribing now peer (wish_at items eventgroup)).stage in
    subst FitsNumber (ap (λ w. counter_in (subscribing now peer w).stage) (sym (get-wish items eventgroup)) ∙ is)
    (number_of stage (subscribing_fits now peer (wish_at items eventgroup) (wish_fits items eventgroup)))

-- so has the subscription that stands
standing_number : (now : ℕ) (stage : Stage) → FitsStage stage → FitsCounter (standing now stage)
standing_number now NotWished fits = tt
standing_number now Waiting fits = tt
standing_number now (Begun beginning) fits = elim (is_over now beginning) as (λ b. FitsCounter (if b then None else Some beginning)) [ true ↦ tt | false ↦ fits ]

pub standing_fits : (items : List Item) (eventgroup : Eventgroup) (now : ℕ) (beginning : Beginning)
    → option_and_then (λ wish. standing now wish.stage) (finite.get (wishes_in items) eventgroup) ≡ Some beginning → beginning.counter < 16
standing_fits items eventgroup now beginning is = cases (finite.get (wishes_in items) eventgroup) refl is
  where
    cases : (o : Option Wish) → finite.get (wishes_in items) eventgroup ≡ o → option_and_then (λ wish. standing now wish.stage) o ≡ Some beginning → beginning.counter < 16
    cases None e f = absurd cc
    cases (Some wish) e f =
        let same : wish ≡ wish_at items eventgroup = ap wish_of (sym e) ∙ get-wish items eventgroup in
        let stage : FitsStage wish.stage = subst (λ w. FitsStage w.stage) (sym same) (wish_fits items eventgroup).0 in
        subst FitsCounter f (standing_number now wish.stage stage)

-- the Subscribes that an Offer brings about name eventgroups that were wished, with a counter of four bits
abbrev pub FitsSubscribe : OutgoingSubscribe → Type 0
FitsSubscribe subscribe = (subscribe.eventgroup.id < 2 ^ 16) × (subscribe.counter < 16)

module _ (items : List Item) (all : AllByRecursion FitsItem items) (now : ℕ) (instance : InstanceId) (peer : Ipv4Addr) where
  abbrev FitsAny : Option OutgoingSubscribe → Type 0
  FitsAny None = Unit {0}
  FitsAny (Some subscribe) = FitsSubscribe subscribe

  counted : (q : Eventgroup) → q.id < 2 ^ 16 → (counter : Option ℕ) → FitsNumber counter → FitsAny (option_map (λ counter. record { eventgroup = q; counter = counter }) counter)
  counted q fits None c = tt
  counted q fits (Some counter) c = (fits, c)

  one_fits : (q : Eventgroup) (wish : Wish) → q.id < 2 ^ 16 → FitsStage wish.stage × (wish.next_counter < 16) → FitsAny (subscribe_of now instance peer q wish)
  one_fits q wish id fits =
      elim (is_renewed_by instance q wish) as (λ b. FitsAny (if b then option_map (λ counter. record { eventgroup = q; counter = counter }) (counter_in (subscribing now peer wish).stage) else None)) [
        | true ↦ counted q id (counter_in (subscribing now peer wish).stage) (number_of (subscribing now peer wish).stage (subscribing_fits now peer wish fits))
        | false ↦ tt
      ]

  listed : (es : List (Eventgroup × Wish)) → AllByRecursion (λ e. FitsAny (subscribe_of now instance peer e.0 e.1)) es
      → AllByRecursion FitsSubscribe (filter_map (λ e. subscribe_of now instance peer e.0 e.1) es)
  listed [] fits = tt
  listed (e ∷ es) fits = cases (subscribe_of now instance peer e.0 e.1) fits.0 (listed es fits.1)
    where
      cases : (o : Option OutgoingSubscribe) → FitsAny o → AllByRecursion FitsSubscribe (filter_map (λ e. subscribe_of now instance peer e.0 e.1) es)
          → AllByRecursion FitsSubscribe (cons_option o (filter_map (λ e. subscribe_of now instance peer e.0 e.1) es))
      cases None f rest = rest
      cases (Some subscribe) f rest = (f, rest)

  pub subscribes_fit : AllByRecursion FitsSubscribe (subscribes now instance peer (wishes_in items))
  subscribes_fit =
      listed (finite.entries (wishes_in items))
      (table_entries eventgroups_total exact_eventgroups (λ e. FitsAny (subscribe_of now instance peer e.0 e.1)) (flat_map eventgroup_wished items)
      (λ eventgroup. Some (wish_at items eventgroup))
      (λ q wish named stands.
      let same : wish_at items q ≡ wish = cc in
      one_fits q wish (at_member (λ eventgroup. eventgroup.id < 2 ^ 16) (flat_map eventgroup_wished items) q (all_wished items all) named)
      (subst (λ w. FitsStage w.stage × (w.next_counter < 16)) same (wish_fits items q))))
