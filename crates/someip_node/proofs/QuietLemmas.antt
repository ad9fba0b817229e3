-- A moment at which nothing is given brings nothing, and one that brings nothing gives nothing.
use Rattle.std.proofs.Common.{◌≡◌, ◌≢◌, ℕ, ◌+◌, ◌<◌, ◌^◌, nat_lt, Bool, true, false, cond, if◌then◌else◌, ◌||◌, List, [], ◌∷◌, ◌++◌, map, length, take, drop, Option, None, Some, Result, Ok, Err, IfErr, IfSome, IfNone, refl, ap, sym, subst, ◌∙◌, arith}
use Rattle.std.proofs.lemmas.Bool.{ltb-true, ltb-false}
use Rattle.std.specs.Option.{is_some, option_map_or}
use Rattle.std.specs.List.{flat_map, list_any}
use Rattle.std.specs.Ordering.{eq_by_cmp}
use Rattle.std.specs.declared.cmp.Ordering.{Ordering}
use Rattle.std.specs.Cmp.{IsTotalOrder}
use Rattle.std.specs.FinMap as finite
use Rattle.std.specs.FinMap.{FinMap, IsAntisymmetric, find, get-from_entries}
use Rattle.std.specs.Map.{lookup}
use Rattle.std.specs.BTreeMap.{is_at}
use Rattle.someip_tables.specs.declared.lasting.Lasting.{Lasting}
use Rattle.someip_tables.specs.Retained.{kept_if, retain}
use Rattle.someip_tables.proofs.Entries.{own_test, same_by_test, get-retain}
use Rattle.sd_wire.specs.fronts.Fronts.{front_lengths, fronts_of, lengths_of_fronts, longest_front}
use Rattle.sd_wire.specs.contents.Values.{EntryValue}
use Rattle.sd_core.specs.declared.eventgroup.Eventgroup.{Eventgroup}
use Rattle.sd_core.specs.declared.keys.InstanceId.{InstanceId}
use Rattle.sd_core.specs.declared.received.KnownOffer.{KnownOffer}
use Rattle.sd_core.specs.declared.wish.Beginning.{Beginning}
use Rattle.sd_core.specs.declared.wish.Wish.{Wish}
use Rattle.sd_core.specs.Endings.{ends_at}
use Rattle.sd_core.specs.EventgroupOrder.{eventgroups_total, exact_eventgroups}
use Rattle.sd_core.specs.Keys.{instance_cmp}
use Rattle.sd_core.specs.KeyOrder.{instances_total, exact_instances}
use Rattle.sd_core.specs.SeekTables.{KnowsWanted}
use Rattle.sd_core.specs.Sendings.{due_at}
use Rattle.sd_core.specs.Wishes.{has_begun, wish_of}
use Rattle.sd_core.specs.WishTables.{begun_where}
use Rattle.someip_node_rules.specs.rules.Ticking.{due_entries, find_of, lapsed, ticks, timed_out}
use Rattle.someip_node_rules.specs.declared.output.Output.TheVariants.{TimedOut}
use Rattle.someip_node_rules.specs.declared.error.NodeError.{NodeError}
use Rattle.someip_node_rules.specs.declared.error.NodeError.TheVariants.{ClockPast, OutOfMemory}
use Rattle.someip_node_engine.specs.declared.outputs.Giving.{Giving}
use Rattle.someip_node.specs.Finishings.{given_or_error}
use Rattle.someip_node_rules.specs.declared.receiver.Receiver.TheVariants.{Group}
use Rattle.someip_node_rules.specs.histories.History.{History, answers_of, historic}
use Rattle.someip_node_rules.specs.rules.Inputs.{Tick, tick_plan}
use Rattle.someip_node_rules.specs.steps.Lives.{has_its_offer}
use Rattle.someip_node_rules.specs.histories.OfferQuestions.{offering_at}
use Rattle.someip_node_rules.specs.rules.Outcomes.{endings, endings_of}
use Rattle.someip_node_engine.specs.Passings.{BringsFirstAfter, BringsNothing, NeverBrings}
use Rattle.someip_node_rules.specs.rules.Plans.{Announces, Work, does, each, rule, run}
use Rattle.someip_node_rules.specs.forms.Receivers.{message_plan_to, messages_plan_to}
use Rattle.someip_node_rules.specs.histories.SeekQuestions.{finding_at, known_offer_at}
use Rattle.someip_node_rules.specs.forms.Setups.{wanted_instances}
use Rattle.someip_node_rules.specs.steps.Steps.{NodeView, StandsFor, given_in, step, unless_refused, work_on}
use Rattle.someip_node_rules.specs.rules.Offering.{offer_of}
use Rattle.someip_node_rules.specs.histories.Tables.{Tables, passed_instances}
use Rattle.someip_node_rules.specs.steps.Waking.{GivesNothing, IsNextDue, NothingIsDue}
use Rattle.someip_node_rules.specs.histories.WishQuestions.{course_at, is_wished_at, stage_of}
use Rattle.someip_node_rules.proofs.rules.PlanLemmas.{outputs_of_run}
use Rattle.someip_node_rules.proofs.histories.QuestionLemmas.{get-table_of}
use Rattle.someip_node_rules.proofs.histories.StandingLemmas.{has_offer}
use Rattle.someip_node_rules.proofs.histories.Stands.{seen}
use Rattle.someip_node_rules.proofs.histories.WishLives.{get-known, get-wish}
use Rattle.someip_node_rules.proofs.trails.WrittenLemmas.{told_written}

-- ---- lists

nil_parts : {A : Type 0} (xs ys : List A) → xs ++ ys ≡ [] → (xs ≡ []) × (ys ≡ [])
nil_parts [] ys is = (refl, is)
nil_parts (x ∷ xs) ys is = absurd (cc)

none_mapped : {A B : Type 0} (f : A → B) (xs : List A) → map f xs ≡ [] → xs ≡ []
none_mapped f [] is = refl
none_mapped f (x ∷ xs) is = absurd (cc)

some_after : {A : Type 0} (xs : List A) (y : A) (ys : List A) → xs ++ y ∷ ys ≢ []
some_after [] y ys is = absurd (cc)
some_after (x ∷ xs) y ys is = absurd (cc)

no_head : {A : Type 0} (xs : List A) → ((y : A) (ys : List A) → xs ≡ y ∷ ys → ⊥) → xs ≡ []
no_head [] isnt = refl
no_head (x ∷ xs) isnt = absurd (isnt x xs refl)

-- ---- keys of what a test leaves

some_kept : {X : Type 0} (p : X → Bool) (v : Option X) → is_some (kept_if p v) ≡ true → is_some v ≡ true
some_kept p None is = is
some_kept p (Some x) is = refl

module _ {K V : Type 0} {R : K → K → Ordering} (o : IsTotalOrder R) (exact : IsAntisymmetric R) where
  first_key : (m : FinMap R V) (p : K → V → Bool) (q : K) (qs : List K) → finite.keys (retain m p) ≡ q ∷ qs → is_some (kept_if (p q) (finite.get m q)) ≡ true
  first_key m p q qs is =
      ap is_some (sym (get-retain o exact m p q)) ∙ finite.contains_key-keys (retain m p) q ∙ ap (list_any (eq_by_cmp R q)) is
      ∙ ap (λ b. b || list_any (eq_by_cmp R q) qs) (own_test o q)

  has_key : (m : FinMap R V) (p : K → V → Bool) (q : K) (qs : List K) → finite.keys (retain m p) ≡ q ∷ qs → is_some (finite.get m q) ≡ true
  has_key m p q qs is = some_kept (p q) (finite.get m q) (first_key m p q qs is)

-- the entry of a key that is listed
some_listed : {X : Type 0} (q : InstanceId) (es : List (InstanceId × X)) → list_any (eq_by_cmp instance_cmp q) (map (λ e. e.0) es) ≡ true → is_some (lookup (is_at (instance_cmp q)) es) ≡ true
some_listed q [] is = is
some_listed q (e ∷ es) is = cases (eq_by_cmp instance_cmp q e.0) is (some_listed q es)
  where
    cases : (t : Bool) → (t || list_any (eq_by_cmp instance_cmp q) (map (λ x. x.0) es)) ≡ true
        → (list_any (eq_by_cmp instance_cmp q) (map (λ x. x.0) es) ≡ true → is_some (lookup (is_at (instance_cmp q)) es) ≡ true)
        → is_some (cond t (Some e.1) (lookup (is_at (instance_cmp q)) es)) ≡ true
    cases true is rest = refl
    cases false is rest = rest is

-- a key is listed if its entry is found
listed_where : (t : Bool) {X : Type 0} (v : Option X) → is_some (cond t v None) ≡ true → t ≡ true
listed_where true v is = refl
listed_where false v is = is

-- an instance that has something to say gives entries
says : {X : Type 0} (f : X → EntryValue) (v : Option X) → is_some v ≡ true → option_map_or (λ x. f x ∷ []) v [] ≢ []
says f None is = absurd (cc)
says f (Some x) is = λ none. absurd (cc)

-- ---- what ends is told

module _ (gone : List InstanceId) (begun : List Eventgroup) where
  ends_at_one : (instances : List InstanceId) (q : InstanceId) → list_any (eq_by_cmp instance_cmp q) instances ≡ true → endings instances gone begun ≡ [] → endings_of gone begun q ≡ []
  ends_at_one [] q is none = absurd (cc)
  ends_at_one (i ∷ is) q listed none =
      let parts = nil_parts (endings_of gone begun i) (endings is gone begun) none in
      cases (eq_by_cmp instance_cmp q i) refl listed parts.0 (λ rest. ends_at_one is q rest parts.1)
    where
      cases : (t : Bool) → eq_by_cmp instance_cmp q i ≡ t → (t || list_any (eq_by_cmp instance_cmp q) is) ≡ true → endings_of gone begun i ≡ []
          → (list_any (eq_by_cmp instance_cmp q) is ≡ true → endings_of gone begun q ≡ []) → endings_of gone begun q ≡ []
      cases true t listed here rest = ap (endings_of gone begun) (same_by_test exact_instances q i t) ∙ here
      cases false t listed here rest = rest listed

tells_gone : (q : InstanceId) (qs : List InstanceId) (begun : List Eventgroup) → endings_of (q ∷ qs) begun q ≢ []
tells_gone q qs begun = rw (own_test instances_total q) (λ none. absurd (cc))

tells_lapsed : (gone : List InstanceId) (g : Eventgroup) (gs : List Eventgroup) → endings_of gone (g ∷ gs) g.instance ≢ []
tells_lapsed gone g gs = rw (own_test instances_total g.instance) (some_after _ _ _)

-- ---- a history

module _ (h : History) (now : ℕ) (knows : KnowsWanted (answers_of h).seek) where
  t : Tables
  t = answers_of h

  -- an instance of which an offer is known is wanted
  known_wanted : (q : InstanceId) → is_some (finite.get (answers_of h).seek.known q) ≡ true → list_any (eq_by_cmp instance_cmp q) (wanted_instances h.config) ≡ true
  known_wanted q is = cases (list_any (eq_by_cmp instance_cmp q) (wanted_instances h.config)) refl
    where
      unlisted : {X Y : Type 0} (f : X → Y) (es : List (InstanceId × X)) → list_any (eq_by_cmp instance_cmp q) (map (λ e. e.0) es) ≡ false → find instance_cmp q (map (λ e. (e.0, f e.1)) es) ≡ None
      unlisted f [] no_one = refl
      unlisted f (e ∷ es) no_one = at (eq_by_cmp instance_cmp q e.0) no_one (unlisted f es)
        where
          at : (b : Bool) → (b || list_any (eq_by_cmp instance_cmp q) (map (λ x. x.0) es)) ≡ false
              → (list_any (eq_by_cmp instance_cmp q) (map (λ x. x.0) es) ≡ false → find instance_cmp q (map (λ x. (x.0, f x.1)) es) ≡ None)
              → cond b (Some (f e.1)) (find instance_cmp q (map (λ x. (x.0, f x.1)) es)) ≡ None
          at true no_one rest = absurd (cc)
          at false no_one rest = rest no_one

      cases : (b : Bool) → list_any (eq_by_cmp instance_cmp q) (wanted_instances h.config) ≡ b → b ≡ true
      cases true b = refl
      cases false b =
          sym (ap is_some (knows q (get-from_entries instances_total _ q ∙ unlisted (λ want. want.major) h.config.wants.entries b))) ∙ is

  no_gone : endings (wanted_instances h.config) (passed_instances now (answers_of h)) (finite.keys (begun_where (ends_at now (passed_instances now (answers_of h))) (answers_of h).wishes)) ≡ []
      → passed_instances now (answers_of h) ≡ []
  no_gone none =
      no_head (passed_instances now (answers_of h)) (λ q qs is.
      tells_gone q qs _
      (ap (λ gone. endings_of gone (finite.keys (begun_where (ends_at now (passed_instances now (answers_of h))) (answers_of h).wishes)) q) (sym is)
      ∙ ends_at_one _ _ (wanted_instances h.config) q (known_wanted q (has_key instances_total exact_instances (answers_of h).seek.known _ q qs is)) none))

  -- the instance of a subscription that was begun is known
  begun_known : (test : Eventgroup → Beginning → Bool) (g : Eventgroup) → is_some (kept_if (λ (wish : Wish). has_begun (test g) wish.stage) (finite.get (answers_of h).wishes g)) ≡ true
      → is_some (finite.get (answers_of h).seek.known g.instance) ≡ true
  begun_known test g is =
      ap is_some (get-known h.items g.instance) ∙ at (is_wished_at h.items g) (course_at h.items g).beginning (begun (finite.get (answers_of h).wishes g) (get-wish h.items g) is) (has_offer h.items g)
    where
      begun : (v : Option Wish) {w : Wish} → wish_of v ≡ w → is_some (kept_if (λ (wish : Wish). has_begun (test g) wish.stage) v) ≡ true → has_begun (test g) w.stage ≡ true
      begun None same is = absurd (cc)
      begun (Some x) same is = ap (λ (w : Wish). has_begun (test g) w.stage) (sym same) ∙ passes (has_begun (test g) x.stage) is
        where
          passes : (b : Bool) → is_some (cond b (Some x) None) ≡ true → b ≡ true
          passes true is = refl
          passes false is = is

      known : (b : Beginning) (v : Option (Lasting KnownOffer)) → has_its_offer (Some b) v ≡ true → is_some v ≡ true
      known b None is = is
      known b (Some l) is = refl

      at : (wished : Bool) (b : Option Beginning) → has_begun (test g) (stage_of wished b) ≡ true → has_its_offer b (known_offer_at h.items g.instance) ≡ true → is_some (known_offer_at h.items g.instance) ≡ true
      at false b is offer = absurd (cc)
      at true None is offer = absurd (cc)
      at true (Some b) is offer = known b (known_offer_at h.items g.instance) offer

  no_lapsed : endings (wanted_instances h.config) (passed_instances now (answers_of h)) (finite.keys (begun_where (ends_at now (passed_instances now (answers_of h))) (answers_of h).wishes)) ≡ []
      → finite.keys (begun_where (ends_at now (passed_instances now (answers_of h))) (answers_of h).wishes) ≡ []
  no_lapsed none =
      no_head _ (λ g gs is.
      tells_lapsed (passed_instances now (answers_of h)) g gs
      (ap (λ begun. endings_of (passed_instances now (answers_of h)) begun g.instance) (sym is)
      ∙ ends_at_one _ _ (wanted_instances h.config) g.instance
      (known_wanted g.instance (begun_known (ends_at now (passed_instances now (answers_of h))) g (first_key eventgroups_total exact_eventgroups (answers_of h).wishes _ g gs is))) none))

  -- what is due goes out
  no_offers : flat_map (offer_of (answers_of h)) (finite.keys (due_at now (answers_of h).offers.up)) ≡ [] → finite.keys (due_at now (answers_of h).offers.up) ≡ []
  no_offers none =
      no_head _ (λ q qs is.
      says _ _ (some_listed q h.config.offers.entries
      (listed_where _ (offering_at h.config.common.phases h.delay h.items q) (ap is_some (sym (get-table_of instances_total exact_instances _ _ q)) ∙ has_key instances_total exact_instances (answers_of h).offers.up _ q qs is)))
      (nil_parts (offer_of (answers_of h) q) _ (ap (flat_map (offer_of (answers_of h))) (sym is) ∙ none)).0)

  no_finds : flat_map (find_of (answers_of h)) (finite.keys (due_at now (answers_of h).seek.finding)) ≡ [] → finite.keys (due_at now (answers_of h).seek.finding) ≡ []
  no_finds none =
      no_head _ (λ q qs is.
      says _ _ (some_listed q h.config.wants.entries
      (listed_where _ (finding_at h.config.common.phases h.delay h.items q) (ap is_some (sym (get-table_of instances_total exact_instances _ _ q)) ∙ has_key instances_total exact_instances (answers_of h).seek.finding _ q qs is)))
      (nil_parts (find_of (answers_of h) q) _ (ap (flat_map (find_of (answers_of h))) (sym is) ∙ none)).0)

  quiet : timed_out now (answers_of h) ++ lapsed now (answers_of h) ≡ [] → due_entries now (answers_of h) ≡ [] → BringsNothing now (answers_of h)
  quiet told due =
      let tells = nil_parts (timed_out now (answers_of h)) (lapsed now (answers_of h)) told in
      let goes = nil_parts (flat_map (offer_of (answers_of h)) (finite.keys (due_at now (answers_of h).offers.up))) _ due in
      record {
        calls = none_mapped _ _ tells.0;
        gone = no_gone tells.1;
        lapsed = no_lapsed tells.1;
        offers = no_offers goes.0;
        finds = no_finds goes.1;
      }

-- ---- a step

-- what goes out is given
sends_one : (w : Work History) (front : List EntryValue) (fronts : List (List EntryValue)) → (run historic (each (message_plan_to Group) (front ∷ fronts)) w).outputs ≢ []
sends_one w front fronts is =
    some_after w.outputs _ _ (nil_parts (does historic (rule (Announces front)) w).outputs _ (sym (outputs_of_run (each (message_plan_to Group) fronts) (does historic (rule (Announces front)) w)) ∙ is)).0

sent_none : (w : Work History) (entries : List EntryValue) → (run historic (messages_plan_to Group entries) w).outputs ≡ [] → (w.outputs ≡ []) × (entries ≡ [])
unfolding front_lengths
sent_none w [] is = (is, refl)
sent_none w (e ∷ es) is =
    let n = longest_front (length (e ∷ es)) (e ∷ es) in
    absurd (sends_one w (take n (e ∷ es)) (fronts_of (lengths_of_fronts (length es) (drop n (e ∷ es))) (drop n (e ∷ es))) is)

-- a tick that gives nothing
pub quiet_step : (h : History) (ms : ℕ) (done : Work History) → KnowsWanted (answers_of h).seek → step h (Tick ms) ≡ Ok done → done.outputs ≡ [] → BringsNothing ((answers_of h).clock + ms) (answers_of h)
quiet_step h ms done knows is none = cases (nat_lt 0x7FFF_FFFF_FFFF_FFFF ((answers_of h).clock + ms)) is
  where
    cases : (past : Bool) → unless_refused (if past then Some ClockPast else None) (tick_plan ms) h ≡ Ok done → BringsNothing ((answers_of h).clock + ms) (answers_of h)
    cases true is = absurd (cc)
    cases false is =
        let same : run historic (tick_plan ms) (work_on h) ≡ done = cc in
        let sent = sent_none (does historic (ticks ms) (work_on h)) (due_entries ((answers_of h).clock + ms) (answers_of h)) (ap (λ (w : Work History). w.outputs) same ∙ none) in
        quiet h ((answers_of h).clock + ms) knows (sym (told_written _) ∙ sent.0) sent.1

-- ---- a tick that brings nothing

nothing_ends : (instances : List InstanceId) → endings instances [] [] ≡ []
nothing_ends [] = refl
nothing_ends (i ∷ is) = nothing_ends is

none_told : (t : Tables) (now : ℕ) → BringsNothing now t → timed_out now t ++ lapsed now t ≡ []
none_told t now none =
    (λ i. map (λ call. TimedOut call.message call.session) (none.calls i) ++ endings (wanted_instances t.config) (none.gone i) (none.lapsed i))
    ∙ nothing_ends (wanted_instances t.config)

none_due : (t : Tables) (now : ℕ) → BringsNothing now t → due_entries now t ≡ []
none_due t now none = rw (none.offers, none.finds) refl

goes_unsent : (w : Work History) → (run historic (messages_plan_to Group []) w).outputs ≡ w.outputs
unfolding front_lengths
goes_unsent w = refl

-- a tick is taken where the clock stays within its bound
within_bound : (h : History) (ms : ℕ) → (answers_of h).clock + ms < 2 ^ 63 → step h (Tick ms) ≡ Ok (run historic (tick_plan ms) (work_on h))
within_bound h ms bound = cases (nat_lt 0x7FFF_FFFF_FFFF_FFFF ((answers_of h).clock + ms)) refl
  where
    cases : (past : Bool) → nat_lt 0x7FFF_FFFF_FFFF_FFFF ((answers_of h).clock + ms) ≡ past
        → unless_refused (if past then Some ClockPast else None) (tick_plan ms) h ≡ Ok (run historic (tick_plan ms) (work_on h))
    cases true is = absurd (omega (arith, ltb-true 0x7FFF_FFFF_FFFF_FFFF ((answers_of h).clock + ms) is, bound))
    cases false is = refl

gives_none : (h : History) (ms : ℕ) → BringsNothing ((answers_of h).clock + ms) (answers_of h) → (run historic (tick_plan ms) (work_on h)).outputs ≡ []
gives_none h ms none =
    ap (λ (entries : List EntryValue). (run historic (messages_plan_to Group entries) (does historic (ticks ms) (work_on h))).outputs) (none_due (answers_of h) ((answers_of h).clock + ms) none)
    ∙ goes_unsent (does historic (ticks ms) (work_on h)) ∙ told_written _ ∙ none_told (answers_of h) ((answers_of h).clock + ms) none

next_step : (h : History) (t : Tables) (ms : ℕ) → t ≡ answers_of h → KnowsWanted t.seek → BringsFirstAfter ms t → IsNextDue h ms
next_step h t ms same knows first = (nothing_sooner, (run historic (tick_plan ms) (work_on h), within_bound h ms bound, something_then))
  where
    bound : (answers_of h).clock + ms < 2 ^ 63
    bound = subst (λ (u : Tables). u.clock + ms < 2 ^ 63) same first.0

    nothing_sooner : (fewer : ℕ) → fewer < ms → GivesNothing h fewer
    nothing_sooner fewer less =
        ap given_in (within_bound h fewer (omega (arith, bound, less)))
        ∙ ap (λ outputs. Ok outputs) (gives_none h fewer (subst (λ (u : Tables). BringsNothing (u.clock + fewer) u) same (first.1 fewer less)))

    something_then : (run historic (tick_plan ms) (work_on h)).outputs ≢ []
    something_then none =
        first.2 (subst (λ (u : Tables). BringsNothing (u.clock + ms) u) (sym same)
        (quiet_step h ms (run historic (tick_plan ms) (work_on h)) (subst (λ (u : Tables). KnowsWanted u.seek) same knows) (within_bound h ms bound) none))

nothing_next : (h : History) (t : Tables) → t ≡ answers_of h → NeverBrings t → NothingIsDue h
nothing_next h t same never = λ ms done is. cases ms done (nat_lt 0x7FFF_FFFF_FFFF_FFFF ((answers_of h).clock + ms)) refl is
  where
    cases : (ms : ℕ) (done : Work History) (past : Bool) → nat_lt 0x7FFF_FFFF_FFFF_FFFF ((answers_of h).clock + ms) ≡ past
        → unless_refused (if past then Some ClockPast else None) (tick_plan ms) h ≡ Ok done → done.outputs ≡ []
    cases ms done true past is = absurd (cc)
    cases ms done false past is =
        let ran : run historic (tick_plan ms) (work_on h) ≡ done = cc in
        let bound : (answers_of h).clock + ms < 2 ^ 63 = omega (arith, ltb-false 0x7FFF_FFFF_FFFF_FFFF ((answers_of h).clock + ms) past) in
        sym (ap (λ (w : Work History). w.outputs) ran) ∙ gives_none h ms (subst (λ (u : Tables). BringsNothing ((answers_of h).clock + ms) u) same (never ((answers_of h).clock + ms) bound))

-- the same of a node that stands for a history with these tables
module _ (t : Tables) (Stands : History → Type 0) (stands : (h : History) → Stands h → t ≡ answers_of h) where
  pub next_told : (due : Option ℕ) → KnowsWanted t.seek → IfSome due (λ ms. BringsFirstAfter ms t) → IfSome due (λ ms. (h : History) → Stands h → IsNextDue h ms)
  next_told None knows first = tt
  next_told (Some ms) knows first = λ h is. next_step h t ms (stands h is) knows first

  pub nothing_told : (due : Option ℕ) → IfNone due (NeverBrings t) → IfNone due ((h : History) → Stands h → NothingIsDue h)
  nothing_told None never = λ h is. nothing_next h t (stands h is) never
  nothing_told (Some ms) never = tt

-- a node that failed stands for no history
pub failed_stands : (failed : Bool) (t : Tables) (h : History) → failed ≡ true → StandsFor (seen failed t) h → NothingIsDue h
failed_stands true t h is stands = let none : None ≡ Some (answers_of h) = ap (λ (n : NodeView). n.tables) stands in absurd (cc)
failed_stands false t h is stands = absurd (cc)

-- memory ran out, so what that says holds
pub ran_out : {P : Type 0} (done : Result (Unit {0}) NodeError) (after : Giving) → IfErr done (λ error. error ≡ OutOfMemory → P) → given_or_error done after ≡ Err OutOfMemory → P
ran_out (Ok _) after why is = absurd (cc)
ran_out (Err error) after why is = why (cc)
