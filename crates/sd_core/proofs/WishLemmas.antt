-- How wishes are kept: those that wait for a moment, and those of an instance.
use Rattle.std.proofs.Common.{◌≡◌, ◌≢◌, ℕ, Bool, true, false, cond, ◌&&◌, ◌||◌, List, [], ◌∷◌, map, filter, take_while, Option, None, Some, refl, ap, sym, ◌∙◌}
use Rattle.std.specs.Option.{is_some, option_and_then, option_map}
use Rattle.std.specs.List.{cons_option, filter_map, list_any}
use Rattle.std.specs.declared.cmp.Ordering.{Ordering}
use Rattle.std.specs.declared.cmp.Ordering.TheVariants.{Less, Equal, Greater}
use Rattle.std.specs.Ordering.{eq_by_cmp, is_le, nat_cmp, ordering_then, ordering_reverse}
use Rattle.std.specs.Cmp.{IsTotalOrder}
use Rattle.std.specs.BTreeSet.{BTreeSet, InsertsAll, IsOrdered}
use Rattle.std.proofs.lemmas.Bool.{or_left, or_right}
use Rattle.std.specs.declared.net.ipv4_addr.Ipv4Addr.{Ipv4Addr}
use Rattle.std.specs.FinMap.{FinMap, IsAntisymmetric, empty, entries, entries_sorted, get, get-empty, keys, same_map, contains_key-keys}
use Rattle.someip_tables.specs.declared.deadline.Deadline.{Deadline}
use Rattle.someip_tables.specs.declared.deadline.Deadline.TheVariants.{At, Never}
use Rattle.someip_tables.specs.Deadlines.{millis_of}
use Rattle.someip_tables.specs.Retained.{kept_if, retain}
use Rattle.someip_tables.specs.Waits.{due_by, is_due_by}
use Rattle.someip_tables.proofs.Entries.{from_entries-entries, get-retain, own_test, same_by_test, true_from}
use Rattle.someip_tables.proofs.Members.{any_filter, any_same, or_false, or_moved}
use Rattle.someip_tables.proofs.Sorted.{keys_of_set}
use Rattle.sd_core.specs.declared.keys.InstanceId.{InstanceId}
use Rattle.sd_core.specs.declared.eventgroup.Eventgroup.{Eventgroup}
use Rattle.sd_core.specs.declared.wish.Beginning.{Beginning}
use Rattle.sd_core.specs.declared.wish.OutgoingSubscribe.{OutgoingSubscribe}
use Rattle.sd_core.specs.declared.wish.Stage.{Stage}
use Rattle.sd_core.specs.declared.wish.Stage.TheVariants.{Unwished, Waiting, Begun}
use Rattle.sd_core.specs.declared.wish.Wish.{Wish}
use Rattle.sd_core.specs.Keys.{instance_cmp}
use Rattle.sd_core.specs.KeyOrder.{instances_total, exact_instances}
use Rattle.sd_core.specs.Eventgroups.{eventgroup_cmp}
use Rattle.sd_core.specs.EventgroupOrder.{eventgroups_total, exact_eventgroups}
use Rattle.sd_core.specs.Endings.{ends_at}
use Rattle.sd_core.specs.Wishes.{begun_at, counter_in, has_begun, has_ended, is_over, is_renewed_by, is_wished, stands_with, subscribe_of, subscribing, moment_in, moment_of}
use Rattle.sd_core.specs.WishTables.{Wishes, begun_where, subscribes, any_begun, any_wished, begun_of, begun_of_any, is_of, is_of_any, least_of, over_at, wished_of}
use Rattle.sd_core.proofs.ChangedLemmas.{some_found_in}
use Rattle.someip_tables.proofs.RunLemmas.{filter_twice, run_is}
use Rattle.someip_tables.proofs.SortedEntries.{entries-retain, keys-empty, none_chosen, same_keys}
use Rattle.sd_core.proofs.SubscriberLemmas.{some_passes}
use Rattle.sd_core.proofs.SubscriptionRunLemmas.{any_either, any_none, le_then, tied_le, turned, zero_first}

-- ---- of any map

-- tests that answer alike leave the same
pub retain_alike : {K X : Type 0} {R : K → K → Ordering} (m : FinMap R X) (p r : K → X → Bool) → ((k : K) (x : X) → p k x ≡ r k x) → retain m p ≡ retain m r
retain_alike m p r same = λ i. retain m (λ k x. same k x i)

module _ {K X : Type 0} {R : K → K → Ordering} (o : IsTotalOrder R) (exact : IsAntisymmetric R) where
  -- what passes one of two tests
  either_kept : (m : FinMap R X) (p r : K → X → Bool) (q : K) → is_some (get (retain m (λ k x. p k x || r k x)) q) ≡ (is_some (get (retain m p) q) || is_some (get (retain m r) q))
  either_kept m p r q =
      ap is_some (get-retain o exact m (λ k x. p k x || r k x) q) ∙ at (get m q)
      ∙ sym (ap (λ v. is_some v || is_some (get (retain m r) q)) (get-retain o exact m p q) ∙ ap (λ v. is_some (kept_if (p q) (get m q)) || is_some v) (get-retain o exact m r q))
    where
      kept : (a b : Bool) (x : X) → is_some (cond (a || b) (Some x) None) ≡ (is_some (cond a (Some x) None) || is_some (cond b (Some x) None))
      kept true b x = refl
      kept false b x = refl

      at : (v : Option X) → is_some (kept_if (λ x. p q x || r q x) v) ≡ (is_some (kept_if (p q) v) || is_some (kept_if (r q) v))
      at None = refl
      at (Some x) = kept (p q x) (r q x) x

  -- a map within an empty one is empty
  none_within : (m n : FinMap R X) → ((q : K) → is_some (get m q) ≡ true → is_some (get n q) ≡ true) → n ≡ empty → m ≡ empty
  none_within m n within none = same_map o exact _ _ (λ q. nothing (get m q) (λ some. sym (within q some) ∙ ap (λ x. is_some (get x q)) none ∙ ap is_some (get-empty R q)) ∙ sym (get-empty R q))
    where
      nothing : (v : Option X) → (is_some v ≡ true → true ≡ false) → v ≡ None
      nothing None some = refl
      nothing (Some x) some = let no = some refl in absurd (cc)

-- ---- those that wait for a moment

-- a wish is due where the time of its Ack has passed
due_test : (now : ℕ) (stage : Stage) → is_due_by now (moment_in stage) ≡ has_begun (λ beginning. is_over now beginning) stage
due_test now Unwished = refl
due_test now Waiting = refl
due_test now (Begun beginning) = at beginning.until
  where
    at : (until : Option Deadline) → is_due_by now (option_and_then millis_of until) ≡ has_ended now until
    at None = refl
    at (Some (At moment)) = refl
    at (Some Never) = refl

pub due_is : (now : ℕ) (m : Wishes) → due_by moment_of now m ≡ over_at now m
due_is now m = retain_alike m (λ _ wish. is_due_by now (moment_of wish)) (λ _ wish. has_begun (λ beginning. is_over now beginning) wish.stage) (λ _ wish. due_test now wish.stage)

-- ---- those of an instance stand one after the other

abbrev Entry : Type 0
Entry = Eventgroup × Wish

-- the entries from the first one of an instance on
abbrev pub from_least : InstanceId → Wishes → List Entry
from_least instance m = filter (λ e. is_le (eventgroup_cmp (least_of instance) e.0)) (entries m)

-- and those of them that are of it
abbrev pub of_instance : InstanceId → Wishes → List Entry
of_instance instance m = take_while (λ e. is_of instance e.0) (from_least instance m)

-- none comes before the least
first_of_instance : (instance : InstanceId) (k : Eventgroup) → is_of instance k ≡ true → is_le (eventgroup_cmp (least_of instance) k) ≡ true
first_of_instance instance k of =
    le_then (instance_cmp instance k.instance) _ (tied_le instances_total instance k.instance (sym (same_by_test exact_instances k.instance instance of))) (zero_first k.id)

-- what stands between two of an instance is of it
squeezed : (i g t : Ordering) → is_le (ordering_then i g) ≡ true → ordering_then (ordering_reverse i) t ≡ Less → i ≡ Equal
squeezed Less g t le lt = absurd (cc)
squeezed Greater g t le lt = absurd (cc)
squeezed Equal g t le lt = refl

instance_whole : (instance : InstanceId) (a b : Eventgroup) → is_le (eventgroup_cmp (least_of instance) a) ≡ true → eventgroup_cmp a b ≡ Less → is_of instance b ≡ true → is_of instance a ≡ true
instance_whole instance a b from lt of =
    let reversed = turned instances_total a.instance b.instance instance (same_by_test exact_instances b.instance instance of) in
    let equal = squeezed (instance_cmp instance a.instance) (nat_cmp 0 a.id) (nat_cmp a.id b.id) from (sym (ap (λ i. ordering_then i (nat_cmp a.id b.id)) reversed) ∙ lt) in
    ap (λ i. is_of i a) (exact_instances instance a.instance equal) ∙ own_test instances_total a.instance

pub instance_run : (instance : InstanceId) (m : Wishes) → of_instance instance m ≡ filter (λ e. is_of instance e.0) (entries m)
instance_run instance m = run_is eventgroups_total (is_of instance) (least_of instance) (instance_whole instance) (entries m) (true_from (entries_sorted m)) (λ k there of. first_of_instance instance k of)

-- the keys of those that pass a test
pub run_keys : (instance : InstanceId) (p : Wish → Bool) (m : Wishes)
    → map (λ e. e.0) (filter (λ e. p e.1) (of_instance instance m)) ≡ keys (retain m (λ eventgroup wish. is_of instance eventgroup && p wish))
run_keys instance p m =
    ap (λ es. map (λ (e : Entry). e.0) (filter (λ e. p e.1) es)) (instance_run instance m)
    ∙ ap (map (λ (e : Entry). e.0)) (filter_twice (λ (e : Entry). is_of instance e.0) (λ e. p e.1) (entries m) ∙ sym (entries-retain eventgroups_total exact_eventgroups m (λ eventgroup wish. is_of instance eventgroup && p wish)))

-- the Subscribes of those of an instance are all
within : {A B : Type 0} (f : A → Option B) (p : A → Bool) (xs : List A) → ((x : A) → p x ≡ false → f x ≡ None) → filter_map f (filter p xs) ≡ filter_map f xs
within f p [] none = refl
within {A = A} {B = B} f p (x ∷ xs) none = cases (p x) refl (within f p xs none)
  where
    cases : (b : Bool) → p x ≡ b → filter_map f (filter p xs) ≡ filter_map f xs → filter_map f (cond b (x ∷ filter p xs) (filter p xs)) ≡ cons_option (f x) (filter_map f xs)
    cases true is rest = ap (cons_option (f x)) rest
    cases false is rest = rest ∙ ap (λ v. cons_option v (filter_map f xs)) (sym (none x is))

pub run_subscribes : (now : ℕ) (instance : InstanceId) (peer : Ipv4Addr) (m : Wishes)
    → filter_map (λ e. subscribe_of now instance peer e.0 e.1) (of_instance instance m) ≡ subscribes now instance peer m
run_subscribes now instance peer m =
    ap (filter_map (λ (e : Entry). subscribe_of now instance peer e.0 e.1)) (instance_run instance m)
    ∙ within (λ (e : Entry). subscribe_of now instance peer e.0 e.1) (λ (e : Entry). is_of instance e.0) (entries m) (λ e other. nothing (is_of instance e.0) (is_wished e.1.stage) _ other)
  where
    nothing : {B : Type 0} (a b : Bool) (v : Option B) → a ≡ false → cond (a && b) v None ≡ None
    nothing true b v other = absurd (cc)
    nothing false b v other = refl

-- a Subscribe goes out for each wish of the instance
counted : (now : ℕ) (peer : Ipv4Addr) (stage : Stage) (next : ℕ) → is_some (counter_in (subscribing now peer (record { stage = stage; next_counter = next })).stage) ≡ true
counted now peer Unwished next = refl
counted now peer Waiting next = refl
counted now peer (Begun beginning) next = cases (stands_with now peer (Begun beginning))
  where
    wish : Wish
    wish = record { stage = Begun beginning; next_counter = next }

    cases : (b : Bool) → is_some (counter_in (cond b wish (begun_at peer wish)).stage) ≡ true
    cases true = refl
    cases false = refl

sent_for : (now : ℕ) (instance : InstanceId) (peer : Ipv4Addr) (eventgroup : Eventgroup) (wish : Wish) → is_some (subscribe_of now instance peer eventgroup wish) ≡ is_renewed_by instance eventgroup wish
sent_for now instance peer eventgroup wish = cases (is_renewed_by instance eventgroup wish) (counter_in (subscribing now peer wish).stage) (counted now peer wish.stage wish.next_counter)
  where
    with_counter : ℕ → OutgoingSubscribe
    with_counter counter = record { eventgroup = eventgroup; counter = counter }

    cases : (b : Bool) (v : Option ℕ) → is_some v ≡ true → is_some (cond b (option_map with_counter v) None) ≡ b
    cases true None there = cc
    cases true (Some counter) there = refl
    cases false v there = refl

any_sent : (now : ℕ) (instance : InstanceId) (peer : Ipv4Addr) (m : Wishes) → list_any (λ e. is_some (subscribe_of now instance peer e.0 e.1)) (entries m) ≡ any_wished instance m
any_sent now instance peer m =
    any_same (λ (e : Entry). is_some (subscribe_of now instance peer e.0 e.1)) (λ e. is_renewed_by instance e.0 e.1) (entries m) (λ e. sent_for now instance peer e.0 e.1)

pub some_sent : (now : ℕ) (instance : InstanceId) (peer : Ipv4Addr) (m : Wishes) → any_wished instance m ≡ true → subscribes now instance peer m ≢ []
some_sent now instance peer m some = some_found_in (λ (e : Entry). subscribe_of now instance peer e.0 e.1) (entries m) (any_sent now instance peer m ∙ some)

pub none_wished : (instance : InstanceId) (m : Wishes) → any_wished instance m ≡ false → wished_of instance m ≡ empty
none_wished instance m none =
    ap (wished_of instance) (sym (from_entries-entries eventgroups_total exact_eventgroups m))
    ∙ none_chosen eventgroups_total exact_eventgroups (is_renewed_by instance) (entries m) none

-- where an eventgroup of the instance is wished, a Subscribe goes out
pub wished_sent : (now : ℕ) (instance : InstanceId) (peer : Ipv4Addr) (m : Wishes) → wished_of instance m ≢ empty → subscribes now instance peer m ≢ []
wished_sent now instance peer m some = cases (any_wished instance m) refl
  where
    cases : (b : Bool) → any_wished instance m ≡ b → subscribes now instance peer m ≢ []
    cases true is = some_sent now instance peer m is
    cases false is = λ _. some (none_wished instance m is)

-- ---- subscriptions that were begun

-- what is asked of the eventgroup alone
begun_test : (of : Bool) (stage : Stage) → (of && has_begun (λ _. true) stage) ≡ has_begun (λ _. of) stage
begun_test true Unwished = refl
begun_test true Waiting = refl
begun_test true (Begun beginning) = refl
begun_test false Unwished = refl
begun_test false Waiting = refl
begun_test false (Begun beginning) = refl

pub begun_is : (instance : InstanceId) (m : Wishes) → retain m (λ eventgroup wish. is_of instance eventgroup && has_begun (λ _. true) wish.stage) ≡ begun_of instance m
begun_is instance m =
    retain_alike m (λ eventgroup wish. is_of instance eventgroup && has_begun (λ _. true) wish.stage) (λ eventgroup wish. has_begun (λ _. is_of instance eventgroup) wish.stage)
    (λ eventgroup wish. begun_test (is_of instance eventgroup) wish.stage)

pub begun_in_run : (instance : InstanceId) (m : Wishes) → list_any (λ e. has_begun (λ _. true) e.1.stage) (of_instance instance m) ≡ any_begun (λ eventgroup _. is_of instance eventgroup) m
begun_in_run instance m =
    ap (list_any (λ (e : Entry). has_begun (λ _. true) e.1.stage)) (instance_run instance m)
    ∙ any_filter (λ (e : Entry). has_begun (λ _. true) e.1.stage) (λ e. is_of instance e.0) (entries m)
    ∙ any_same (λ (e : Entry). is_of instance e.0 && has_begun (λ _. true) e.1.stage) (λ e. has_begun (λ _. is_of instance e.0) e.1.stage) (entries m) (λ e. begun_test (is_of instance e.0) e.1.stage)

any_swapped : {A B : Type 0} (p : A → B → Bool) (xs : List A) (ys : List B) → list_any (λ x. list_any (p x) ys) xs ≡ list_any (λ y. list_any (λ x. p x y) xs) ys
any_swapped p [] ys = sym (any_none ys)
any_swapped p (x ∷ xs) ys = ap (λ b. list_any (p x) ys || b) (any_swapped p xs ys) ∙ any_either (p x) (λ y. list_any (λ z. p z y) xs) ys

-- one was begun at one of several instances
pub begun_at_any : (instances : List InstanceId) (m : Wishes) → list_any (λ instance. any_begun (λ eventgroup _. is_of instance eventgroup) m) instances ≡ any_begun (λ eventgroup _. is_of_any instances eventgroup) m
begun_at_any instances m =
    any_swapped (λ instance (e : Entry). has_begun (λ _. is_of instance e.0) e.1.stage) instances (entries m)
    ∙ any_same (λ (e : Entry). list_any (λ instance. has_begun (λ _. is_of instance e.0) e.1.stage) instances) (λ e. has_begun (λ _. is_of_any instances e.0) e.1.stage) (entries m) (λ e. at e.0 e.1.stage)
  where
    at : (eventgroup : Eventgroup) (stage : Stage) → list_any (λ instance. has_begun (λ _. is_of instance eventgroup) stage) instances ≡ has_begun (λ _. is_of_any instances eventgroup) stage
    at eventgroup Unwished = any_none instances
    at eventgroup Waiting = any_none instances
    at eventgroup (Begun beginning) = refl

pub none_begun : (test : Eventgroup → Beginning → Bool) (m : Wishes) → any_begun test m ≡ false → begun_where test m ≡ empty
none_begun test m none =
    ap (begun_where test) (sym (from_entries-entries eventgroups_total exact_eventgroups m))
    ∙ none_chosen eventgroups_total exact_eventgroups (λ eventgroup wish. has_begun (test eventgroup) wish.stage) (entries m) none

pub some_begun : (test : Eventgroup → Beginning → Bool) (m : Wishes) → any_begun test m ≡ true → begun_where test m ≢ empty
some_begun test m some = λ is.
    some_passes (λ (e : Entry). has_begun (test e.0) e.1.stage) (λ (e : Entry). e.0) (entries m) some
    (ap (map (λ (e : Entry). e.0)) (sym (entries-retain eventgroups_total exact_eventgroups m (λ eventgroup wish. has_begun (test eventgroup) wish.stage))) ∙ ap keys is ∙ keys-empty Wish eventgroup_cmp)

-- ---- those that end as a moment comes

either_begun : (p r : Beginning → Bool) (stage : Stage) → has_begun (λ beginning. p beginning || r beginning) stage ≡ (has_begun p stage || has_begun r stage)
either_begun p r Unwished = refl
either_begun p r Waiting = refl
either_begun p r (Begun beginning) = refl

either_where : (p r : Eventgroup → Beginning → Bool) (m : Wishes) (q : Eventgroup)
    → is_some (get (begun_where (λ eventgroup beginning. p eventgroup beginning || r eventgroup beginning) m) q) ≡ (is_some (get (begun_where p m) q) || is_some (get (begun_where r m) q))
either_where p r m q =
    ap (λ (n : Wishes). is_some (get n q))
    (retain_alike m (λ eventgroup wish. has_begun (λ beginning. p eventgroup beginning || r eventgroup beginning) wish.stage) (λ eventgroup wish. has_begun (p eventgroup) wish.stage || has_begun (r eventgroup) wish.stage)
    (λ eventgroup wish. either_begun (p eventgroup) (r eventgroup) wish.stage))
    ∙ either_kept eventgroups_total exact_eventgroups m (λ eventgroup wish. has_begun (p eventgroup) wish.stage) (λ eventgroup wish. has_begun (r eventgroup) wish.stage) q

-- those whose time has passed, and those of the instances
ended_is : (now : ℕ) (instances : List InstanceId) (m : Wishes) (q : Eventgroup)
    → is_some (get (begun_where (ends_at now instances) m) q) ≡ (is_some (get (over_at now m) q) || is_some (get (begun_of_any instances m) q))
ended_is now instances m q = either_where (λ _ beginning. is_over now beginning) (λ eventgroup _. is_of_any instances eventgroup) m q

pub over_ends : (now : ℕ) (instances : List InstanceId) (m : Wishes) → over_at now m ≢ empty → begun_where (ends_at now instances) m ≢ empty
over_ends now instances m some = λ none. some (none_within eventgroups_total exact_eventgroups (over_at now m) (begun_where (ends_at now instances) m) (λ q there. ended_is now instances m q ∙ or_left _ _ there) none)

pub begun_ends : (now : ℕ) (instances : List InstanceId) (m : Wishes) → begun_of_any instances m ≢ empty → begun_where (ends_at now instances) m ≢ empty
begun_ends now instances m some = λ none. some (none_within eventgroups_total exact_eventgroups (begun_of_any instances m) (begun_where (ends_at now instances) m) (λ q there. ended_is now instances m q ∙ or_right _ _ there) none)

none_at : {X : Type 0} (m : FinMap eventgroup_cmp X) (q : Eventgroup) → m ≡ empty → is_some (get m q) ≡ false
none_at m q none = ap (λ n. is_some (get n q)) none ∙ ap is_some (get-empty eventgroup_cmp q)

pub over_alone : (now : ℕ) (instances : List InstanceId) (m : Wishes) → begun_of_any instances m ≡ empty → keys (over_at now m) ≡ keys (begun_where (ends_at now instances) m)
over_alone now instances m none =
    same_keys eventgroups_total exact_eventgroups (over_at now m) (begun_where (ends_at now instances) m)
    (λ q. or_false (is_some (get (over_at now m) q)) ∙ ap (λ b. is_some (get (over_at now m) q) || b) (sym (none_at (begun_of_any instances m) q none)) ∙ sym (ended_is now instances m q))

-- ---- those that were gathered, with those of what is left of the instances

abbrev pub IsGathered : List Eventgroup → List InstanceId → List InstanceId → Wishes → BTreeSet Eventgroup → Type 0
IsGathered due all rest m n =
    IsOrdered eventgroup_cmp n
    × ((q : Eventgroup) → (list_any (eq_by_cmp eventgroup_cmp q) n.keys || is_some (get (begun_of_any rest m) q)) ≡ (list_any (eq_by_cmp eventgroup_cmp q) due || is_some (get (begun_of_any all m) q)))

pub gathered_none : (due : List Eventgroup) (all : List InstanceId) (m : Wishes) (old new : BTreeSet Eventgroup) → old.keys ≡ [] → InsertsAll eventgroup_cmp old due new → IsGathered due all all m new
gathered_none due all m old new none is =
    (is.1, λ q. ap (λ b. b || is_some (get (begun_of_any all m) q)) (is.0 q ∙ ap (λ ks. list_any (eq_by_cmp eventgroup_cmp q) ks || list_any (eq_by_cmp eventgroup_cmp q) due) none))

pub gathered_more : (due : List Eventgroup) (all : List InstanceId) (instance : InstanceId) (rest : List InstanceId) (m : Wishes) (old new : BTreeSet Eventgroup)
    → IsGathered due all (instance ∷ rest) m old → InsertsAll eventgroup_cmp old (keys (begun_of instance m)) new → IsGathered due all rest m new
gathered_more due all instance rest m old new is more = (
  more.1,
  λ q. or_moved _ _ _ _ _ (more.0 q)
      (ap (λ b. b || is_some (get (begun_of_any rest m) q)) (sym (contains_key-keys (begun_of instance m) q)) ∙ sym (either_where (λ eventgroup _. is_of instance eventgroup) (λ eventgroup _. is_of_any rest eventgroup) m q))
      ∙ is.1 q,
)

none_of_none : (m : Wishes) (q : Eventgroup) → is_some (get (begun_of_any [] m) q) ≡ false
none_of_none m q = ap is_some (get-retain eventgroups_total exact_eventgroups m (λ eventgroup wish. has_begun (λ _. is_of_any [] eventgroup) wish.stage) q) ∙ at (get m q)
  where
    begun : (stage : Stage) (wish : Wish) → is_some (cond (has_begun (λ _. false) stage) (Some wish) None) ≡ false
    begun Unwished wish = refl
    begun Waiting wish = refl
    begun (Begun beginning) wish = refl

    at : (v : Option Wish) → is_some (kept_if (λ wish. has_begun (λ _. false) wish.stage) v) ≡ false
    at None = refl
    at (Some wish) = begun wish.stage wish

pub gathered_all : (due : List Eventgroup) (all : List InstanceId) (m : Wishes) (n : BTreeSet Eventgroup) → IsGathered due all [] m n
    → (q : Eventgroup) → list_any (eq_by_cmp eventgroup_cmp q) n.keys ≡ (list_any (eq_by_cmp eventgroup_cmp q) due || is_some (get (begun_of_any all m) q))
gathered_all due all m n gathered q =
    or_false (list_any (eq_by_cmp eventgroup_cmp q) n.keys) ∙ ap (λ b. list_any (eq_by_cmp eventgroup_cmp q) n.keys || b) (sym (none_of_none m q)) ∙ gathered.1 q

-- what was gathered is what ends
pub gathered_ends : (now : ℕ) (due : List Eventgroup) (all : List InstanceId) (m : Wishes) (n : BTreeSet Eventgroup) → due ≡ keys (over_at now m) → IsOrdered eventgroup_cmp n
    → ((q : Eventgroup) → list_any (eq_by_cmp eventgroup_cmp q) n.keys ≡ (list_any (eq_by_cmp eventgroup_cmp q) due || is_some (get (begun_of_any all m) q))) → n.keys ≡ keys (begun_where (ends_at now all) m)
gathered_ends now due all m n is rises gathered =
    keys_of_set eventgroups_total exact_eventgroups (begun_where (ends_at now all) m) n rises
    (λ q. gathered q
    ∙ ap (λ b. b || is_some (get (begun_of_any all m) q)) (ap (list_any (eq_by_cmp eventgroup_cmp q)) is ∙ sym (contains_key-keys (over_at now m) q))
    ∙ sym (ended_is now all m q))
