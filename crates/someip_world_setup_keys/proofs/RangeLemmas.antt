-- The values that a tree says are in their ranges.
use Rattle.std.proofs.Common.{◌≡◌, ℕ, suc, ℤ, pos, negsuc, ◌<◌, ◌≤◌, ◌==◌, Bool, true, false, cond, ◌&&◌, ◌||◌, nat_le, codes, List, [], ◌∷◌, length, Option, None, Some, refl, sym, ap, ◌∙◌, arith}
use Rattle.std.specs.List.{list_all, AllByRecursion}
use Rattle.std.specs.Option.{IfSome, option_and_then}
use Rattle.std.proofs.lemmas.Bool.{and_parts, and_from, leb-true, le-leb, leb-false, ne_eqb, or_parts, eqb-false}
use Rattle.toml.specs.Data.{Data, as_integer, as_str, get}
use Rattle.someip_node_rules.specs.forms.GoodConfigs.{is_within, is_good_id, is_good_event, is_good_instance}
use Rattle.someip_world_setup_keys.specs.Keys.{◌>>=◌, within, integer_at, integer_or, number_within, number_or, flag_or, is_name, name_at, address_at}
use Rattle.someip_world_setup_keys.specs.Lists.{found_at_each, id_of, ids_of, tables_at, tables_or_none, integers_or_none, integers_at}
use Rattle.someip_world_setup_keys.specs.Values.{ListedValue, OfferValue, WantValue, NodeValue, PhasesValue, SetupValue}
use Rattle.someip_world_setup_keys.specs.Clashes.{offered_id, wanted_id}
use Rattle.someip_world_setup_keys.specs.SaidByKeys.{methods_at, some_ids, groups_at, said_event, said_offer, said_eventgroup, said_want, said_node, few_tables, count_or, time_or, said_phases, said_common, said_setup}

-- ---- numbers

abbrev pub IsWithin : ℕ → ℕ → ℕ → Type 0
IsWithin low high n = is_within low high n ≡ true

pub at_most : (low high n : ℕ) → IsWithin low high n → nat_le n high ≡ true
at_most low high n h = (and_parts (nat_le low n) (nat_le n high) h).1

pub not_zero : (high n : ℕ) → IsWithin 1 high n → (n == 0) ≡ false
not_zero high n h = let some : 1 ≤ n = leb-true 1 n (and_parts (nat_le 1 n) (nat_le n high) h).0 in ne_eqb n 0 (λ is. omega (arith, is))

-- ---- what is found, if anything is

anything : {A : Type 0} (o : Option A) → IfSome o (λ _. Unit {0})
anything None = tt
anything (Some x) = tt

then_some : {A B : Type 0} (P : A → Type 0) (Q : B → Type 0) (o : Option A) (f : A → Option B) → IfSome o P → ((x : A) → P x → IfSome (f x) Q) → IfSome (option_and_then f o) Q
then_some P Q None f h k = tt
then_some P Q (Some x) f h k = k x h

weaken : {A : Type 0} (P Q : A → Type 0) (o : Option A) → ((x : A) → P x → Q x) → IfSome o P → IfSome o Q
weaken P Q None then h = tt
weaken P Q (Some x) then h = then x h

tested : {A : Type 0} (b : Bool) (x : A) (p : A → Bool) → b ≡ p x → IfSome (cond b (Some x) None) (λ y. p y ≡ true)
tested true x p is = sym is
tested false x p is = tt

within_in : (low high : ℕ) (z : ℤ) → IfSome (within low high z) (IsWithin low high)
within_in low high (pos n) = tested (nat_le low n && nat_le n high) n (is_within low high) refl
within_in low high (negsuc n) = tt

number_in : (key : List ℕ) (low high : ℕ) (d : Data) → IfSome (number_within key low high d) (IsWithin low high)
number_in key low high d = then_some (λ _. Unit {0}) (IsWithin low high) (integer_at key d) (within low high) (anything (integer_at key d)) (λ z _. within_in low high z)

default_in : (key : List ℕ) (default : ℤ) (low high : ℕ) (d : Data) → IfSome (number_or key default low high d) (IsWithin low high)
default_in key default low high d = then_some (λ _. Unit {0}) (IsWithin low high) (integer_or key default d) (within low high) (anything (integer_or key default d)) (λ z _. within_in low high z)

-- ---- lists

module _ {A B : Type 0} (P : B → Type 0) (f : A → Option B) (one : (x : A) → IfSome (f x) P) where
  -- each is in its range, and none is left out
  pub each_in : (xs : List A) → IfSome (found_at_each f xs) (λ ys. AllByRecursion P ys × (length ys ≡ length xs))
  unfolding found_at_each
  each_in [] = (tt, refl)
  each_in (x ∷ xs) =
      then_some P (λ ys. AllByRecursion P ys × (length ys ≡ length (x ∷ xs))) (f x) (λ y. found_at_each f xs >>= λ ys. Some (y ∷ ys)) (one x) (λ y h.
      then_some (λ ys. AllByRecursion P ys × (length ys ≡ length xs)) (λ ys. AllByRecursion P ys × (length ys ≡ length (x ∷ xs))) (found_at_each f xs) (λ ys. Some (y ∷ ys)) (each_in xs) (λ ys k.
      ((h, k.0), ap (λ n. suc n) k.1)))

pub all_true : {A : Type 0} (P : A → Type 0) (p : A → Bool) (xs : List A) → ((x : A) → P x → p x ≡ true) → AllByRecursion P xs → list_all p xs ≡ true
all_true P p [] then h = refl
all_true P p (x ∷ xs) then h = and_from (p x) (list_all p xs) (then x h.0) (all_true P p xs then h.1)

ids_in : (low high : ℕ) (p : ℕ → Bool) → ((n : ℕ) → IsWithin low high n → p n ≡ true) → (ds : List Data) → IfSome (ids_of low high ds) (λ ids. list_all p ids ≡ true)
ids_in low high p then ds =
    weaken (λ ids. AllByRecursion (IsWithin low high) ids × (length ids ≡ length ds)) (λ ids. list_all p ids ≡ true) (ids_of low high ds)
    (λ ids h. all_true (IsWithin low high) p ids then h.0)
    (each_in (IsWithin low high) (id_of low high) one ds)
  where
    one : (d : Data) → IfSome (id_of low high d) (IsWithin low high)
    one d = then_some (λ _. Unit {0}) (IsWithin low high) (as_integer d) (within low high) (anything (as_integer d)) (λ z _. within_in low high z)

-- the tables of a list, each in its range
tables_in : {B : Type 0} (P : B → Type 0) (f : Data → Option B) → ((d : Data) → IfSome (f d) P) → (o : Option (List Data)) → IfSome (o >>= found_at_each f) (λ ys. AllByRecursion P ys)
tables_in P f one o =
    then_some (λ _. Unit {0}) (λ ys. AllByRecursion P ys) o (found_at_each f) (anything o) (λ ds _.
    weaken (λ ys. AllByRecursion P ys × (length ys ≡ length ds)) (λ ys. AllByRecursion P ys) (found_at_each f ds) (λ ys h. h.0) (each_in P f one ds))

-- ---- offers

pub record EventRange (l : ListedValue) : Type 0 where
  pub id : is_good_event l.id ≡ true
  pub members : list_all is_good_id l.members ≡ true
  pub some : (length l.members == 0) ≡ false

pub record OfferRange (o : OfferValue) : Type 0 where
  pub id : is_good_instance (offered_id o) ≡ true
  pub major : nat_le o.major 0xFE ≡ true
  pub minor : nat_le o.minor 0xFFFFFFFE ≡ true
  pub ttl : (o.ttl == 0) ≡ false
  pub port : (o.port == 0) ≡ false
  pub methods : list_all (λ m. nat_le m 0x7FFF) o.methods ≡ true
  pub oneways : list_all (λ m. nat_le m 0x7FFF) o.oneways ≡ true
  pub events : AllByRecursion EventRange o.events
  pub subscribers : is_within 1 1024 o.subscribers ≡ true

some_in : (ids : List ℕ) → list_all is_good_id ids ≡ true → IfSome (some_ids ids) (λ ids. (list_all is_good_id ids ≡ true) × ((length ids == 0) ≡ false))
some_in ids h = cases (length ids == 0) refl
  where
    cases : (b : Bool) → (length ids == 0) ≡ b → IfSome (cond b None (Some ids)) (λ ids. (list_all is_good_id ids ≡ true) × ((length ids == 0) ≡ false))
    cases true is = tt
    cases false is = (h, is)

eventgroups_in : (d : Data) → IfSome (groups_at d) (λ ids. (list_all is_good_id ids ≡ true) × ((length ids == 0) ≡ false))
eventgroups_in d =
    then_some (λ ids. list_all is_good_id ids ≡ true) _ _ _
    (then_some (λ _. Unit {0}) _ _ _ (anything (integers_at (codes "groups") d)) (λ ds _. ids_in 1 0xFFFE is_good_id (λ n h. h) ds))
    some_in

event_in : (d : Data) → IfSome (said_event d) EventRange
event_in d =
    then_some (IsWithin 0x8000 0xFFFE) EventRange _ _ (number_in (codes "id") 0x8000 0xFFFE d) (λ id is.
    then_some (λ ids. (list_all is_good_id ids ≡ true) × ((length ids == 0) ≡ false)) EventRange _ _ (eventgroups_in d) (λ members are.
    let r : EventRange (record { id = id; members = members }) = record { id = is; members = are.0; some = are.1 } in r))

methods_in : (key : List ℕ) (d : Data) → IfSome (methods_at key d) (λ ids. list_all (λ m. nat_le m 0x7FFF) ids ≡ true)
methods_in key d =
    then_some (λ _. Unit {0}) _ _ _ (anything (integers_or_none key d)) (λ ds _. ids_in 0 0x7FFF (λ m. nat_le m 0x7FFF) (at_most 0 0x7FFF) ds)

events_in : (d : Data) → IfSome (tables_or_none (codes "events") d >>= found_at_each said_event) (λ ls. AllByRecursion EventRange ls)
events_in d = tables_in EventRange said_event event_in (tables_or_none (codes "events") d)

offer_in : (d : Data) → IfSome (said_offer d) OfferRange
offer_in d =
    then_some (IsWithin 1 0xFFFE) OfferRange _ _ (number_in (codes "service") 1 0xFFFE d) (λ service a.
    then_some (IsWithin 1 0xFFFE) OfferRange _ _ (number_in (codes "instance") 1 0xFFFE d) (λ instance b.
    then_some (IsWithin 0 0xFE) OfferRange _ _ (number_in (codes "major") 0 0xFE d) (λ major c.
    then_some (IsWithin 0 0xFFFFFFFE) OfferRange _ _ (default_in (codes "minor") (pos 0) 0 0xFFFFFFFE d) (λ minor e.
    then_some (IsWithin 1 0xFFFFFF) OfferRange _ _ (number_in (codes "ttl") 1 0xFFFFFF d) (λ ttl f.
    then_some (IsWithin 1 0xFFFF) OfferRange _ _ (number_in (codes "port") 1 0xFFFF d) (λ port g.
    then_some _ OfferRange _ _ (methods_in (codes "methods") d) (λ methods h.
    then_some _ OfferRange _ _ (methods_in (codes "oneways") d) (λ oneways i.
    then_some _ OfferRange _ _ (events_in d) (λ events j.
    then_some (IsWithin 1 1024) OfferRange _ _ (default_in (codes "subscribers") (pos 16) 1 1024 d) (λ subscribers k.
    let r : OfferRange (record {
      service = service;
      instance = instance;
      major = major;
      minor = minor;
      ttl = ttl;
      port = port;
      methods = methods;
      oneways = oneways;
      events = events;
      subscribers = subscribers;
    }) = record {
      id = and_from (is_good_id service) (is_good_id instance) a b;
      major = at_most 0 0xFE major c;
      minor = at_most 0 0xFFFFFFFE minor e;
      ttl = not_zero 0xFFFFFF ttl f;
      port = not_zero 0xFFFF port g;
      methods = h;
      oneways = i;
      events = j;
      subscribers = k;
    } in r))))))))))

-- ---- wants

pub record GroupRange (l : ListedValue) : Type 0 where
  pub id : is_good_id l.id ≡ true
  pub members : list_all is_good_event l.members ≡ true

pub record WantRange (w : WantValue) : Type 0 where
  pub id : is_good_instance (wanted_id w) ≡ true
  pub major : nat_le w.major 0xFE ≡ true
  pub ttl : (w.ttl == 0) ≡ false
  pub groups : AllByRecursion GroupRange w.groups

group_in : (d : Data) → IfSome (said_eventgroup d) GroupRange
group_in d =
    then_some (IsWithin 1 0xFFFE) GroupRange _ _ (number_in (codes "id") 1 0xFFFE d) (λ id is.
    then_some (λ ids. list_all is_good_event ids ≡ true) GroupRange _ _
    (then_some (λ _. Unit {0}) _ _ _ (anything (integers_at (codes "events") d)) (λ ds _. ids_in 0x8000 0xFFFE is_good_event (λ n h. h) ds)) (λ members are.
    let r : GroupRange (record { id = id; members = members }) = record { id = is; members = are } in r))

want_in : (d : Data) → IfSome (said_want d) WantRange
want_in d =
    then_some (IsWithin 1 0xFFFE) WantRange _ _ (number_in (codes "service") 1 0xFFFE d) (λ service a.
    then_some (IsWithin 1 0xFFFE) WantRange _ _ (number_in (codes "instance") 1 0xFFFE d) (λ instance b.
    then_some (IsWithin 0 0xFE) WantRange _ _ (number_in (codes "major") 0 0xFE d) (λ major c.
    then_some (IsWithin 1 0xFFFFFF) WantRange _ _ (number_in (codes "ttl") 1 0xFFFFFF d) (λ ttl e.
    then_some _ WantRange _ _ (tables_in GroupRange said_eventgroup group_in (tables_or_none (codes "groups") d)) (λ groups f.
    let r : WantRange (record { service = service; instance = instance; major = major; ttl = ttl; groups = groups }) = record {
      id = and_from (is_good_id service) (is_good_id instance) a b;
      major = at_most 0 0xFE major c;
      ttl = not_zero 0xFFFFFF ttl e;
      groups = f;
    } in r)))))

-- ---- nodes

pub record NodeRange (least most : ℕ) (n : NodeValue) : Type 0 where
  pub name : is_name n.name ≡ true
  pub client_port : (n.client_port == 0) ≡ false
  pub delay : is_within least most n.delay ≡ true
  pub offers : AllByRecursion OfferRange n.offers
  pub wants : AllByRecursion WantRange n.wants

name_in : (d : Data) → IfSome (name_at d) (λ text. is_name text ≡ true)
name_in d = then_some (λ _. Unit {0}) _ _ _ (anything (get (codes "name") d >>= as_str)) (λ text _. tested (is_name text) text is_name refl)

node_in : (least most : ℕ) (d : Data) → IfSome (said_node least most d) (NodeRange least most)
node_in least most d =
    then_some _ (NodeRange least most) _ _ (name_in d) (λ name a.
    then_some (λ _. Unit {0}) (NodeRange least most) _ _ (anything (address_at (codes "address") d)) (λ address _.
    then_some (IsWithin 0 0xFFFF) (NodeRange least most) _ _ (number_in (codes "client_id") 0 0xFFFF d) (λ client_id _.
    then_some (IsWithin 1 0xFFFF) (NodeRange least most) _ _ (number_in (codes "client_port") 1 0xFFFF d) (λ client_port b.
    then_some (IsWithin least most) (NodeRange least most) _ _ (default_in (codes "delay") (pos least) least most d) (λ delay c.
    then_some (λ _. Unit {0}) (NodeRange least most) _ _ (anything (flag_or (codes "liar") false d)) (λ liar _.
    then_some _ (NodeRange least most) _ _ (tables_in OfferRange said_offer offer_in (tables_or_none (codes "offer") d)) (λ offers e.
    then_some _ (NodeRange least most) _ _ (tables_in WantRange said_want want_in (tables_or_none (codes "want") d)) (λ wants f.
    let r : NodeRange least most (record {
      name = name;
      address = address;
      client_id = client_id;
      client_port = client_port;
      delay = delay;
      liar = liar;
      offers = offers;
      wants = wants;
    }) = record { name = a; client_port = not_zero 0xFFFF client_port b; delay = c; offers = e; wants = f } in r))))))))

few_in : (ds : List Data) → IfSome (few_tables ds) (λ ds. is_within 1 64 (length ds) ≡ true)
few_in ds = cases ((length ds == 0) || nat_le 65 (length ds)) refl
  where
    few : ((length ds == 0) || nat_le 65 (length ds)) ≡ false → is_within 1 64 (length ds) ≡ true
    few is =
        let parts = or_parts (length ds == 0) (nat_le 65 (length ds)) is in
        let some : length ds ≡ 0 → ⊥ = eqb-false (length ds) 0 parts.0 in
        let below : length ds < 65 = leb-false 65 (length ds) parts.1 in
        and_from (nat_le 1 (length ds)) (nat_le (length ds) 64) (le-leb 1 (length ds) (omega (arith, some))) (le-leb (length ds) 64 (omega (arith, below)))

    cases : (b : Bool) → ((length ds == 0) || nat_le 65 (length ds)) ≡ b → IfSome (cond b None (Some ds)) (λ ds. is_within 1 64 (length ds) ≡ true)
    cases true is = tt
    cases false is = few is

-- ---- what all nodes share

pub record PhasesRange (p : PhasesValue) : Type 0 where
  pub base : is_within 1 60000 p.base ≡ true
  pub repetitions : nat_le p.repetitions 16 ≡ true
  pub cyclic : is_within 1 3600000 p.cyclic ≡ true

phases_in : (d : Data) → IfSome (said_phases d) PhasesRange
phases_in d =
    then_some (IsWithin 1 60000) PhasesRange _ _ (default_in (codes "base") (pos 30) 1 60000 d) (λ base a.
    then_some (IsWithin 0 16) PhasesRange _ _ (default_in (codes "repetitions") (pos 3) 0 16 d) (λ repetitions b.
    then_some (IsWithin 1 3600000) PhasesRange _ _ (default_in (codes "cyclic") (pos 1000) 1 3600000 d) (λ cyclic c.
    let r : PhasesRange (record { base = base; repetitions = repetitions; cyclic = cyclic }) = record { base = a; repetitions = at_most 0 16 repetitions b; cyclic = c } in r)))

common_in : (d : Data) → IfSome (said_common d) (λ v. PhasesRange v.phases)
common_in d =
    then_some (λ _. Unit {0}) (λ v. PhasesRange v.phases) _ _ (anything (address_at (codes "group") d)) (λ group _.
    then_some (λ _. Unit {0}) (λ v. PhasesRange v.phases) _ _ (anything (number_or (codes "initial_min") (pos 10) 0 60000 d)) (λ initial_min _.
    then_some (λ _. Unit {0}) (λ v. PhasesRange v.phases) _ _ (anything (number_or (codes "initial_max") (pos 100) initial_min 60000 d)) (λ initial_max _.
    then_some PhasesRange (λ v. PhasesRange v.phases) _ _ (phases_in d) (λ phases h.
    then_some (λ _. Unit {0}) (λ v. PhasesRange v.phases) _ _ (anything (number_or (codes "message_limit") (pos 65536) 1400 1048576 d)) (λ message_limit _.
    then_some (λ _. Unit {0}) (λ v. PhasesRange v.phases) _ _ (anything (count_or (codes "slots") (pos 16) d)) (λ slots _.
    then_some (λ _. Unit {0}) (λ v. PhasesRange v.phases) _ _ (anything (count_or (codes "peers") (pos 64) d)) (λ peers _.
    then_some (λ _. Unit {0}) (λ v. PhasesRange v.phases) _ _ (anything (time_or (codes "reassembly_timeout") (pos 1000) d)) (λ reassembly_timeout _.
    then_some (λ _. Unit {0}) (λ v. PhasesRange v.phases) _ _ (anything (time_or (codes "call_timeout") (pos 2000) d)) (λ call_timeout _.
    let r : PhasesRange phases = h in r)))))))))

-- ---- the setup

pub record SetupRange (v : SetupValue) : Type 0 where
  pub phases : PhasesRange v.common.phases
  pub count : is_within 1 64 (length v.nodes) ≡ true
  pub nodes : AllByRecursion (NodeRange v.common.initial_min v.common.initial_max) v.nodes

pub setup_in : (d : Data) → IfSome (said_setup d) SetupRange
setup_in d =
    then_some (λ v. PhasesRange v.phases) SetupRange _ _ (common_in d) (λ common a.
    then_some (λ ds. is_within 1 64 (length ds) ≡ true) SetupRange _ _
    (then_some (λ _. Unit {0}) _ _ _ (anything (tables_at (codes "node") d)) (λ ds _. few_in ds)) (λ tables b.
    then_some (λ ns. AllByRecursion (NodeRange common.initial_min common.initial_max) ns × (length ns ≡ length tables)) SetupRange _ _
    (each_in (NodeRange common.initial_min common.initial_max) (said_node common.initial_min common.initial_max) (node_in common.initial_min common.initial_max) tables) (λ nodes c.
    let r : SetupRange (record { common = common; nodes = nodes }) = record { phases = a; count = ap (is_within 1 64) c.1 ∙ b; nodes = c.0 } in r)))
