-- What ended, told in its own order, is what is told of it instance by instance of those that are wanted.
use Rattle.std.proofs.Common.{◌≡◌, ℕ, suc, ◌+◌, ◌<◌, Bool, true, false, cond, ◌||◌, if◌then◌else◌, List, [], ◌∷◌, ◌++◌, ◌≤◌, length, get_or, filter, take, drop, is_some, refl, sym, ap, subst, ◌∙◌, append_assoc, add-one, one-add, drop-cons}
use Rattle.std.specs.List.{AllByRecursion, prefix_len}
use Rattle.std.specs.List.Sorted.{IsStrictlySortedBy}
use Rattle.std.specs.BTreeMap.{is_at}
use Rattle.std.specs.declared.cmp.Ordering.{Ordering}
use Rattle.std.specs.declared.cmp.Ordering.TheVariants.{Less, Equal, Greater}
use Rattle.std.specs.Ordering.{eq_by_cmp, is_eq, is_lt, ordering_reverse, ordering_then, nat_cmp}
use Rattle.std.specs.Cmp.{eq_by_cmp_equiv, tied_back}
use Rattle.std.proofs.lemmas.List.{append-nil, drop_all, take-append-drop}
use Rattle.std.proofs.lemmas.Map.Made.{is_some-lookup}
use Rattle.someip_tables.proofs.Entries.{own_test}
use Rattle.sd_core.specs.declared.eventgroup.Eventgroup.{Eventgroup}
use Rattle.sd_core.specs.declared.keys.InstanceId.{InstanceId}
use Rattle.sd_core.specs.Eventgroups.{eventgroup_cmp}
use Rattle.sd_core.specs.KeyOrder.{exact_instances, instances_total}
use Rattle.sd_core.specs.Keys.{instance_cmp}
use Rattle.someip_node_rules.specs.declared.config.Config.{Config}
use Rattle.someip_node_rules.specs.declared.output.Output.{Output}
use Rattle.someip_node_rules.specs.declared.output.Output.TheVariants.{Gone, Unsubscribed}
use Rattle.someip_node_rules.specs.rules.Outcomes.{endings, endings_of, has_instance, those_of, unsubscribed}
use Rattle.someip_node_rules.specs.forms.Setups.{wanted_as, wanted_instances}
use Rattle.someip_node_engine.proofs.RisingLemmas.{before_all, below_past, first_told, less_by, none_of, not_before, sorted_drop}

-- ---- instances and eventgroups

-- an eventgroup is of an instance before this one
abbrev is_before : InstanceId → Eventgroup → Bool
is_before x g = is_lt (instance_cmp g.instance x)

-- an instance before another is before all eventgroups that are not before the other
groups_past : (w x : InstanceId) (gs : List Eventgroup) → instance_cmp w x ≡ Less → AllByRecursion (λ g. is_before x g ≡ false) gs → AllByRecursion (λ g. instance_cmp w g.instance ≡ Less) gs
groups_past w x [] lt all = tt
groups_past w x (g ∷ gs) lt all = (below_past instances_total exact_instances w x g.instance lt all.0, groups_past w x gs lt all.1)

-- no eventgroup is of an instance before all of theirs
no_groups : (w : InstanceId) (gs : List Eventgroup) → AllByRecursion (λ g. instance_cmp w g.instance ≡ Less) gs → those_of w gs ≡ []
no_groups w [] all = refl
no_groups w (g ∷ gs) all =
    let after : eq_by_cmp instance_cmp g.instance w ≡ false = ap is_eq (instances_total.antisymm g.instance w ∙ ap ordering_reverse all.0) in
    ap (λ b. cond b (g ∷ those_of w gs) (those_of w gs)) after ∙ no_groups w gs all.1

-- nothing ended of an instance before all that did
nothing_ended : (w : InstanceId) (gone : List InstanceId) (gs : List Eventgroup) → AllByRecursion (λ i. instance_cmp w i ≡ Less) gone → AllByRecursion (λ g. instance_cmp w g.instance ≡ Less) gs
    → endings_of gone gs w ≡ []
nothing_ended w gone gs before all =
    ap (λ b. (if b then Gone w ∷ [] else []) ++ unsubscribed (those_of w gs)) (none_of instances_total w gone before) ∙ ap unsubscribed (no_groups w gs all)

-- the eventgroups after one are of its instance or of later ones
groups_after : (g : Eventgroup) (gs : List Eventgroup) → AllByRecursion (λ h. eventgroup_cmp g h ≡ Less) gs → AllByRecursion (λ h. is_before g.instance h ≡ false) gs
groups_after g [] all = tt
groups_after g (h ∷ hs) all = (cases (instance_cmp g.instance h.instance) refl all.0, groups_after g hs all.1)
  where
    cases : (r : Ordering) → instance_cmp g.instance h.instance ≡ r → ordering_then r (nat_cmp g.id h.id) ≡ Less → is_before g.instance h ≡ false
    cases Less is lt = ap is_lt (instances_total.antisymm h.instance g.instance ∙ ap ordering_reverse is)
    cases Equal is lt = ap is_lt (tied_back instances_total g.instance h.instance is)
    cases Greater is lt = absurd (cc)

-- ---- the eventgroups of instances before one, and those after them

module _ (x : InstanceId) where
  -- how many stand in front
  abbrev count : List Eventgroup → ℕ
  count gs = prefix_len (is_before x) gs

  -- those in front are of instances before it
  front_before : (gs : List Eventgroup) → AllByRecursion (λ g. instance_cmp g.instance x ≡ Less) (take (count gs) gs)
  front_before [] = tt
  front_before (g ∷ gs) = cases (is_before x g) refl (front_before gs)
    where
      cases : (b : Bool) → is_before x g ≡ b → AllByRecursion (λ h. instance_cmp h.instance x ≡ Less) (take (count gs) gs)
          → AllByRecursion (λ h. instance_cmp h.instance x ≡ Less) (take (cond b (1 + count gs) 0) (g ∷ gs))
      cases true is so_far = rw one-add (less_by (instance_cmp g.instance x) is, so_far)
      cases false is so_far = tt

  -- where one is not, none after it is
  all_past : (g : Eventgroup) (gs : List Eventgroup) → is_before x g ≡ false → AllByRecursion (λ h. is_before g.instance h ≡ false) gs → AllByRecursion (λ h. is_before x h ≡ false) gs
  all_past g [] past all = tt
  all_past g (h ∷ hs) past all = (not_before instances_total exact_instances x g.instance h.instance past all.0, all_past g hs past all.1)

  -- those after are not
  behind_past : (gs : List Eventgroup) → IsStrictlySortedBy eventgroup_cmp gs → AllByRecursion (λ g. is_before x g ≡ false) (drop (count gs) gs)
  unfolding IsStrictlySortedBy
  behind_past [] rises = tt
  behind_past (g ∷ gs) rises = cases (is_before x g) refl (behind_past gs rises.1)
    where
      cases : (b : Bool) → is_before x g ≡ b → AllByRecursion (λ h. is_before x h ≡ false) (drop (count gs) gs) → AllByRecursion (λ h. is_before x h ≡ false) (drop (cond b (1 + count gs) 0) (g ∷ gs))
      cases true is so_far = rw one-add so_far
      cases false is so_far = (is, all_past g gs is (groups_after g gs rises.0))

-- those in front stand before all that is gone, where the one is the first of that
front_below : (x : InstanceId) (gone : List InstanceId) (gs : List Eventgroup) → AllByRecursion (λ i. instance_cmp x i ≡ Less) gone → AllByRecursion (λ g. instance_cmp g.instance x ≡ Less) gs
    → AllByRecursion (λ g. AllByRecursion (λ i. instance_cmp g.instance i ≡ Less) (x ∷ gone)) gs
front_below x gone [] later all = tt
front_below x gone (g ∷ gs) later all = ((all.0, before_all instances_total g.instance x gone all.0 later), front_below x gone gs later all.1)

-- where nothing is gone, they stand before all of that
nothing_before : (gs : List Eventgroup) → AllByRecursion (λ g. AllByRecursion (λ i. instance_cmp g.instance i ≡ Less) []) gs
nothing_before [] = tt
nothing_before (g ∷ gs) = (tt, nothing_before gs)

-- where nothing ended, nothing is told
none_told : (instances : List InstanceId) → endings instances [] [] ≡ []
none_told [] = refl
none_told (i ∷ is) = none_told is

-- the first of some subscriptions is told, if it passes a test, before those of the others
joined : (p : Eventgroup → Bool) (g : Eventgroup) (gs : List Eventgroup) → (if p g then Unsubscribed g ∷ [] else []) ++ unsubscribed (filter p gs) ≡ unsubscribed (filter p (g ∷ gs))
joined p g gs = cases (p g)
  where
    cases : (b : Bool) → (if b then Unsubscribed g ∷ [] else []) ++ unsubscribed (filter p gs) ≡ unsubscribed (cond b (g ∷ filter p gs) (filter p gs))
    cases true = refl
    cases false = refl

-- ---- what ended, one thing after another

module _ (config : Config) (rises : IsStrictlySortedBy instance_cmp (wanted_instances config)) where
  abbrev instances : List InstanceId
  instances = wanted_instances config

  abbrev wanted : InstanceId → Bool
  wanted instance = is_some (wanted_as config instance)

  -- an instance that is looked up is found where it is among those that are wanted
  is_wanted : (q : InstanceId) → wanted q ≡ has_instance instances q
  is_wanted q = is_some-lookup (is_at (instance_cmp q)) config.wants.entries

  -- the known offer of an instance is told before what ended of no instance before it
  gone_told : (x : InstanceId) (gone : List InstanceId) (gs : List Eventgroup) → AllByRecursion (λ i. instance_cmp x i ≡ Less) gone → AllByRecursion (λ g. is_before x g ≡ false) gs
      → endings instances (x ∷ gone) gs ≡ (if wanted x then Gone x ∷ [] else []) ++ endings instances gone gs
  gone_told x gone gs later past =
      first_told instances_total exact_instances (endings_of (x ∷ gone) gs) (endings_of gone gs) x (Gone x ∷ []) others here before instances rises
      ∙ ap (λ b. (if b then Gone x ∷ [] else []) ++ endings instances gone gs) (sym (is_wanted x))
    where
      others : (w : InstanceId) → eq_by_cmp instance_cmp x w ≡ false → endings_of (x ∷ gone) gs w ≡ endings_of gone gs w
      others w differs =
          ap (λ b. (if b || has_instance gone w then Gone w ∷ [] else []) ++ unsubscribed (those_of w gs)) ((eq_by_cmp_equiv instances_total).symm w x ∙ differs)

      here : endings_of (x ∷ gone) gs x ≡ Gone x ∷ [] ++ endings_of gone gs x
      here =
          ap (λ b. (if b || has_instance gone x then Gone x ∷ [] else []) ++ unsubscribed (those_of x gs)) (own_test instances_total x)
          ∙ sym (ap (λ b. Gone x ∷ [] ++ ((if b then Gone x ∷ [] else []) ++ unsubscribed (those_of x gs))) (none_of instances_total x gone later))

      before : (w : InstanceId) → instance_cmp w x ≡ Less → endings_of (x ∷ gone) gs w ≡ []
      before w lt = nothing_ended w (x ∷ gone) gs (lt, before_all instances_total w x gone lt later) (groups_past w x gs lt past)

  -- the subscription of an eventgroup is told before what ended of no instance before its own
  group_told : (gone : List InstanceId) (g : Eventgroup) (gs : List Eventgroup) → AllByRecursion (λ i. instance_cmp g.instance i ≡ Less) gone → AllByRecursion (λ h. is_before g.instance h ≡ false) gs
      → endings instances gone (g ∷ gs) ≡ (if wanted g.instance then Unsubscribed g ∷ [] else []) ++ endings instances gone gs
  group_told gone g gs later past =
      first_told instances_total exact_instances (endings_of gone (g ∷ gs)) (endings_of gone gs) g.instance (Unsubscribed g ∷ []) others here before instances rises
      ∙ ap (λ b. (if b then Unsubscribed g ∷ [] else []) ++ endings instances gone gs) (sym (is_wanted g.instance))
    where
      others : (w : InstanceId) → eq_by_cmp instance_cmp g.instance w ≡ false → endings_of gone (g ∷ gs) w ≡ endings_of gone gs w
      others w differs = ap (λ b. (if has_instance gone w then Gone w ∷ [] else []) ++ unsubscribed (cond b (g ∷ those_of w gs) (those_of w gs))) differs

      here : endings_of gone (g ∷ gs) g.instance ≡ Unsubscribed g ∷ [] ++ endings_of gone gs g.instance
      here =
          ap (λ b. (if has_instance gone g.instance then Gone g.instance ∷ [] else []) ++ unsubscribed (cond b (g ∷ those_of g.instance gs) (those_of g.instance gs))) (own_test instances_total g.instance)
          ∙ ap (λ b. (if b then Gone g.instance ∷ [] else []) ++ unsubscribed (g ∷ those_of g.instance gs)) (none_of instances_total g.instance gone later)
          ∙ sym (ap (λ b. Unsubscribed g ∷ [] ++ ((if b then Gone g.instance ∷ [] else []) ++ unsubscribed (those_of g.instance gs))) (none_of instances_total g.instance gone later))

      before : (w : InstanceId) → instance_cmp w g.instance ≡ Less → endings_of gone (g ∷ gs) w ≡ []
      before w lt = nothing_ended w gone (g ∷ gs) (before_all instances_total w g.instance gone lt later) (lt, groups_past w g.instance gs lt past)

  -- and those of several, before what is gone of later instances
  groups_told : (gone : List InstanceId) (front behind : List Eventgroup) → IsStrictlySortedBy eventgroup_cmp (front ++ behind)
      → AllByRecursion (λ g. AllByRecursion (λ i. instance_cmp g.instance i ≡ Less) gone) front
      → endings instances gone (front ++ behind) ≡ unsubscribed (filter (λ g. wanted g.instance) front) ++ endings instances gone behind
  unfolding IsStrictlySortedBy
  groups_told gone [] behind rise below = refl
  groups_told gone (g ∷ front) behind rise below =
      group_told gone g (front ++ behind) below.0 (groups_after g (front ++ behind) rise.0)
      ∙ ap (λ os. (if wanted g.instance then Unsubscribed g ∷ [] else []) ++ os) (groups_told gone front behind rise.1 below.1)
      ∙ sym (append_assoc (if wanted g.instance then Unsubscribed g ∷ [] else []) (unsubscribed (filter (λ h. wanted h.instance) front)) (endings instances gone behind))
      ∙ ap (λ os. os ++ endings instances gone behind) (joined (λ h. wanted h.instance) g front)

  -- the subscriptions in front of the first instance that is gone are told, then its known offer, and then the others
  first_ended : (x : InstanceId) (gone : List InstanceId) (gs : List Eventgroup) → IsStrictlySortedBy instance_cmp (x ∷ gone) → IsStrictlySortedBy eventgroup_cmp gs
      → endings instances (x ∷ gone) gs
      ≡ unsubscribed (filter (λ g. wanted g.instance) (take (count x gs) gs)) ++ ((if wanted x then Gone x ∷ [] else []) ++ endings instances gone (drop (count x gs) gs))
  unfolding IsStrictlySortedBy
  first_ended x gone gs later rise =
      let parts : take (count x gs) gs ++ drop (count x gs) gs ≡ gs = take-append-drop (count x gs) gs in
      ap (endings instances (x ∷ gone)) (sym parts)
      ∙ groups_told (x ∷ gone) (take (count x gs) gs) (drop (count x gs) gs) (subst (IsStrictlySortedBy eventgroup_cmp) (sym parts) rise) (front_below x gone (take (count x gs) gs) later.0 (front_before x gs))
      ∙ ap (λ os. unsubscribed (filter (λ g. wanted g.instance) (take (count x gs) gs)) ++ os) (gone_told x gone (drop (count x gs) gs) later.0 (behind_past x gs rise))

  -- once the first two were told, what is left to be told is what was left with them
  pub one_ended : (gone : List InstanceId) (i n : ℕ) (d : InstanceId) (gs front behind : List Eventgroup) (before mid after all : List Output) → i < length gone
      → IsStrictlySortedBy instance_cmp gone → IsStrictlySortedBy eventgroup_cmp gs
      → n ≡ prefix_len (λ g. is_lt (instance_cmp g.instance (get_or gone i d))) gs → front ≡ take n gs → behind ≡ drop n gs
      → mid ≡ before ++ unsubscribed (filter (λ g. is_some (wanted_as config g.instance)) front)
      → after ≡ mid ++ (if is_some (wanted_as config (get_or gone i d)) then Gone (get_or gone i d) ∷ [] else [])
      → before ++ endings (wanted_instances config) (drop i gone) gs ≡ all
      → after ++ endings (wanted_instances config) (drop (i + 1) gone) behind ≡ all
  one_ended gone i n d gs front behind before mid after all lt rising rise counted in_front at_back told_groups told_gone left =
      let x : InstanceId = get_or gone i d in
      let at : drop i gone ≡ x ∷ drop (suc i) gone = drop-cons gone i d lt in
      let later : IsStrictlySortedBy instance_cmp (x ∷ drop (suc i) gone) = subst (IsStrictlySortedBy instance_cmp) at (sorted_drop instance_cmp i gone rising) in
      let groups : List Output = unsubscribed (filter (λ g. wanted g.instance) (take (count x gs) gs)) in
      let known : List Output = if wanted x then Gone x ∷ [] else [] in
      let others : List Output = endings instances (drop (suc i) gone) (drop (count x gs) gs) in
      rw (add-one, told_gone, told_groups, in_front, at_back, counted)
      (append_assoc (before ++ groups) known others ∙ append_assoc before groups (known ++ others)
      ∙ ap (λ os. before ++ os) (sym (first_ended x (drop (suc i) gone) gs later rise) ∙ ap (λ xs. endings instances xs gs) (sym at)) ∙ left)

  -- once those of the eventgroups that are left were told, all was
  pub all_ended : (gone : List InstanceId) (i : ℕ) (gs : List Eventgroup) (before after all : List Output) → length gone ≤ i → IsStrictlySortedBy eventgroup_cmp gs
      → before ++ endings (wanted_instances config) (drop i gone) gs ≡ all
      → after ≡ before ++ unsubscribed (filter (λ g. is_some (wanted_as config g.instance)) gs) → after ≡ all
  all_ended gone i gs before after all past rise left told =
      let groups : List Output = unsubscribed (filter (λ g. wanted g.instance) gs) in
      let whole : gs ++ [] ≡ gs = append-nil gs in
      told
      ∙ ap (λ os. before ++ os)
      (sym (ap (endings instances []) (sym whole) ∙ groups_told [] gs [] (subst (IsStrictlySortedBy eventgroup_cmp) (sym whole) rise) (nothing_before gs)
      ∙ ap (λ os. groups ++ os) (none_told instances) ∙ append-nil groups)
      ∙ ap (λ xs. endings instances xs gs) (sym (drop_all i gone past)))
      ∙ left

-- ---- subscriptions told one after another

-- once that of one eventgroup was told, if it passes a test, those of the eventgroups that are left are what they were with it
pub one_lapse : (p : Eventgroup → Bool) (gs : List Eventgroup) (i : ℕ) (d : Eventgroup) (before after all : List Output) → i < length gs
    → after ≡ before ++ (if p (get_or gs i d) then Unsubscribed (get_or gs i d) ∷ [] else [])
    → before ++ unsubscribed (filter p (drop i gs)) ≡ all → after ++ unsubscribed (filter p (drop (i + 1) gs)) ≡ all
one_lapse p gs i d before after all lt told left =
    let g : Eventgroup = get_or gs i d in
    let one : List Output = if p g then Unsubscribed g ∷ [] else [] in
    let others : List Output = unsubscribed (filter p (drop (suc i) gs)) in
    rw (add-one, told)
    (append_assoc before one others
    ∙ ap (λ os. before ++ os) (joined p g (drop (suc i) gs) ∙ ap (λ hs. unsubscribed (filter p hs)) (sym (drop-cons gs i d lt))) ∙ left)
