-- What rules begin of the subscriptions of an eventgroup agrees with the Subscribes that they send.
use Rattle.std.proofs.Common.{◌≡◌, ◌⊎◌, inl, inr, ℕ, ◌%◌, Bool, true, false, if◌then◌else◌, List, [], ◌∷◌, ◌++◌, Option, None, Some, arith, refl, ap, sym, subst, ◌∙◌}
use Rattle.std.specs.List.{AllByRecursion, Contains, fold}
use Rattle.std.specs.Option.{option_map_or}
use Rattle.std.proofs.lemmas.List.Elements.{Contains-append_cases, Contains-append_left, Contains-append_right}
use Rattle.std.specs.declared.net.ipv4_addr.Ipv4Addr.{Ipv4Addr}
use Rattle.sd_core.specs.declared.eventgroup.Eventgroup.{Eventgroup}
use Rattle.sd_core.specs.declared.wish.Beginning.{Beginning}
use Rattle.someip_node_rules.specs.histories.History.{History, answers_of, historic, met}
use Rattle.someip_node_rules.specs.histories.Items.{Item}
use Rattle.someip_node_rules.specs.rules.Plans.{Rule, Work, does, rule}
use Rattle.someip_node_rules.specs.trails.Trails.{Done, outcome_of}
use Rattle.someip_node_rules.specs.histories.WishQuestions.{Course, begins_at, course_at, goes_on, subscribes_at}
use Rattle.someip_node_rules.proofs.lists.MemberLemmas.{at_member}
use Rattle.someip_world_rules.specs.exchanges.Beginnings.{SentSubscribe, begun_after, counter_after, last_counter}
use Rattle.someip_world_rules.specs.exchanges.Openings.{Begins}
use Rattle.someip_world_rules.proofs.about_exchanges.beginnings.BeginningLemmas.{begun-append, counter-append, one_begins, one_renews, standing_is_last}

-- ---- beginnings and Subscribes that agree

-- a subscription of an eventgroup begins by one of some rules, at a peer and with a counter
pub record BeginsIn (q : Eventgroup) (dones : List Done) (peer : Ipv4Addr) (counter : ℕ) : Type 0 where
  pub done : Done
  pub among : Contains dones done
  pub item : Item
  pub meets : (outcome_of done).items ≡ item ∷ []
  pub begins : Begins done.before.state item q peer counter

-- a Subscribe of an eventgroup
abbrev pub subscribe_with : Eventgroup → Ipv4Addr → ℕ → SentSubscribe
subscribe_with q peer counter = record { server = peer; eventgroup = q; counter = counter }

-- a subscription that was begun at a peer with a counter, and has no Ack yet
abbrev pub begun_with : Ipv4Addr → ℕ → Beginning
begun_with peer counter = record { peer = peer; counter = counter; until = None }

-- some rules, before which so many subscriptions were begun and after which so many were, agree with what was sent
pub record Agrees (q : Eventgroup) (stood now : ℕ) (dones : List Done) (sent : List SentSubscribe) : Type 0 where
  pub counted : last_counter now ≡ counter_after (last_counter stood) sent
  pub only : (peer : Ipv4Addr) (counter : ℕ) → BeginsIn q dones peer counter → Contains (begun_after (last_counter stood) sent) (subscribe_with q peer counter)
  pub all : (peer : Ipv4Addr) (counter : ℕ) → Contains (begun_after (last_counter stood) sent) (subscribe_with q peer counter) → BeginsIn q dones peer counter

module _ (q : Eventgroup) where
  -- none agree with nothing
  pub agrees_none : (stood : ℕ) → Agrees q stood stood [] []
  agrees_none stood = record {
    counted = refl;
    only = λ peer counter b. absurd (at_member (λ d. ⊥) [] b.done tt b.among);
    all = λ peer counter c. absurd (at_member (λ d. ⊥) [] (subscribe_with q peer counter) tt c);
  }

  earlier_begins : (xs ys : List Done) (peer : Ipv4Addr) (counter : ℕ) → BeginsIn q xs peer counter → BeginsIn q (xs ++ ys) peer counter
  earlier_begins xs ys peer counter b = record { done = b.done; among = Contains-append_left xs ys b.done b.among; item = b.item; meets = b.meets; begins = b.begins }

  later_begins : (xs ys : List Done) (peer : Ipv4Addr) (counter : ℕ) → BeginsIn q ys peer counter → BeginsIn q (xs ++ ys) peer counter
  later_begins xs ys peer counter b = record { done = b.done; among = Contains-append_right xs ys b.done b.among; item = b.item; meets = b.meets; begins = b.begins }

  either_begins : (xs ys : List Done) (peer : Ipv4Addr) (counter : ℕ) → BeginsIn q (xs ++ ys) peer counter → BeginsIn q xs peer counter ⊎ BeginsIn q ys peer counter
  either_begins xs ys peer counter b = cases (Contains-append_cases xs ys b.done b.among)
    where
      cases : Contains xs b.done ⊎ Contains ys b.done → BeginsIn q xs peer counter ⊎ BeginsIn q ys peer counter
      cases (inl among) = inl (record { done = b.done; among = among; item = b.item; meets = b.meets; begins = b.begins })
      cases (inr among) = inr (record { done = b.done; among = among; item = b.item; meets = b.meets; begins = b.begins })

  -- one after the other
  module _ (stood mid now : ℕ) (xs ys : List Done) (s r : List SentSubscribe) (first : Agrees q stood mid xs s) (second : Agrees q mid now ys r) where
    begun_both : begun_after (last_counter stood) (s ++ r) ≡ begun_after (last_counter stood) s ++ begun_after (last_counter mid) r
    begun_both = begun-append (last_counter stood) s r ∙ ap (λ l. begun_after (last_counter stood) s ++ begun_after l r) (sym first.counted)

    only_both : (peer : Ipv4Addr) (counter : ℕ) → BeginsIn q xs peer counter ⊎ BeginsIn q ys peer counter
        → Contains (begun_after (last_counter stood) s ++ begun_after (last_counter mid) r) (subscribe_with q peer counter)
    only_both peer counter (inl b) = Contains-append_left (begun_after (last_counter stood) s) (begun_after (last_counter mid) r) (subscribe_with q peer counter) (first.only peer counter b)
    only_both peer counter (inr b) = Contains-append_right (begun_after (last_counter stood) s) (begun_after (last_counter mid) r) (subscribe_with q peer counter) (second.only peer counter b)

    all_both : (peer : Ipv4Addr) (counter : ℕ) → Contains (begun_after (last_counter stood) s) (subscribe_with q peer counter) ⊎ Contains (begun_after (last_counter mid) r) (subscribe_with q peer counter)
        → BeginsIn q (xs ++ ys) peer counter
    all_both peer counter (inl c) = earlier_begins xs ys peer counter (first.all peer counter c)
    all_both peer counter (inr c) = later_begins xs ys peer counter (second.all peer counter c)

    pub agrees_both : Agrees q stood now (xs ++ ys) (s ++ r)
    agrees_both = record {
      counted = second.counted ∙ ap (λ l. counter_after l r) first.counted ∙ sym (counter-append (last_counter stood) s r);
      only = λ peer counter b. subst (λ l. Contains l (subscribe_with q peer counter)) (sym begun_both) (only_both peer counter (either_begins xs ys peer counter b));
      all = λ peer counter c.
          all_both peer counter (Contains-append_cases (begun_after (last_counter stood) s) (begun_after (last_counter mid) r) (subscribe_with q peer counter)
          (subst (λ l. Contains l (subscribe_with q peer counter)) begun_both c));
    }

-- ---- items by which no subscription of an eventgroup begins

module _ (q : Eventgroup) where
  abbrev pub IsCalm : Item → Type 0
  IsCalm item = (before : List Item) → (course_at (item ∷ before) q).begun ≡ (course_at before q).begun

  calm_count : (h : History) (items : List Item) → AllByRecursion IsCalm items → (course_at (fold met h items).items q).begun ≡ (course_at h.items q).begun
  calm_count h [] calm = refl
  calm_count h (item ∷ items) calm = calm_count (met h item) items calm.1 ∙ calm.0 h.items

-- ---- one rule

module _ (q : Eventgroup) (w : Work History) (r : Rule) where
  -- the rule, as it is done, and the course before and after it
  abbrev pub did : List Done
  did = record { by = r; before = w } ∷ []

  abbrev pub stood : Course
  stood = course_at w.state.items q

  abbrev pub then_stands : Course
  then_stands = course_at (does historic (rule r) w).state.items q

  -- what it begins it begins by its item
  by_own_item : (items : List Item) → (rule r (answers_of w.state)).items ≡ items → (peer : Ipv4Addr) (counter : ℕ) → BeginsIn q did peer counter
      → (i : Item) × (items ≡ i ∷ []) × Begins w.state i q peer counter
  by_own_item items is peer counter b =
      at_member (λ d. (i : Item) → (outcome_of d).items ≡ i ∷ [] → Begins d.before.state i q peer counter → (j : Item) × (items ≡ j ∷ []) × Begins w.state j q peer counter)
      did b.done ((λ i m g. (i, sym is ∙ m, g)), tt) b.among b.item b.meets b.begins

  none_calm : (items : List Item) → AllByRecursion (IsCalm q) items → (peer : Ipv4Addr) (counter : ℕ) → (i : Item) × (items ≡ i ∷ []) × Begins w.state i q peer counter → ⊥
  none_calm items calm peer counter (i, is, begins) =
      let own = subst (AllByRecursion (IsCalm q)) is calm in
      let same = own.0 w.state.items in
      let more = begins.more in
      absurd (omega (arith, same, more))

  -- a rule by which none begins
  pub calm_agrees : AllByRecursion (IsCalm q) (rule r (answers_of w.state)).items → Agrees q stood.begun then_stands.begun did []
  calm_agrees calm = record {
    counted = ap last_counter (calm_count q w.state (rule r (answers_of w.state)).items calm);
    only = λ peer counter b. absurd (none_calm (rule r (answers_of w.state)).items calm peer counter (by_own_item (rule r (answers_of w.state)).items refl peer counter b));
    all = λ peer counter c. absurd (at_member (λ d. ⊥) [] (subscribe_with q peer counter) tt c);
  }

  -- ---- a rule that meets one item

  module _ (item : Item) (meets : (rule r (answers_of w.state)).items ≡ item ∷ []) where
    then_is : then_stands ≡ course_at (item ∷ w.state.items) q
    then_is = ap (λ items. course_at (fold met w.state items).items q) meets

    own_begins : (peer : Ipv4Addr) (counter : ℕ) → BeginsIn q did peer counter → Begins w.state item q peer counter
    own_begins peer counter b =
        let own = by_own_item (item ∷ []) meets peer counter b in
        let same : item ≡ own.0 = one item own.0 own.1 in
        subst (λ i. Begins w.state i q peer counter) (sym same) own.2
      where
        one : (x y : Item) → x ∷ [] ≡ y ∷ [] → x ≡ y
        one x y is = at_member (λ z. z ≡ y) (x ∷ []) x (subst (AllByRecursion (λ z. z ≡ y)) (sym is) (refl, tt)) (0, omega arith, refl)

    -- and begins none
    pub same_agrees : (course_at (item ∷ w.state.items) q).begun ≡ stood.begun → Agrees q stood.begun then_stands.begun did []
    same_agrees same = record {
      counted = ap (λ c. last_counter c.begun) then_is ∙ ap last_counter same;
      only = λ p counter begins. let more = (own_begins p counter begins).more in absurd (omega (arith, more, same));
      all = λ p counter c. absurd (at_member (λ d. ⊥) [] (subscribe_with q p counter) tt c);
    }

    -- with the counter of the subscription that stands
    pub renewal_agrees : (peer : Ipv4Addr) (b : Beginning) → stood.beginning ≡ Some b → course_at (item ∷ w.state.items) q ≡ stood
        → Agrees q stood.begun then_stands.begun did (subscribe_with q peer b.counter ∷ [])
    renewal_agrees peer b stands same =
        let last : last_counter stood.begun ≡ Some b.counter = standing_is_last q w.state.items b stands in
        let none : begun_after (last_counter stood.begun) (subscribe_with q peer b.counter ∷ []) ≡ [] = one_renews (last_counter stood.begun) (subscribe_with q peer b.counter) last in
        record {
          counted = ap (λ c. last_counter c.begun) (then_is ∙ same) ∙ last;
          only = λ p counter begins.
              let more = (own_begins p counter begins).more in
              let count : (course_at (item ∷ w.state.items) q).begun ≡ stood.begun = ap (λ c. c.begun) same in
              absurd (omega (arith, more, count));
          all = λ p counter c. absurd (at_member (λ d. ⊥) [] (subscribe_with q p counter) tt (subst (λ l. Contains l (subscribe_with q p counter)) none c));
        }

    -- with the next counter
    pub beginning_agrees : (peer : Ipv4Addr) → course_at (item ∷ w.state.items) q ≡ begins_at peer stood
        → Agrees q stood.begun then_stands.begun did (subscribe_with q peer (stood.begun % 16) ∷ [])
    beginning_agrees peer begins =
        let one : begun_after (last_counter stood.begun) (subscribe_with q peer (stood.begun % 16) ∷ []) ≡ subscribe_with q peer (stood.begun % 16) ∷ [] = one_begins stood.begun (subscribe_with q peer (stood.begun % 16)) refl in
        record {
          counted = ap (λ c. last_counter c.begun) (then_is ∙ begins);
          only = λ p counter b.
              subst (λ l. Contains l (subscribe_with q p counter)) (sym one)
              (0, omega arith, same_subscribe p counter (sym (ap (λ c. c.beginning) begins) ∙ (own_begins p counter b).stands));
          all = λ p counter c. record {
            done = record { by = r; before = w };
            among = (0, omega arith, refl);
            item = item;
            meets = meets;
            begins = record {
              more = ap (λ c. c.begun) begins;
              stands = ap (λ c. c.beginning) begins
                  ∙ same_beginning p counter
                  (at_member (λ s. s ≡ subscribe_with q peer (stood.begun % 16)) (subscribe_with q peer (stood.begun % 16) ∷ []) (subscribe_with q p counter) (refl, tt)
                  (subst (λ l. Contains l (subscribe_with q p counter)) one c));
            };
          };
        }
      where
        same_subscribe : (p : Ipv4Addr) (counter : ℕ) → Some (begun_with peer (stood.begun % 16)) ≡ Some (begun_with p counter)
            → subscribe_with q peer (stood.begun % 16) ≡ subscribe_with q p counter
        same_subscribe p counter is =
            let own : begun_with peer (stood.begun % 16) ≡ begun_with p counter = cc in
            ap (λ (b : Beginning). subscribe_with q b.peer b.counter) own

        same_beginning : (p : Ipv4Addr) (counter : ℕ) → subscribe_with q p counter ≡ subscribe_with q peer (stood.begun % 16)
            → Some (begun_with peer (stood.begun % 16)) ≡ Some (begun_with p counter)
        same_beginning p counter is = ap (λ (s : SentSubscribe). Some (begun_with s.server s.counter)) (sym is)

    -- the counter of what stands
    pub subscribing_agrees : (now : ℕ) (peer : Ipv4Addr) → course_at (item ∷ w.state.items) q ≡ subscribes_at now peer stood
        → Agrees q stood.begun then_stands.begun did (subscribe_with q peer (option_map_or (λ b. b.counter) (subscribes_at now peer stood).beginning 0) ∷ [])
    subscribing_agrees now peer is = cases stood.beginning refl (goes_on now peer stood.beginning) refl
      where
        cases : (o : Option Beginning) → stood.beginning ≡ o → (t : Bool) → goes_on now peer stood.beginning ≡ t
            → Agrees q stood.begun then_stands.begun did (subscribe_with q peer (option_map_or (λ b. b.counter) (subscribes_at now peer stood).beginning 0) ∷ [])
        cases o at false goes =
            let begins : subscribes_at now peer stood ≡ begins_at peer stood = ap (λ t. if t then stood else begins_at peer stood) goes in
            subst (λ k. Agrees q stood.begun then_stands.begun did (subscribe_with q peer k ∷ [])) (sym (ap (λ c. option_map_or (λ b. b.counter) c.beginning 0) begins))
            (beginning_agrees peer (is ∙ begins))
        cases None at true goes = let none : goes_on now peer None ≡ true = sym (ap (goes_on now peer) at) ∙ goes in absurd cc
        cases (Some b) at true goes =
            let stays : subscribes_at now peer stood ≡ stood = ap (λ t. if t then stood else begins_at peer stood) goes in
            subst (λ k. Agrees q stood.begun then_stands.begun did (subscribe_with q peer k ∷ [])) (sym (ap (λ c. option_map_or (λ b. b.counter) c.beginning 0) stays ∙ ap (λ o. option_map_or (λ b. b.counter) o 0) at))
            (renewal_agrees peer b at (is ∙ stays))
