-- What each rule begins of the subscriptions of an eventgroup, and which Subscribes it gives and replies.
use Rattle.std.proofs.Common.{◌≡◌, ℕ, Bool, true, false, if◌then◌else◌, ◌&&◌, List, [], ◌∷◌, ◌++◌, map, Option, None, Some, refl, ap, sym, subst, ◌∙◌, inl, inr}
use Rattle.std.specs.List.{AllByRecursion, flat_map}
use Rattle.std.specs.Option.{is_some, option_map, option_map_or}
use Rattle.std.specs.Ordering.{eq_by_cmp, nat_cmp}
use Rattle.std.specs.BTreeMap as tree
use Rattle.std.specs.BTreeMap.{is_at}
use Rattle.std.specs.Map.{lookup}
use Rattle.std.specs.FinMap as finite
use Rattle.std.specs.declared.net.ipv4_addr.Ipv4Addr.{Ipv4Addr}
use Rattle.std.specs.declared.net.socket_addr.SocketAddrV4.{SocketAddrV4}
use Rattle.someip_tables.proofs.Entries.{same_by_test}
use Rattle.someip_tables.proofs.Trees.{get-map_of}
use Rattle.sd_wire.specs.contents.Values.{EntryValue}
use Rattle.sd_core.specs.declared.eventgroup.Eventgroup.{Eventgroup}
use Rattle.sd_core.specs.declared.keys.InstanceId.{InstanceId}
use Rattle.sd_core.specs.declared.received.KnownOffer.{KnownOffer}
use Rattle.sd_core.specs.declared.received.ReceivedOffer.{ReceivedOffer}
use Rattle.sd_core.specs.declared.received.Uncounted.{Uncounted}
use Rattle.sd_core.specs.declared.received.Uncounted.TheVariants.{Unwanted}
use Rattle.sd_core.specs.declared.received.Uncounted.TheVariants as left_out
use Rattle.sd_core.specs.EventgroupOrder.{exact_eventgroups}
use Rattle.sd_core.specs.KeyOrder.{exact_instances, instances_total}
use Rattle.sd_core.specs.Keys.{instance_cmp}
use Rattle.sd_core.specs.SeekTables.{known_at, offer_refusal, uncounted}
use Rattle.sd_core.specs.Wishes.{counter_in, sent_at_once, subscribing, wish_of}
use Rattle.someip_node_rules.specs.declared.config.Config.{Config}
use Rattle.someip_node_rules.specs.declared.config.WantedService.{WantedService}
use Rattle.someip_node_rules.specs.rules.ClientSubscribing.{wish_entries, wish_entries_by}
use Rattle.someip_node_rules.specs.histories.History.{History, answers_of}
use Rattle.someip_node_rules.specs.histories.Items as items
use Rattle.someip_node_rules.specs.histories.Items.{Item}
use Rattle.someip_node_rules.specs.rules.Learning.{offer_by, offer_counts, subscribe_to}
use Rattle.someip_node_rules.specs.trails.Meanings.{Means}
use Rattle.someip_node_rules.specs.trails.Meetings.{IsMet}
use Rattle.someip_node_rules.specs.rules.Outcomes.{Outcome, nothing}
use Rattle.someip_node_rules.specs.forms.Outputs as outputs
use Rattle.someip_node_rules.specs.forms.Outputs.{Given}
use Rattle.someip_node_rules.specs.rules.Plans as plans
use Rattle.someip_node_rules.specs.rules.Plans.{Rule, Work, rule}
use Rattle.someip_node_rules.specs.histories.Questions.{clock_at}
use Rattle.someip_node_rules.specs.trails.Replies.{IsReply}
use Rattle.someip_node_rules.specs.histories.SeekQuestions.{majors_of}
use Rattle.someip_node_rules.specs.forms.Setups.{is_wanted_eventgroup, wanted_as}
use Rattle.someip_node_rules.specs.histories.Tables.{Tables, known_peer}
use Rattle.someip_node_rules.specs.histories.WishQuestions.{course_at, is_wished_at, known_peer_at, same_eventgroup, subscribes_at, subscribes_if_known}
use Rattle.someip_node_rules.proofs.trails.MeaningLemmas.{rule_meant}
use Rattle.someip_node_rules.proofs.trails.MeetingLemmas.{rule_noted}
use Rattle.someip_node_rules.proofs.lists.MemberLemmas.{all_weaker}
use Rattle.someip_node_laws.proofs.rules.RuleReplies.{rule_replied}
use Rattle.someip_node_rules.proofs.histories.WishLives.{get-known, get-wish}
use Rattle.someip_world_rules.specs.exchanges.Beginnings.{SentSubscribe, subscribe_in_head, subscribes_in}
use Rattle.someip_world_rules.proofs.about_exchanges.beginnings.AgreeingLemmas.{Agrees, IsCalm, calm_agrees, did, same_agrees, stood, subscribe_with, subscribing_agrees, then_stands}
use Rattle.someip_world_rules.proofs.about_exchanges.beginnings.CourseLemmas.{acked_so, tame_goes_on}
use Rattle.someip_world_rules.proofs.about_exchanges.beginnings.SubscribesLemmas.{HasTtls, counter_of, next_counter, offer_sends, offer_sends_none, said, said_other, said_own}

-- ---- which rules may begin one, which send messages of Service Discovery, and which reply

abbrev pub is_calm : Rule → Bool
is_calm (plans.TakesOffer o) = false
is_calm (plans.Wishes eventgroup) = false
is_calm r = true

abbrev pub is_message : Rule → Bool
is_message (plans.Announces entries) = true
is_message (plans.RepliesTo peer entries) = true
is_message r = false

abbrev pub is_replied : Rule → Bool
is_replied (plans.TakesFind head) = true
is_replied (plans.TakesOffer o) = true
is_replied (plans.TakesSubscribe peer head endpoint) = true
is_replied r = false

-- ---- the rules that begin none

pub rule_calm : (q : Eventgroup) (r : Rule) (t : Tables) → is_calm r ≡ true → AllByRecursion (IsCalm q) (rule r t).items
rule_calm q r t is = all_weaker (λ item. IsMet item r t) (IsCalm q) calm (rule r t).items (rule_noted t r)
  where
    calm : (item : Item) → IsMet item r t → IsCalm q item
    calm (items.OfferCounted o endpoint) m = let none : is_calm (plans.TakesOffer o) ≡ true = subst (λ x. is_calm x ≡ true) m.0 is in absurd cc
    calm (items.Wished eventgroup) m = let none : is_calm (plans.Wishes eventgroup) ≡ true = subst (λ x. is_calm x ≡ true) m is in absurd cc
    calm (items.AckCame answer ttl) m = λ before. (acked_so answer ttl before q).count
    calm item m = λ before. (tame_goes_on item before q refl).count

-- ---- what is given and replied

pub said_by_none : {X Y : Type 0} (f : X → List Y) (xs : List X) → AllByRecursion (λ x. f x ≡ []) xs → flat_map f xs ≡ []
said_by_none f [] all = refl
said_by_none f (x ∷ xs) all = ap (λ ys. ys ++ flat_map f xs) all.0 ∙ said_by_none f xs all.1

-- only messages of Service Discovery hold Subscribes
pub no_message : (r : Rule) (t : Tables) → is_message r ≡ false → AllByRecursion (λ g. subscribes_in g ≡ []) (rule r t).given
no_message r t is = all_weaker (λ g. Means g r t) (λ g. subscribes_in g ≡ []) (λ g m. by g r is m) (rule r t).given (rule_meant t r)
  where
    by : (g : Given) (x : Rule) → is_message x ≡ false → Means g x t → subscribes_in g ≡ []
    by (outputs.Sends from to m) x not means = refl
    by (outputs.Tells output) x not means = refl
    by (outputs.Announces from to stamp entries) (plans.Announces own) not means = absurd cc
    by (outputs.Announces from to stamp entries) (plans.RepliesTo peer own) not means = absurd cc
    by (outputs.Announces from to stamp entries) x not means = absurd means

-- an entry is no Subscribe with a TTL above 0
abbrev pub IsOther : EntryValue → Type 0
IsOther e = (peer : Ipv4Addr) → subscribe_in_head peer e.head ≡ []

-- only an Offer is replied to by Subscribes
pub other_replies : (r : Rule) (t : Tables) → is_calm r ≡ true → AllByRecursion IsOther (rule r t).replies
other_replies r t is = all_weaker (IsReply r t) IsOther (λ e m. by r e is m) (rule r t).replies (rule_replied t r)
  where
    by : (x : Rule) (e : EntryValue) → is_calm x ≡ true → IsReply x t e → IsOther e
    by (plans.TakesFind head) e calm says = λ peer. ap (λ v. subscribe_in_head peer v.head) says.4
    by (plans.TakesOffer o) e calm says = absurd cc
    by (plans.TakesSubscribe from head endpoint) e calm (inl says) = λ peer. ap (λ v. subscribe_in_head peer v.head) says.3
    by (plans.TakesSubscribe from head endpoint) e calm (inr says) = λ peer. ap (λ v. subscribe_in_head peer v.head) says.2
    by x e calm says = absurd says

-- any other rule than those of entries replies nothing
pub no_replies : (r : Rule) (t : Tables) → is_replied r ≡ false → (rule r t).replies ≡ []
no_replies r t is = none (rule r t).replies (all_weaker (IsReply r t) (λ e. ⊥) (λ e m. by r e is m) (rule r t).replies (rule_replied t r))
  where
    none : (es : List EntryValue) → AllByRecursion (λ e. ⊥) es → es ≡ []
    none [] all = refl
    none (e ∷ es) all = absurd all.0

    by : (x : Rule) (e : EntryValue) → is_replied x ≡ false → IsReply x t e → ⊥
    by (plans.TakesFind head) e not says = absurd cc
    by (plans.TakesOffer o) e not says = absurd cc
    by (plans.TakesSubscribe from head endpoint) e not says = absurd cc
    by x e not says = says

-- ---- an Offer

-- the version in which an instance is wanted
pub major_of : (config : Config) (instance : InstanceId) → finite.get (majors_of config) instance ≡ option_map (λ w. w.major) (wanted_as config instance)
major_of config instance = get-map_of instances_total (map (λ e. (e.0, e.1.major)) config.wants.entries) instance ∙ by config.wants.entries
  where
    by : (es : List (InstanceId × WantedService)) → lookup (is_at (instance_cmp instance)) (map (λ e. (e.0, e.1.major)) es) ≡ option_map (λ w. w.major) (lookup (is_at (instance_cmp instance)) es)
    by [] = refl
    by (e ∷ es) = at (is_at (instance_cmp instance) e.0) (by es)
      where
        at : (b : Bool) → lookup (is_at (instance_cmp instance)) (map (λ e. (e.0, e.1.major)) es) ≡ option_map (λ w. w.major) (lookup (is_at (instance_cmp instance)) es)
            → (if b then Some e.1.major else lookup (is_at (instance_cmp instance)) (map (λ e. (e.0, e.1.major)) es)) ≡ option_map (λ w. w.major) (if b then Some e.1 else lookup (is_at (instance_cmp instance)) es)
        at true rest = refl
        at false rest = rest

-- an Offer that counts is of an instance that is wanted
counted_wanted : (config : Config) (o : ReceivedOffer) (known : Option KnownOffer) → offer_refusal (finite.get (majors_of config) o.instance) known o ≡ None
    → (want : WantedService) × (wanted_as config o.instance ≡ Some want)
counted_wanted config o known counts = by (wanted_as config o.instance) refl (subst (λ m. offer_refusal m known o ≡ None) (major_of config o.instance) counts)
  where
    by : (want : Option WantedService) → wanted_as config o.instance ≡ want → offer_refusal (option_map (λ w. w.major) (wanted_as config o.instance)) known o ≡ None
        → (want : WantedService) × (wanted_as config o.instance ≡ Some want)
    by None is counts = let none : offer_refusal None known o ≡ None = subst (λ w. offer_refusal (option_map (λ w. w.major) w) known o ≡ None) is counts in absurd cc
    by (Some want) is counts = (want, is)

module _ (q : Eventgroup) (w : Work History) (ttls : HasTtls w.state.config) (o : ReceivedOffer) where
  abbrev t : Tables
  t = answers_of w.state

  abbrev r : Rule
  r = plans.TakesOffer o

  -- what the Offer makes of the eventgroup agrees with the replies
  abbrev OfferAgrees : Type 0
  OfferAgrees = Agrees q (stood q w r).begun (then_stands q w r).begun (did q w r) (said q o.peer (rule r t).replies)

  counted_agrees : (endpoint : SocketAddrV4) → rule r t ≡ offer_counts o endpoint t → uncounted o t.clock t.seek ≡ None → OfferAgrees
  counted_agrees endpoint is counts = cases (eq_by_cmp instance_cmp q.instance o.instance && is_wished_at w.state.items q) refl
    where
      meets : (rule r t).items ≡ items.OfferCounted o endpoint ∷ []
      meets = ap (λ x. x.items) is

      replied : (rule r t).replies ≡ (offer_counts o endpoint t).replies
      replied = ap (λ x. x.replies) is

      cases : (b : Bool) → (eq_by_cmp instance_cmp q.instance o.instance && is_wished_at w.state.items q) ≡ b → OfferAgrees
      cases false not =
          subst (Agrees q (stood q w r).begun (then_stands q w r).begun (did q w r)) (sym (ap (said q o.peer) replied ∙ offer_sends_none q o.peer t ttls t.clock o.instance w.state.items not))
          (same_agrees q w r (items.OfferCounted o endpoint) meets (ap (λ b. (if b then subscribes_at t.clock o.peer (stood q w r) else stood q w r).begun) not))
      cases true is_so =
          let same : q.instance ≡ o.instance = same_by_test exact_instances q.instance o.instance (and_left (eq_by_cmp instance_cmp q.instance o.instance) (is_wished_at w.state.items q) is_so) in
          let want = counted_wanted w.state.config o (known_at t.clock (finite.get t.seek.known o.instance)) counts in
          subst (Agrees q (stood q w r).begun (then_stands q w r).begun (did q w r))
          (sym (ap (said q o.peer) replied ∙ offer_sends q o.peer t ttls t.clock o.instance w.state.items is_so want.0 (ap (wanted_as w.state.config) same ∙ want.1)))
          (subscribing_agrees q w r (items.OfferCounted o endpoint) meets t.clock o.peer (ap (λ b. if b then subscribes_at t.clock o.peer (stood q w r) else stood q w r) is_so))
        where
          and_left : (a b : Bool) → (a && b) ≡ true → a ≡ true
          and_left true b is = refl
          and_left false b is = is

  -- one that does not count meets nothing and is replied to by nothing
  uncounted_agrees : (out : Outcome) → rule r t ≡ out → out.items ≡ [] → out.replies ≡ [] → OfferAgrees
  uncounted_agrees out is no_items none =
      subst (Agrees q (stood q w r).begun (then_stands q w r).begun (did q w r)) (sym (ap (said q o.peer) (ap (λ x. x.replies) is ∙ none)))
      (calm_agrees q w r (subst (AllByRecursion (IsCalm q)) (sym (ap (λ x. x.items) is ∙ no_items)) tt))

  pub offer_agrees : OfferAgrees
  offer_agrees = by (uncounted o t.clock t.seek) refl
    where
      at_endpoint : (endpoint : Option SocketAddrV4) → o.endpoint ≡ endpoint → uncounted o t.clock t.seek ≡ None → OfferAgrees
      at_endpoint None at counts = uncounted_agrees nothing (ap (λ c. offer_by o c t) counts ∙ ap (λ e. option_map_or (λ endpoint. offer_counts o endpoint t) e nothing) at) refl refl
      at_endpoint (Some endpoint) at counts = counted_agrees endpoint (ap (λ c. offer_by o c t) counts ∙ ap (λ e. option_map_or (λ endpoint. offer_counts o endpoint t) e nothing) at) counts

      by : (cause : Option Uncounted) → uncounted o t.clock t.seek ≡ cause → OfferAgrees
      by None is = at_endpoint o.endpoint refl is
      by (Some Unwanted) is = uncounted_agrees (offer_by o (Some Unwanted) t) (ap (λ c. offer_by o c t) is) refl refl
      by (Some left_out.NoEndpoint) is = uncounted_agrees (offer_by o (Some left_out.NoEndpoint) t) (ap (λ c. offer_by o c t) is) refl refl
      by (Some left_out.OtherPeer) is = uncounted_agrees (offer_by o (Some left_out.OtherPeer) t) (ap (λ c. offer_by o c t) is) refl refl

-- ---- a wish

-- the offer that is known, in the tables and by the items
pub peer_known : (h : History) (instance : InstanceId) → known_peer (answers_of h) instance ≡ known_peer_at h.items instance
peer_known h instance = ap (λ v. option_map (λ k. k.peer) (known_at (clock_at h.items) v)) (get-known h.items instance)

-- an eventgroup that is wanted is one of an instance that is
wanted_of : (config : Config) (e : Eventgroup) → is_wanted_eventgroup config e ≡ true → (want : WantedService) × (wanted_as config e.instance ≡ Some want)
wanted_of config e is = by (wanted_as config e.instance) refl is
  where
    by : (want : Option WantedService) → wanted_as config e.instance ≡ want → option_map_or (λ want. is_some (tree.get nat_cmp want.groups e.id)) want false ≡ true
        → (w : WantedService) × (wanted_as config e.instance ≡ Some w)
    by None at is = absurd cc
    by (Some want) at is = (want, at)

module _ (q : Eventgroup) (w : Work History) (e : Eventgroup) where
  abbrev tables : Tables
  tables = answers_of w.state

  abbrev wishing : Rule
  wishing = plans.Wishes e

  abbrev before : List Item
  before = w.state.items

  abbrev WishAgrees : List SentSubscribe → Type 0
  WishAgrees sent = Agrees q (stood q w wishing).begun (then_stands q w wishing).begun (did q w wishing) sent

  -- while no offer is known, none begins
  pub wish_agrees_none : known_peer tables e.instance ≡ None → WishAgrees []
  wish_agrees_none unknown =
      same_agrees q w wishing (items.Wished e) refl
      (ap (λ known. (if same_eventgroup q e then subscribes_if_known (clock_at before) known (course_at before q) else course_at before q).begun) (sym (peer_known w.state e.instance) ∙ unknown)
      ∙ either (same_eventgroup q e))
    where
      either : (b : Bool) → (if b then course_at before q else course_at before q).begun ≡ (course_at before q).begun
      either true = refl
      either false = refl

  module _ (ttls : HasTtls w.state.config) (wanted : is_wanted_eventgroup w.state.config e ≡ true) (peer : Ipv4Addr) (known : known_peer tables e.instance ≡ Some peer) where
    -- the one entry that goes out
    abbrev counter : ℕ
    counter = counter_of (subscribes_at (clock_at before) peer (course_at before e))

    entries_are : wish_entries e tables ≡ subscribe_to tables (record { eventgroup = e; counter = counter })
    entries_are =
        ap (λ k. wish_entries_by tables e (sent_at_once tables.clock k (wish_of (finite.get tables.wishes e)))) known
        ∙ ap (λ v. wish_entries_by tables e (counter_in (subscribing tables.clock peer v).stage)) (get-wish before e)
        ∙ ap (wish_entries_by tables e) (next_counter before e (clock_at before) peer)

    course_is : (b : Bool) → same_eventgroup q e ≡ b → course_at (items.Wished e ∷ before) q ≡ (if b then subscribes_at (clock_at before) peer (course_at before q) else course_at before q)
    course_is b is =
        ap (λ k. if same_eventgroup q e then subscribes_if_known (clock_at before) k (course_at before q) else course_at before q) (sym (peer_known w.state e.instance) ∙ known)
        ∙ ap (λ b. if b then subscribes_at (clock_at before) peer (course_at before q) else course_at before q) is

    own_said : q ≡ e → said q peer (wish_entries e tables) ≡ subscribe_with q peer (counter_of (subscribes_at (clock_at before) peer (course_at before q))) ∷ []
    own_said same =
        let want = wanted_of w.state.config e wanted in
        ap (said q peer) entries_are
        ∙ ap (λ x. said q peer (subscribe_to tables (record { eventgroup = x; counter = counter_of (subscribes_at (clock_at before) peer (course_at before x)) }))) (sym same)
        ∙ said_own q peer tables ttls (counter_of (subscribes_at (clock_at before) peer (course_at before q))) want.0 (ap (λ x. wanted_as w.state.config x.instance) same ∙ want.1)

    -- and while one is known, the Subscribe goes to its peer
    pub wish_agrees : WishAgrees (said q peer (wish_entries e tables))
    wish_agrees = cases (same_eventgroup q e) refl
      where
        cases : (b : Bool) → same_eventgroup q e ≡ b → WishAgrees (said q peer (wish_entries e tables))
        cases true is =
            subst WishAgrees (sym (own_said (same_by_test exact_eventgroups q e is)))
            (subscribing_agrees q w wishing (items.Wished e) refl (clock_at before) peer (course_is true is))
        cases false is =
            subst WishAgrees (sym (ap (said q peer) entries_are ∙ said_other q peer tables ttls (record { eventgroup = e; counter = counter }) is))
            (same_agrees q w wishing (items.Wished e) refl (ap (λ c. c.begun) (course_is false is)))
