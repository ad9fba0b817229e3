-- What the plans of a node begin agrees with the Subscribes that they send: rule by rule, and message by message.
use Rattle.std.proofs.Common.{◌≡◌, ℕ, true, false, List, [], ◌∷◌, ◌++◌, take, drop, refl, ap, sym, subst, ◌∙◌}
use Rattle.std.specs.List.{AllByRecursion, flat_map}
use Rattle.std.specs.declared.net.ipv4_addr.Ipv4Addr.{Ipv4Addr}
use Rattle.std.specs.Net.Socket.{v4_ip}
use Rattle.std.proofs.lemmas.Grind.{flat_map-append}
use Rattle.std.proofs.lemmas.List.{append-nil, append_assoc, take-append-drop}
use Rattle.std.proofs.lemmas.List.Elements.{filter-append}
use Rattle.sd_wire.specs.fronts.Fronts.{front_lengths, fronts_of}
use Rattle.sd_wire.specs.fronts.Splitting.{AreFronts}
use Rattle.sd_wire.specs.contents.Values.{EntryValue}
use Rattle.sd_wire.proofs.fronts.FrontLemmas.{lengths_are}
use Rattle.sd_core.specs.declared.eventgroup.Eventgroup.{Eventgroup}
use Rattle.sd_core.specs.declared.received.ReceivedOffer.{ReceivedOffer}
use Rattle.someip_node_rules.specs.forms.Entries.{fronts}
use Rattle.someip_node_rules.specs.histories.History.{History, answers_of, historic}
use Rattle.someip_node_rules.specs.rules.Plans as plans
use Rattle.someip_node_rules.specs.rules.Plans.{Plan, Rule, Work, act, both, each, replying, rest, rule, run}
use Rattle.someip_node_rules.specs.forms.Receivers.{message_plan_to, messages_plan_to}
use Rattle.someip_node_rules.specs.forms.Setups.{group_endpoint}
use Rattle.someip_node_rules.specs.trails.Trails.{Done, given_by, met_by, outcome_of, trail}
use Rattle.someip_node_rules.specs.histories.WishQuestions.{course_at, same_eventgroup}
use Rattle.someip_node_rules.specs.declared.receiver.Receiver.{Receiver}
use Rattle.someip_node_rules.specs.declared.receiver.Receiver.TheVariants.{Group, Peer}
use Rattle.someip_node_rules.proofs.lists.MemberLemmas.{all_fronts, all_weaker}
use Rattle.someip_node_rules.proofs.rules.PlanLemmas.{state_of_run}
use Rattle.someip_node_rules.proofs.rules.StepRules.{config_kept}
use Rattle.someip_world_rules.specs.exchanges.Beginnings.{SentSubscribe, about, subscribe_in_head, subscribes_among, subscribes_in}
use Rattle.someip_world_rules.proofs.about_exchanges.beginnings.AgreeingLemmas.{Agrees, agrees_both, agrees_none, calm_agrees}
use Rattle.someip_world_rules.proofs.about_exchanges.beginnings.RuleBeginnings.{IsOther, is_calm, is_message, is_replied, no_message, no_replies, offer_agrees, other_replies, rule_calm, said_by_none}
use Rattle.someip_world_rules.proofs.about_exchanges.beginnings.SubscribesLemmas.{HasTtls, said, said-append}

-- ---- what is kept on the way

-- the configuration stays
pub run_config : (p : Plan) (w : Work History) → (run historic p w).state.config ≡ w.state.config
run_config p w = ap (λ h. h.config) (state_of_run p w) ∙ config_kept w.state (met_by (trail p w))

pub ttls_kept : (p : Plan) (w : Work History) → HasTtls w.state.config → HasTtls (run historic p w).state.config
ttls_kept p w ttls = subst HasTtls (sym (run_config p w)) ttls

-- the fronts of entries, one after the other, are the entries
pub fronts_joined : (lengths : List ℕ) (entries : List EntryValue) → AreFronts entries lengths → flat_map (λ front. front) (fronts_of lengths entries) ≡ entries
fronts_joined [] entries are = sym are
fronts_joined (n ∷ lengths) entries are = ap (λ es. take n entries ++ es) (fronts_joined lengths (drop n entries) are.1) ∙ take-append-drop n entries

module _ (q : Eventgroup) where
  -- ---- what some rules give, and how many were begun

  abbrev pub told : List Done → List SentSubscribe
  told dones = about q (flat_map subscribes_in (given_by dones))

  pub told-append : (xs ys : List Done) → told (xs ++ ys) ≡ told xs ++ told ys
  told-append xs ys =
      ap (λ gs. about q (flat_map subscribes_in gs)) (flat_map-append (λ (d : Done). (outcome_of d).given) xs ys)
      ∙ ap (about q) (flat_map-append subscribes_in (given_by xs) (given_by ys))
      ∙ filter-append (λ (s : SentSubscribe). same_eventgroup q s.eventgroup) (flat_map subscribes_in (given_by xs)) (flat_map subscribes_in (given_by ys))

  abbrev pub begun : Work History → ℕ
  begun w = (course_at w.state.items q).begun

  -- a rule that sends no message of Service Discovery gives no Subscribe
  pub told_none : (r : Rule) (w : Work History) → is_message r ≡ false → told (trail (act r) w) ≡ []
  told_none r w is =
      ap (λ gs. about q (flat_map subscribes_in gs)) (append-nil (rule r (answers_of w.state)).given)
      ∙ ap (about q) (said_by_none subscribes_in (rule r (answers_of w.state)).given (no_message r (answers_of w.state) is))

-- ---- plans whose Subscribes are replies

-- what some rules begin agrees with the Subscribes that are added to the replies, and they give none
pub record Collects (q : Eventgroup) (peer : Ipv4Addr) (w now : Work History) (dones : List Done) : Type 0 where
  pub sent : List SentSubscribe
  pub agrees : Agrees q (begun q w) (begun q now) dones sent
  pub none : told q dones ≡ []
  pub adds : said q peer now.replies ≡ said q peer w.replies ++ sent

abbrev pub Collecting : Eventgroup → Ipv4Addr → Plan → Type 0
Collecting q peer p = (w : Work History) → HasTtls w.state.config → Collects q peer w (run historic p w) (trail p w)

module _ (q : Eventgroup) (peer : Ipv4Addr) where
  collecting_rest : Collecting q peer rest
  collecting_rest w ttls = record { sent = []; agrees = agrees_none q (begun q w); none = refl; adds = sym (append-nil (said q peer w.replies)) }

  collecting_both : (a b : Plan) → Collecting q peer a → Collecting q peer b → Collecting q peer (both a b)
  collecting_both a b first second w ttls =
      let mid = run historic a w in
      let x = first w ttls in
      let y = second mid (ttls_kept a w ttls) in
      record {
        sent = x.sent ++ y.sent;
        agrees = agrees_both q (begun q w) (begun q mid) (begun q (run historic b mid)) (trail a w) (trail b mid) x.sent y.sent x.agrees y.agrees;
        none = told-append q (trail a w) (trail b mid) ∙ ap (λ l. l ++ told q (trail b mid)) x.none ∙ y.none;
        adds = y.adds ∙ ap (λ l. l ++ y.sent) x.adds ∙ append_assoc (said q peer w.replies) x.sent y.sent;
      }

  pub collecting_each : {X : Type 0} (f : X → Plan) → ((x : X) → Collecting q peer (f x)) → (xs : List X) → Collecting q peer (each f xs)
  collecting_each f one [] = collecting_rest
  collecting_each f one (x ∷ xs) = collecting_both (f x) (each f xs) (one x) (collecting_each f one xs)

  -- a rule by which none begins
  pub collecting_act : (r : Rule) → is_calm r ≡ true → is_message r ≡ false → Collecting q peer (act r)
  collecting_act r calm silent w ttls = record {
    sent = [];
    agrees = calm_agrees q w r (rule_calm q r (answers_of w.state) calm);
    none = told_none q r w silent;
    adds = said-append q peer w.replies (rule r (answers_of w.state)).replies ∙ ap (λ l. said q peer w.replies ++ l) (none_said (rule r (answers_of w.state)).replies (other_replies r (answers_of w.state) calm));
  }
    where
      none_said : (es : List EntryValue) → AllByRecursion IsOther es → said q peer es ≡ []
      none_said es all = ap (about q) (said_by_none (λ e. subscribe_in_head peer e.head) es (all_weaker IsOther (λ e. subscribe_in_head peer e.head ≡ []) (λ e other. other peer) es all))

-- an Offer of the peer
pub collecting_offer : (q : Eventgroup) (o : ReceivedOffer) → Collecting q o.peer (act (plans.TakesOffer o))
collecting_offer q o w ttls = record {
  sent = said q o.peer (rule (plans.TakesOffer o) (answers_of w.state)).replies;
  agrees = offer_agrees q w ttls o;
  none = told_none q (plans.TakesOffer o) w refl;
  adds = said-append q o.peer w.replies (rule (plans.TakesOffer o) (answers_of w.state)).replies;
}

-- ---- plans whose Subscribes are given

-- what some rules begin agrees with the Subscribes that they give, and no reply waits after them
pub record Speaks (q : Eventgroup) (w now : Work History) (dones : List Done) : Type 0 where
  pub agrees : Agrees q (begun q w) (begun q now) dones (told q dones)
  pub none : now.replies ≡ []

abbrev pub Speaking : Eventgroup → Plan → Type 0
Speaking q p = (w : Work History) → HasTtls w.state.config → w.replies ≡ [] → Speaks q w (run historic p w) (trail p w)

module _ (q : Eventgroup) where
  pub speaking_rest : Speaking q rest
  speaking_rest w ttls none = record { agrees = agrees_none q (begun q w); none = none }

  pub speaking_both : (a b : Plan) → Speaking q a → Speaking q b → Speaking q (both a b)
  speaking_both a b first second w ttls none =
      let mid = run historic a w in
      let x = first w ttls none in
      let y = second mid (ttls_kept a w ttls) x.none in
      record {
        agrees = subst (Agrees q (begun q w) (begun q (run historic b mid)) (trail a w ++ trail b mid)) (sym (told-append q (trail a w) (trail b mid)))
            (agrees_both q (begun q w) (begun q mid) (begun q (run historic b mid)) (trail a w) (trail b mid) (told q (trail a w)) (told q (trail b mid)) x.agrees y.agrees);
        none = y.none;
      }

  pub speaking_each : {X : Type 0} (P : X → Type 0) (f : X → Plan) → ((x : X) → P x → Speaking q (f x)) → (xs : List X) → AllByRecursion P xs → Speaking q (each f xs)
  speaking_each P f one [] all = speaking_rest
  speaking_each P f one (x ∷ xs) all = speaking_both (f x) (each f xs) (one x all.0) (speaking_each P f one xs all.1)

  -- a rule that neither begins one, nor replies, nor sends a message of Service Discovery
  pub speaking_act : (r : Rule) → is_calm r ≡ true → is_message r ≡ false → is_replied r ≡ false → Speaking q (act r)
  speaking_act r calm silent unreplied w ttls none = record {
    agrees = subst (Agrees q (begun q w) (begun q (run historic (act r) w)) (trail (act r) w)) (sym (told_none q r w silent)) (calm_agrees q w r (rule_calm q r (answers_of w.state) calm));
    none = ap (λ es. es ++ (rule r (answers_of w.state)).replies) none ∙ no_replies r (answers_of w.state) unreplied;
  }

  -- entries that are no Subscribes
  pub other_told : (to : Ipv4Addr) (es : List EntryValue) → AllByRecursion IsOther es → about q (subscribes_among to es ++ []) ≡ []
  other_told to es others =
      ap (about q) (append-nil (subscribes_among to es) ∙ said_by_none (λ e. subscribe_in_head to e.head) es (all_weaker IsOther (λ e. subscribe_in_head to e.head ≡ []) (λ e other. other to) es others))

  -- a message of such
  pub speaking_message : (receiver : Receiver) (es : List EntryValue) → AllByRecursion IsOther es → Speaking q (message_plan_to receiver es)
  speaking_message Group es others w ttls none = record {
    agrees = subst (Agrees q (begun q w) (begun q (run historic (act (plans.Announces es)) w)) (trail (act (plans.Announces es)) w))
        (sym (other_told (v4_ip (group_endpoint w.state.config)) es others)) (calm_agrees q w (plans.Announces es) (rule_calm q (plans.Announces es) (answers_of w.state) refl));
    none = append-nil w.replies ∙ none;
  }
  speaking_message (Peer peer) es others w ttls none = record {
    agrees = subst (Agrees q (begun q w) (begun q (run historic (act (plans.RepliesTo peer es)) w)) (trail (act (plans.RepliesTo peer es)) w))
        (sym (other_told peer es others)) (calm_agrees q w (plans.RepliesTo peer es) (rule_calm q (plans.RepliesTo peer es) (answers_of w.state) refl));
    none = append-nil w.replies ∙ none;
  }

  -- messages of such
  pub speaking_messages : (receiver : Receiver) (es : List EntryValue) → AllByRecursion IsOther es → Speaking q (messages_plan_to receiver es)
  speaking_messages receiver es others =
      speaking_each (AllByRecursion IsOther) (message_plan_to receiver) (speaking_message receiver) (fronts es) (all_fronts IsOther (front_lengths es) es others)

-- ---- messages with the replies that waited

-- messages to a peer begin none, and give the Subscribes of their entries
pub record Replies (q : Eventgroup) (peer : Ipv4Addr) (messages : List (List EntryValue)) (w now : Work History) (dones : List Done) : Type 0 where
  pub agrees : Agrees q (begun q w) (begun q now) dones []
  pub tells : told q dones ≡ said q peer (flat_map (λ front. front) messages)
  pub none : now.replies ≡ w.replies

module _ (q : Eventgroup) (peer : Ipv4Addr) where
  pub one_reply : (front : List EntryValue) (w : Work History)
      → (Agrees q (begun q w) (begun q (run historic (act (plans.RepliesTo peer front)) w)) (trail (act (plans.RepliesTo peer front)) w) []) × (told q (trail (act (plans.RepliesTo peer front)) w) ≡ said q peer front)
  one_reply front w = (
    calm_agrees q w (plans.RepliesTo peer front) (rule_calm q (plans.RepliesTo peer front) (answers_of w.state) refl),
    ap (about q) (append-nil (subscribes_among peer front)),
  )

  pub replies_go : (messages : List (List EntryValue)) (w : Work History) → Replies q peer messages w (run historic (each (message_plan_to (Peer peer)) messages) w) (trail (each (message_plan_to (Peer peer)) messages) w)
  replies_go [] w = record { agrees = agrees_none q (begun q w); tells = refl; none = refl }
  replies_go (front ∷ messages) w =
      let mid = run historic (act (plans.RepliesTo peer front)) w in
      let x = one_reply front w in
      let y = replies_go messages mid in
      let others : Plan = each (message_plan_to (Peer peer)) messages in
      record {
        agrees = agrees_both q (begun q w) (begun q mid) (begun q (run historic others mid)) (trail (act (plans.RepliesTo peer front)) w) (trail others mid) [] [] x.0 y.agrees;
        tells = told-append q (trail (act (plans.RepliesTo peer front)) w) (trail others mid) ∙ ap (λ l. l ++ told q (trail others mid)) x.1 ∙ ap (λ l. said q peer front ++ l) y.tells
            ∙ sym (said-append q peer front (flat_map (λ f. f) messages));
        none = y.none ∙ append-nil w.replies;
      }

  -- a plan that collects replies, and then sends them
  pub speaking_replies : (p : Plan) → Collecting q peer p → Speaking q (both p (replying (messages_plan_to (Peer peer))))
  speaking_replies p collecting w ttls none =
      let mid = run historic p w in
      let x = collecting w ttls in
      let ready : Work History = record mid { replies = [] } in
      let others : Plan = messages_plan_to (Peer peer) mid.replies in
      let y = replies_go (fronts mid.replies) ready in
      let sent : told q (trail others ready) ≡ x.sent =
      y.tells ∙ ap (said q peer) (fronts_joined (front_lengths mid.replies) mid.replies (lengths_are mid.replies)) ∙ x.adds ∙ ap (λ es. said q peer es ++ x.sent) none in
      let whole : told q (trail p w ++ trail others ready) ≡ x.sent ++ [] =
      told-append q (trail p w) (trail others ready) ∙ ap (λ l. l ++ told q (trail others ready)) x.none ∙ sent ∙ sym (append-nil x.sent) in
      record {
        agrees = subst (Agrees q (begun q w) (begun q (run historic others ready)) (trail p w ++ trail others ready)) (sym whole)
            (agrees_both q (begun q w) (begun q mid) (begun q (run historic others ready)) (trail p w) (trail others ready) x.sent [] x.agrees y.agrees);
        none = y.none;
      }
