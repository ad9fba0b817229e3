-- The verdict by what is kept is the verdict on the run.
use Rattle.std.proofs.Common.{◌≡◌, ◌⊎◌, inl, inr, ◌+◌, ◌<◌, ◌≤◌, arith, ℕ, zero, suc, Bool, true, false, if◌then◌else◌, eqb, List, [], ◌∷◌, ◌++◌, append_assoc, drop, length, map, take, slice_get, None, Some, refl, sym, ap, subst, ◌∙◌}
use Rattle.std.specs.FinMap as finite
use Rattle.std.specs.FinMap.{get-empty}
use Rattle.std.specs.List.{AllByRecursion}
use Rattle.std.specs.Cmp.Lexicographic.{slice_cmp}
use Rattle.std.specs.Ordering.{nat_cmp}
use Rattle.std.proofs.lemmas.List.Elements.{recursion_from_All}
use Rattle.std.proofs.lemmas.Bool.{eqb-true, eq-eqb}
use Rattle.someip_node_rules.specs.trails.Copies.{IsCopy}
use Rattle.someip_node_rules.specs.forms.GoodConfigs.{is_good}
use Rattle.someip_node_rules.specs.histories.History.{History}
use Rattle.someip_node_rules.specs.steps.Steps.{given_in}
use Rattle.someip_node_rules.specs.declared.config.Config.{Config}
use Rattle.someip_world_schedule.specs.declared.step.Step.{Step}
use Rattle.someip_node_rules.proofs.lists.MemberLemmas.{all_weaker}
use Rattle.someip_world_setup.specs.GoodSetups.{IsGoodNetwork, IsGoodNode, Network}
use Rattle.someip_world_setup.specs.declared.setup_node.SetupNode.{SetupNode}
use Rattle.someip_world_rules.specs.Announced.{AllFits}
use Rattle.someip_world_rules.specs.Deeds.{done_with}
use Rattle.someip_world_rules.specs.Runs.{AreCopies, World, started_nodes, told_lines, world_after, world_of}
use Rattle.someip_world_rules.specs.Turns.{LeadTo, Turn}
use Rattle.someip_world_rules.specs.declared.line.Line.{Line}
use Rattle.someip_world_rules.specs.declared.reuse.Reuse.{Reuse}
use Rattle.someip_world_rules.proofs.OriginLemmas.{turn_configured}
use Rattle.someip_world_rules.proofs.TurnLemmas.{AreWithin, ends_in, told_more, told_within, turn_in, went_through}
use Rattle.someip_world_rules.specs.exchanges.CleanReuse.{Breaks, IsCleanBefore, IsVerdict, IsVerdictOn}
use Rattle.someip_world_rules.specs.exchanges.KeyOrder.{call_cmp, event_cmp, subscription_cmp}
use Rattle.someip_world_rules.specs.declared.exchanges.exchange_key.ExchangeKey.{ExchangeKey}
use Rattle.someip_world_rules.specs.declared.exchanges.exchange_key.ExchangeKey.TheVariants as keys
use Rattle.someip_world_rules.proofs.Fronts.{one_world}
use Rattle.someip_world_verdict.specs.Books.{Book, LifeKept, breaks_at, new_life, none_taken}
use Rattle.someip_world_verdict.specs.Booking.{booked}
use Rattle.someip_world_verdict.specs.Judging.{first_book, judged, judged_from, other_lines, own_lines}
use Rattle.someip_world_verdict.proofs.BookSteps.{booked_kept}
use Rattle.someip_world_verdict.proofs.checking.CheckLemmas.{breaks_only, breaks_so}
use Rattle.someip_world_verdict.proofs.GoodCopies.{copies_are_good}
use Rattle.someip_world_verdict.proofs.JudgingLemmas.{judged_broken, judged_more}
use Rattle.someip_world_verdict.proofs.Kept.{KeepsTaken, Kept, KnowsOpening}
use Rattle.someip_world_rules.proofs.Lives.{below_next}
use Rattle.someip_world_verdict.proofs.lives.RestartSteps.{new_kept}
use Rattle.someip_world_verdict.proofs.noting.Zipped.{beside_second}

-- ---- lines

-- fronts that are equal leave equal rests
rest_same : {X : Type 0} (xs ys zs : List X) → xs ++ ys ≡ xs ++ zs → ys ≡ zs
rest_same [] ys zs is = is
rest_same (x ∷ xs) ys zs is = let rest : xs ++ ys ≡ xs ++ zs = cc in rest_same xs ys zs rest

-- the lines of a step, before those of later ones
module _ (index to : ℕ) (more : List Line) (late : AreWithin (index + 1) to more) where
  -- later lines are none of the step's own
  none_own : (xs : List Line) → AreWithin (index + 1) to xs → (own_lines index xs ≡ []) × (other_lines index xs ≡ xs)
  none_own [] all = (refl, refl)
  none_own (x ∷ xs) all = cases (eqb x.step index) refl
    where
      cases : (b : Bool) → eqb x.step index ≡ b → ((if b then x ∷ own_lines index xs else []) ≡ []) × ((if b then other_lines index xs else x ∷ xs) ≡ x ∷ xs)
      cases true e = let above = all.0.0 in let same = eqb-true x.step index e in absurd (omega (arith, above, same))
      cases false e = (refl, refl)

  pub split_lines : (own : List Line) → AreWithin index (index + 1) own → (own_lines index (own ++ more) ≡ own) × (other_lines index (own ++ more) ≡ more)
  split_lines [] all = none_own more late
  split_lines (x ∷ xs) all =
      let rest = split_lines xs all.1 in
      let lower = all.0.0 in
      let upper = all.0.1 in
      let here = eq-eqb x.step index (omega (arith, lower, upper)) in (
        ap (λ b. if b then x ∷ own_lines index (xs ++ more) else []) here ∙ ap (λ ys. x ∷ ys) rest.0,
        ap (λ b. if b then other_lines index (xs ++ more) else x ∷ (xs ++ more)) here ∙ rest.1,
      )

-- ---- what is left of a list

left_here : {X : Type 0} (xs : List X) (i : ℕ) (x : X) (rest : List X) → drop i xs ≡ x ∷ rest → (slice_get xs i ≡ Some x) × (drop (suc i) xs ≡ rest)
left_here [] zero x rest is = absurd cc
left_here [] (suc i) x rest is = absurd cc
left_here (y ∷ xs) zero x rest is = (cc, cc)
left_here (y ∷ xs) (suc i) x rest is = left_here xs i x rest is

none_left : {X : Type 0} (xs : List X) (i : ℕ) → drop i xs ≡ [] → length xs ≤ i
none_left [] i is = omega arith
none_left (y ∷ xs) zero is = absurd cc
none_left (y ∷ xs) (suc i) is = let rest = none_left xs i is in omega (arith, rest)

-- ---- nothing has happened

module _ (nodes : List SetupNode) (configs : List Config) (ss : List Step) where
  none_opened : (key : ExchangeKey) → KnowsOpening nodes configs ss 0 key None
  none_opened key i lt = absurd (omega (arith, lt))

  first_taken : KeepsTaken nodes configs ss 0 none_taken
  first_taken (keys.Call k) = subst (KnowsOpening nodes configs ss 0 (keys.Call k)) (sym (get-empty call_cmp k)) (none_opened (keys.Call k))
  first_taken (keys.Event k) = subst (KnowsOpening nodes configs ss 0 (keys.Event k)) (sym (get-empty event_cmp k)) (none_opened (keys.Event k))
  first_taken (keys.Subscription k) = subst (KnowsOpening nodes configs ss 0 (keys.Subscription k)) (sym (get-empty subscription_cmp k)) (none_opened (keys.Subscription k))

  -- each node that is started has a new life
  first_life : (ns : List SetupNode) (cs : List Config) (place : ℕ) (h : History) → slice_get (started_nodes ns cs) place ≡ Some h
      → (slice_get (map (λ node. new_life) ns) place ≡ Some new_life) × (h.items ≡ [])
  first_life [] cs place h is = absurd cc
  first_life (n ∷ ns) [] place h is = absurd cc
  first_life (n ∷ ns) (c ∷ cs) zero h is = (refl, cc)
  first_life (n ∷ ns) (c ∷ cs) (suc place) h is = first_life ns cs place h is

  first_kept : Kept nodes configs ss 0 (world_of nodes configs) (first_book nodes)
  first_kept = record {
    taken = first_taken;
    notes = tt;
    lives = λ place h is.
        let begun = first_life nodes configs place h is in
        (new_life, begun.0, new_kept nodes configs ss (first_book nodes).payloads 0 place (λ i lt lives. absurd (omega (arith, lt))) h begun.1);
    payloads = λ payload number is. let none : finite.get (first_book nodes).payloads payload ≡ None = get-empty (slice_cmp nat_cmp) payload in absurd cc;
  }

-- ---- the verdict

module _ (nodes : List SetupNode) (configs : List Config) (are : AreCopies nodes configs) (ss : List Step) (fits : AllFits nodes configs ss)
    (well : (place : ℕ) (c : Config) → slice_get configs place ≡ Some c → is_good c ≡ true) (final : World) (ends : LeadTo nodes configs ss final) where
  -- what is kept before a step of which none before broke it
  record Stands (i : ℕ) (book : Book) (rest : List Line) : Type 0 where
    pub world : World
    pub led : LeadTo nodes configs (take i ss) world
    pub kept : Kept nodes configs ss i world book
    pub clean : IsCleanBefore nodes configs ss i
    pub lines : final.lines ≡ world.lines ++ rest

  module _ (i : ℕ) (s : Step) (book : Book) (rest : List Line) (stands : Stands i book rest) (here : slice_get ss i ≡ Some s) where
    turn : Turn nodes configs ss i s
    turn = turn_in nodes configs ss final.lines i s final ends here

    same_world : stands.world ≡ turn.before
    same_world = one_world nodes configs ss (take i ss) stands.world turn.before stands.led turn.led

    kept : Kept nodes configs ss i turn.before book
    kept = subst (λ w. Kept nodes configs ss i w book) same_world stands.kept

    -- the node that acts: its configuration is a copy of that of the setup
    configured : slice_get configs turn.place ≡ Some turn.history.config
    configured = turn_configured nodes configs ss i s turn

    abbrev Acts : Type 0
    Acts = (node : SetupNode) × (slice_get nodes turn.place ≡ Some node) × IsCopy node.config turn.history.config

    acts : Acts
    acts = beside_second (λ node config. IsCopy node.config config) nodes configs turn.place turn.history.config are configured

    abbrev own : List Line
    own = told_lines (i + 1) turn.place (given_in (done_with turn.history turn.deed))

    abbrev next : World
    next = world_after (i + 1) turn.place turn.before turn.history (done_with turn.history turn.deed)

    -- what is left to be told, and that the step's own lines come first
    record Splits : Type 0 where
      pub own_first : own_lines (i + 1) rest ≡ own
      pub told : final.lines ≡ next.lines ++ other_lines (i + 1) rest

    splits : Splits
    splits =
        let way = went_through nodes 1 (world_of nodes configs) final ss i s ends here in
        let counted : suc i ≡ i + 1 = omega arith in
        let same : way.next ≡ next = one_world nodes configs ss (take (i + 1) ss) way.next next (subst (λ k. LeadTo nodes configs (take k ss) way.next) counted way.leads) turn.leads in
        let late = told_more nodes (i + 1 + 1) way.next final (drop (suc i) ss) way.rest in
        let ends_so : final.lines ≡ (turn.before.lines ++ own) ++ late.more = late.is ∙ ap (λ (w : World). w.lines ++ late.more) same in
        let is : rest ≡ own ++ late.more =
        rest_same turn.before.lines rest (own ++ late.more)
        (sym (stands.lines ∙ ap (λ (w : World). w.lines ++ rest) same_world) ∙ ends_so ∙ append_assoc turn.before.lines own late.more) in
        let split = split_lines (i + 1) (i + 1 + 1 + length (drop (suc i) ss)) late.more late.within own (told_within (i + 1) turn.place (given_in (done_with turn.history turn.deed))) in
        record {
          own_first = ap (own_lines (i + 1)) is ∙ split.0;
          told = ends_so ∙ ap (λ ls. next.lines ++ ls) (sym (ap (other_lines (i + 1)) is ∙ split.1));
        }

    module _ (life : LifeKept) (lives : slice_get book.lives turn.place ≡ Some life) (goes_on : breaks_at turn.history.config.common.reassembly_timeout_ms book life s ≡ false) where
      -- the step broke nothing either
      still_clean : IsCleanBefore nodes configs ss (suc i)
      still_clean k lt breaks = cases (below_next k i lt)
        where
          cases : (k < i) ⊎ (k ≡ i) → ⊥
          cases (inl l) = stands.clean k l breaks
          cases (inr e) =
              let broken = breaks_only nodes configs ss fits well i s turn book kept life lives stands.clean (subst (Breaks nodes configs ss) e breaks) in
              let both : false ≡ true = sym goes_on ∙ broken in absurd cc

      stands_next : Stands (suc i) (booked acts.0.config i turn.place s (own_lines (i + 1) rest) life book) (other_lines (i + 1) rest)
      stands_next =
          let counted : i + 1 ≡ suc i = omega arith in
          record {
            world = next;
            led = subst (λ k. LeadTo nodes configs (take k ss) next) counted turn.leads;
            kept = subst (λ ls. Kept nodes configs ss (suc i) next (booked acts.0.config i turn.place s ls life book)) (sym splits.own_first)
                (booked_kept nodes configs ss fits well i s turn configured book kept life lives acts.0.config acts.2);
            clean = still_clean;
            lines = splits.told;
          }

  walk : (xs : List Step) (i : ℕ) → drop i ss ≡ xs → (book : Book) (rest : List Line) → Stands i book rest → IsVerdict nodes configs ss (judged_from nodes i book xs rest)
  walk [] i left book rest stands = λ k lt breaks. let past = none_left ss i left in stands.clean k (omega (arith, lt, past)) breaks
  walk (s ∷ xs) i left book rest stands =
      let front = left_here ss i s xs left in
      let t = turn i s book rest stands front.0 in
      let node = acts i s book rest stands front.0 in
      let kept_now = kept i s book rest stands front.0 in
      let there = kept_now.lives t.place t.history t.stands in
      let timeout : t.history.config.common.reassembly_timeout_ms ≡ node.0.config.common.reassembly_timeout_ms = ap (λ (c : Config). c.common.reassembly_timeout_ms) node.2.0 in
      cases (λ book_then rest_then. walk xs (suc i) front.1 book_then rest_then) front.0 there.0 there.1 timeout (breaks_at t.history.config.common.reassembly_timeout_ms book there.0 s) refl
    where
      cases : ((book_then : Book) (rest_then : List Line) → Stands (suc i) book_then rest_then → IsVerdict nodes configs ss (judged_from nodes (suc i) book_then xs rest_then))
          → (here : slice_get ss i ≡ Some s) → (life : LifeKept) → slice_get book.lives (turn i s book rest stands here).place ≡ Some life
          → (turn i s book rest stands here).history.config.common.reassembly_timeout_ms ≡ (acts i s book rest stands here).0.config.common.reassembly_timeout_ms
          → (b : Bool) → breaks_at (turn i s book rest stands here).history.config.common.reassembly_timeout_ms book life s ≡ b
          → IsVerdict nodes configs ss (judged_from nodes i book (s ∷ xs) rest)
      cases more here life lives timeout true e =
          let t = turn i s book rest stands here in
          let node = acts i s book rest stands here in
          subst (IsVerdict nodes configs ss)
          (sym (judged_broken nodes book i s xs rest t.place t.named node.0 node.1 life lives (ap (λ ms. breaks_at ms book life s) (sym timeout) ∙ e)))
          (i, refl, breaks_so nodes configs ss fits well i s t book (kept i s book rest stands here) life lives stands.clean e, stands.clean)
      cases more here life lives timeout false e =
          let t = turn i s book rest stands here in
          let node = acts i s book rest stands here in
          subst (IsVerdict nodes configs ss)
          (sym (judged_more nodes book i s xs rest t.place t.named node.0 node.1 life lives (ap (λ ms. breaks_at ms book life s) (sym timeout) ∙ e)))
          (more (booked node.0.config i t.place s (own_lines (i + 1) rest) life book) (other_lines (i + 1) rest)
          (stands_next i s book rest stands here life lives e))

  pub verdict_kept : IsVerdict nodes configs ss (judged nodes ss final.lines)
  verdict_kept =
      walk ss 0 refl (first_book nodes) final.lines
      (record { world = world_of nodes configs; led = refl; kept = first_kept nodes configs ss; clean = λ k lt breaks. absurd (omega (arith, lt)); lines = refl })

-- the nodes of a setup can be started
each_good : (network : Network) → IsGoodNetwork network → AllByRecursion (λ node. is_good node.config ≡ true) network.nodes
each_good network good =
    all_weaker (IsGoodNode network.common) (λ node. is_good node.config ≡ true) (λ node own. own.config) network.nodes (recursion_from_All (IsGoodNode network.common) network.nodes good.nodes)

-- so it is for the trace of a run over them
pub verdict_so : (network : Network) → IsGoodNetwork network → (ss : List Step) (lines : List Line) (verdict : Reuse)
    → ((configs : List Config) → AreCopies network.nodes configs → AllFits network.nodes configs ss) → verdict ≡ judged network.nodes ss lines → IsVerdictOn network.nodes ss lines verdict
verdict_so network good ss lines verdict fits is configs are run =
    let end = ends_in network.nodes configs ss lines run in
    subst (IsVerdict network.nodes configs ss) (ap (judged network.nodes ss) end.2 ∙ sym is)
    (verdict_kept network.nodes configs are ss (fits configs are) (copies_are_good network.nodes configs are (each_good network good)) end.0 end.1)
