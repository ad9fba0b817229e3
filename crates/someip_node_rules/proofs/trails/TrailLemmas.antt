-- What each rule of a plan keeps, by what was done before it, the plan keeps.
use Rattle.std.proofs.Common.{◌≡◌, List, [], ◌∷◌, ◌++◌, refl, sym, ◌∙◌, subst}
use Rattle.std.specs.List.{AllByRecursion}
use Rattle.std.proofs.lemmas.List.{append-nil, append_assoc}
use Rattle.someip_node_rules.specs.histories.History.{History, answers_of, historic}
use Rattle.someip_node_rules.specs.rules.Plans.{Plan, rest, act, both, asks, replying, Rule, Work, does, rule, run}
use Rattle.someip_node_rules.specs.trails.Trails.{Done, trail}

module _ (P : List Done → Work History → Type 0) (May : List Done → Rule → Work History → Type 0) where
  -- each rule of a plan may be done where it is done, once some were done, as long as P holds
  abbrev pub AllowsAfter : List Done → Plan → Work History → Type 0
  AllowsAfter ds rest w = Unit {0}
  AllowsAfter ds (act r) w = May ds r w
  AllowsAfter ds (both p q) w =
      AllowsAfter ds p w × (P (ds ++ trail p w) (run historic p w) → AllowsAfter (ds ++ trail p w) q (run historic p w))
  AllowsAfter ds (asks f) w = AllowsAfter ds (f (answers_of w.state)) w
  AllowsAfter ds (replying f) w = P ds (record w { replies = [] }) → AllowsAfter ds (f w.replies) (record w { replies = [] })

  -- a rule might be done once those were done
  abbrev pub MightAfter : List Done → Done → Type 0
  MightAfter ds d = P ds d.before × May ds d.by d.before

  -- and so might each of several, one after the other
  abbrev AllMight : List Done → List Done → Type 0
  AllMight ds [] = Unit {0}
  AllMight ds (d ∷ xs) = MightAfter ds d × AllMight (ds ++ d ∷ []) xs

  one_more : (ds : List Done) (d : Done) (xs : List Done) → ds ++ d ∷ xs ≡ (ds ++ d ∷ []) ++ xs
  one_more ds d xs = sym (append_assoc ds (d ∷ []) xs)

  might_append : (ds xs ys : List Done) → AllMight ds xs → AllMight (ds ++ xs) ys → AllMight ds (xs ++ ys)
  might_append ds [] ys h g = subst (λ x. AllMight x ys) (append-nil ds) g
  might_append ds (d ∷ xs) ys h g = (h.0, might_append (ds ++ d ∷ []) xs ys h.1 (subst (λ x. AllMight x ys) (one_more ds d xs) g))

  -- a rule of some, and those before and after it
  pub record IsAt (whole : List Done) (d : Done) : Type 0 where
    pub earlier : List Done
    pub later : List Done
    pub splits : whole ≡ earlier ++ d ∷ later
    pub might : MightAfter earlier d

  each_might : (whole ds xs : List Done) → whole ≡ ds ++ xs → AllMight ds xs → AllByRecursion (IsAt whole) xs
  each_might whole ds [] is all = tt
  each_might whole ds (d ∷ xs) is all = (
    record { earlier = ds; later = xs; splits = is; might = all.0 },
    each_might whole (ds ++ d ∷ []) xs (is ∙ one_more ds d xs) all.1,
  )

  module _ (keeps : (ds : List Done) (r : Rule) (w : Work History) → P ds w → May ds r w → P (ds ++ record { by = r; before = w } ∷ []) (does historic (rule r) w))
      (forgets : (ds : List Done) (w : Work History) → P ds w → P ds (record w { replies = [] })) where
    -- what held of the work before holds after
    run_keeps_after : (ds : List Done) (p : Plan) (w : Work History) → P ds w → AllowsAfter ds p w → P (ds ++ trail p w) (run historic p w)
    run_keeps_after ds rest w h a = subst (λ x. P x w) (sym (append-nil ds)) h
    run_keeps_after ds (act r) w h a = keeps ds r w h a
    run_keeps_after ds (both p q) w h a =
        let then : P (ds ++ trail p w) (run historic p w) = run_keeps_after ds p w h a.0 in
        subst (λ x. P x (run historic q (run historic p w))) (append_assoc ds (trail p w) (trail q (run historic p w)))
        (run_keeps_after (ds ++ trail p w) q (run historic p w) then (a.1 then))
    run_keeps_after ds (asks f) w h a = run_keeps_after ds (f (answers_of w.state)) w h a
    run_keeps_after ds (replying f) w h a =
        let none : P ds (record w { replies = [] }) = forgets ds w h in run_keeps_after ds (f w.replies) (record w { replies = [] }) none (a none)

    trail_might : (ds : List Done) (p : Plan) (w : Work History) → P ds w → AllowsAfter ds p w → AllMight ds (trail p w)
    trail_might ds rest w h a = tt
    trail_might ds (act r) w h a = ((h, a), tt)
    trail_might ds (both p q) w h a =
        let then : P (ds ++ trail p w) (run historic p w) = run_keeps_after ds p w h a.0 in
        might_append ds (trail p w) (trail q (run historic p w)) (trail_might ds p w h a.0)
        (trail_might (ds ++ trail p w) q (run historic p w) then (a.1 then))
    trail_might ds (asks f) w h a = trail_might ds (f (answers_of w.state)) w h a
    trail_might ds (replying f) w h a =
        let none : P ds (record w { replies = [] }) = forgets ds w h in trail_might ds (f w.replies) (record w { replies = [] }) none (a none)

    -- each rule that a plan does might be done once those before it were done
    pub all_might : (p : Plan) (w : Work History) → P [] w → AllowsAfter [] p w → AllByRecursion (IsAt (trail p w)) (trail p w)
    all_might p w h a = each_might (trail p w) [] (trail p w) refl (trail_might [] p w h a)
