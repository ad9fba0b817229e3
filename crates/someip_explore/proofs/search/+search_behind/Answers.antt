use Rattle.std.proofs.Common.{◌≡◌, ◌-◌, length, length-append, arith, vec_len, [], ◌∷◌, ◌++◌, ap, sym, subst, ◌∙◌}
use Rattle.std.specs.Vec.Iter.{into_iter_items}
use Rattle.someip_explore.specs.declared.search.Ended.TheVariants as ends
use Rattle.someip_explore.specs.Search.{longer_by}
use Rattle.someip_explore.specs.Searching.{Comes, search_all}
use Rattle.someip_explore.specs.Watching.{HearsOf, judged_at}
use Rattle.someip_explore.proofs.WatchLemmas.{watched_until}
use Rattle.someip_explore.proofs.SearchMeaning.{within_most}
use Rattle.someip_explore.proofs.SearchLemmas.{ended, of_choices, taken_last, went_on}
use Rattle.someip_explore.proofs.search.+search_behind.Goals as goal

-- src/search.rt:87:22
pub returns-in_default-clause-ended : goal.returns-in_default-clause-ended
returns-in_default-clause-ended g t c =
    let judge = g.G.Game.comes_to c.args.game.now in
    let next = g.G.Game.goes_on c.args.game.now in
    let old = c.args.steps.now.items in
    let rest = into_iter_items c.next-in-loop-step.new.self in
    let pushed : c.push.new.self.items ≡ old ++ c.in-Some.step ∷ [] = c.in_ok-push.ensures.items ∙ ap (λ xs. xs ++ c.in-Some.step ∷ []) c.loop-step.invariant.same in
    subst (λ o. Comes o c.in_ok-ended.ended old c.search_behind.new.steps.items)
    (sym (ap (λ xs. of_choices judge c.args.most next c.args.left old xs c.loop-step.judged) c.in-Some.ensures.steps.0) ∙ c.loop-step.invariant.left)
    (ended judge c.args.most next c.args.left old c.in-Some.step rest c.loop-step.judged c.in_ok-ended.ended c.push.new.self.items old c.search_behind.new.steps.items
    pushed c.in_default.not-Passed
    (subst (λ game. Comes (search_all (g.G.Game.comes_to game) c.args.most (longer_by (g.G.Game.goes_on game) (c.args.left - 1) c.push.new.self.items) c.loop-step.judged) c.in_ok-ended.ended
    c.push.new.self.items c.search_behind.new.steps.items) c.loop-step.invariant.kept c.in_ok-ended.ensures.ended))

pub returns-in_default-clause-kept : goal.returns-in_default-clause-kept
returns-in_default-clause-kept g t c = c.in_ok-ended.ensures.kept ∙ c.loop-step.invariant.kept

pub returns-in_default-clause-watched : goal.returns-in_default-clause-watched
returns-in_default-clause-watched g t c first heard = c.in_ok-ended.ensures.watched first (c.loop-step.invariant.watched first heard)

pub returns-in_err-push-clause-watched : goal.returns-in_err-push-clause-watched
returns-in_err-push-clause-watched g t c first heard =
    watched_until g.W.Watcher.hears (judged_at c.args.most) c.from_residual-in_err-push.result first c.loop-step.watcher c.from_residual-in_err-push.ensures.0 (c.loop-step.judged, c.loop-step.invariant.watched first heard)

pub returns-in_err-ended-clause-watched : goal.returns-in_err-ended-clause-watched
returns-in_err-ended-clause-watched g t c first heard =
    watched_until g.W.Watcher.hears (judged_at c.args.most) c.from_residual-in_err-ended.result first c.search_behind.new.watcher c.from_residual-in_err-ended.ensures.0
    (c.in_err-ended.ensures.watched first (c.loop-step.invariant.watched first heard))

pub returns-clause-watched : goal.returns-clause-watched
returns-clause-watched g t c first heard = c.loop-step.invariant.watched first heard

-- src/search.rt:83:5
pub loop-step-preserved-in-Passed : goal.loop-step-preserved-in-Passed
loop-step-preserved-in-Passed g t c =
    let judge = g.G.Game.comes_to c.args.game.now in
    let next = g.G.Game.goes_on c.args.game.now in
    let old = c.args.steps.now.items in
    let rest = into_iter_items c.next-in-loop-step.new.self in
    let pushed : c.push.new.self.items ≡ old ++ c.in-Some.step ∷ [] = c.in_ok-push.ensures.items ∙ ap (λ xs. xs ++ c.in-Some.step ∷ []) c.loop-step.invariant.same in
    let came : Comes (search_all judge c.args.most (longer_by next (c.args.left - 1) c.push.new.self.items) c.loop-step.judged) (ends.Passed c.in-Passed.now) c.push.new.self.items c.search_behind.new.steps.items =
    subst (λ e. Comes (search_all judge c.args.most (longer_by next (c.args.left - 1) c.push.new.self.items) c.loop-step.judged) e c.push.new.self.items c.search_behind.new.steps.items)
    c.in-Passed.is
    (subst (λ game. Comes (search_all (g.G.Game.comes_to game) c.args.most (longer_by (g.G.Game.goes_on game) (c.args.left - 1) c.push.new.self.items) c.loop-step.judged) c.in_ok-ended.ended
    c.push.new.self.items c.search_behind.new.steps.items) c.loop-step.invariant.kept c.in_ok-ended.ensures.ended) in
    let did =
    went_on judge c.args.most next c.args.left old c.in-Some.step rest c.loop-step.judged c.in-Passed.now c.push.new.self.items c.search_behind.new.steps.items pushed came in
    record {
      kept = c.in_ok-ended.ensures.kept ∙ c.loop-step.invariant.kept;
      within = within_most judge c.args.most (longer_by next (c.args.left - 1) c.push.new.self.items) c.loop-step.judged c.in-Passed.now c.push.new.self.items c.search_behind.new.steps.items c.loop-step.invariant.within came;
      watched = λ first heard. subst (λ e. HearsOf g.W.Watcher.hears (judged_at c.args.most e) first c.search_behind.new.watcher) c.in-Passed.is
          (c.in_ok-ended.ensures.watched first (c.loop-step.invariant.watched first heard));
      same = rw (c.pop-last.ensures.rest, did.1) (taken_last c.args.steps.now.items c.in-Some.step (vec_len c.search_behind.new.steps - 1) (omega (arith, ap length did.1, length-append c.args.steps.now.items (c.in-Some.step ∷ []), c.search_behind.new.steps.ok)));
      left = sym did.0 ∙ sym (ap (λ xs. of_choices judge c.args.most next c.args.left old xs c.loop-step.judged) c.in-Some.ensures.steps.0) ∙ c.loop-step.invariant.left;
    }
