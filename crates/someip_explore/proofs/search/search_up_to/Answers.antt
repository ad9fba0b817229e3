use Rattle.std.proofs.Common.{arith, subst, sym, ◌∙◌}
use Rattle.someip_explore.specs.declared.search.Explored.TheVariants as explored
use Rattle.someip_explore.specs.Search.{longer_by}
use Rattle.someip_explore.specs.Searching.{Comes, Explores, search_all}
use Rattle.someip_explore.specs.Watching.{HearsOf, judged_at, judged_in}
use Rattle.someip_explore.proofs.WatchLemmas.{watched_until}
use Rattle.someip_explore.proofs.SearchMeaning.{found_there, full_there, passed_on}
use Rattle.someip_explore.proofs.search.search_up_to.Goals as goal

-- src/search.rt:123:34
pub returns-in-Found-clause-explored : goal.returns-in-Found-clause-explored
returns-in-Found-clause-explored g c =
    let judge = g.G.Game.comes_to c.args.game.now in
    let next = g.G.Game.goes_on c.args.game.now in
    let old = c.args.steps.now.items in
    let here = c.loop-count.invariant in
    found_there next judge old c.args.most c.loop-count.count c.loop-count.judged here.within here.so_far c.args.longest (omega (arith, c.loop-count-test.true)) c.in-Found.now
    c.search_behind.new.steps.items
    (subst (λ e. Comes (search_all judge c.args.most (longer_by next c.loop-count.count old) c.loop-count.judged) e old c.search_behind.new.steps.items) c.in-Found.is
    (subst (λ xs. Comes (search_all judge c.args.most (longer_by next c.loop-count.count xs) c.loop-count.judged) c.in_ok-now.field-0 xs c.search_behind.new.steps.items) here.same
    (subst (λ game. Comes (search_all (g.G.Game.comes_to game) c.args.most (longer_by (g.G.Game.goes_on game) c.loop-count.count c.loop-count.steps.items) c.loop-count.judged) c.in_ok-now.field-0
    c.loop-count.steps.items c.search_behind.new.steps.items) here.kept c.in_ok-now.ensures.ended)))

-- src/search.rt:124:28
pub returns-in-Full-clause-explored : goal.returns-in-Full-clause-explored
returns-in-Full-clause-explored g c =
    let judge = g.G.Game.comes_to c.args.game.now in
    let next = g.G.Game.goes_on c.args.game.now in
    let old = c.args.steps.now.items in
    let here = c.loop-count.invariant in
    subst (λ n. Explores next judge c.args.longest c.args.most old c.search_behind.new.steps.items (explored.Stopped n)) (sym here.covered)
    (full_there next judge old c.args.most c.loop-count.count c.loop-count.judged here.within here.so_far c.args.longest (omega (arith, c.loop-count-test.true)) c.requires.most
    c.search_behind.new.steps.items c.search_behind.new.steps.items
    (subst (λ e. Comes (search_all judge c.args.most (longer_by next c.loop-count.count old) c.loop-count.judged) e old c.search_behind.new.steps.items) c.in-Full.is
    (subst (λ xs. Comes (search_all judge c.args.most (longer_by next c.loop-count.count xs) c.loop-count.judged) c.in_ok-now.field-0 xs c.search_behind.new.steps.items) here.same
    (subst (λ game. Comes (search_all (g.G.Game.comes_to game) c.args.most (longer_by (g.G.Game.goes_on game) c.loop-count.count c.loop-count.steps.items) c.loop-count.judged) c.in_ok-now.field-0
    c.loop-count.steps.items c.search_behind.new.steps.items) here.kept c.in_ok-now.ensures.ended))))

-- src/search.rt:120:5
pub loop-count-preserved : goal.loop-count-preserved
loop-count-preserved g c =
    let judge = g.G.Game.comes_to c.args.game.now in
    let next = g.G.Game.goes_on c.args.game.now in
    let old = c.args.steps.now.items in
    let here = c.loop-count.invariant in
    let on =
    passed_on next judge old c.args.most c.loop-count.count c.loop-count.judged here.within here.so_far c.in-Passed.now c.search_behind.new.steps.items
    (subst (λ e. Comes (search_all judge c.args.most (longer_by next c.loop-count.count old) c.loop-count.judged) e old c.search_behind.new.steps.items) c.in-Passed.is
    (subst (λ xs. Comes (search_all judge c.args.most (longer_by next c.loop-count.count xs) c.loop-count.judged) c.in_ok-now.field-0 xs c.search_behind.new.steps.items) here.same
    (subst (λ game. Comes (search_all (g.G.Game.comes_to game) c.args.most (longer_by (g.G.Game.goes_on game) c.loop-count.count c.loop-count.steps.items) c.loop-count.judged) c.in_ok-now.field-0
    c.loop-count.steps.items c.search_behind.new.steps.items) here.kept c.in_ok-now.ensures.ended))) in
    record {
      kept = c.in_ok-now.ensures.kept ∙ here.kept;
      same = on.2;
      within = on.1;
      covered = omega arith;
      so_far = on.0;
      watched = subst (λ e. HearsOf g.W.Watcher.hears (judged_at c.args.most e) c.args.watcher.now c.search_behind.new.watcher) c.in-Passed.is
          (c.in_ok-now.ensures.watched c.args.watcher.now here.watched);
    }

pub returns-in-Found-clause-watched : goal.returns-in-Found-clause-watched
returns-in-Found-clause-watched g c =
    subst (λ e. HearsOf g.W.Watcher.hears (judged_at c.args.most e) c.args.watcher.now c.search_behind.new.watcher) c.in-Found.is
    (c.in_ok-now.ensures.watched c.args.watcher.now c.loop-count.invariant.watched)

pub returns-in-Full-clause-watched : goal.returns-in-Full-clause-watched
returns-in-Full-clause-watched g c =
    subst (λ e. HearsOf g.W.Watcher.hears (judged_at c.args.most e) c.args.watcher.now c.search_behind.new.watcher) c.in-Full.is
    (c.in_ok-now.ensures.watched c.args.watcher.now c.loop-count.invariant.watched)

pub returns-in_err-now-clause-watched : goal.returns-in_err-now-clause-watched
returns-in_err-now-clause-watched g c =
    watched_until g.W.Watcher.hears (judged_in c.args.most) c.from_residual.result c.args.watcher.now c.search_behind.new.watcher c.from_residual.ensures.0
    (c.in_err-now.ensures.watched c.args.watcher.now c.loop-count.invariant.watched)
