use Rattle.std.proofs.Common.{◌≡◌, length, arith, sym, subst}
use Rattle.someip_explore.specs.Exploring.{ExploresTo, judged_count, judgement_of}
use Rattle.someip_explore.specs.GoalViews.{goal_of}
use Rattle.someip_explore.specs.Moves.{next_steps}
use Rattle.someip_explore.specs.Searching.{Explores}
use Rattle.someip_explore.specs.Watching.{HearsOf}
use Rattle.someip_explore.proofs.ExploringLemmas.{explores_by, watched_so}
use Rattle.someip_explore.proofs.WatchLemmas.{watched_until}
use Rattle.someip_explore.proofs.exploring.explore.Goals as goal

pub returns-clause-explored : goal.returns-clause-explored
returns-clause-explored g c =
    let nodes = c.args.setup.now.nodes in
    let moves = c.args.moves.now in
    let aim = goal_of c.args.goal.now in
    let limits = c.args.limits in
    let beginning = c.args.beginning.items in
    let long : c.len.result ≡ length beginning = omega (arith, c.len.ensures, c.args.beginning.ok) in
    subst (ExploresTo nodes moves aim limits beginning) (sym c.exploration_of.ensures)
    (explores_by nodes moves aim limits beginning c.search_up_to.new.steps c.in_ok-explored.explored c.len.result c.steps.result c.schedules.result long c.steps.ensures.is c.schedules.ensures.is
    (subst (λ network. Explores (next_steps network.nodes moves) (judgement_of network.nodes aim c.len.result) c.steps.result c.schedules.result beginning c.search_up_to.new.steps.items
    c.in_ok-explored.explored) c.in_ok-actors.ensures c.in_ok-explored.ensures.explored))

pub returns-clause-watched : goal.returns-clause-watched
returns-clause-watched g c =
    subst (λ found. HearsOf g.W.Watcher.hears (judged_count c.args.limits found) c.args.watcher.now c.search_up_to.new.watcher) (sym c.exploration_of.ensures)
    (watched_so g.W.Watcher.hears c.args.limits c.search_up_to.new.steps c.in_ok-explored.explored c.schedules.result c.args.watcher.now c.search_up_to.new.watcher c.schedules.ensures.is
    c.in_ok-explored.ensures.watched)

pub returns-in_err-explored-clause-watched : goal.returns-in_err-explored-clause-watched
returns-in_err-explored-clause-watched g c =
    watched_until g.W.Watcher.hears (judged_count c.args.limits) c.from_residual-in_err-explored.result c.args.watcher.now c.search_up_to.new.watcher c.from_residual-in_err-explored.ensures.0 c.in_err-explored.ensures.watched
