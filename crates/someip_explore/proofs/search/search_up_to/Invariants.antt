use Rattle.std.proofs.Common.{◌≡◌, ◌-◌, ◌≤◌}
use Rattle.someip_explore.specs.Watching.{HearsOf}
use Rattle.someip_explore.proofs.SearchMeaning.{SoFar}
use Rattle.someip_explore.proofs.search.search_up_to.Given as goal

-- the steps and the game are as they were, no schedule that is shorter reaches, and the watcher heard of those that were judged
abbrev pub invariant-loop-count : goal.invariant-loop-count
invariant-loop-count g l = record {
  kept : l.game ≡ l.fn.game;
  same : l.steps.items ≡ l.fn.steps.items;
  within : l.judged ≤ l.most;
  covered : l.covered ≡ l.count - 1;
  so_far : SoFar (g.G.Game.goes_on l.fn.game) (g.G.Game.comes_to l.fn.game) l.fn.steps.items l.count l.judged;
  watched : HearsOf g.W.Watcher.hears l.judged l.fn.watcher l.watcher;
}
