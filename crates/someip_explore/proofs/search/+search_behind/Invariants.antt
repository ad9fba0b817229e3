use Rattle.std.proofs.Common.{◌≡◌, ◌≤◌}
use Rattle.std.specs.Vec.Iter.{into_iter_items}
use Rattle.someip_explore.specs.Search.{longer_by}
use Rattle.someip_explore.specs.Searching.{search_all}
use Rattle.someip_explore.specs.Watching.{HearsOf}
use Rattle.someip_explore.proofs.SearchLemmas.{of_choices}
use Rattle.someip_explore.proofs.search.+search_behind.Given as goal

abbrev pub decreases-search_behind : goal.decreases-search_behind
decreases-search_behind g l = l.left

-- the steps and the game are as they were, the choices that are left make what all make, and the watcher heard of those that were judged
abbrev pub invariant-loop-step : goal.invariant-loop-step
invariant-loop-step g l = record {
  kept : l.game ≡ l.fn.game;
  same : l.steps.items ≡ l.fn.steps.items;
  left : of_choices (g.G.Game.comes_to l.fn.game) l.most (g.G.Game.goes_on l.fn.game) l.left l.fn.steps.items (into_iter_items l.step-iterator) l.judged
      ≡ search_all (g.G.Game.comes_to l.fn.game) l.most (longer_by (g.G.Game.goes_on l.fn.game) l.left l.fn.steps.items) l.fn.judged;
  within : l.judged ≤ l.most;
  watched : (first : g.row.W.Denot) → HearsOf g.W.Watcher.hears l.fn.judged first l.fn.watcher → HearsOf g.W.Watcher.hears l.judged first l.watcher;
}
