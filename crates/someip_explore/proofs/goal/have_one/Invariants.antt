use Rattle.std.proofs.Common.{◌≡◌, drop, map}
use Rattle.std.specs.List.{list_any}
use Rattle.someip_explore.specs.Goals.{some_has}
use Rattle.someip_explore.specs.GoalViews.{words_of}
use Rattle.someip_explore.proofs.goal.have_one.Given as goal

-- what is left decides
abbrev pub invariant-loop-words : goal.invariant-loop-words
invariant-loop-words l =
    list_any (λ words. some_has l.nodes words 1 l.lines) (map words_of (drop l.words-index l.never))
    ≡ list_any (λ words. some_has l.nodes words 1 l.lines) (map words_of l.never)
