use Rattle.std.proofs.Common.{◌≡◌, drop}
use Rattle.someip_world_verdict.specs.Judging.{judged, judged_from}
use Rattle.someip_world_verdict.specs.Views.{view_book}
use Rattle.someip_world_verdict.proofs.verdict.judge.Given as goal

-- what is left is judged as all is
abbrev pub invariant-loop-done : goal.invariant-loop-done
invariant-loop-done l =
    judged_from l.nodes l.done (view_book l.ledger) (drop l.done l.steps) l.rest ≡ judged l.nodes l.steps l.lines
