use Rattle.std.proofs.Common.{◌≡◌, true, None}
use Rattle.std.specs.BTreeSet.{contains_text}
use Rattle.toml.specs.View.{view}
use Rattle.someipctl_show.specs.types.Judging.{BeginsWith, Judged, KnowsMore, WayFits, way_weight}
use Rattle.someipctl_show.proofs.types.names.judge.Given as goal

abbrev pub invariant-loop-step : goal.invariant-loop-step
invariant-loop-step l = record {
  judged : Judged (view l.types) l.names;
  more : KnowsMore l.initial.names.shapes l.names.shapes;
  way : WayFits (view l.types) l.names.shapes l.way None;
  begins : BeginsWith l.way.path.items l.first;
  opened : contains_text l.way.opened l.first ≡ true;
}

abbrev pub decreases-loop-step : goal.decreases-loop-step
decreases-loop-step l = way_weight (view l.types) l.way
