use Rattle.someip_explore.specs.Moves.{next_steps}
use Rattle.someip_explore.proofs.TriedLemmas.{from_tried, tried}
use Rattle.someip_explore.proofs.laws.every_schedule_is_tried.Goals as goal

pub returns-clause-all : goal.returns-clause-all
returns-clause-all c nodes moves count beginning more within goes = tried (next_steps nodes moves) count beginning more within goes

pub returns-clause-only : goal.returns-clause-only
returns-clause-only c nodes moves count beginning schedule inside = from_tried (next_steps nodes moves) count beginning schedule inside
