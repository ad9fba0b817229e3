use Rattle.std.proofs.Common.{ap, ◌∙◌}
use Rattle.someip_world_schedule.specs.Steps.{words_in}
use Rattle.someip_explore.proofs.MoveLemmas.{words_to_first}
use Rattle.someip_explore.proofs.move_reading.line_to_first.Goals as goal

pub returns : goal.returns
returns c = ap words_in c.in_ok-line.ensures.ok ∙ words_to_first c.args.word.now c.args.node.now c.args.code.now c.args.payload.now c.requires
