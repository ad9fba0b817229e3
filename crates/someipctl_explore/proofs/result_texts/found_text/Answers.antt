use Rattle.someipctl_explore.proofs.TextLemmas.{found_spelled}
use Rattle.someipctl_explore.proofs.result_texts.found_text.Goals as goal

pub returns-clause-read : goal.returns-clause-read
returns-clause-read c = found_spelled c.args.done c.args.judged c.args.schedule.now c.ranges.judged.fits c.in_ok-steps_are_whole.ensures
