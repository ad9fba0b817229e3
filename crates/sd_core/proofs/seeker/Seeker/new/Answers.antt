use Rattle.sd_core.proofs.SeekLemmas.{no_wants}
use Rattle.sd_core.proofs.seeker.Seeker.new.Goals as goal

pub returns : goal.returns
returns c = no_wants _ c.new.ensures
