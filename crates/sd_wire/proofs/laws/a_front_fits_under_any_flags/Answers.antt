use Rattle.sd_wire.proofs.fronts.FrontLemmas.{fits_with}
use Rattle.sd_wire.proofs.laws.a_front_fits_under_any_flags.Goals as goal

pub returns : goal.returns
returns c = fits_with
