use Rattle.sd_wire.proofs.encoding.EncodingLemmas.{same_option-Decides}
use Rattle.sd_wire.proofs.laws.options_are_told_by_their_numbers.Goals as goal

pub returns : goal.returns
returns c = same_option-Decides
