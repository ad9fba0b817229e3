use Rattle.someip_explore.proofs.TriedLemmas.{bad_on}
use Rattle.someip_explore.proofs.laws.bad_beginnings_stay_bad.Goals as goal

pub returns : goal.returns
returns c nodes beginning more error is = bad_on nodes beginning more error is
