use Rattle.someip_explore.proofs.OneVerdict.{one_verdict}
use Rattle.someip_explore.proofs.laws.one_schedule_has_one_verdict.Goals as goal

pub returns : goal.returns
returns c nodes steps lines a b is one other = one_verdict nodes steps lines is a b one other
