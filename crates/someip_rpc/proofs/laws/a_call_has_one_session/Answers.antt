use Rattle.someip_rpc.proofs.SessionLemmas.{one_first_free}
use Rattle.someip_rpc.proofs.laws.a_call_has_one_session.Goals as goal

pub returns : goal.returns
returns c = one_first_free
