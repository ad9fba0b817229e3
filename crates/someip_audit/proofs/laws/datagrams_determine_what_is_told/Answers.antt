use Rattle.someip_audit.proofs.NextLemmas.{audits_one}
use Rattle.someip_audit.proofs.laws.datagrams_determine_what_is_told.Goals as goal

pub returns-clause-told : goal.returns-clause-told
returns-clause-told c last state after other datagrams reports others one another = (audits_one last datagrams state reports others after other one another).0

pub returns-clause-left : goal.returns-clause-left
returns-clause-left c last state after other datagrams reports others one another = (audits_one last datagrams state reports others after other one another).1
