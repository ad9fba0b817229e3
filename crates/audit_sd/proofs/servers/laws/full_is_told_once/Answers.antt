use Rattle.audit_sd.proofs.about_servers.HistoryLemmas.{full_noted, full_stays, full_told}
use Rattle.audit_sd.proofs.servers.laws.full_is_told_once.Goals as goal

pub returns-clause-notes : goal.returns-clause-notes
returns-clause-notes c = full_noted

pub returns-clause-stays : goal.returns-clause-stays
returns-clause-stays c = full_stays

pub returns-clause-tells : goal.returns-clause-tells
returns-clause-tells c = full_told
