use Rattle.audit_sd.proofs.about_receivers.HistoryLemmas.{full_by}
use Rattle.audit_sd.proofs.about_receivers.FullLemmas.{entry_noted, event_noted, entry_told, event_told}
use Rattle.audit_sd.proofs.receivers.laws.full_is_told_once.Goals as goal

pub returns-clause-notes : goal.returns-clause-notes
returns-clause-notes c = entry_noted

pub returns-clause-notes_event : goal.returns-clause-notes_event
returns-clause-notes_event c = event_noted

pub returns-clause-stays : goal.returns-clause-stays
returns-clause-stays c = full_by

pub returns-clause-tells : goal.returns-clause-tells
returns-clause-tells c = entry_told

pub returns-clause-tells_event : goal.returns-clause-tells_event
returns-clause-tells_event c = event_told
