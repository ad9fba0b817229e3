use Rattle.audit_sd.proofs.about_receivers.BeginLemmas.{leaves_all}
use Rattle.audit_sd.proofs.receivers.laws.what_begins_and_ends_none_leaves_all.Goals as goal

pub returns : goal.returns
returns c = leaves_all
