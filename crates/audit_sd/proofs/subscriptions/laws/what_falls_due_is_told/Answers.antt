use Rattle.audit_sd.proofs.about_subscriptions.DueLemmas.{own, first, kept, all}
use Rattle.audit_sd.proofs.subscriptions.laws.what_falls_due_is_told.Goals as goal

pub returns-clause-own : goal.returns-clause-own
returns-clause-own c = own

pub returns-clause-first : goal.returns-clause-first
returns-clause-first c = first

pub returns-clause-kept : goal.returns-clause-kept
returns-clause-kept c = kept

pub returns-clause-all : goal.returns-clause-all
returns-clause-all c = all
