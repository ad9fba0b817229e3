use Rattle.std.proofs.Common.{[], refl}
use Rattle.someip_audit.specs.Audits.{audit_begun}
use Rattle.someip_audit.proofs.AskedLemmas.{asked_is}
use Rattle.someip_audit.proofs.CycleStepLemmas.{seen_is}
use Rattle.someip_audit.proofs.RunLemmas.{run_is}
use Rattle.someip_audit.proofs.cycle_laws.an_audit_takes_these_steps.Goals as goal

pub returns-clause-asked : goal.returns-clause-asked
returns-clause-asked c = asked_is

pub returns-clause-seen : goal.returns-clause-seen
returns-clause-seen c = seen_is

pub returns-clause-all : goal.returns-clause-all
returns-clause-all c = λ rules bench ports learns begins datagrams state steps runs. run_is rules.judged datagrams (audit_begun rules bench ports learns begins) state [] steps runs refl
