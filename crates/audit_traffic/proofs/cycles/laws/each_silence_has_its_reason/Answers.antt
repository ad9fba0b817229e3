use Rattle.audit_traffic.proofs.about_cycles.ReasonLemmas.{silence, silences}
use Rattle.audit_traffic.proofs.cycles.laws.each_silence_has_its_reason.Goals as goal

pub returns-clause-first : goal.returns-clause-first
returns-clause-first c = λ limit steps now told fits falls. silence limit steps told fits falls.1

pub returns-clause-all : goal.returns-clause-all
returns-clause-all c = silences
