use Rattle.someip_wire.specs.Reading.{items_of}
use Rattle.someip_audit.proofs.LearningLemmas.{items_learnt}
use Rattle.someip_audit.proofs.laws.an_audit_learns_what_a_datagram_names.Goals as goal

pub returns : goal.returns
returns c seen work = items_learnt seen.now seen.origin 0 (items_of seen.bytes) work
