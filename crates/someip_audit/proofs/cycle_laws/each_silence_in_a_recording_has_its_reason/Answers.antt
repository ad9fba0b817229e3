use Rattle.std.proofs.Common.{[], refl}
use Rattle.someip_audit.specs.Audits.{audit_begun}
use Rattle.someip_audit.proofs.AskedLemmas.{all_reasoned}
use Rattle.someip_audit.proofs.RunLemmas.{run_is}
use Rattle.someip_audit.proofs.cycle_laws.each_silence_in_a_recording_has_its_reason.Goals as goal

pub returns : goal.returns
returns c = λ rules bench ports learns begins now datagrams state after steps told runs fits drains.
    all_reasoned rules.judged steps now told state after (run_is rules.judged datagrams (audit_begun rules bench ports learns begins) state [] steps runs refl) fits drains
