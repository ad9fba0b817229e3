use Rattle.someipctl_audit.proofs.OneAudit.{looked_one, tells_one}
use Rattle.someipctl_audit.proofs.laws.a_recording_has_one_audit.Goals as goal

pub returns-clause-told : goal.returns-clause-told
returns-clause-told c asked datagrams reports others one other = tells_one asked datagrams reports others one other

pub returns-clause-looked : goal.returns-clause-looked
returns-clause-looked c asked datagrams reports others one other = looked_one asked datagrams reports others one other
