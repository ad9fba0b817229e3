use Rattle.audit_traffic.proofs.about_calls.ExcerptLemmas.{tells_apart}
use Rattle.audit_traffic.proofs.calls.laws.excerpts_tell_payloads_apart.Goals as goal

pub returns : goal.returns
returns c = tells_apart
