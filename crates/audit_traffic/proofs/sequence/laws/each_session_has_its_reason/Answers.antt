use Rattle.audit_traffic.proofs.about_sequence.ReasonLemmas.{is_missing, missing_is}
use Rattle.audit_traffic.proofs.sequence.laws.each_session_has_its_reason.Goals as goal

pub returns : goal.returns
returns c = λ counting overtake_ms key awaited steps. (missing_is counting overtake_ms key awaited steps, is_missing counting overtake_ms key awaited steps)
