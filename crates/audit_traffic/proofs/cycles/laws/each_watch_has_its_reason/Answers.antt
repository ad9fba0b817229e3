use Rattle.audit_traffic.proofs.about_cycles.ReasonLemmas.{is_watched, watched_is}
use Rattle.audit_traffic.proofs.cycles.laws.each_watch_has_its_reason.Goals as goal

pub returns : goal.returns
returns c = λ flow watch steps. (watched_is flow watch steps, is_watched flow watch steps)
