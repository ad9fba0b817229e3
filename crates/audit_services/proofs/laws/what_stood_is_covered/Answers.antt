use Rattle.audit_services.proofs.TimelineLemmas.{what_stood_is_covered}
use Rattle.audit_services.proofs.laws.what_stood_is_covered.Goals as goal

pub returns : goal.returns
returns g c = λ changes end now order before. what_stood_is_covered g.V.Ord.cmp g.met.V.Key.exact changes end now order before
