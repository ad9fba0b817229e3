use Rattle.audit_services.proofs.HistoryLemmas.{a_book_tells_timelines}
use Rattle.audit_services.proofs.laws.a_book_tells_timelines.Goals as goal

pub returns : goal.returns
returns g c = λ limit events told book tells full key. a_book_tells_timelines g.met.K.Ord.total g.met.K.Key.exact g.P.Ord.cmp g.V.Ord.cmp g.K.Placed.places limit events told book tells full key
