use Rattle.std.proofs.lemmas.Result.{IfOk-weaker}
use Rattle.someip_tables.proofs.ExpiredKeys.{keys_are}
use Rattle.someip_tables.proofs.deadline_map.DeadlineMap.expired_keys.Goals as goal

pub returns : goal.returns
returns g c =
    IfOk-weaker c.expired_keys.result _ _
    (λ n is. rw (← c.self.view_is) (keys_are g.met.K.Ord.total g.met.K.Key.exact c.args.now c.self.inside.dues c.self.inside.held n c.self.invariant c.expired_keys.ensures.ordered is))
    c.expired_keys.ensures.collected
