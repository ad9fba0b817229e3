use Rattle.std.proofs.Common.{◌∙◌, rules}
use Rattle.someip_tables.specs.Tables.{map_of}
use Rattle.someip_tables.proofs.Entries.{retain_keys_retain}
use Rattle.someip_tables.proofs.deadline_map.DeadlineMap.retain_keys.Goals as goal

pub returns : goal.returns
returns g c = λ test answers.
    c.retain.ensures (λ key _. test key) (λ key value answer said. search (rules, answers))
    ∙ retain_keys_retain g.met.K.Ord.total g.met.K.Key.exact (map_of g.K.Ord.cmp c.args.self.now) test
