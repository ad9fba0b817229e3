use Rattle.std.proofs.Common.{◌≡◌, ◌++◌, false, filter, drop}
use Rattle.std.specs.FinMap as finite
use Rattle.std.specs.Option.{option_map_or}
use Rattle.someip_tables.specs.Tables.{map_of, AnswersPairAs}
use Rattle.sd_core.proofs.among.keys_among.Given as goal

-- with those that are left the list has all that pass
abbrev pub invariant-loop-key : goal.invariant-loop-key
invariant-loop-key g l =
    (p : _) → AnswersPairAs g.F.Fn l.test p
    → l.keys.items ++ filter (λ q. option_map_or (p q) (finite.get (map_of g.K.Ord.cmp l.table.entries) q) false) (drop l.key-index l.those)
    ≡ filter (λ q. option_map_or (p q) (finite.get (map_of g.K.Ord.cmp l.table.entries) q) false) l.those
