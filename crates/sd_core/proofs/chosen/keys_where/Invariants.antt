use Rattle.std.proofs.Common.{◌≡◌, ◌++◌, true, map, filter}
use Rattle.std.specs.List.{list_any}
use Rattle.someip_tables.specs.Tables.{AnswersPairAs}
use Rattle.sd_core.proofs.chosen.keys_where.Given as goal

-- with those that are left the list has all, and what passes among those that are left passes among all
abbrev pub invariant-loop-key : goal.invariant-loop-key
invariant-loop-key g l =
    (p : _) → AnswersPairAs g.F.Fn l.test p
    → (l.keys.items ++ map (λ e. e.0) (filter (λ e. p e.0 e.1) l.key-iterator) ≡ map (λ e. e.0) (filter (λ e. p e.0 e.1) l.table.entries))
    × (list_any (λ e. p e.0 e.1) l.key-iterator ≡ true → list_any (λ e. p e.0 e.1) l.table.entries ≡ true)
