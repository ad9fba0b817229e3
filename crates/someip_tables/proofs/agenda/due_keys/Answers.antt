use Rattle.std.proofs.Common.{◌≡◌, false, sym, ◌∙◌, nat_le, rules}
use Rattle.std.specs.List.{list_any}
use Rattle.std.proofs.lemmas.List.Sorted.{IsPermutation-refl}
use Rattle.someip_tables.proofs.AgendaKeys.{none_at_end}
use Rattle.someip_tables.proofs.agenda.due_keys.Goals as goal

pub returns-then-not-has_come-clause-due : goal.returns-then-not-has_come-clause-due
returns-then-not-has_come-clause-due g c =
    let none : list_any (λ due. nat_le due.at c.args.now) c.args.dues.now ≡ false = sym c.has_come.ensures ∙ search rules in
    rw (c.new.ensures.items, none_at_end (λ due. nat_le due.at c.args.now) c.args.dues.now none) (IsPermutation-refl _)
