use Rattle.std.proofs.Common.{ap, sym, ◌∙◌, true≢false, map, ℕ, Option}
use Rattle.std.specs.Option.{is_some}
use Rattle.toml.specs.View.{view}
use Rattle.someipctl_show.proofs.about_types.UnknownLemmas.{number_there}
use Rattle.someipctl_show.proofs.types.unknown.refuse_unknown_of_tables.Goals as goal

pub returns-in_default-number_of-clause-ok : goal.returns-in_default-number_of-clause-ok
returns-in_default-number_of-clause-ok c =
    let there = c.in-Some.ensures.1 in
    let none = c.in_default-number_of.ensures in
    absurd (true≢false (sym there ∙ sym (number_there _ 1 (map view c.args.tables.now)) ∙ sym (ap (λ (o : Option ℕ). is_some o) none)))
