use Rattle.std.proofs.Common.{rules}
use Rattle.std.specs.Prelude.{codes}
use Rattle.clap.specs.Words.{new_app}
use Rattle.someipctl_words.proofs.CommandLineLemmas.{shape_from_app}
use Rattle.someipctl_words.proofs.grammar.chart_definition.Goals as goal

pub returns-clause-shape : goal.returns-clause-shape
returns-clause-shape c =
    shape_from_app _ _ (c.add_inputs.ensures.app (new_app (codes "chart")) (search rules))
