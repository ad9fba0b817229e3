use Rattle.std.proofs.Common.{rules}
use Rattle.std.specs.Prelude.{codes}
use Rattle.clap.specs.Words.{new_app}
use Rattle.someipctl_words.specs.CommandLine.{required}
use Rattle.someipctl_words.proofs.CommandLineLemmas.{shape_from_app}
use Rattle.someipctl_words.proofs.grammar.show_definition.Goals as goal

pub returns-clause-shape : goal.returns-clause-shape
returns-clause-shape c =
    let filters = c.add_filters-filtered.ensures.app (new_app (codes "show")) (search rules) in
    let json = c.add_json.ensures.app _ filters in
    shape_from_app _ _ (c.taking.ensures.app _ (required (codes "capture")) json c.explained-capture.ensures.rule)

pub returns-clause-local : goal.returns-clause-local
returns-clause-local c = c.taking.ensures.local (c.add_json.ensures.local (c.add_filters-filtered.ensures.local (search rules)))
