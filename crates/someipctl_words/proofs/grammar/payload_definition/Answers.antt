use Rattle.std.proofs.Common.{rules}
use Rattle.std.specs.Prelude.{codes}
use Rattle.clap.specs.Words.{new_app}
use Rattle.someipctl_words.specs.CommandLine.{required}
use Rattle.someipctl_words.proofs.CommandLineLemmas.{shape_from_app}
use Rattle.someipctl_words.proofs.grammar.payload_definition.Goals as goal

pub returns-clause-shape : goal.returns-clause-shape
returns-clause-shape c =
    let first = c.taking-first.ensures.app (new_app (codes "payload")) (required (codes "shape")) (search rules) c.needed.ensures.rule in
    shape_from_app _ _
    (c.taking.ensures.app _ (required (codes "hex")) first c.needed-2.ensures.rule)

pub returns-clause-local : goal.returns-clause-local
returns-clause-local c = c.taking.ensures.local (c.taking-first.ensures.local (search rules))
