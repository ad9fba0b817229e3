use Rattle.std.proofs.Common.{rules}
use Rattle.std.specs.Prelude.{codes}
use Rattle.clap.specs.Words.{new_app}
use Rattle.someipctl_words.specs.CommandLine.{flag, valued}
use Rattle.someipctl_words.proofs.CommandLineLemmas.{shape_from_app}
use Rattle.someipctl_words.proofs.grammar.run_definition.Goals as goal

pub returns-clause-shape : goal.returns-clause-shape
returns-clause-shape c =
    let first = c.taking-first.ensures.app (new_app (codes "run")) (valued (codes "expect")) (search rules) c.valued_option-expect.ensures.rule in
    let second = c.taking-second.ensures.app _ (valued (codes "begins")) first c.valued_option-begins.ensures.rule in
    let lines = c.taking.ensures.app _ (flag (codes "lines")) second c.flag-lines.ensures.rule in
    shape_from_app _ _ (c.add_inputs.ensures.app _ (c.add_json-third.ensures.app _ lines))

pub returns-clause-local : goal.returns-clause-local
returns-clause-local c = c.add_inputs.ensures.local (c.add_json-third.ensures.local (c.taking.ensures.local (c.taking-second.ensures.local (c.taking-first.ensures.local (search rules)))))
