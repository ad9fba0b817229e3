use Rattle.std.proofs.Common.{rules}
use Rattle.std.specs.Prelude.{codes}
use Rattle.clap.specs.Words.{new_app}
use Rattle.someipctl_words.specs.CommandLine.{flag, required, valued}
use Rattle.someipctl_words.proofs.CommandLineLemmas.{shape_from_app}
use Rattle.someipctl_words.proofs.explore_words.explore_definition.Goals as goal

pub returns-clause-shape : goal.returns-clause-shape
returns-clause-shape c =
    let first = c.taking-first.ensures.app (new_app (codes "explore")) (valued (codes "after")) (search rules) c.valued_option-after.ensures.rule in
    let second = c.taking-second.ensures.app _ (valued (codes "steps")) first c.valued_option-steps.ensures.rule in
    let most = c.taking.ensures.app _ (valued (codes "most")) second c.valued_option-most.ensures.rule in
    let third = c.add_conditions-third.ensures.app _ most in
    let fourth = c.taking-fourth.ensures.app _ (flag (codes "progress")) third c.flag-progress.ensures.rule in
    let fifth = c.taking-fifth.ensures.app _ (required (codes "setup")) fourth c.needed.ensures.rule in
    let sixth = c.taking-sixth.ensures.app _ (required (codes "moves")) fifth c.needed-2.ensures.rule in
    shape_from_app _ _ (c.taking-2.ensures.app _ (required (codes "goal")) sixth c.needed-3.ensures.rule)

pub returns-clause-local : goal.returns-clause-local
returns-clause-local c =
    c.taking-2.ensures.local (c.taking-sixth.ensures.local (c.taking-fifth.ensures.local (c.taking-fourth.ensures.local (c.add_conditions-third.ensures.local (c.taking.ensures.local (c.taking-second.ensures.local (c.taking-first.ensures.local (search rules))))))))
