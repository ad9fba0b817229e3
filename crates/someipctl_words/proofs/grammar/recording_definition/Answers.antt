use Rattle.std.proofs.Common.{rules}
use Rattle.std.specs.Prelude.{codes}
use Rattle.clap.specs.Words.{new_app}
use Rattle.someipctl_words.specs.CommandLine.{required_many, valued}
use Rattle.someipctl_words.proofs.CommandLineLemmas.{shape_from_app}
use Rattle.someipctl_words.proofs.grammar.recording_definition.Goals as goal

pub returns-clause-shape : goal.returns-clause-shape
returns-clause-shape c =
    let ports = c.taking.ensures.app (new_app (codes "recording")) (valued (codes "ports")) (search rules) c.valued_option-ports.ensures.rule in
    let filtered = c.add_filters-filtered.ensures.app _ (c.add_json.ensures.app _ (c.add_heads-first.ensures.app _ ports)) in
    let chosen = c.add_packets.ensures.app _ (c.add_choice-second.ensures.app _ filtered) in
    let whole = c.add_whole-third.ensures.app _ chosen in
    shape_from_app _ _ (c.taking-2.ensures.app _ (required_many (codes "file")) whole c.files.ensures.rule)

pub returns-clause-local : goal.returns-clause-local
returns-clause-local c =
    c.taking-2.ensures.local (c.add_whole-third.ensures.local (c.add_packets.ensures.local (c.add_choice-second.ensures.local (c.add_filters-filtered.ensures.local (c.add_json.ensures.local (c.add_heads-first.ensures.local (c.taking.ensures.local (search rules))))))))
