use Rattle.std.proofs.Common.{rules}
use Rattle.std.specs.Prelude.{codes}
use Rattle.clap.specs.Words.{new_app}
use Rattle.someipctl_words.specs.CommandLine.{required_many, valued}
use Rattle.someipctl_words.proofs.CommandLineLemmas.{shape_from_app}
use Rattle.someipctl_words.proofs.grammar.audit_definition.Goals as goal

pub returns-clause-shape : goal.returns-clause-shape
returns-clause-shape c =
    let ports = c.taking.ensures.app (new_app (codes "audit")) (valued (codes "ports")) (search rules) c.valued_option-ports.ensures.rule in
    let second = c.add_json-second.ensures.app _ (c.add_findings.ensures.app _ (c.add_settings-first.ensures.app _ ports)) in
    let chosen = c.add_packets.ensures.app _ (c.add_choice.ensures.app _ second) in
    shape_from_app _ _ (c.taking-2.ensures.app _ (required_many (codes "file")) chosen c.files.ensures.rule)

pub returns-clause-local : goal.returns-clause-local
returns-clause-local c =
    c.taking-2.ensures.local (c.add_packets.ensures.local (c.add_choice.ensures.local (c.add_json-second.ensures.local (c.add_findings.ensures.local (c.add_settings-first.ensures.local (c.taking.ensures.local (search rules)))))))
