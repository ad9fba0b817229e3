use Rattle.std.proofs.Common.{rules}
use Rattle.std.specs.Prelude.{codes}
use Rattle.clap.specs.Words.{new_app}
use Rattle.someipctl_words.specs.CommandLine.{required_many, valued}
use Rattle.someipctl_words.proofs.CommandLineLemmas.{shape_from_app}
use Rattle.someipctl_words.proofs.report_words.services_definition.Goals as goal

pub returns-clause-shape : goal.returns-clause-shape
returns-clause-shape c =
    let ports = c.taking.ensures.app (new_app (codes "services")) (valued (codes "ports")) (search rules) c.valued_option-ports.ensures.rule in
    let service = c.taking-2.ensures.app _ (valued (codes "service")) (c.add_json-first.ensures.app _ ports) c.valued_option-service.ensures.rule in
    let chosen = c.add_packets.ensures.app _ (c.add_choice-second.ensures.app _ service) in
    shape_from_app _ _ (c.taking-3.ensures.app _ (required_many (codes "file")) chosen c.files.ensures.rule)

pub returns-clause-local : goal.returns-clause-local
returns-clause-local c =
    c.taking-3.ensures.local (c.add_packets.ensures.local (c.add_choice-second.ensures.local (c.taking-2.ensures.local (c.add_json-first.ensures.local (c.taking.ensures.local (search rules))))))
