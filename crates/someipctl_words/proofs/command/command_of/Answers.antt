use Rattle.std.proofs.Common.{map, option_map, sym, ap, ◌∙◌}
use Rattle.someipctl_words.specs.CommandLine.{asked_by_command}
use Rattle.someipctl_words.proofs.CommandLineLemmas.{parsed_asks, parsed_some, refuses_words}
use Rattle.someipctl_words.proofs.command.command_of.Goals as goal

pub unreachable-requires : goal.unreachable-requires
unreachable-requires g c =
    let parse = c.in-Ok.ensures in
    parsed_some _ (map g.S.AsStr.text c.args.words.now) c.in-Ok.matches c.in_ok-definition.ensures parse.matches parse.kinds
    (ap (option_map asked_by_command) (sym c.in-None.is) ∙ c.in_ok-command.ensures)

pub returns-clause-taken : goal.returns-clause-taken
returns-clause-taken g c =
    let parse = c.in-Ok.ensures in
    (parsed_asks _ (map g.S.AsStr.text c.args.words.now) c.in-Ok.matches c.in_ok-definition.ensures parse.matches parse.kinds).1

pub returns-clause-matched : goal.returns-clause-matched
returns-clause-matched g c =
    let parse = c.in-Ok.ensures in
    sym (parsed_asks _ (map g.S.AsStr.text c.args.words.now) c.in-Ok.matches c.in_ok-definition.ensures parse.matches parse.kinds).0 ∙ sym c.in_ok-command.ensures
    ∙ ap (option_map asked_by_command) c.in-Some.is

pub returns-in-Err-clause-refused : goal.returns-in-Err-clause-refused
returns-in-Err-clause-refused g c =
    refuses_words _ (map g.S.AsStr.text c.args.words.now) c.in-Err.error c.line_error.result c.in_ok-definition.ensures c.in-Err.ensures.kinds c.line_error.ensures
