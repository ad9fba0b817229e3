use Rattle.std.proofs.Common.{◌≡◌, ◌∙◌}
use Rattle.std.proofs.lemmas.Result.{IfOk-weaker}
use Rattle.clap.specs.Words.{found_of, subcommand_rows_of}
use Rattle.std.specs.Prelude.{option_map}
use Rattle.someipctl_words.specs.CommandLine.{asked_by_command, asked_by_entered}
use Rattle.someipctl_words.proofs.CommandLineLemmas.{entered_asks, entered_is}
use Rattle.someipctl_words.proofs.command.matched.Goals as goal

pub returns-in-Some : goal.returns-in-Some
returns-in-Some c =
    let same = entered_asks c.args.matches.now c.in-Some.name.now (found_of c.in-Some.rest.now)
    (entered_is c.args.matches.now c.in-Some.name.now _ c.in-Some.ensures.name c.in-Some.ensures.rows) in
    IfOk-weaker c.matched_under.result _ (λ command. option_map asked_by_command command ≡ asked_by_entered (subcommand_rows_of c.args.matches.now)) (λ command is. is ∙ same) c.matched_under.ensures
