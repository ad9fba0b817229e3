use Rattle.std.proofs.Common.{rules}
use Rattle.someip_world_rules.specs.exchanges.CleanReuse.{IsVerdictOn}
use Rattle.someip_world.proofs.world_run.run.Goals as goal

pub returns-clause-safe_among_liars : goal.returns-clause-safe_among_liars
returns-clause-safe_among_liars g c =
    let judged : IsVerdictOn c.args.setup.now.nodes c.args.steps.now c.in_ok-lines.lines.items c.in_ok-verdict.verdict = search rules in
    c.runs_are_safe_by_their_verdict.ensures.among_liars c.in_ok-lines.lines.items c.in_ok-verdict.verdict judged

pub returns-clause-safe : goal.returns-clause-safe
returns-clause-safe g c none =
    let judged : IsVerdictOn c.args.setup.now.nodes c.args.steps.now c.in_ok-lines.lines.items c.in_ok-verdict.verdict = search rules in
    c.runs_are_safe_by_their_verdict.ensures.without_liars none c.in_ok-lines.lines.items c.in_ok-verdict.verdict judged

pub returns-clause-counted_once : goal.returns-clause-counted_once
returns-clause-counted_once g c =
    let judged : IsVerdictOn c.args.setup.now.nodes c.args.steps.now c.in_ok-lines.lines.items c.in_ok-verdict.verdict = search rules in
    c.runs_that_count_once_are_clean.ensures.verdict c.in_ok-lines.lines.items c.in_ok-verdict.verdict judged
