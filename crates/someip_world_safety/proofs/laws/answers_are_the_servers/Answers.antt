use Rattle.someip_world_safety.proofs.runs.SafeRuns.{answers_are_safe, answers_without_liars}
use Rattle.someip_world_safety.proofs.laws.answers_are_the_servers.Goals as goal

pub returns-clause-honest : goal.returns-clause-honest
returns-clause-honest c nodes configs steps fits own offers n clean = answers_are_safe nodes configs steps fits n clean own offers

pub returns-clause-without_liars : goal.returns-clause-without_liars
returns-clause-without_liars c nodes configs steps none fits own offers n clean =
    answers_without_liars nodes configs steps none n (answers_are_safe nodes configs steps fits n clean own offers)
