use Rattle.someip_world_safety.proofs.runs.SafeRuns.{events_are_safe, events_without_liars}
use Rattle.someip_world_safety.proofs.laws.events_that_are_handed_up_were_published.Goals as goal

pub returns-clause-honest : goal.returns-clause-honest
returns-clause-honest c nodes configs steps fits n clean = events_are_safe nodes configs steps fits n clean

pub returns-clause-without_liars : goal.returns-clause-without_liars
returns-clause-without_liars c nodes configs steps none fits n clean = events_without_liars nodes configs steps none n (events_are_safe nodes configs steps fits n clean)
