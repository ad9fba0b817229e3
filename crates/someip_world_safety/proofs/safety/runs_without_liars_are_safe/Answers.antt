use Rattle.someip_world_rules.proofs.InjectionLemmas.{all_honest}
use Rattle.someip_world_safety.proofs.runs.SafeRuns.{acknowledged_without_liars, answers_without_liars, events_without_liars}
use Rattle.someip_world_safety.proofs.safety.runs_without_liars_are_safe.Goals as goal

pub returns-clause-answers : goal.returns-clause-answers
returns-clause-answers c none configs n are clean =
    answers_without_liars c.args.setup.now.nodes configs c.args.steps.now none n (c.runs_are_safe.ensures.answers configs n are clean)

pub returns-clause-events : goal.returns-clause-events
returns-clause-events c none configs n are clean =
    events_without_liars c.args.setup.now.nodes configs c.args.steps.now none n (c.runs_are_safe.ensures.events configs n are clean)

pub returns-clause-acknowledged : goal.returns-clause-acknowledged
returns-clause-acknowledged c none configs n are clean =
    acknowledged_without_liars c.args.setup.now.nodes configs c.args.steps.now none n (c.runs_are_safe.ensures.acknowledged configs n are clean)

pub returns-clause-subscriptions : goal.returns-clause-subscriptions
returns-clause-subscriptions c none configs n w are le led clean place h eventgroup peer counter until here is =
    c.runs_are_safe.ensures.subscriptions configs n w are le led clean place h eventgroup peer counter until here is (all_honest c.args.setup.now.nodes configs none peer)

pub returns-clause-publications : goal.returns-clause-publications
returns-clause-publications c none = c.runs_are_safe.ensures.publications

pub returns-clause-publications_to_one : goal.returns-clause-publications_to_one
returns-clause-publications_to_one c none = c.runs_are_safe.ensures.publications_to_one

pub returns-clause-offers : goal.returns-clause-offers
returns-clause-offers c none configs n are w le led place h instance lasting here known =
    c.runs_are_safe.ensures.offers configs n are w le led place h instance lasting here known (all_honest c.args.setup.now.nodes configs none lasting.value.peer)
