use Rattle.someip_world_rules.proofs.InjectionLemmas.{all_honest}
use Rattle.someip_world_safety.proofs.subscriptions.AckAlone.{acks_begin_none}
use Rattle.someip_world_safety.proofs.subscriptions.AckLemmas.{acks_say}
use Rattle.someip_world_safety.proofs.subscriptions.AcknowledgedLemmas.{acknowledged_are_safe}
use Rattle.someip_world_safety.proofs.runs.SafeRuns.{acknowledged_without_liars}
use Rattle.someip_world_safety.proofs.subscriptions.StandingLemmas.{subscriptions_are_safe}
use Rattle.someip_world_safety.proofs.laws.subscriptions_were_accepted.Goals as goal

pub returns-clause-honest : goal.returns-clause-honest
returns-clause-honest c nodes configs steps fits own off_group n w le led clean =
    subscriptions_are_safe nodes configs steps own (acks_say nodes configs steps fits off_group own) (acks_begin_none nodes configs steps fits off_group own) n w le led clean

pub returns-clause-without_liars : goal.returns-clause-without_liars
returns-clause-without_liars c nodes configs steps none fits own off_group n w le led clean place h eventgroup peer counter until here is =
    subscriptions_are_safe nodes configs steps own (acks_say nodes configs steps fits off_group own) (acks_begin_none nodes configs steps fits off_group own) n w le led clean place h eventgroup peer
    counter until here is (all_honest nodes configs none peer)

pub returns-clause-told : goal.returns-clause-told
returns-clause-told c nodes configs steps fits own off_group n clean =
    acknowledged_are_safe nodes configs steps own (acks_say nodes configs steps fits off_group own) (acks_begin_none nodes configs steps fits off_group own) n clean

pub returns-clause-told_without_liars : goal.returns-clause-told_without_liars
returns-clause-told_without_liars c nodes configs steps none fits own off_group n clean =
    acknowledged_without_liars nodes configs steps none n
    (acknowledged_are_safe nodes configs steps own (acks_say nodes configs steps fits off_group own) (acks_begin_none nodes configs steps fits off_group own) n clean)
