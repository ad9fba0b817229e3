use Rattle.someip_world_rules.proofs.about_exchanges.beginnings.SubscribesBegin.{all_begin, counted_begin, only_begin}
use Rattle.someip_world_rules.proofs.exchanges.laws.subscribes_with_another_counter_begin.Goals as goal

pub returns-clause-counted : goal.returns-clause-counted
returns-clause-counted c = counted_begin

pub returns-clause-only : goal.returns-clause-only
returns-clause-only c = only_begin

pub returns-clause-all : goal.returns-clause-all
returns-clause-all c = all_begin
