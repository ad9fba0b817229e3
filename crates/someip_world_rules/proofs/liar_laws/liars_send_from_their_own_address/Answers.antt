use Rattle.someip_world_rules.proofs.InjectionLemmas.{apart, injected_by_liar, of_liar, own_address}
use Rattle.someip_world_rules.proofs.liar_laws.liars_send_from_their_own_address.Goals as goal

pub returns-clause-from : goal.returns-clause-from
returns-clause-from c = of_liar

pub returns-clause-own : goal.returns-clause-own
returns-clause-own c = own_address

pub returns-clause-place : goal.returns-clause-place
returns-clause-place c = injected_by_liar

pub returns-clause-apart : goal.returns-clause-apart
returns-clause-apart c = apart
