use Rattle.someip_node_laws.proofs.examples.LimitExampleLemmas.{none_fit, three_do_not, two_fit, two_fit_renewed}
use Rattle.someip_node_laws.proofs.subscriber_laws.limits_by_example.Goals as goal

pub returns-clause-as_many : goal.returns-clause-as_many
returns-clause-as_many c = two_fit

pub returns-clause-renewed : goal.returns-clause-renewed
returns-clause-renewed c = two_fit_renewed

pub returns-clause-one_more : goal.returns-clause-one_more
returns-clause-one_more c = three_do_not

pub returns-clause-passed : goal.returns-clause-passed
returns-clause-passed c = none_fit
