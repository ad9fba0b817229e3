use Rattle.std.proofs.Common.{refl}
use Rattle.std.proofs.lemmas.Bool.{le-ltb, lt-ltb}
use Rattle.someip_rpc.proofs.laws.too_long_comes_before_not_subscribed.Goals as goal

pub returns-clause-too_long : goal.returns-clause-too_long
returns-clause-too_long c = λ rules subscriber limit event size belongs above. rw (belongs, lt-ltb limit size above) refl

pub returns-clause-not_subscribed : goal.returns-clause-not_subscribed
returns-clause-not_subscribed c = λ rules subscriber limit event size belongs fits ends. rw (belongs, le-ltb limit size fits, ends) refl
