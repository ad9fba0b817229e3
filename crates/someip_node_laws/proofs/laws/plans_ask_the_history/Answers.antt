use Rattle.std.proofs.Common.{sym}
use Rattle.someip_node_rules.proofs.histories.Shown.{run_shown}
use Rattle.someip_node_laws.proofs.laws.plans_ask_the_history.Goals as goal

pub returns : goal.returns
returns c = λ plan w. sym (run_shown plan w)
