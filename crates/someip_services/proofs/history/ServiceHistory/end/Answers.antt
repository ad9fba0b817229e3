use Rattle.std.proofs.lemmas.Result.{on_ok_weaker}
use Rattle.someip_services.proofs.history.ServiceHistory.end.Goals as goal

pub returns : goal.returns
returns c = on_ok_weaker c.tell_open.result (λ told. record { between = c.pass.new.self; passes = c.in_ok-pass.ensures; ends = told }) c.tell_open.ensures
