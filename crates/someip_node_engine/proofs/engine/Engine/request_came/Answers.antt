use Rattle.std.proofs.Common.{sym}
use Rattle.std.proofs.lemmas.Result.{on_ok_weaker}
use Rattle.someip_node_engine.proofs.MessageLemmas.{request_met}
use Rattle.someip_node_engine.proofs.engine.Engine.request_came.Goals as goal

pub returns-in_ok-arrived-in-Some-clause-work : goal.returns-in_ok-arrived-in-Some-clause-work
returns-in_ok-arrived-in-Some-clause-work g c =
    on_ok_weaker c.give_arrived.result
    (λ gives. rw (← c.self.view_is)
    (request_met _ c.arrive.new.server c.args.giving.now.outputs.items _ _ c.args.instance c.in-Some.service.now c.args.from c.args.header.now _ c.in_ok-arrived-in-Some.arrived (sym c.in-Some.ensures.value) (rw c.is_up-is_up.ensures at c.in_ok-arrived-in-Some.ensures.becomes) c.in_ok-arrived-in-Some.ensures.waits gives))
    c.give_arrived.ensures
