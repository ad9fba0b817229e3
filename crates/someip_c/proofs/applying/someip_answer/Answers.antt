use Rattle.std.proofs.Common.{subst}
use Rattle.someip_node_rules.specs.rules.Inputs as input
use Rattle.someip_c_node.specs.Calls.{Calls}
use Rattle.someip_c.specs.Handles.{reply_of}
use Rattle.someip_c.proofs.HandleLemmas.{on_lent}
use Rattle.someip_c.proofs.applying.someip_answer.Goals as goal

pub returns-in-Some : goal.returns-in-Some
returns-in-Some c = record {
  done = on_lent c.args.handle.now.place.value (Calls (input.Answer c.args.token (reply_of c.args.is_error c.args.code) c.args.payload.now)) c.number.result c.hold.new.self.place.value c.in-Some.node.value c.deref_mut.result.now c.answer-outcome.result c.answer-outcome.new.self
      c.in-Some.ensures.some c.deref_mut.ensures.value c.number.ensures c.hold.ensures
      (subst (λ v. Calls (input.Answer c.args.token v c.args.payload.now) c.deref_mut.result.now c.answer-outcome.result c.answer-outcome.new.self) c.reply.ensures (c.answer-outcome.ensures));
}
