use Rattle.std.proofs.Common.{sym, ap, ◌∙◌}
use Rattle.std.specs.Prelude.{Some}
use Rattle.someip_c_node.specs.declared.outcome.Outcome.TheVariants.{Done}
use Rattle.someip_c.proofs.HandleLemmas.{asks, on_lent}
use Rattle.someip_c.specs.Handles.{Asks}
use Rattle.someip_c.proofs.receiving.someip_next_due.Goals as goal

pub returns-in-Some-due-clause-due : goal.returns-in-Some-due-clause-due
returns-in-Some-due-clause-due c = on_lent c.args.handle.now.place.value (Asks c.args.due_ms.now c.in-Some-due.ms) c.number.result c.hold.new.self.place.value c.in-Some.node.value c.deref.result.now Done c.deref.result.now
    c.in-Some.ensures.some c.deref.ensures c.number.ensures (c.hold.ensures ∙ ap Some (sym c.deref.ensures))
    (asks c.args.due_ms.now c.in-Some-due.ms c.deref.result.now c.in-Some-due.ensures.due c.in-Some-due.ensures.failed)
