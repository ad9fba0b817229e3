use Rattle.std.proofs.Common.{◌∙◌}
use Rattle.someip_services.proofs.ServiceLemmas.{is_next}
use Rattle.someip_services.proofs.history.ServiceHistory.next_end.Goals as goal

pub returns : goal.returns
returns c =
    rw (c.due_by.ensures, c.earlier-next.ensures, ← c.self.view_is)
    (is_next _ _ _ c.next_due.ensures c.next_due-2.ensures c.args.now)
