use Rattle.std.proofs.Common.{sym, ◌∙◌}
use Rattle.someip_rpc.proofs.OpenLemmas.{len-requests}
use Rattle.someip_rpc.proofs.open.OpenRequests.len.Goals as goal

pub returns : goal.returns
returns c = rw (← c.self.view_is) (c.len.ensures.len ∙ sym (len-requests c.self.inside.held c.self.inside.index.entries c.len.ensures.ordered))
