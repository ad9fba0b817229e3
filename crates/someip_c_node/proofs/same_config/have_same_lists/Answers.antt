use Rattle.std.proofs.Common.{◌∙◌, sym}
use Rattle.someip_c_node.proofs.SameLemmas.{same_lists}
use Rattle.someip_c_node.proofs.same_config.have_same_lists.Goals as goal

pub returns : goal.returns
returns c = λ same. same_lists c.args.a.now.entries c.args.b.now.entries (sym c.eq.ensures ∙ same)
