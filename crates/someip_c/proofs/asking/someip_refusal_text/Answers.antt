use Rattle.std.proofs.Common.{subst}
use Rattle.someip_c_node.specs.Outcomes.{refused_by}
use Rattle.someip_c_node.specs.Putting.{PutsText}
use Rattle.someip_c.proofs.HandleLemmas.{tells_of}
use Rattle.someip_c.proofs.asking.someip_refusal_text.Goals as goal

pub returns : goal.returns
returns c = tells_of (λ told. PutsText (refused_by c.args.outcome) c.args.buffer.now told c.put_text.new.buffer c.put_text.new.length) c.number.result c.put_text.result c.number.ensures
    (subst (λ text. PutsText text c.args.buffer.now c.put_text.result c.put_text.new.buffer c.put_text.new.length) c.refusal_of.ensures c.put_text.ensures)
