use Rattle.someip_c_node.proofs.LineLemmas.{cut_read}
use Rattle.someip_c_node.proofs.acting.step_without_node.Goals as goal

pub returns-in-Some-cut_at_space : goal.returns-in-Some-cut_at_space
returns-in-Some-cut_at_space c = cut_read c.args.line.now c.in-Some.text.now c.in-Some-cut_at_space.word.now c.in-Some-cut_at_space.others.now c.step_of_parts.result c.in-Some.ensures.0 c.in-Some.ensures.1 c.in-Some-cut_at_space.ensures c.step_of_parts.ensures
