use Rattle.std.proofs.Common.{Some}
use Rattle.std.proofs.lemmas.Result.{IfErr-weaker, IfOk-weaker}
use Rattle.someipctl_show.proofs.VerdictFormLemmas.{judges_plain, refuses_plain}
use Rattle.someipctl_show.proofs.vectors.judge_vectors.Goals as goal

pub returns-clause-judged : goal.returns-clause-judged
returns-clause-judged g c = IfOk-weaker c.judge_vectors_in.result _ _ (λ o j. judges_plain (Some c.args.text.now) o (g.W.Write.contents c.args.writer.now) (g.W.Write.contents c.judge_vectors_in.new.writer) j) c.judge_vectors_in.ensures.judged

pub returns-clause-refused : goal.returns-clause-refused
returns-clause-refused g c = IfErr-weaker c.judge_vectors_in.result _ _ (λ e r. refuses_plain (Some c.args.text.now) e (g.W.Write.contents c.args.writer.now) (g.W.Write.contents c.judge_vectors_in.new.writer) r) c.judge_vectors_in.ensures.refused
