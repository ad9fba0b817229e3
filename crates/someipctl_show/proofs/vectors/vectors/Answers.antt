use Rattle.std.proofs.lemmas.Result.{IfErr-weaker, IfOk-weaker}
use Rattle.someipctl_show.proofs.VerdictFormLemmas.{judges_plain, refuses_plain}
use Rattle.someipctl_show.proofs.vectors.vectors.Goals as goal

pub returns-clause-judged : goal.returns-clause-judged
returns-clause-judged g c = IfOk-weaker c.vectors_in.result _ _ (λ o j. judges_plain (g.R.Read.remaining c.args.reader.now) o (g.W.Write.contents c.args.writer.now) (g.W.Write.contents c.vectors_in.new.writer) j) c.vectors_in.ensures.judged

pub returns-clause-refused : goal.returns-clause-refused
returns-clause-refused g c = IfErr-weaker c.vectors_in.result _ _ (λ e r. refuses_plain (g.R.Read.remaining c.args.reader.now) e (g.W.Write.contents c.args.writer.now) (g.W.Write.contents c.vectors_in.new.writer) r) c.vectors_in.ensures.refused
