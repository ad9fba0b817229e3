use Rattle.someipctl_show.specs.ShowResult.{view_services}
use Rattle.someipctl_show.proofs.FormLemmas.{refuses_plain, shows_plain}
use Rattle.std.proofs.lemmas.Result.{IfErr-weaker, IfOk-weaker}
use Rattle.someipctl_show.proofs.show.show.Goals as goal

pub returns-clause-shown : goal.returns-clause-shown
returns-clause-shown g c = IfOk-weaker c.show_in.result _ _ (λ o s. shows_plain (g.R.Read.remaining c.args.reader.now) (view_services c.args.services) c.args.types.now o (g.W.Write.contents c.args.writer.now) (g.W.Write.contents c.show_in.new.writer) s) c.show_in.ensures.shown

pub returns-clause-refused : goal.returns-clause-refused
returns-clause-refused g c = IfErr-weaker c.show_in.result _ _ (λ e r. refuses_plain (g.R.Read.remaining c.args.reader.now) (view_services c.args.services) c.args.types.now e (g.W.Write.contents c.args.writer.now) (g.W.Write.contents c.show_in.new.writer) r) c.show_in.ensures.refused
