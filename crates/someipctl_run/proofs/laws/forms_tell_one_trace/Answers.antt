use Rattle.someipctl_run.proofs.LawLemmas.{words_before}
use Rattle.someipctl_run.proofs.TraceLemmas.{plain_trace}
use Rattle.someipctl_run.proofs.laws.forms_tell_one_trace.Goals as goal

pub returns : goal.returns
returns c = λ text nodes lines verdict. (words_before text nodes lines verdict, plain_trace text nodes lines verdict)
