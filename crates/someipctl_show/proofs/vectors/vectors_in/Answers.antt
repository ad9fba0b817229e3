use Rattle.std.proofs.lemmas.Result.{IfErr-weaker}
use Rattle.someipctl_show.proofs.VerdictFormLemmas.{RefusesVectorsIn-read}
use Rattle.someipctl_show.proofs.vectors.vectors_in.Goals as goal

pub returns-clause-refused : goal.returns-clause-refused
returns-clause-refused g c =
    IfErr-weaker c.judge_vectors_in.result _ _ (λ e r. RefusesVectorsIn-read c.args.form _ _ e _ _ c.in_ok-text.ensures r) (rw c.deref.ensures.value at c.judge_vectors_in.ensures.refused)
