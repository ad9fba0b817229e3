use Rattle.std.proofs.lemmas.Result.{on_ok_weaker, IfErr-weaker}
use Rattle.someipctl_run.proofs.TraceLemmas.{plain_ran, plain_refuses}
use Rattle.someipctl_run.proofs.running.run_schedule.Goals as goal

pub returns-clause-ran : goal.returns-clause-ran
returns-clause-ran g c = on_ok_weaker c.run_schedule_in_form.result (plain_ran _ _ _ _) c.run_schedule_in_form.ensures.ran

pub returns-clause-refused : goal.returns-clause-refused
returns-clause-refused g c = IfErr-weaker c.run_schedule_in_form.result _ _ (plain_refuses _ _ _ _) c.run_schedule_in_form.ensures.refused
