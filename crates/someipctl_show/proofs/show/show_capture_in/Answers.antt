use Rattle.std.proofs.Common.{refl}
use Rattle.std.proofs.lemmas.Result.{err_from_is_err_and}
use Rattle.someipctl_show.specs.ShowResult.{view_services}
use Rattle.someipctl_show.proofs.ShownTextLemmas.{bytes_of_each}
use Rattle.someipctl_show.proofs.ShowResultLemmas.{says}
use Rattle.someipctl_show.proofs.FormLemmas.{refuses_print_in}
use Rattle.someipctl_show.proofs.show.show_capture_in.Goals as goal

pub returns-in_err-outcome-clause-refused : goal.returns-in_err-outcome-clause-refused
returns-in_err-outcome-clause-refused g c =
    let p = err_from_is_err_and c.from_residual-in_err-outcome.result c.from_residual-in_err-outcome.ensures.1 in
    rw (p.1, p.2)
    (refuses_print_in c.args.form (view_services c.args.services) c.args.types.now c.args.text.now c.in_ok-datagrams.datagrams.items c.in_err-outcome.field-0.0 _ _ c.in_ok-datagrams.ensures.found
    (rw c.new-values.ensures at c.in_err-outcome.ensures.memory) (rw (c.deref-2.ensures.value, c.keep_asked.ensures, c.new-values.ensures) at c.in_err-outcome.ensures.err))

pub returns-clause-shown : goal.returns-clause-shown
returns-clause-shown g c = record {
  capture = c.args.text.now;
  left = refl;
  datagrams = bytes_of_each c.in_ok-datagrams.datagrams.items;
  says = says c.args.text.now c.in_ok-datagrams.datagrams.items c.in_ok-datagrams.ensures.found;
  text = c.in_ok-outcome.ensures.ok.0;
  shows = rw (c.deref-2.ensures.value, c.keep_asked.ensures, c.new-values.ensures) at c.in_ok-outcome.ensures.ok.1;
  wrote = c.in_ok-outcome.ensures.ok.2;
  tells = rw (c.deref-2.ensures.value, c.keep_asked.ensures, c.new-values.ensures) at c.in_ok-outcome.ensures.outcome;
}
