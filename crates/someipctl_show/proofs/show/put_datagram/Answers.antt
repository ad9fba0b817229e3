use Rattle.std.proofs.Common.{refl, sym, rules}
use Rattle.someipctl_show.proofs.ReadingsLemmas.{none_in_empty}
use Rattle.someipctl_io.proofs.SendingLemmas.{OnErr-any}
use Rattle.someipctl_show.proofs.FormLemmas.{empty_text_in, lines_text_in}
use Rattle.someipctl_show.proofs.ShownTextLemmas.{has_fault-empty}
use Rattle.someipctl_show.proofs.KindLemmas.{sends_as, stops_as}
use Rattle.someipctl_show.specs.ShownForms.{AreLinesIn, IsDatagramTextIn, empty_in}
use Rattle.someip_wire.specs.Reading.{items_of}
use Rattle.std.proofs.lemmas.Result.{on_ok_weaker, on_err_weaker}
use Rattle.someipctl_show.proofs.show.put_datagram.Goals as goal

pub returns-in_err-put_empty_in-clause-err : goal.returns-in_err-put_empty_in-clause-err
returns-in_err-put_empty_in-clause-err g c =
    OnErr-any c.from_residual.result (empty_in c.args.form c.args.k, empty_text_in c.args.form c.args.values.now.types.now c.args.k c.args.datagram.now (search rules), c.in_err-put_empty_in.ensures.err)

pub returns-then-is_empty-clause-ok : goal.returns-then-is_empty-clause-ok
returns-then-is_empty-clause-ok g c =
    (empty_in c.args.form c.args.k, empty_text_in c.args.form c.args.values.now.types.now c.args.k c.args.datagram.now (search rules), c.in_ok-put_empty_in.ensures.ok)

pub returns-then-is_empty-clause-faulty : goal.returns-then-is_empty-clause-faulty
returns-then-is_empty-clause-faulty g c = sym (has_fault-empty c.args.values.now.types.now c.args.datagram.now (search rules))

pub returns-clause-ok : goal.returns-clause-ok
returns-clause-ok g c =
    let types = c.args.values.now.types.now in
    on_ok_weaker c.put_items.result
    (sends_as (AreLinesIn c.args.form types c.args.k 0 (items_of c.args.datagram.now)) (IsDatagramTextIn c.args.form types c.args.k c.args.datagram.now) _ _ _ _ (lines_text_in c.args.form types c.args.k c.args.datagram.now (search rules)))
    c.put_items.ensures.ok

pub returns-clause-err : goal.returns-clause-err
returns-clause-err g c =
    let types = c.args.values.now.types.now in
    on_err_weaker c.put_items.result
    (stops_as (AreLinesIn c.args.form types c.args.k 0 (items_of c.args.datagram.now)) (IsDatagramTextIn c.args.form types c.args.k c.args.datagram.now) _ _ _ (lines_text_in c.args.form types c.args.k c.args.datagram.now (search rules)))
    c.put_items.ensures.err

pub returns-then-is_empty-clause-left : goal.returns-then-is_empty-clause-left
returns-then-is_empty-clause-left g c = rw (none_in_empty c.args.datagram.now (search rules)) refl
