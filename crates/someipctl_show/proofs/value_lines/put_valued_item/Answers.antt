use Rattle.someip_wire.specs.View.{view_item}
use Rattle.someipctl_io.proofs.SendingLemmas.{OnErr-any}
use Rattle.someipctl_show.specs.ShownText.{IsItemText}
use Rattle.someipctl_show.proofs.KindLemmas.{stops_none}
use Rattle.someipctl_show.proofs.SomeTexts.{some_item}
use Rattle.someipctl_show.proofs.value_lines.put_valued_item.Goals as goal

pub returns-in_err-is_value_faulty-clause-err : goal.returns-in_err-is_value_faulty-clause-err
returns-in_err-is_value_faulty-clause-err g c =
    let types = c.args.values.now.types.now in
    let item = view_item c.args.shown.now.item.now in
    OnErr-any c.from_residual.result (stops_none (IsItemText types c.args.shown.now.k c.args.shown.now.place item) _ _ (some_item types c.args.shown.now.k c.args.shown.now.place item))
