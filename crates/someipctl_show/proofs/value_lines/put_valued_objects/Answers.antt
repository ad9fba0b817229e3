use Rattle.std.proofs.Common.{map}
use Rattle.someip_wire.specs.View.{view_item}
use Rattle.someipctl_io.specs.ToldItems.{head_from}
use Rattle.someipctl_io.specs.ToldViews.{view_field}
use Rattle.someipctl_io.proofs.SendingLemmas.{OnErr-any}
use Rattle.someipctl_show.specs.ShownForms.{AreItemObjects}
use Rattle.someipctl_show.proofs.FormLemmas.{some_objects}
use Rattle.someipctl_show.proofs.KindLemmas.{stops_none}
use Rattle.someipctl_show.proofs.value_lines.put_valued_objects.Goals as goal

pub returns-in_err-is_value_faulty-clause-err : goal.returns-in_err-is_value_faulty-clause-err
returns-in_err-is_value_faulty-clause-err g c =
    let types = c.args.values.now.types.now in
    let head = head_from (map view_field c.args.origin.now) c.args.shown.now.k in
    let item = view_item c.args.shown.now.item.now in
    OnErr-any c.from_residual.result (stops_none (AreItemObjects types head c.args.shown.now.place item) _ _ (some_objects types head c.args.shown.now.place item))
