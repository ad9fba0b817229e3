use Rattle.std.proofs.Common.{◌++◌, map, refl}
use Rattle.someip_wire.specs.View.{view}
use Rattle.someipctl_io.specs.declared.form.Form.TheVariants.{Json}
use Rattle.someipctl_io.specs.ToldItems.{head_from, value_lines, whole_told}
use Rattle.someipctl_io.specs.ToldLines.{line_text}
use Rattle.someipctl_io.specs.ToldViews.{view_field}
use Rattle.someipctl_io.proofs.SendingLemmas.{OnErr-any, Sends-trans, Stops-after, Stops-before}
use Rattle.someipctl_show.specs.ShownForms.{AreWholeObjects}
use Rattle.someipctl_show.proofs.FormLemmas.{some_whole_objects}
use Rattle.someipctl_show.proofs.KindLemmas.{stops_none}
use Rattle.someipctl_show.proofs.value_lines.put_whole_objects.Goals as goal

pub returns-in_err-faulty-clause-err : goal.returns-in_err-faulty-clause-err
returns-in_err-faulty-clause-err g c =
    let types = c.args.values.now.types.now in
    let head = head_from (map view_field c.args.origin.now) c.args.k in
    OnErr-any c.from_residual.result (stops_none (AreWholeObjects types head (view c.args.message.now)) _ _ (some_whole_objects types head (view c.args.message.now)))

pub returns-in_err-put_whole_object-clause-err : goal.returns-in_err-put_whole_object-clause-err
returns-in_err-put_whole_object-clause-err g c =
    let head = head_from (map view_field c.args.origin.now) c.args.k in
    let line = line_text Json head (whole_told (view c.args.message.now)) in
    let value = value_lines Json head c.make_fields.new.self.fields.items in
    OnErr-any c.from_residual-in_err-put_whole_object.result
    (line ++ value, (c.make_fields.new.self.fields.items, c.in_ok-faulty.ensures.fields, refl), Stops-before _ _ _ line value c.in_err-put_whole_object.ensures.err)

pub returns-in_err-put_value_object-clause-err : goal.returns-in_err-put_value_object-clause-err
returns-in_err-put_value_object-clause-err g c =
    let head = head_from (map view_field c.args.origin.now) c.args.k in
    let line = line_text Json head (whole_told (view c.args.message.now)) in
    let value = value_lines Json head c.make_fields.new.self.fields.items in
    OnErr-any c.from_residual-in_err-put_value_object.result (
      line ++ value,
      (c.make_fields.new.self.fields.items, c.in_ok-faulty.ensures.fields, refl),
      Stops-after _ _ _ _ _ line value c.in_ok-put_whole_object.ensures.ok (rw c.deref.ensures.value at c.in_err-put_value_object.ensures.err),
    )

pub returns-clause-ok : goal.returns-clause-ok
returns-clause-ok g c =
    let head = head_from (map view_field c.args.origin.now) c.args.k in
    let line = line_text Json head (whole_told (view c.args.message.now)) in
    let value = value_lines Json head c.make_fields.new.self.fields.items in (
      line ++ value,
      (c.make_fields.new.self.fields.items, c.in_ok-faulty.ensures.fields, refl),
      Sends-trans _ _ _ _ _ _ line value c.in_ok-put_whole_object.ensures.ok (rw c.deref.ensures.value at c.in_ok-put_value_object.ensures.ok),
    )
