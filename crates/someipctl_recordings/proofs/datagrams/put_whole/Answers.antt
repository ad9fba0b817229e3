use Rattle.std.proofs.Common.{◌++◌, [], refl}
use Rattle.std.specs.Prelude.{string_bytes}
use Rattle.someip_wire.specs.View.{view}
use Rattle.someipctl_io.specs.Lines.{whole_line}
use Rattle.someipctl_io.proofs.SendingLemmas.{OnErr-any, Sends-trans, Stops-after, Stops-before}
use Rattle.someipctl_show.proofs.KindLemmas.{stops_none}
use Rattle.someipctl_io.specs.declared.form.Form.TheVariants.{Plain}
use Rattle.someipctl_recordings.specs.RecordedText.{IsWholeText}
use Rattle.someipctl_recordings.proofs.SomeRecorded.{some_whole}
use Rattle.someipctl_recordings.proofs.datagrams.put_whole.Goals as goal

pub returns-in_err-faulty-clause-err : goal.returns-in_err-faulty-clause-err
returns-in_err-faulty-clause-err g c =
    let types = c.args.values.now.types.now in
    OnErr-any c.from_residual.result (stops_none (IsWholeText Plain [] types c.args.k (view c.args.message)) _ _ (some_whole Plain [] types c.args.k (view c.args.message)))

pub returns-in_err-put_whole_line-clause-err : goal.returns-in_err-put_whole_line-clause-err
returns-in_err-put_whole_line-clause-err g c =
    let line = whole_line c.args.k (view c.args.message) in
    let value = string_bytes c.make.new.self.line in
    OnErr-any c.from_residual-in_err-put_whole_line.result
    (line ++ value, (value, c.in_ok-faulty.ensures.line, refl), Stops-before _ _ _ line value c.in_err-put_whole_line.ensures.err)

pub returns-in_err-put-clause-err : goal.returns-in_err-put-clause-err
returns-in_err-put-clause-err g c =
    let line = whole_line c.args.k (view c.args.message) in
    let value = string_bytes c.make.new.self.line in
    OnErr-any c.from_residual-in_err-put.result
    (line ++ value, (value, c.in_ok-faulty.ensures.line, refl), Stops-after _ _ _ _ _ line value c.in_ok-put_whole_line.ensures.ok (rw c.as_bytes.ensures.value at c.in_err-put.ensures.err))

pub returns-clause-ok : goal.returns-clause-ok
returns-clause-ok g c =
    let line = whole_line c.args.k (view c.args.message) in
    let value = string_bytes c.make.new.self.line in
    (line ++ value, (value, c.in_ok-faulty.ensures.line, refl), Sends-trans _ _ _ _ _ _ line value c.in_ok-put_whole_line.ensures.ok (rw c.as_bytes.ensures.value at c.in_ok-put.ensures.ok))
