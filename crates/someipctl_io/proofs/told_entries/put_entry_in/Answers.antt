use Rattle.std.proofs.Common.{Some}
use Rattle.std.proofs.lemmas.Result.{on_ok_weaker, on_err_weaker}
use Rattle.sd_wire.specs.contents.Values.{view_read}
use Rattle.someipctl_io.specs.ToldLines.{begin_text, end_text}
use Rattle.someipctl_io.specs.ToldViews.{view_head}
use Rattle.someipctl_io.specs.ToldItems.{head_fields, head_in, head_name, more_fields}
use Rattle.someipctl_io.proofs.ObjectLemmas.{fields-line}
use Rattle.someipctl_io.proofs.SendingLemmas.{OnErr-any, Sends-as, Sends-trans, Stops-after, Stops-as, Stops-before}
use Rattle.someipctl_io.proofs.told_entries.put_entry_in.Goals as goal

pub returns-in_err-put_entry_begin-clause-err : goal.returns-in_err-put_entry_begin-clause-err
returns-in_err-put_entry_begin-clause-err g c =
    let form = c.args.head.now.form in
    let entry = view_read c.args.entry.now in
    let name = head_name (head_in entry) in
    let line = fields-line form (begin_text form (view_head c.args.head.now) name (Some name)) (end_text form) (head_fields (head_in entry)) (more_fields entry) in
    OnErr-any c.from_residual.result (Stops-as _ _ _ _ _ line (Stops-before _ _ _ _ _ (rw c.head_of.ensures at c.in_err-put_entry_begin.ensures.err)))

pub returns-clause-ok : goal.returns-clause-ok
returns-clause-ok g c =
    let form = c.args.head.now.form in
    let entry = view_read c.args.entry.now in
    let name = head_name (head_in entry) in
    let line = fields-line form (begin_text form (view_head c.args.head.now) name (Some name)) (end_text form) (head_fields (head_in entry)) (more_fields entry) in
    on_ok_weaker c.put_entry_end.result (λ s. Sends-as _ _ _ _ _ _ line (Sends-trans _ _ _ _ _ _ _ _ (rw c.head_of.ensures at c.in_ok-put_entry_begin.ensures.ok) s)) c.put_entry_end.ensures.ok

pub returns-clause-err : goal.returns-clause-err
returns-clause-err g c =
    let form = c.args.head.now.form in
    let entry = view_read c.args.entry.now in
    let name = head_name (head_in entry) in
    let line = fields-line form (begin_text form (view_head c.args.head.now) name (Some name)) (end_text form) (head_fields (head_in entry)) (more_fields entry) in
    on_err_weaker c.put_entry_end.result (λ s. Stops-as _ _ _ _ _ line (Stops-after _ _ _ _ _ _ _ (rw c.head_of.ensures at c.in_ok-put_entry_begin.ensures.ok) s)) c.put_entry_end.ensures.err
