use Rattle.std.proofs.Common.{◌≡◌, Ok, ◌∙◌, ap}
use Rattle.std.proofs.lemmas.Result.{on_ok_weaker, on_err_weaker}
use Rattle.someip_wire.specs.View.{view, view_item}
use Rattle.someipctl_io.specs.Discovery.{view_found, discovery_in}
use Rattle.someipctl_io.proofs.SendingLemmas.{OnErr-any, Sends-trans, Stops-after, Stops-before}
use Rattle.someipctl_io.proofs.RoomLemmas.{room_for}
use Rattle.someipctl_io.proofs.told_items.put_told_item.Goals as goal

pub put_behind_in-requires : goal.put_behind_in-requires
put_behind_in-requires g c =
    let same : view_found c.args.shown.now.found ≡ discovery_in (Ok (view c.in-Ok.message)) = c.requires.found ∙ ap (λ i. discovery_in (view_item i)) c.in-Ok.is in
    room_for (view c.in-Ok.message) c.args.shown.now.place _ (view_found c.args.shown.now.found) same (rw c.in-Ok.is at c.requires.room)

pub returns-in_err-put_message_in-in-Ok-clause-err : goal.returns-in_err-put_message_in-in-Ok-clause-err
returns-in_err-put_message_in-in-Ok-clause-err g c =
    rw c.in-Ok.is (OnErr-any c.from_residual.result (Stops-before _ _ _ _ _ c.in_err-put_message_in-in-Ok.ensures.err))

pub returns-in_err-put_value_line-in-Ok-clause-err : goal.returns-in_err-put_value_line-in-Ok-clause-err
returns-in_err-put_value_line-in-Ok-clause-err g c =
    rw c.in-Ok.is (OnErr-any c.from_residual-in_err-put_value_line-in-Ok.result (Stops-after _ _ _ _ _ _ _ c.in_ok-put_message_in-in-Ok.ensures.ok (Stops-before _ _ _ _ _ c.in_err-put_value_line-in-Ok.ensures.err)))

pub returns-in_ok-put_value_line-in-Ok-clause-ok : goal.returns-in_ok-put_value_line-in-Ok-clause-ok
returns-in_ok-put_value_line-in-Ok-clause-ok g c =
    let same : view_found c.args.shown.now.found ≡ discovery_in (Ok (view c.in-Ok.message)) = c.requires.found ∙ ap (λ i. discovery_in (view_item i)) c.in-Ok.is in
    rw c.in-Ok.is (on_ok_weaker c.put_behind_in.result (λ s. Sends-trans _ _ _ _ _ _ _ _ c.in_ok-put_message_in-in-Ok.ensures.ok (Sends-trans _ _ _ _ _ _ _ _ c.in_ok-put_value_line-in-Ok.ensures.ok s)) (rw same at c.put_behind_in.ensures.ok))

pub returns-in_ok-put_value_line-in-Ok-clause-err : goal.returns-in_ok-put_value_line-in-Ok-clause-err
returns-in_ok-put_value_line-in-Ok-clause-err g c =
    let same : view_found c.args.shown.now.found ≡ discovery_in (Ok (view c.in-Ok.message)) = c.requires.found ∙ ap (λ i. discovery_in (view_item i)) c.in-Ok.is in
    rw c.in-Ok.is (on_err_weaker c.put_behind_in.result (λ s. Stops-after _ _ _ _ _ _ _ c.in_ok-put_message_in-in-Ok.ensures.ok (Stops-after _ _ _ _ _ _ _ c.in_ok-put_value_line-in-Ok.ensures.ok s)) (rw same at c.put_behind_in.ensures.err))
