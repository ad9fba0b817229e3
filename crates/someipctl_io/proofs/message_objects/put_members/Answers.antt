use Rattle.std.proofs.Common.{◌∙◌}
use Rattle.std.proofs.lemmas.Result.{on_ok_weaker, on_err_weaker}
use Rattle.someip_wire.specs.View.{view}
use Rattle.someipctl_io.proofs.SendingLemmas.{Sends-as, Stops-as}
use Rattle.someipctl_io.proofs.MessageObjectLemmas.{members-text}
use Rattle.someipctl_io.proofs.message_objects.put_members.Goals as goal

pub returns-clause-ok : goal.returns-clause-ok
returns-clause-ok g c =
    let is = members-text (view c.args.message.now) _ _ _ _ c.ids_members-ids.ensures c.session_members-session.ensures c.interface_members-interface.ensures c.code_members-code.ensures in
    on_ok_weaker c.put_parts.result (Sends-as _ _ _ _ _ _ (c.member_parts-parts.ensures ∙ is)) c.put_parts.ensures.ok

pub returns-clause-err : goal.returns-clause-err
returns-clause-err g c =
    let is = members-text (view c.args.message.now) _ _ _ _ c.ids_members-ids.ensures c.session_members-session.ensures c.interface_members-interface.ensures c.code_members-code.ensures in
    on_err_weaker c.put_parts.result (Stops-as _ _ _ _ _ (c.member_parts-parts.ensures ∙ is)) c.put_parts.ensures.err
