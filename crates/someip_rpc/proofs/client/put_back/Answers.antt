use Rattle.std.proofs.Common.{◌∙◌}
use Rattle.someip_tables.specs.Tables.{map_of}
use Rattle.someip_tables.proofs.Trees.{map_of-remove}
use Rattle.someip_rpc.specs.Ids.{message_cmp}
use Rattle.someip_rpc.specs.IdOrder.{messages_total, exact_messages}
use Rattle.someip_rpc.proofs.PendingLemmas.{on_ok_since, undone, undone_new}
use Rattle.someip_rpc.proofs.client.put_back.Goals as goal

pub returns-in-None : goal.returns-in-None
returns-in-None c before session was is =
    map_of-remove messages_total exact_messages c.args.sessions.now.entries c.remove.new.self.entries c.args.message c.remove.ensures.updates.0
    ∙ undone_new messages_total exact_messages (map_of message_cmp c.args.sessions.now.entries) before c.args.message session (was ∙ c.in-None.is) is

pub returns-in-Some : goal.returns-in-Some
returns-in-Some c before session was is =
    on_ok_since c.put_value.result c.put_value.ensures.ok c.put_value.ensures.absent c.requires
    ∙ undone messages_total exact_messages (map_of message_cmp c.args.sessions.now.entries) before c.args.message c.in-Some.last session (was ∙ c.in-Some.is) is
