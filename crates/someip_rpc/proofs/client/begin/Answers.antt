use Rattle.std.proofs.Common.{ap, ◌∙◌}
use Rattle.std.specs.FinMap as finite
use Rattle.someip_tables.proofs.MapLaws.{get-insert_own}
use Rattle.someip_rpc.specs.IdOrder.{messages_total, exact_messages}
use Rattle.someip_rpc.proofs.PendingLemmas.{pending_few}
use Rattle.someip_rpc.proofs.client.begin.Goals as goal

pub put_back-requires : goal.put_back-requires
put_back-requires c = λ none.
    let there = ap (λ m. finite.get m c.args.call.message) c.in_ok-put_value.ensures.ok ∙ get-insert_own messages_total exact_messages _ _ _ in
    cc

pub returns-in-Ok-clause-few : goal.returns-in-Ok-clause-few
returns-in-Ok-clause-few c = pending_few c.args.call.kind _ _ _ c.args.now _ _ c.requires.place c.requires.few c.in-Ok.ensures.ok
