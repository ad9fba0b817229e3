use Rattle.std.proofs.Common.{◌≡◌, true, ap, ◌∙◌, refl, [], ◌++◌, unwrap_or}
use Rattle.std.specs.Option.{is_some}
use Rattle.std.proofs.lemmas.Result.{on_ok_weaker}
use Rattle.someip_reassembly.specs.SegmentOffers.{message_of}
use Rattle.someip_tp.specs.RoomParts.{view_part}
use Rattle.someip_reassembly.proofs.PartialLemmas.{message_appended}
use Rattle.someip_tp.proofs.reserved_memory.PoolLemmas.{held_below}
use Rattle.someip_tp.proofs.pool.part.RoomPart.append_message.Goals as goal

pub returns-clause-ok : goal.returns-clause-ok
returns-clause-ok c =
    let part = (view_part c.self.inside).entry.1 in
    let whole : is_some (message_of part) ≡ true = ap (λ v. is_some (message_of v.entry.1)) c.self.view_is ∙ c.requires in
    on_ok_weaker c.append_front.result
    (λ h. message_appended part _ _ _ refl whole (held_below c.self.inside c.self.invariant) h ∙ ap (λ v. c.args.bytes.now.items ++ unwrap_or (message_of v.entry.1) []) c.self.view_is)
    c.append_front.ensures.ok
