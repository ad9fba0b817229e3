use Rattle.std.proofs.Common.{refl}
use Rattle.audit_traffic.proofs.about_calls.BookLemmas.{within_room, within_answer, within_either}
use Rattle.audit_traffic.proofs.calls.call_book.CallBook.saw.Goals as goal

pub invariant_of-self : goal.invariant_of-self
invariant_of-self c =
    within_either c.self.inside.rules.limit c.on_request.result c.self.inside.calls _ c.on_request.new.calls c.on_request.ensures.after
    c.on_request.ensures.unchanged
    (λ is. within_room c.self.inside.rules.limit c.self.inside.calls c.on_request.new.calls c.asked-call.result _ _ refl c.self.invariant is)
    c.self.invariant

pub invariant_of-self-in-Response : goal.invariant_of-self-in-Response
invariant_of-self-in-Response c =
    within_either c.self.inside.rules.limit c.on_answer.result c.self.inside.calls _ c.on_answer.new.calls c.on_answer.ensures.after
    c.on_answer.ensures.unchanged
    (λ is. within_answer c.self.inside.rules.limit c.args.now _ c.self.inside.calls c.on_answer.new.calls c.answered-call.result c.self.invariant is)
    c.self.invariant
