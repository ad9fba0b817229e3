use Rattle.std.proofs.Common.{◌≡◌, length, drop, [], ap, sym, ◌∙◌, rules}
use Rattle.someip_wire.specs.Reading.{items_from}
use Rattle.someip_wire.proofs.DatagramLemmas.{left_none, left_message, left_fault}
use Rattle.someip_wire.proofs.datagram.MessagesIterator.next.Goals as goal

pub returns-then-self-clause-steps : goal.returns-then-self-clause-steps
returns-then-self-clause-steps c =
    let s = c.self.inside in
    let none : items_from s.place (drop s.place s.datagram.now) ≡ [] = rw c.if-self.true (left_none s.datagram.now) in
    (sym c.self.view_is ∙ none, sym c.self.view_is ∙ none)

pub returns-in-Ok-clause-steps : goal.returns-in-Ok-clause-steps
returns-in-Ok-clause-steps c =
    sym c.self.view_is
    ∙ left_message c.self.inside.datagram.now c.self.inside.place _ _ (search rules) c.in-Ok.ensures.none c.in-Ok.ensures.message c.in-Ok.ensures.end.0

pub returns-in-Ok-clause-goes : goal.returns-in-Ok-clause-goes
returns-in-Ok-clause-goes c = let shorter = ap length (returns-in-Ok-clause-steps c) in search rules

pub returns-in-Err-clause-steps : goal.returns-in-Err-clause-steps
returns-in-Err-clause-steps c =
    sym c.self.view_is ∙ left_fault c.self.inside.datagram.now c.self.inside.place _ (search rules) c.in-Err.ensures.fault

pub returns-in-Err-clause-goes : goal.returns-in-Err-clause-goes
returns-in-Err-clause-goes c = let shorter = ap length (returns-in-Err-clause-steps c) in search rules
