use Rattle.std.proofs.Common.{rules, tests, sym, ◌∙◌, map}
use Rattle.std.proofs.lemmas.Iterator.Consumers.{YieldsList-turn, YieldsList-end}
use Rattle.std.proofs.lemmas.List.{map_push, length_push}
use Rattle.someip_texts.specs.Lines.{lines_of}
use Rattle.someip_texts.proofs.LineLemmas.{YieldsList-lines, next_line}
use Rattle.someipctl_show.specs.VectorLines.{said_by}
use Rattle.someipctl_show.proofs.VectorLemmas.{bad_behind, up_to_nothing, up_to_more, up_to_bad, up_to_end}
use Rattle.someipctl_show.proofs.vectors.read_lines.Goals as goal

pub loop-i-preserved-in-Ok-None : goal.loop-i-preserved-in-Ok-None
loop-i-preserved-in-Ok-None c =
    let next = next_line (lines_of c.args.text.now) _ _ _ (YieldsList-turn
    (YieldsList-lines _ c.args.text.now c.split.ensures.rest c.split.ensures.done c.split.ensures.closure
    (λ x b q k. search (rules, tests)) c.enumerate-i-items.ensures.source c.enumerate-i-items.ensures.count
    c.into_iter-i-iterator.ensures.into_iter_gives)
    c.loop-i.yielded _ c.loop-i.yielded_by _ _ (c.in-Some.i, c.in-Some.line) c.in-Some.is c.next.ensures.steps) in
    let found = rw c.in-Ok-None.field-0-is at c.in-Ok-None.ensures in
    rw (length_push c.loop-i.yielded (c.in-Some.i, c.in-Some.line))
    (up_to_nothing _ _ _ _ next.1 c.loop-i.invariant found.0 found.1)

pub returns-then-not-has_vector-clause-refused : goal.returns-then-not-has_vector-clause-refused
returns-then-not-has_vector-clause-refused c =
    let next = next_line (lines_of c.args.text.now) _ _ _ (YieldsList-turn
    (YieldsList-lines _ c.args.text.now c.split.ensures.rest c.split.ensures.done c.split.ensures.closure
    (λ x b q k. search (rules, tests)) c.enumerate-i-items.ensures.source c.enumerate-i-items.ensures.count
    c.into_iter-i-iterator.ensures.into_iter_gives)
    c.loop-i.yielded _ c.loop-i.yielded_by _ _ (c.in-Some.i, c.in-Some.line) c.in-Some.is c.next.ensures.steps) in
    let found = rw c.in-Ok-Some.field-0-is at c.in-Ok-Some.ensures in
    up_to_bad _ _ _ _ _ next c.loop-i.invariant (bad_behind _ _ _ found.1 found.2 (rw c.deref.ensures.value at (sym c.has_vector.ensures ∙ c.if-not-has_vector.true)))

pub loop-i-preserved : goal.loop-i-preserved
loop-i-preserved c =
    let next = next_line (lines_of c.args.text.now) _ _ _ (YieldsList-turn
    (YieldsList-lines _ c.args.text.now c.split.ensures.rest c.split.ensures.done c.split.ensures.closure
    (λ x b q k. search (rules, tests)) c.enumerate-i-items.ensures.source c.enumerate-i-items.ensures.count
    c.into_iter-i-iterator.ensures.into_iter_gives)
    c.loop-i.yielded _ c.loop-i.yielded_by _ _ (c.in-Some.i, c.in-Some.line) c.in-Some.is c.next.ensures.steps) in
    let found = rw c.in-Ok-Some.field-0-is at c.in-Ok-Some.ensures in
    let has = rw c.deref.ensures.value at (sym c.has_vector.ensures ∙ c.if-not-has_vector.false) in
    rw (c.in_ok-push-in-Ok-Some.ensures.items, map_push said_by c.loop-i.lines.items c.in-Ok-Some.said, length_push c.loop-i.yielded (c.in-Some.i, c.in-Some.line))
    (up_to_more _ _ _ _ _ next.1 c.loop-i.invariant found.0 found.1 found.2 has)

pub returns-in-Err-Bad-clause-refused : goal.returns-in-Err-Bad-clause-refused
returns-in-Err-Bad-clause-refused c =
    let next = next_line (lines_of c.args.text.now) _ _ _ (YieldsList-turn
    (YieldsList-lines _ c.args.text.now c.split.ensures.rest c.split.ensures.done c.split.ensures.closure
    (λ x b q k. search (rules, tests)) c.enumerate-i-items.ensures.source c.enumerate-i-items.ensures.count
    c.into_iter-i-iterator.ensures.into_iter_gives)
    c.loop-i.yielded _ c.loop-i.yielded_by _ _ (c.in-Some.i, c.in-Some.line) c.in-Some.is c.next.ensures.steps) in
    let found = rw c.in-Err-Bad.field-0-is at c.in-Err-Bad.ensures in
    up_to_bad _ _ _ _ (map said_by c.loop-i.lines.items) next c.loop-i.invariant (found (map said_by c.loop-i.lines.items))

pub returns-clause-said : goal.returns-clause-said
returns-clause-said c =
    let end = YieldsList-end
    (YieldsList-lines _ c.args.text.now c.split.ensures.rest c.split.ensures.done c.split.ensures.closure
    (λ x b q k. search (rules, tests)) c.enumerate-i-items.ensures.source c.enumerate-i-items.ensures.count
    c.into_iter-i-iterator.ensures.into_iter_gives)
    c.loop-i.yielded _ c.loop-i.yielded_by _ _ c.in-None.is c.next.ensures.steps in
    up_to_end _ _ _ end.1 c.loop-i.invariant
