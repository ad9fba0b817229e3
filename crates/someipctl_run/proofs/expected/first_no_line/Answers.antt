use Rattle.std.proofs.Common.{rules, tests, sym, ◌∙◌}
use Rattle.std.proofs.lemmas.Iterator.Consumers.{YieldsList-turn, YieldsList-end}
use Rattle.std.proofs.lemmas.List.{length_push}
use Rattle.someip_texts.specs.Lines.{lines_of}
use Rattle.someip_texts.proofs.LineLemmas.{YieldsList-lines, next_line}
use Rattle.someipctl_run.proofs.ExpectedLemmas.{AreLines-more, AreLines-bad, AreLines-all}
use Rattle.someipctl_run.proofs.expected.first_no_line.Goals as goal

pub returns-then-is_no_line : goal.returns-then-is_no_line
returns-then-is_no_line c =
    let next = next_line (lines_of c.args.file.now) _ _ _ (YieldsList-turn
    (YieldsList-lines _ c.args.file.now c.split.ensures.rest c.split.ensures.done c.split.ensures.closure
    (λ x b q k. search (rules, tests)) c.enumerate-i-items.ensures.source c.enumerate-i-items.ensures.count
    c.into_iter-i-iterator.ensures.into_iter_gives)
    c.loop-i.yielded _ c.loop-i.yielded_by _ _ (c.in-Some.i, c.in-Some.line) c.in-Some.is c.next.ensures.steps) in
    rw next.0 (sym (AreLines-bad _ _ _ next.1 (sym c.is_no_line.ensures ∙ c.if-is_no_line.true) c.loop-i.invariant))

pub loop-i-preserved : goal.loop-i-preserved
loop-i-preserved c =
    let next = next_line (lines_of c.args.file.now) _ _ _ (YieldsList-turn
    (YieldsList-lines _ c.args.file.now c.split.ensures.rest c.split.ensures.done c.split.ensures.closure
    (λ x b q k. search (rules, tests)) c.enumerate-i-items.ensures.source c.enumerate-i-items.ensures.count
    c.into_iter-i-iterator.ensures.into_iter_gives)
    c.loop-i.yielded _ c.loop-i.yielded_by _ _ (c.in-Some.i, c.in-Some.line) c.in-Some.is c.next.ensures.steps) in
    rw (length_push c.loop-i.yielded (c.in-Some.i, c.in-Some.line))
    (AreLines-more _ _ _ next.1 (sym c.is_no_line.ensures ∙ c.if-is_no_line.false) c.loop-i.invariant)

pub returns : goal.returns
returns c =
    let end = YieldsList-end
    (YieldsList-lines _ c.args.file.now c.split.ensures.rest c.split.ensures.done c.split.ensures.closure
    (λ x b q k. search (rules, tests)) c.enumerate-i-items.ensures.source c.enumerate-i-items.ensures.count
    c.into_iter-i-iterator.ensures.into_iter_gives)
    c.loop-i.yielded _ c.loop-i.yielded_by _ _ c.in-None.is c.next.ensures.steps in
    sym (AreLines-all _ _ end.1 c.loop-i.invariant)
