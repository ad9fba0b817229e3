use Rattle.std.proofs.Common.{◌≡◌, true, false, not, ap, Some, rules, tests}
use Rattle.std.proofs.lemmas.Iterator.Consumers.{YieldsList-turn, YieldsList-end}
use Rattle.std.proofs.lemmas.List.{map_push, length_push}
use Rattle.someip_texts.specs.Lines.{lines_of}
use Rattle.someip_texts.proofs.LineLemmas.{YieldsList-lines, next_line, HasRead-skipped, HasRead-more, HasRead-bad, HasRead-all}
use Rattle.someipctl_explore.specs.MovesTexts.{move_in}
use Rattle.someip_world_schedule.specs.Schedule.{is_read, is_skipped}
use Rattle.someip_world_schedule.proofs.ScheduleLemmas.{HasNumbered-skipped, HasNumbered-read, HasNumbered-all}
use Rattle.someipctl_explore.proofs.moves_reading.numbered_moves.Goals as goal

pub loop-i-preserved : goal.loop-i-preserved
loop-i-preserved c =
    let next = next_line (lines_of c.args.text.now) _ _ _ (YieldsList-turn
    (YieldsList-lines _ c.args.text.now c.split.ensures.rest c.split.ensures.done c.split.ensures.closure
    (λ x b q k. search (rules, tests)) c.enumerate-i-items.ensures.source c.enumerate-i-items.ensures.count
    c.into_iter-i-iterator.ensures.into_iter_gives)
    c.loop-i.yielded _ c.loop-i.yielded_by _ _ (c.in-Some.i, c.in-Some.line) c.in-Some.is c.next.ensures.steps) in
    let told = rw c.in-Ok-Some.field-0-is at c.in-Ok-Some.ensures in
    let more = map_push (λ s. Some s) c.loop-i.moves.items c.in-Ok-Some.one in
    let read : is_read c.in-Some.line.now ≡ true = ap not told.0 in (
      rw (c.in_ok-push.ensures.items, more, length_push c.loop-i.yielded (c.in-Some.i, c.in-Some.line)) (HasRead-more is_skipped move_in _ _ _ _ _ next.1 told.0 told.1 c.loop-i.invariant.0),
      rw (c.in_ok-push-2.ensures.items, length_push c.loop-i.yielded (c.in-Some.i, c.in-Some.line), next.0) (HasNumbered-read _ _ _ _ next.1 read c.loop-i.invariant.1),
    )

pub loop-i-preserved-in-Ok-None : goal.loop-i-preserved-in-Ok-None
loop-i-preserved-in-Ok-None c =
    let next = next_line (lines_of c.args.text.now) _ _ _ (YieldsList-turn
    (YieldsList-lines _ c.args.text.now c.split.ensures.rest c.split.ensures.done c.split.ensures.closure
    (λ x b q k. search (rules, tests)) c.enumerate-i-items.ensures.source c.enumerate-i-items.ensures.count
    c.into_iter-i-iterator.ensures.into_iter_gives)
    c.loop-i.yielded _ c.loop-i.yielded_by _ _ (c.in-Some.i, c.in-Some.line) c.in-Some.is c.next.ensures.steps) in
    let told = rw c.in-Ok-None.field-0-is at c.in-Ok-None.ensures in
    let unread : is_read c.in-Some.line.now ≡ false = ap not told in
    rw (length_push c.loop-i.yielded (c.in-Some.i, c.in-Some.line)) (
      HasRead-skipped is_skipped move_in _ _ _ _ next.1 told c.loop-i.invariant.0,
      HasNumbered-skipped _ _ _ _ next.1 unread c.loop-i.invariant.1,
    )

pub returns-in-Err-Bad-clause-fault : goal.returns-in-Err-Bad-clause-fault
returns-in-Err-Bad-clause-fault c =
    let next = next_line (lines_of c.args.text.now) _ _ _ (YieldsList-turn
    (YieldsList-lines _ c.args.text.now c.split.ensures.rest c.split.ensures.done c.split.ensures.closure
    (λ x b q k. search (rules, tests)) c.enumerate-i-items.ensures.source c.enumerate-i-items.ensures.count
    c.into_iter-i-iterator.ensures.into_iter_gives)
    c.loop-i.yielded _ c.loop-i.yielded_by _ _ (c.in-Some.i, c.in-Some.line) c.in-Some.is c.next.ensures.steps) in
    let told = rw c.in-Err-Bad.field-0-is at c.in-Err-Bad.ensures in
    rw next.0 (HasRead-bad is_skipped move_in _ _ _ _ next.1 told.0 told.1 c.loop-i.invariant.0)

pub returns-clause-found : goal.returns-clause-found
returns-clause-found c =
    let end = YieldsList-end
    (YieldsList-lines _ c.args.text.now c.split.ensures.rest c.split.ensures.done c.split.ensures.closure
    (λ x b q k. search (rules, tests)) c.enumerate-i-items.ensures.source c.enumerate-i-items.ensures.count
    c.into_iter-i-iterator.ensures.into_iter_gives)
    c.loop-i.yielded _ c.loop-i.yielded_by _ _ c.in-None.is c.next.ensures.steps in
    (HasRead-all is_skipped move_in _ _ _ end.1 c.loop-i.invariant.0).0

pub returns-clause-lines : goal.returns-clause-lines
returns-clause-lines c =
    let end = YieldsList-end
    (YieldsList-lines _ c.args.text.now c.split.ensures.rest c.split.ensures.done c.split.ensures.closure
    (λ x b q k. search (rules, tests)) c.enumerate-i-items.ensures.source c.enumerate-i-items.ensures.count
    c.into_iter-i-iterator.ensures.into_iter_gives)
    c.loop-i.yielded _ c.loop-i.yielded_by _ _ c.in-None.is c.next.ensures.steps in
    HasNumbered-all _ _ _ end.1 c.loop-i.invariant.1

pub returns-clause-only : goal.returns-clause-only
returns-clause-only c =
    let end = YieldsList-end
    (YieldsList-lines _ c.args.text.now c.split.ensures.rest c.split.ensures.done c.split.ensures.closure
    (λ x b q k. search (rules, tests)) c.enumerate-i-items.ensures.source c.enumerate-i-items.ensures.count
    c.into_iter-i-iterator.ensures.into_iter_gives)
    c.loop-i.yielded _ c.loop-i.yielded_by _ _ c.in-None.is c.next.ensures.steps in
    (HasRead-all is_skipped move_in _ _ _ end.1 c.loop-i.invariant.0).1
