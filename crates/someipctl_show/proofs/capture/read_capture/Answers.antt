use Rattle.std.proofs.Common.{◌≡◌, Some, None, sym, ◌∙◌, rules, tests}
use Rattle.std.proofs.lemmas.Iterator.Consumers.{YieldsList-turn, YieldsList-end}
use Rattle.std.proofs.lemmas.List.{map_push, length_push}
use Rattle.someip_texts.specs.Lines.{lines_of}
use Rattle.someip_texts.proofs.LineLemmas.{YieldsList-lines, next_line, HasRead-skipped, HasRead-more, HasRead-bad, HasRead-some, HasRead-all}
use Rattle.someipctl_show.specs.Capture.{bytes_of, is_skipped}
use Rattle.someipctl_show.proofs.capture.read_capture.Goals as goal

pub loop-i-preserved-then-says_nothing : goal.loop-i-preserved-then-says_nothing
loop-i-preserved-then-says_nothing c =
    let next = next_line (lines_of c.args.text.now) _ _ _ (YieldsList-turn
    (YieldsList-lines _ c.args.text.now c.split.ensures.rest c.split.ensures.done c.split.ensures.closure
    (λ x b q k. search (rules, tests)) c.enumerate-i-items.ensures.source c.enumerate-i-items.ensures.count
    c.into_iter-i-iterator.ensures.into_iter_gives)
    c.loop-i.yielded _ c.loop-i.yielded_by _ _ (c.in-Some.i, c.in-Some.line) c.in-Some.is c.next.ensures.steps) in
    rw (length_push c.loop-i.yielded (c.in-Some.i, c.in-Some.line))
    (HasRead-skipped is_skipped bytes_of _ _ _ _ next.1 (sym c.says_nothing.ensures ∙ c.if-says_nothing.true) c.loop-i.invariant)

pub loop-i-preserved : goal.loop-i-preserved
loop-i-preserved c =
    let next = next_line (lines_of c.args.text.now) _ _ _ (YieldsList-turn
    (YieldsList-lines _ c.args.text.now c.split.ensures.rest c.split.ensures.done c.split.ensures.closure
    (λ x b q k. search (rules, tests)) c.enumerate-i-items.ensures.source c.enumerate-i-items.ensures.count
    c.into_iter-i-iterator.ensures.into_iter_gives)
    c.loop-i.yielded _ c.loop-i.yielded_by _ _ (c.in-Some.i, c.in-Some.line) c.in-Some.is c.next.ensures.steps) in
    let read = sym c.says_nothing.ensures ∙ c.if-says_nothing.false in
    let says : bytes_of c.in-Some.line.now ≡ Some c.in-Some-2.bytes.items = search rules in
    let more = map_push (λ d. Some d.items) c.loop-i.datagrams.items c.in-Some-2.bytes in
    rw (c.in_ok-push-in-Some-2.ensures.items, more, length_push c.loop-i.yielded (c.in-Some.i, c.in-Some.line))
    (HasRead-more is_skipped bytes_of _ _ _ _ _ next.1 read says c.loop-i.invariant)

pub returns-in_err-bytes-clause-idle : goal.returns-in_err-bytes-clause-idle
returns-in_err-bytes-clause-idle c =
    let next = next_line (lines_of c.args.text.now) _ _ _ (YieldsList-turn
    (YieldsList-lines _ c.args.text.now c.split.ensures.rest c.split.ensures.done c.split.ensures.closure
    (λ x b q k. search (rules, tests)) c.enumerate-i-items.ensures.source c.enumerate-i-items.ensures.count
    c.into_iter-i-iterator.ensures.into_iter_gives)
    c.loop-i.yielded _ c.loop-i.yielded_by _ _ (c.in-Some.i, c.in-Some.line) c.in-Some.is c.next.ensures.steps) in
    let read = sym c.says_nothing.ensures ∙ c.if-says_nothing.false in
    λ none. absurd (HasRead-some is_skipped bytes_of _ _ _ _ next.1 read c.loop-i.invariant none)

pub returns-in_err-push-in-Some-2-clause-idle : goal.returns-in_err-push-in-Some-2-clause-idle
returns-in_err-push-in-Some-2-clause-idle c =
    let next = next_line (lines_of c.args.text.now) _ _ _ (YieldsList-turn
    (YieldsList-lines _ c.args.text.now c.split.ensures.rest c.split.ensures.done c.split.ensures.closure
    (λ x b q k. search (rules, tests)) c.enumerate-i-items.ensures.source c.enumerate-i-items.ensures.count
    c.into_iter-i-iterator.ensures.into_iter_gives)
    c.loop-i.yielded _ c.loop-i.yielded_by _ _ (c.in-Some.i, c.in-Some.line) c.in-Some.is c.next.ensures.steps) in
    let read = sym c.says_nothing.ensures ∙ c.if-says_nothing.false in
    λ none. absurd (HasRead-some is_skipped bytes_of _ _ _ _ next.1 read c.loop-i.invariant none)

pub returns-in-None-2 : goal.returns-in-None-2
returns-in-None-2 c =
    let next = next_line (lines_of c.args.text.now) _ _ _ (YieldsList-turn
    (YieldsList-lines _ c.args.text.now c.split.ensures.rest c.split.ensures.done c.split.ensures.closure
    (λ x b q k. search (rules, tests)) c.enumerate-i-items.ensures.source c.enumerate-i-items.ensures.count
    c.into_iter-i-iterator.ensures.into_iter_gives)
    c.loop-i.yielded _ c.loop-i.yielded_by _ _ (c.in-Some.i, c.in-Some.line) c.in-Some.is c.next.ensures.steps) in
    let read = sym c.says_nothing.ensures ∙ c.if-says_nothing.false in
    let says : bytes_of c.in-Some.line.now ≡ None = search rules in
    record {
      found = search rules;
      only = search rules;
      fault = rw next.0 (HasRead-bad is_skipped bytes_of _ _ _ _ next.1 read says c.loop-i.invariant);
      idle = λ none. absurd (HasRead-some is_skipped bytes_of _ _ _ _ next.1 read c.loop-i.invariant none);
    }

pub returns : goal.returns
returns c =
    let end = YieldsList-end
    (YieldsList-lines _ c.args.text.now c.split.ensures.rest c.split.ensures.done c.split.ensures.closure
    (λ x b q k. search (rules, tests)) c.enumerate-i-items.ensures.source c.enumerate-i-items.ensures.count
    c.into_iter-i-iterator.ensures.into_iter_gives)
    c.loop-i.yielded _ c.loop-i.yielded_by _ _ c.in-None.is c.next.ensures.steps in
    let all = HasRead-all is_skipped bytes_of _ _ _ end.1 c.loop-i.invariant in
    record { found = all.0; only = all.1; fault = search rules; idle = search rules }
