use Rattle.std.proofs.Common.{get_or, refl, true, false, rules, ◌≡◌, ◌+◌, ◌≤◌, ◌<◌, length, sym, drop, ◌∙◌, ap, arith, slice_get, Some}
use Rattle.std.proofs.lemmas.List.{length-map}
use Rattle.std.proofs.lemmas.Option.{slice_get-map, slice_get_read}
use Rattle.std.specs.Option.{option_map}
use Rattle.someip_world_rules.specs.Runs.{place_of}
use Rattle.someip_world_schedule.specs.StepNodes.{node_of}
use Rattle.someip_world_verdict.specs.Books.{LifeKept, breaks_at}
use Rattle.someip_world_verdict.specs.Booking.{booked}
use Rattle.someip_world_verdict.specs.Judging.{judged_from, other_lines, own_lines}
use Rattle.someip_world_verdict.specs.declared.life.Life.{Life}
use Rattle.someip_world_verdict.specs.Views.{view_book, view_life}
use Rattle.someip_world_verdict.proofs.JudgingLemmas.{judged_broken, judged_counted, judged_left, judged_more, judged_past_lives, judged_past_nodes}
use Rattle.someip_world_verdict.proofs.verdict.judge.Goals as goal

pub returns-then-nodes-place : goal.returns-then-nodes-place
returns-then-nodes-place c =
    let nodes = c.args.nodes.now in
    let steps = c.args.steps.now in
    let book = view_book c.loop-done.ledger in
    let i = c.loop-done.done in
    let step = c.index-steps-done.result in
    let lines = c.loop-done.rest.now in
    let named : place_of nodes (node_of step) ≡ Some c.in-Some.place = search rules in
    sym (sym c.loop-done.invariant ∙ judged_left nodes book i step steps lines c.loop-done-test.true c.index-steps-done.is
    ∙ judged_past_nodes nodes book i step (drop (i + 1) steps) lines c.in-Some.place named (omega (arith, c.if-nodes-place.true)))

pub returns-then-len-place : goal.returns-then-len-place
returns-then-len-place c =
    let nodes = c.args.nodes.now in
    let steps = c.args.steps.now in
    let book = view_book c.loop-done.ledger in
    let i = c.loop-done.done in
    let step = c.index-steps-done.result in
    let lines = c.loop-done.rest.now in
    let named : place_of nodes (node_of step) ≡ Some c.in-Some.place = search rules in
    let past : length c.loop-done.ledger.lives.items ≤ c.in-Some.place = search (arith, rules) in
    sym (sym c.loop-done.invariant ∙ judged_left nodes book i step steps lines c.loop-done-test.true c.index-steps-done.is
    ∙ judged_past_lives nodes book i step (drop (i + 1) steps) lines c.in-Some.place named (omega (arith, length-map {A = Life} {B = LifeKept}, past)))

pub returns-then-breaks : goal.returns-then-breaks
returns-then-breaks c =
    let nodes = c.args.nodes.now in
    let steps = c.args.steps.now in
    let book = view_book c.loop-done.ledger in
    let i = c.loop-done.done in
    let step = c.index-steps-done.result in
    let lines = c.loop-done.rest.now in
    let place = c.in-Some.place in
    let node = c.index-nodes-place.result in
    let named : place_of nodes (node_of step) ≡ Some place = search rules in
    let here : slice_get nodes place ≡ Some node = slice_get_read nodes (length nodes) place node refl (omega (arith, c.if-nodes-place.false)) c.index-nodes-place.is in
    let within : place < length c.loop-done.ledger.lives.items = search (arith, rules) in
    let own : slice_get c.loop-done.ledger.lives.items place ≡ Some c.index.result.now = slice_get_read c.loop-done.ledger.lives.items (length c.loop-done.ledger.lives.items) place c.index.result.now refl within c.index.ensures in
    let life : slice_get book.lives place ≡ Some (view_life c.index.result.now) = slice_get-map view_life c.loop-done.ledger.lives.items place ∙ ap (option_map view_life) own in
    let breaks : breaks_at node.config.common.reassembly_timeout_ms book (view_life c.index.result.now) step ≡ true =
    let is : c.breaks.result ≡ breaks_at (get_or nodes place node).config.common.reassembly_timeout_ms book (view_life c.index.result.now) step = c.breaks.ensures in
    let answer : c.breaks.result ≡ true = c.if-breaks.true in
    ap (λ x. breaks_at x.config.common.reassembly_timeout_ms book (view_life c.index.result.now) step) c.index-nodes-place.is ∙ sym is ∙ answer in
    sym (sym c.loop-done.invariant ∙ judged_left nodes book i step steps lines c.loop-done-test.true c.index-steps-done.is
    ∙ judged_broken nodes book i step (drop (i + 1) steps) lines place named node here (view_life c.index.result.now) life breaks)

pub loop-done-preserved : goal.loop-done-preserved
loop-done-preserved c =
    let nodes = c.args.nodes.now in
    let steps = c.args.steps.now in
    let book = view_book c.loop-done.ledger in
    let i = c.loop-done.done in
    let step = c.index-steps-done.result in
    let lines = c.loop-done.rest.now in
    let place = c.in-Some.place in
    let node = c.index-nodes-place.result in
    let named : place_of nodes (node_of step) ≡ Some place = search rules in
    let here : slice_get nodes place ≡ Some node = slice_get_read nodes (length nodes) place node refl (omega (arith, c.if-nodes-place.false)) c.index-nodes-place.is in
    let within : place < length c.loop-done.ledger.lives.items = search (arith, rules) in
    let own : slice_get c.loop-done.ledger.lives.items place ≡ Some c.index.result.now = slice_get_read c.loop-done.ledger.lives.items (length c.loop-done.ledger.lives.items) place c.index.result.now refl within c.index.ensures in
    let life : slice_get book.lives place ≡ Some (view_life c.index.result.now) = slice_get-map view_life c.loop-done.ledger.lives.items place ∙ ap (option_map view_life) own in
    let breaks : breaks_at node.config.common.reassembly_timeout_ms book (view_life c.index.result.now) step ≡ false =
    let is : c.breaks.result ≡ breaks_at (get_or nodes place node).config.common.reassembly_timeout_ms book (view_life c.index.result.now) step = c.breaks.ensures in
    let answer : c.breaks.result ≡ false = c.if-breaks.false in
    ap (λ x. breaks_at x.config.common.reassembly_timeout_ms book (view_life c.index.result.now) step) c.index-nodes-place.is ∙ sym is ∙ answer in
    let front : c.split_at.result.0.now ≡ own_lines (i + 1) lines = c.split_at.ensures.front ∙ c.own_count.ensures.own in
    let back : c.split_at.result.1.now ≡ other_lines (i + 1) lines = c.split_at.ensures.back ∙ c.own_count.ensures.others in
    let next : view_book c.book.new.self ≡ booked node.config i place step (own_lines (i + 1) lines) (view_life c.index.result.now) book =
    let is : view_book c.book.new.self ≡ booked (get_or nodes place node).config i place step c.split_at.result.0.now (view_life c.index.result.now) book = c.in_ok-book.ensures c.index.result.now own in
    is ∙ sym (ap (λ x. booked x.config i place step c.split_at.result.0.now (view_life c.index.result.now) book) c.index-nodes-place.is)
    ∙ ap (λ ls. booked node.config i place step ls (view_life c.index.result.now) book) front in
    (λ k. judged_from nodes (i + 1) (next k) (drop (i + 1) steps) (back k))
    ∙ sym (judged_counted nodes (booked node.config i place step (own_lines (i + 1) lines) (view_life c.index.result.now) book) i (drop (i + 1) steps) (other_lines (i + 1) lines))
    ∙ sym (judged_more nodes book i step (drop (i + 1) steps) lines place named node here (view_life c.index.result.now) life breaks)
    ∙ sym (judged_left nodes book i step steps lines c.loop-done-test.true c.index-steps-done.is) ∙ c.loop-done.invariant
