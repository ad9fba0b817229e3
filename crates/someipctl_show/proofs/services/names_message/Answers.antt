use Rattle.std.proofs.Common.{◌≡◌, sym, ap, ◌∙◌, rules, refl}
use Rattle.std.specs.List.{list_any}
use Rattle.someip_wire.specs.Reading.{items_of}
use Rattle.someipctl_show.specs.Services.{asks_item}
use Rattle.someipctl_show.proofs.WordLemmas.{any_first, any_next}
use Rattle.someipctl_show.proofs.services.names_message.Goals as goal

pub loop-item-init : goal.loop-item-init
loop-item-init c = refl

pub returns-then-asks_item : goal.returns-then-asks_item
returns-then-asks_item c =
    let all : c.into_iter-item-iterator.result ≡ items_of c.args.datagram.now = search rules in
    sym (ap (list_any (asks_item c.args.services.now)) (sym all) ∙ sym c.loop-item.invariant ∙ any_first (asks_item c.args.services.now) _ _ _ c.in-Some.ensures.steps (sym c.asks_item.ensures ∙ c.if-asks_item.true))

pub loop-item-preserved : goal.loop-item-preserved
loop-item-preserved c = sym (any_next (asks_item c.args.services.now) _ _ _ c.in-Some.ensures.steps (sym c.asks_item.ensures ∙ c.if-asks_item.false)) ∙ c.loop-item.invariant

pub returns : goal.returns
returns c =
    let all : c.into_iter-item-iterator.result ≡ items_of c.args.datagram.now = search rules in
    sym (ap (list_any (asks_item c.args.services.now)) (sym all) ∙ sym c.loop-item.invariant ∙ ap (list_any (asks_item c.args.services.now)) c.in-None.ensures.steps.0)
