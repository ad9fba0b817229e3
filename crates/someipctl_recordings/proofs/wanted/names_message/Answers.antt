use Rattle.std.proofs.Common.{◌≡◌, sym, ap, ◌∙◌, rules, refl, option_map}
use Rattle.std.specs.List.{list_any}
use Rattle.someip_wire.specs.Reading.{items_of}
use Rattle.someipctl_show.proofs.WordLemmas.{any_first, any_next}
use Rattle.someipctl_recordings.specs.Wanted.{asks_message}
use Rattle.someipctl_recordings.proofs.wanted.names_message.Goals as goal

pub loop-item-init : goal.loop-item-init
loop-item-init c = refl

pub returns-then-asks_message : goal.returns-then-asks_message
returns-then-asks_message c =
    let asks = asks_message (option_map (λ s. s.now) c.args.services) c.args.client in
    let all : c.into_iter-item-iterator.result ≡ items_of c.args.datagram.now = search rules in
    sym (ap (list_any asks) (sym all) ∙ sym c.loop-item.invariant ∙ any_first asks _ _ _ c.in-Some.ensures.steps (sym c.asks_message.ensures ∙ c.if-asks_message.true))

pub loop-item-preserved : goal.loop-item-preserved
loop-item-preserved c =
    let asks = asks_message (option_map (λ s. s.now) c.args.services) c.args.client in
    sym (any_next asks _ _ _ c.in-Some.ensures.steps (sym c.asks_message.ensures ∙ c.if-asks_message.false)) ∙ c.loop-item.invariant

pub returns : goal.returns
returns c =
    let asks = asks_message (option_map (λ s. s.now) c.args.services) c.args.client in
    let all : c.into_iter-item-iterator.result ≡ items_of c.args.datagram.now = search rules in
    sym (ap (list_any asks) (sym all) ∙ sym c.loop-item.invariant ∙ ap (list_any asks) c.in-None.ensures.steps.0)
