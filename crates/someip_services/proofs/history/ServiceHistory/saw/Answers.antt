use Rattle.std.proofs.Common.{◌≡◌, ap, rules, sym, ◌∙◌}
use Rattle.someip_wire.specs.Reading.{items_of}
use Rattle.someip_services.specs.Services.{items_taken}
use Rattle.someip_services.proofs.history.ServiceHistory.saw.Goals as goal

pub returns : goal.returns
returns c =
    let all : c.into_iter-item-iterator.result ≡ items_of c.args.datagram.now = search rules in
    record {
      between = c.pass.new.self;
      passes = c.in_ok-pass.ensures;
      takes = sym (ap (λ is. items_taken c.args.now c.args.origin.now is c.loop-item.self) c.in-None.ensures.steps.0)
          ∙ c.loop-item.invariant ∙ ap (λ is. items_taken c.args.now c.args.origin.now is c.pass.new.self) all;
    }
