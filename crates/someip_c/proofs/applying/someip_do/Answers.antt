use Rattle.someip_c_node.specs.Acts.{Acts}
use Rattle.someip_c.proofs.HandleLemmas.{on_lent}
use Rattle.someip_c.proofs.applying.someip_do.Goals as goal

pub returns-in-Some : goal.returns-in-Some
returns-in-Some c = record {
  done = on_lent c.args.handle.now.place.value (Acts c.args.line.now) c.number.result c.hold.new.self.place.value c.in-Some.node.value c.deref_mut.result.now c.act-outcome.result c.act-outcome.new.self
      c.in-Some.ensures.some c.deref_mut.ensures.value c.number.ensures c.hold.ensures c.act-outcome.ensures;
}
