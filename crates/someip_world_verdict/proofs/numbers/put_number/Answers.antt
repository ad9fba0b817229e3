use Rattle.someip_world_verdict.proofs.noting.PayloadNumbers.{insert_shown}
use Rattle.someip_world_verdict.proofs.numbers.put_number.Goals as goal

pub returns : goal.returns
returns c =
    insert_shown c.args.payload.items c.args.numbers.now.entries c.insert.new.self.entries c.args.number c.in_ok-insert.ensures.updates.1 c.in_ok-insert.ensures.updates.3
