use Rattle.std.proofs.Common.{arith}
use Rattle.someip_wire.proofs.MessageLemmas.{is_found, is_only, is_fault}
use Rattle.someip_wire.proofs.message.read_message.Goals as goal

pub returns-clause-found : goal.returns-clause-found
returns-clause-found c = is_found c.args.bytes.now c.message_at.result (λ i. omega (arith, c.type_inv.bytes i)) c.message_at.ensures.none c.message_at.ensures.message c.message_at.ensures.end

pub returns-clause-only : goal.returns-clause-only
returns-clause-only c = is_only c.args.bytes.now c.message_at.result c.message_at.ensures.fault c.message_at.ensures.message c.message_at.ensures.end

pub returns-clause-fault : goal.returns-clause-fault
returns-clause-fault c = is_fault c.args.bytes.now c.message_at.result c.message_at.ensures.fault c.message_at.ensures.none
