use Rattle.std.proofs.Common.{◌≡◌, take, None, refl, sym, arith}
use Rattle.someip_wire.specs.Spelling.{Fits}
use Rattle.someip_wire.specs.Faults.{fault_at}
use Rattle.someip_wire.specs.Examples.{request_message, request_bytes, length_seven_bytes}
use Rattle.someip_wire.proofs.MessageLemmas.{begins_with, begins_none}
use Rattle.someip_wire.proofs.laws.worked_datagrams.Goals as goal

pub returns-clause-no_other : goal.returns-clause-no_other
returns-clause-no_other c = λ size begins. sym (begins_with request_message size request_bytes begins).1

pub returns-clause-length_seven_is_none : goal.returns-clause-length_seven_is_none
returns-clause-length_seven_is_none c = λ message size begins.
    let none : fault_at 0 length_seven_bytes ≡ None = begins_none 0 message size length_seven_bytes begins in absurd cc

pub returns-clause-cut : goal.returns-clause-cut
returns-clause-cut c =
    let fits : Fits request_message = record {
      service = omega arith;
      method = omega arith;
      length = omega arith;
      client = omega arith;
      session = omega arith;
      interface = omega arith;
      code = omega arith;
    } in
    record { rest = take 15 request_bytes; parts = refl; each = (fits, (fits, tt)); ends = ((λ no. cc), refl) }
