use Rattle.std.proofs.Common.{ap}
use Rattle.someip_reassembly.specs.Keys.{key_numbers}
use Rattle.someip_reassembly.proofs.KeyOrder.{test_is, one_key}
use Rattle.someip_reassembly.proofs.key.is_same.Goals as goal

pub returns-then-same_endpoints : goal.returns-then-same_endpoints
returns-then-same_endpoints c =
    test_is c.args.a.now c.args.b.now c.same_numbers.result
    (λ h. one_key c.args.a.now c.args.b.now (c.same_endpoints.ensures.0 c.if-same_endpoints.true) (c.same_numbers.ensures.0 h))
    (λ is. c.same_numbers.ensures.1 (ap key_numbers is))

pub returns-else-same_endpoints : goal.returns-else-same_endpoints
returns-else-same_endpoints c =
    test_is c.args.a.now c.args.b.now c.same_endpoints.result
    (λ h. absurd (cc))
    (λ is. c.same_endpoints.ensures.1 (ap (λ k. k.source) is, ap (λ k. k.destination) is))
