use Rattle.std.proofs.Common.{◌≡◌, drop, [], arith}
use Rattle.std.proofs.lemmas.List.{drop_all}
use Rattle.someip_payload.specs.Fronts.{common}
use Rattle.someip_payload.proofs.Fronts.{common-nothing}
use Rattle.someip_payload.proofs.text_parts.common_len.Goals as goal

pub returns-else-count-b-clause-same : goal.returns-else-count-b-clause-same
returns-else-count-b-clause-same c =
    let none : drop c.loop-count.count c.args.b.now ≡ [] = drop_all _ _ c.if-count-b.false in
    let nothing : common (drop c.loop-count.count c.args.a.now) (drop c.loop-count.count c.args.b.now) ≡ 0 = rw none (common-nothing (drop c.loop-count.count c.args.a.now)) in
    omega (arith, c.loop-count.invariant, nothing)
