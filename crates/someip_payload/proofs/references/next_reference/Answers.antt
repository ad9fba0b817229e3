use Rattle.std.proofs.Common.{ℕ, ◌+◌, ◌≤◌, List, drop, slice_range, subst, arith}
use Rattle.someip_payload.specs.References.{IsLongestName}
use Rattle.someip_payload.proofs.ReferenceTexts.{no_sign-more, longest_name}
use Rattle.someip_payload.proofs.references.next_reference.Goals as goal

pub returns-then-text-at-eq64-clause-name : goal.returns-then-text-at-eq64-clause-name
returns-then-text-at-eq64-clause-name c =
    let e = c.name_end.ensures in
    subst (λ (t : List ℕ). IsLongestName (drop (c.loop-at.at + 1) t) (slice_range t (c.loop-at.at + 1) c.name_end.result)) c.as_bytes-text.ensures.value
    (longest_name c.as_bytes-text.result.now (c.loop-at.at + 1) c.name_end.result e.end.0 e.end.1 e.found e.longest)

pub loop-at-preserved : goal.loop-at-preserved
loop-at-preserved c =
    let held = c.loop-at.invariant in
    let le : c.args.from ≤ c.loop-at.at + 1 = omega (arith, held.0) in
    (le, no_sign-more c.as_bytes-text.result.now c.args.from c.loop-at.at held.0 c.loop-at-test.true held.1 c.if-text-at-eq64.false)
