use Rattle.std.proofs.Common.{◌-◌, ◌≤◌, arith, refl}
use Rattle.someip_reassembly.proofs.SliceLemmas.{turned, agree_to, agree_from}
use Rattle.someip_reassembly.proofs.slices.agree.Goals as goal

pub returns-then-held_at-at : goal.returns-then-held_at-at
returns-then-held_at-at c =
    let early : c.args.held_at ≤ c.args.at = omega (arith, c.if-held_at-at.true) in (
      λ is. agree_to c.args.held_at c.args.at (c.args.at - c.args.held_at) c.args.held.now c.args.bytes.now c.behind.result.now early refl c.behind.ensures.bytes (c.begin_alike.ensures.0 is),
      λ agree. c.begin_alike.ensures.1 (agree_from c.args.held_at c.args.at (c.args.at - c.args.held_at) c.args.held.now c.args.bytes.now c.behind.result.now early refl c.behind.ensures.bytes agree),
    )

pub returns-else-held_at-at : goal.returns-else-held_at-at
returns-else-held_at-at c =
    let early : c.args.at ≤ c.args.held_at = omega (arith, c.if-held_at-at.false) in
    let behind = c.behind-else-held_at-at in (
      λ is. turned (agree_to c.args.at c.args.held_at (c.args.held_at - c.args.at) c.args.bytes.now c.args.held.now behind.result.now early refl behind.ensures.bytes (turned (c.begin_alike-else-held_at-at.ensures.0 is))),
      λ agree. c.begin_alike-else-held_at-at.ensures.1 (turned (agree_from c.args.at c.args.held_at (c.args.held_at - c.args.at) c.args.bytes.now c.args.held.now behind.result.now early refl behind.ensures.bytes (turned agree))),
    )
