use Rattle.std.proofs.Common.{◌+◌, ◌∷◌, arith}
use Rattle.someip_payload.proofs.Decimals.{no_zero_first}
use Rattle.someip_payload.proofs.labels.negative_at.Goals as goal

pub returns-then-has_byte-clause-only : goal.returns-then-has_byte-clause-only
returns-then-has_byte-clause-only c = λ n b rest is small stop.
    absurd (no_zero_first c.args.text.now (b ∷ rest) c.args.at (n + 1) (omega arith) (omega (arith, small)) is (c.has_byte.ensures.there c.if-has_byte.true).1)
