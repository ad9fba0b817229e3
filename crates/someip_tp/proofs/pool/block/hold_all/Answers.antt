use Rattle.std.proofs.Common.{ap, ◌∙◌, ◌||◌, ◌==◌, arith}
use Rattle.someip_tp.proofs.reserved_memory.BlockLemmas.{one_more, all_done}
use Rattle.someip_tp.proofs.pool.block.hold_all.Goals as goal

pub loop-k-preserved : goal.loop-k-preserved
loop-k-preserved c =
    record {
      above = omega (arith, c.loop-k.invariant.above);
      until = λ le. omega (arith, c.loop-k-test.true);
      none = λ less. omega (arith, c.loop-k-test.true, c.loop-k.invariant.above, less);
      held = λ j. c.hold.ensures.held j ∙ (ap (λ b. (j == c.loop-k.k) || b) (c.loop-k.invariant.held j) ∙ one_more c.args.from c.loop-k.k j _ c.loop-k.invariant.above);
      tied = c.hold.ensures.tied;
      numbers = λ top le all. c.hold.ensures.numbers top le (c.loop-k.invariant.numbers top le all);
      len = c.hold.ensures.len ∙ c.loop-k.invariant.len;
    }

pub returns-clause-held : goal.returns-clause-held
returns-clause-held c = λ j. c.loop-k.invariant.held j ∙ all_done c.args.from c.args.to c.loop-k.k j _ c.loop-k.invariant.above c.loop-k-test.false c.loop-k.invariant.until c.loop-k.invariant.none
