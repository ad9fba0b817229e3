use Rattle.std.proofs.Common.{◌∙◌, ◌-◌, not, ap, sym, arith}
use Rattle.someip_reassembly.specs.Parts.{is_gone}
use Rattle.someip_tp.specs.Pools.{entries_in}
use Rattle.someip_tp.proofs.reserved_memory.SlotLemmas.{gone_step, stay_step, kept_length}
use Rattle.someip_tp.proofs.pool.slots.Slots.free_each_gone.Goals as goal

pub loop-i-preserved-then-is_gone : goal.loop-i-preserved-then-is_gone
loop-i-preserved-then-is_gone c =
    let es = entries_in c.args.self.now in
    let ps = c.loop-i.self.taken.items in
    let lt = kept_length _ es ps c.loop-i.i (c.loop-i.i - 1) (omega (arith, c.loop-i-test.true)) c.loop-i.invariant.short c.loop-i.invariant.entries in
    record {
      short = omega (arith, c.loop-i.invariant.short);
      pooled = c.free_at.ensures.pooled;
      entries = gone_step (λ e. not (is_gone c.args.timeout c.args.now e.1)) es _ ps c.loop-i.i (c.loop-i.i - 1) c.index.result.now (omega (arith, c.loop-i-test.true)) c.loop-i.invariant.short c.loop-i.invariant.entries lt c.index.ensures
          (ap not (sym c.is_gone.ensures ∙ c.if-is_gone.true)) c.free_at.ensures.entries;
      bounds = (c.free_at.ensures.bounds.0 ∙ c.loop-i.invariant.bounds.0, c.free_at.ensures.bounds.1 ∙ c.loop-i.invariant.bounds.1);
    }

pub loop-i-preserved : goal.loop-i-preserved
loop-i-preserved c =
    let es = entries_in c.args.self.now in
    let ps = c.loop-i.self.taken.items in
    let lt = kept_length _ es ps c.loop-i.i (c.loop-i.i - 1) (omega (arith, c.loop-i-test.true)) c.loop-i.invariant.short c.loop-i.invariant.entries in
    record {
      short = omega (arith, c.loop-i.invariant.short);
      pooled = c.loop-i.invariant.pooled;
      entries = stay_step (λ e. not (is_gone c.args.timeout c.args.now e.1)) es ps c.loop-i.i (c.loop-i.i - 1) c.index.result.now (omega (arith, c.loop-i-test.true)) c.loop-i.invariant.short c.loop-i.invariant.entries lt c.index.ensures
          (ap not (sym c.is_gone.ensures ∙ c.if-is_gone.false));
      bounds = c.loop-i.invariant.bounds;
    }
