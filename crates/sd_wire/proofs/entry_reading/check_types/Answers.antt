use Rattle.std.proofs.Common.{sym, ◌∙◌, ◌≡◌, ◌+◌, suc, arith}
use Rattle.sd_wire.proofs.decoding.EntryLemmas.{type_fault-found, type_fault-more}
use Rattle.sd_wire.proofs.entry_reading.check_types.Goals as goal

pub returns-then-not-is_type-clause-err : goal.returns-then-not-is_type-clause-err
returns-then-not-is_type-clause-err c =
    type_fault-found c.loop-k.k _ 8 c.args.entries.now c.loop-k-test.true c.loop-k.invariant (sym c.is_type.ensures ∙ c.if-not-is_type.true)

pub loop-k-preserved : goal.loop-k-preserved
loop-k-preserved c =
    let next : c.loop-k.k + 1 ≡ suc c.loop-k.k = omega arith in
    rw next (type_fault-more c.loop-k.k 8 c.args.entries.now c.loop-k.invariant (sym c.is_type.ensures ∙ c.if-not-is_type.false))
