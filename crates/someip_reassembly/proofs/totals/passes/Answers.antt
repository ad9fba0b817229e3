use Rattle.std.proofs.Common.{sym, ◌∙◌}
use Rattle.someip_reassembly.proofs.PartialLemmas.{passes_is}
use Rattle.someip_reassembly.proofs.totals.passes.Goals as goal

pub returns-then-not-is_empty : goal.returns-then-not-is_empty
returns-then-not-is_empty c = rw c.in-Some.is (passes_is c.in-Some.total c.args.offset c.args.bytes.now (sym c.is_empty.ensures ∙ c.if-not-is_empty.true))
