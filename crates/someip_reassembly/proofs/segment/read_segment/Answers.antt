use Rattle.std.proofs.Common.{arith}
use Rattle.std.proofs.lemmas.Grind.{common_steps}
use Rattle.someip_reassembly.proofs.SegmentTexts.{says}
use Rattle.someip_reassembly.proofs.segment.read_segment.Goals as goal

pub returns-clause-exact : goal.returns-clause-exact
returns-clause-exact c = says c.args.payload.now _ c.from_be_bytes-tp_header.result (omega arith) (grind (arith, common_steps))
