use Rattle.std.proofs.Common.{ap, nat_lt, length, List, ℕ}
use Rattle.someip_reassembly.specs.Segments.{SegmentValue}
use Rattle.someip_reassembly.proofs.SegmentsLemmas.{slice_is}
use Rattle.someip_reassembly.proofs.segments.segment_of.Goals as goal

pub returns : goal.returns
returns c =
    let at : List ℕ → SegmentValue = λ slice. record { header = c.args.header; offset = c.args.offset; more = nat_lt 1392 (length c.args.rest.now); slice = slice } in
    ap at (slice_is c.args.rest.now c.min-len.result c.min-len.ensures)
