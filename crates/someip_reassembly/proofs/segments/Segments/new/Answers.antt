use Rattle.someip_reassembly.proofs.SegmentsLemmas.{are_segments, segments_same, slices_whole}
use Rattle.someip_reassembly.proofs.segments.Segments.new.Goals as goal

pub returns-clause-segments : goal.returns-clause-segments
returns-clause-segments c = rw c.with_tp_flag-header.ensures (are_segments record { header = c.args.message.now.header; payload = c.args.message.now.payload.now })

pub returns-clause-only : goal.returns-clause-only
returns-clause-only c = λ others are. segments_same _ _ others (returns-clause-segments c) are

pub returns-clause-whole : goal.returns-clause-whole
returns-clause-whole c = slices_whole _ c.args.message.now.payload.now
