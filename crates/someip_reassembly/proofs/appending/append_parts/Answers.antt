use Rattle.std.proofs.Common.{ap, ◌∙◌, ◌++◌}
use Rattle.someip_reassembly.proofs.SegmentTexts.{when_ok, appended}
use Rattle.someip_reassembly.proofs.appending.append_parts.Goals as goal

pub returns-clause-ok : goal.returns-clause-ok
returns-clause-ok c =
    appended c.args.out.now.items c.header_bytes.result c.args.tp_header.now c.args.slice.now c.args.header.now
    (when_ok c.extend_from_slice.result _ c.unwrap.ensures _ _ _ c.extend_from_slice.ensures.items ∙ ap (λ xs. xs ++ c.header_bytes.result) c.reserve.ensures.items)
    c.header_bytes.ensures
    (when_ok c.extend_from_slice-2.result _ c.unwrap-2.ensures _ _ _ c.extend_from_slice-2.ensures.items)
    (when_ok c.extend_from_slice-3.result _ c.unwrap-3.ensures _ _ _ c.extend_from_slice-3.ensures.items)
