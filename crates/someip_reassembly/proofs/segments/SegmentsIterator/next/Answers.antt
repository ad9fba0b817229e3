use Rattle.std.proofs.Common.{◌≡◌, ◌+◌, ◌<◌, ◌∷◌, [], length, take, drop, ◌-◌, ap, sym, ◌∙◌, arith, rules}
use Rattle.std.proofs.lemmas.List.{length-drop, take_rest}
use Rattle.someip_reassembly.specs.Segments.{SegmentValue, segments_from}
use Rattle.someip_reassembly.proofs.SegmentsLemmas.{left_none, left_next}
use Rattle.someip_reassembly.proofs.segments.SegmentsIterator.next.Goals as goal

pub returns-then-is_empty-clause-steps : goal.returns-then-is_empty-clause-steps
returns-then-is_empty-clause-steps c =
    let s = c.self.inside in
    let none : length (take (length s.payload.now - s.place) (drop s.place s.payload.now)) ≡ 0 = search rules in
    let nothing : segments_from s.header s.place (drop s.place s.payload.now) ≡ [] = left_none s.header s.place s.place s.payload.now (omega (arith, rw take_rest at none, length-drop s.place s.payload.now)) in
    (sym c.self.view_is ∙ nothing, sym c.self.view_is ∙ nothing)

pub returns-clause-steps : goal.returns-clause-steps
returns-clause-steps c =
    let s = c.self.inside in
    let some : 0 < length (take (length s.payload.now - s.place) (drop s.place s.payload.now)) = search rules in
    sym c.self.view_is
    ∙ left_next s.header s.place _ s.payload.now (omega (arith, rw take_rest at some, length-drop s.place s.payload.now)) (ap (λ n. s.place + n) (rw take_rest at c.min.ensures))
    ∙ ap (λ (x : SegmentValue). x ∷ segments_from s.header (s.place + c.min.result) (drop (s.place + c.min.result) s.payload.now)) (sym (rw take_rest at c.segment_of-segment.ensures))

pub returns-clause-goes : goal.returns-clause-goes
returns-clause-goes c = let shorter = ap length (returns-clause-steps c) in search rules
