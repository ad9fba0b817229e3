use Rattle.std.proofs.Common.{◌≡◌, false, ap, sym, ◌∙◌}
use Rattle.std.specs.FinMap.{get}
use Rattle.someip_reassembly.specs.Parts.{Part}
use Rattle.someip_reassembly.specs.SegmentOffers.{SegmentOffer, offer, conflicts}
use Rattle.someip_reassembly.specs.Slices.{bytes_in}
use Rattle.someip_reassembly.proofs.Placed.{agree_where_none_differs}
use Rattle.someip_reassembly.proofs.PartialLemmas.{no_conflict, below_still}
use Rattle.someip_reassembly.proofs.partial.Partial.accept.Goals as goal

pub put-requires-clause-agree : goal.put-requires-clause-agree
put-requires-clause-agree c =
    let part : Part = record { bytes = bytes_in c.self.inside.slices.items; total = c.self.inside.total; last = c.self.inside.last } in
    let o : SegmentOffer = offer c.self.inside.key c.args.offset c.args.more c.args.bytes.now in
    let free : conflicts part o ≡ false = ap (λ e. conflicts e.1 (offer e.0 c.args.offset c.args.more c.args.bytes.now)) c.self.view_is ∙ c.requires in
    agree_where_none_differs (get (bytes_in c.self.inside.slices.items)) c.args.offset c.args.bytes.now (no_conflict part o free).0

pub invariant_of-self-2 : goal.invariant_of-self-2
invariant_of-self-2 c =
    let part : Part = record { bytes = bytes_in c.self.inside.slices.items; total = c.self.inside.total; last = c.self.inside.last } in
    let o : SegmentOffer = offer c.self.inside.key c.args.offset c.args.more c.args.bytes.now in
    let free : conflicts part o ≡ false = ap (λ e. conflicts e.1 (offer e.0 c.args.offset c.args.more c.args.bytes.now)) c.self.view_is ∙ c.requires in
    record {
      one_text = c.in_ok-put.ensures.one_text;
      in_order = c.in_ok-put.ensures.in_order;
      below = λ total place known. below_still part o _ c.in_ok-put.ensures.ok free c.self.invariant.below total place (sym c.total_with-self-inside.ensures ∙ known);
    }
