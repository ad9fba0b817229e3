use Rattle.std.proofs.Common.{◌≡◌, ap, ◌∙◌}
use Rattle.someip_reassembly.specs.Parts.{Limits, parts_at}
use Rattle.someip_reassembly.specs.SegmentOffers.{SegmentOffer, offer}
use Rattle.someip_reassembly.specs.Stores.{parts_of_entries}
use Rattle.someip_reassembly.proofs.MomentLemmas.{none_after-offered_by}
use Rattle.someip_reassembly.proofs.StoreLemmas.{left_distinct, left_parts, judged_so, changed_so, wanting_so}
use Rattle.someip_reassembly.proofs.segment_list.SegmentListReassembly.offer.Goals as goal

pub offer_to-requires : goal.offer_to-requires
offer_to-requires c = rw c.drop_gone.ensures (left_distinct c.self.inside.timeout c.args.now c.self.inside.partials.items c.self.invariant)

pub returns-clause-judged : goal.returns-clause-judged
returns-clause-judged c =
    let limits : Limits = record { slots = c.self.inside.slots; limit = c.self.inside.limit; timeout = c.self.inside.timeout } in
    let o : SegmentOffer = offer c.args.key c.args.offset c.args.more c.args.bytes.now in
    let left : parts_of_entries c.drop_gone.new.partials.items ≡ parts_at limits c.args.now (parts_of_entries c.self.inside.partials.items) =
    ap parts_of_entries c.drop_gone.ensures ∙ left_parts limits c.args.now c.self.inside.partials.items c.self.invariant in
    rw (← c.self.view_is) (judged_so limits c.args.now o (parts_of_entries c.self.inside.partials.items) (parts_of_entries c.drop_gone.new.partials.items) (parts_of_entries c.offer_to.new.partials.items) c.offer_to.result left (c.offer_to.ensures.offers limits.timeout))

pub returns-clause-parts : goal.returns-clause-parts
returns-clause-parts c =
    let limits : Limits = record { slots = c.self.inside.slots; limit = c.self.inside.limit; timeout = c.self.inside.timeout } in
    let o : SegmentOffer = offer c.args.key c.args.offset c.args.more c.args.bytes.now in
    let left : parts_of_entries c.drop_gone.new.partials.items ≡ parts_at limits c.args.now (parts_of_entries c.self.inside.partials.items) =
    ap parts_of_entries c.drop_gone.ensures ∙ left_parts limits c.args.now c.self.inside.partials.items c.self.invariant in
    rw (← c.self.view_is) (changed_so limits c.args.now o (parts_of_entries c.self.inside.partials.items) (parts_of_entries c.drop_gone.new.partials.items) (parts_of_entries c.offer_to.new.partials.items) c.offer_to.result left (c.offer_to.ensures.offers limits.timeout))

pub returns-clause-wanting : goal.returns-clause-wanting
returns-clause-wanting c wanting =
    let limits : Limits = record { slots = c.self.inside.slots; limit = c.self.inside.limit; timeout = c.self.inside.timeout } in
    let o : SegmentOffer = offer c.args.key c.args.offset c.args.more c.args.bytes.now in
    let left : parts_of_entries c.drop_gone.new.partials.items ≡ parts_at limits c.args.now (parts_of_entries c.self.inside.partials.items) =
    ap parts_of_entries c.drop_gone.ensures ∙ left_parts limits c.args.now c.self.inside.partials.items c.self.invariant in
    rw (← c.self.view_is) (wanting_so limits c.args.now o (parts_of_entries c.self.inside.partials.items) (parts_of_entries c.drop_gone.new.partials.items) (parts_of_entries c.offer_to.new.partials.items) c.offer_to.result left (c.offer_to.ensures.offers limits.timeout) wanting).0

pub returns-clause-out_of_memory : goal.returns-clause-out_of_memory
returns-clause-out_of_memory c wanting =
    let limits : Limits = record { slots = c.self.inside.slots; limit = c.self.inside.limit; timeout = c.self.inside.timeout } in
    let o : SegmentOffer = offer c.args.key c.args.offset c.args.more c.args.bytes.now in
    let left : parts_of_entries c.drop_gone.new.partials.items ≡ parts_at limits c.args.now (parts_of_entries c.self.inside.partials.items) =
    ap parts_of_entries c.drop_gone.ensures ∙ left_parts limits c.args.now c.self.inside.partials.items c.self.invariant in
    rw (← c.self.view_is) (wanting_so limits c.args.now o (parts_of_entries c.self.inside.partials.items) (parts_of_entries c.drop_gone.new.partials.items) (parts_of_entries c.offer_to.new.partials.items) c.offer_to.result left (c.offer_to.ensures.offers limits.timeout) wanting).1

pub returns-clause-moments : goal.returns-clause-moments
returns-clause-moments c = λ at le none.
    none_after-offered_by at c.args.now c.args.self.now.limits (offer c.args.key c.args.offset c.args.more c.args.bytes.now) c.args.self.now.parts (parts_of_entries c.offer_to.new.partials.items) c.offer_to.result
    (returns-clause-parts c) (returns-clause-out_of_memory c) le none
