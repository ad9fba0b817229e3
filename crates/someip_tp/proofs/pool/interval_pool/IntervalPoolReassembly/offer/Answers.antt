use Rattle.std.proofs.Common.{◌≡◌, ap, subst, ◌∙◌}
use Rattle.someip_reassembly.specs.Parts.{Limits, parts_at}
use Rattle.someip_reassembly.specs.SegmentOffers.{SegmentOffer, offer}
use Rattle.someip_reassembly.specs.Stores.{Offers, parts_of_entries}
use Rattle.someip_tp.specs.Pools.{entries_in}
use Rattle.someip_reassembly.proofs.MomentLemmas.{none_after-offered_by}
use Rattle.someip_reassembly.proofs.StoreLemmas.{left_parts, judged_so, changed_so}
use Rattle.someip_tp.proofs.reserved_memory.RisingLemmas.{apart}
use Rattle.someip_tp.proofs.pool.interval_pool.IntervalPoolReassembly.offer.Goals as goal

pub returns-clause-judged : goal.returns-clause-judged
returns-clause-judged c =
    let slots = c.self.inside.slots in
    let limits : Limits = record { slots = slots.count; limit = slots.limit; timeout = c.self.inside.timeout } in
    let o : SegmentOffer = offer c.args.key c.args.offset c.args.more c.args.bytes.now in
    let parts = parts_of_entries (entries_in slots) in
    let left : parts_of_entries (entries_in c.free_gone.new.self) ≡ parts_at limits c.args.now parts = ap parts_of_entries c.free_gone.ensures.entries ∙ left_parts limits c.args.now (entries_in slots) (apart (entries_in slots) c.self.invariant.rising) in
    let bounds = c.free_gone.ensures.bounds in
    let acts = subst (λ l. Offers l c.args.now o (parts_of_entries (entries_in c.free_gone.new.self)) c.offer.result (parts_of_entries (entries_in c.offer.new.self)))
    (λ i. record { slots = bounds.0 i; limit = bounds.1 i; timeout = limits.timeout }) (c.offer.ensures.offers limits.timeout) in
    rw (← c.self.view_is) (judged_so limits c.args.now o parts (parts_of_entries (entries_in c.free_gone.new.self)) (parts_of_entries (entries_in c.offer.new.self)) c.offer.result left acts c.offer.ensures.no_memory)

pub returns-clause-parts : goal.returns-clause-parts
returns-clause-parts c =
    let slots = c.self.inside.slots in
    let limits : Limits = record { slots = slots.count; limit = slots.limit; timeout = c.self.inside.timeout } in
    let o : SegmentOffer = offer c.args.key c.args.offset c.args.more c.args.bytes.now in
    let parts = parts_of_entries (entries_in slots) in
    let left : parts_of_entries (entries_in c.free_gone.new.self) ≡ parts_at limits c.args.now parts = ap parts_of_entries c.free_gone.ensures.entries ∙ left_parts limits c.args.now (entries_in slots) (apart (entries_in slots) c.self.invariant.rising) in
    let bounds = c.free_gone.ensures.bounds in
    let acts = subst (λ l. Offers l c.args.now o (parts_of_entries (entries_in c.free_gone.new.self)) c.offer.result (parts_of_entries (entries_in c.offer.new.self)))
    (λ i. record { slots = bounds.0 i; limit = bounds.1 i; timeout = limits.timeout }) (c.offer.ensures.offers limits.timeout) in
    rw (← c.self.view_is) (changed_so limits c.args.now o parts (parts_of_entries (entries_in c.free_gone.new.self)) (parts_of_entries (entries_in c.offer.new.self)) c.offer.result left acts c.offer.ensures.no_memory)

pub returns-clause-moments : goal.returns-clause-moments
returns-clause-moments c = λ at le none.
    none_after-offered_by at c.args.now c.args.self.now.limits (offer c.args.key c.args.offset c.args.more c.args.bytes.now) c.args.self.now.parts (parts_of_entries (entries_in c.offer.new.self)) c.offer.result
    (λ _. returns-clause-parts c) (λ wanting. absurd (c.offer.ensures.no_memory wanting)) le none
