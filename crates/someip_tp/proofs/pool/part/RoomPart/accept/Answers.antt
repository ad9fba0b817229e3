use Rattle.std.proofs.Common.{◌≡◌, false, ap, ◌∙◌, length}
use Rattle.std.specs.FinMap.{get}
use Rattle.someip_reassembly.specs.SegmentOffers.{SegmentOffer, offer, conflicts}
use Rattle.someip_tp.specs.Rooms.{held_bytes}
use Rattle.someip_tp.specs.RoomParts.{view_part}
use Rattle.someip_reassembly.proofs.Placed.{agree_where_none_differs}
use Rattle.someip_reassembly.proofs.PartialLemmas.{no_conflict}
use Rattle.someip_tp.proofs.reserved_memory.PoolLemmas.{fit_of, last_past, before_end, sound_still}
use Rattle.someip_tp.proofs.pool.part.RoomPart.accept.Goals as goal

pub hold-requires-clause-agrees : goal.hold-requires-clause-agrees
hold-requires-clause-agrees c =
    let p = c.self.inside in
    let o : SegmentOffer = offer p.key c.args.offset c.args.more c.args.bytes.now in
    let fits : conflicts (view_part p).entry.1 o ≡ false = ap (λ v. conflicts v.entry.1 (offer v.entry.0 c.args.offset c.args.more c.args.bytes.now)) c.self.view_is ∙ c.requires.fits in
    agree_where_none_differs (get (held_bytes p.room)) c.args.offset c.args.bytes.now (no_conflict (view_part p).entry.1 o fits).0

pub hold-requires-clause-last : goal.hold-requires-clause-last
hold-requires-clause-last c =
    let p = c.self.inside in
    let o : SegmentOffer = offer p.key c.args.offset c.args.more c.args.bytes.now in
    let fits : conflicts (view_part p).entry.1 o ≡ false = ap (λ v. conflicts v.entry.1 (offer v.entry.0 c.args.offset c.args.more c.args.bytes.now)) c.self.view_is ∙ c.requires.fits in
    last_past p c.args.offset c.args.more (length c.args.bytes.now) (fit_of p o c.self.invariant.room fits) c.requires.whole_blocks

pub hold-requires-clause-before : goal.hold-requires-clause-before
hold-requires-clause-before c =
    let p = c.self.inside in
    let o : SegmentOffer = offer p.key c.args.offset c.args.more c.args.bytes.now in
    let fits : conflicts (view_part p).entry.1 o ≡ false = ap (λ v. conflicts v.entry.1 (offer v.entry.0 c.args.offset c.args.more c.args.bytes.now)) c.self.view_is ∙ c.requires.fits in
    before_end p c.args.offset c.args.more (length c.args.bytes.now) (fit_of p o c.self.invariant.room fits) c.self.invariant

pub invariant_of-self : goal.invariant_of-self
invariant_of-self c =
    let p = c.self.inside in
    let o : SegmentOffer = offer p.key c.args.offset c.args.more c.args.bytes.now in
    let fits : conflicts (view_part p).entry.1 o ≡ false = ap (λ v. conflicts v.entry.1 (offer v.entry.0 c.args.offset c.args.more c.args.bytes.now)) c.self.view_is ∙ c.requires.fits in
    sound_still p c.args.offset c.args.more (length c.args.bytes.now) c.args.now c.hold.new.self _ c.self.invariant (fit_of p o c.self.invariant.room fits) c.hold.ensures.consistent c.hold.ensures.end
    c.requires.aligned c.requires.whole_blocks c.total_with-self-inside.ensures
