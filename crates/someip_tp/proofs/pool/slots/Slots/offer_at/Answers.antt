use Rattle.std.proofs.Common.{◌≡◌, ◌≤◌, sym, ap, ◌∙◌, Ok, false, true, arith}
use Rattle.std.proofs.lemmas.List.{length-set}
use Rattle.std.proofs.lemmas.List.Elements.{All-set}
use Rattle.someip_tp.specs.RoomParts.{PartInRoom}
use Rattle.someip_reassembly.specs.Stores.{segment_arrived, parts_of_entries}
use Rattle.someip_reassembly.specs.SegmentOffers.{conflicts, part_or_whole, with_offer, part_under}
use Rattle.someip_tp.specs.Pools.{entries_of}
use Rattle.someip_reassembly.proofs.StoreLemmas.{judged_conflict, judged_fit, part_there, removed_parts}
use Rattle.someip_tp.proofs.reserved_memory.SlotLemmas.{as_many, part_in, freed, parts_once_changed, sooner}
use Rattle.someip_tp.proofs.reserved_memory.RisingLemmas.{apart, rising_once_changed}
use Rattle.someip_tp.proofs.pool.slots.Slots.offer_at.Goals as goal

pub returns-then-contradicts-clause-offers : goal.returns-then-contradicts-clause-offers
returns-then-contradicts-clause-offers c =
    let a = c.args.arrived in
    let ps = c.args.self.now.taken.items in
    let es = entries_of ps in
    let distinct = apart es c.requires.pooled.rising in
    let clash : conflicts (part_under (parts_of_entries es) a.key) (segment_arrived a) ≡ true =
    ap (λ p. conflicts p (segment_arrived a)) (part_in a.key ps c.args.i c.index.result.now distinct c.requires.there c.index.ensures) ∙ (sym c.contradicts.ensures ∙ c.if-contradicts.true) in (
      judged_conflict c.args.self.now.count a.now (segment_arrived a) (parts_of_entries es) _ (part_there a.key es c.args.i c.index.result.now.entry distinct c.requires.there) clash,
      ap parts_of_entries (freed a.key es _ c.args.i distinct c.requires.there c.free_at.ensures.entries) ∙ removed_parts a.key es distinct,
    )

pub returns-clause-pooled : goal.returns-clause-pooled
returns-clause-pooled c =
    let old = c.args.self.now in
    let n = c.accept-offered.new.part in
    record {
      rising = rising_once_changed c.args.arrived.key old.taken.items c.args.i c.index_mut.result.now n c.requires.pooled.rising c.requires.there c.index_mut.ensures.value (ap (λ e. e.0) c.accept-offered.ensures.entry);
      rooms = All-set (λ (p : PartInRoom). p.limit ≡ old.limit) old.taken.items c.args.i n
          (c.accept-offered.ensures.limit ∙ (ap (λ (p : PartInRoom). p.limit) c.index_mut.ensures.value ∙ c.requires.pooled.rooms c.args.i c.index_mut.result.now (omega (arith, c.requires.there.0, as_many old.taken.items)))) c.requires.pooled.rooms;
      free = c.requires.pooled.free;
      count = omega (arith, length-set old.taken.items c.args.i n, c.requires.pooled.count);
      room_of_taken = c.requires.pooled.room_of_taken;
      room_of_free = c.requires.pooled.room_of_free;
      soonest = All-set (λ (p : PartInRoom). c.min-self.result ≤ p.entry.1.last) old.taken.items c.args.i n
          (omega (arith, c.min-self.ensures, ap (λ e. e.1.last) c.accept-offered.ensures.entry)) (sooner old.taken.items old.soonest c.min-self.result (omega (arith, c.min-self.ensures)) c.requires.pooled.soonest);
    }

pub returns-clause-offers : goal.returns-clause-offers
returns-clause-offers c =
    let a = c.args.arrived in
    let ps = c.args.self.now.taken.items in
    let es = entries_of ps in
    let distinct = apart es c.requires.pooled.rising in
    let under = part_in a.key ps c.args.i c.index_mut.result.now distinct c.requires.there c.index_mut.ensures.value in
    let fits : conflicts (part_under (parts_of_entries es) a.key) (segment_arrived a) ≡ false =
    ap (λ p. conflicts p (segment_arrived a)) (part_in a.key ps c.args.i c.index.result.now distinct c.requires.there c.index.ensures) ∙ (sym c.contradicts.ensures ∙ c.if-contradicts.false) in (
      ap Ok (c.accept-offered.ensures.offered ∙ ap (λ p. part_or_whole (with_offer p a.now (segment_arrived a))) (sym under))
          ∙ judged_fit c.args.self.now.count a.now (segment_arrived a) (parts_of_entries es) _ (part_there a.key es c.args.i c.index.result.now.entry distinct c.requires.there) fits,
      parts_once_changed a.key a.now (segment_arrived a) ps c.args.i c.index_mut.result.now c.accept-offered.new.part distinct c.requires.there c.index_mut.ensures.value c.accept-offered.ensures.entry,
    )
