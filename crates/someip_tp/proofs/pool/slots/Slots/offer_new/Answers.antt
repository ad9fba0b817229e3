use Rattle.std.proofs.Common.{◌≡◌, ◌≤◌, nat_le, sym, ap, subst, ◌∙◌, Ok, false, true, None, refl, arith}
use Rattle.std.specs.FinMap.{get, len}
use Rattle.std.specs.List.{All}
use Rattle.std.proofs.lemmas.Bool.Decides.{nat_tests}
use Rattle.std.proofs.lemmas.List.Elements.{All-take}
use Rattle.someip_tp.specs.RoomParts.{PartInRoom}
use Rattle.someip_reassembly.specs.Stores.{segment_arrived, parts_of_entries}
use Rattle.someip_reassembly.specs.SegmentOffers.{conflicts, part_or_whole, with_offer, no_part}
use Rattle.someip_tp.specs.Pools.{IsFree, entries_in}
use Rattle.someip_reassembly.proofs.StoreLemmas.{no_part_there, judged_full, judged_new, no_part_under, nothing_conflicts}
use Rattle.someip_tp.proofs.reserved_memory.SlotLemmas.{part_count, one_of_all, all_put, sooner}
use Rattle.someip_tp.proofs.reserved_memory.RisingLemmas.{apart, new_there, rising_with, parts_with}
use Rattle.someip_tp.proofs.pool.slots.Slots.offer_new.Goals as goal

pub returns-in_default-clause-offers : goal.returns-in_default-clause-offers
returns-in_default-clause-offers c =
    let a = c.args.arrived in
    let slots = c.args.self.now in
    let none : get (parts_of_entries (entries_in slots)) a.key ≡ None = no_part_there a.key (entries_in slots) (new_there a.key (entries_in slots) c.args.i c.requires.new) in
    let full : nat_le slots.count (len (parts_of_entries (entries_in slots))) ≡ true =
    grind (arith, nat_tests, part_count slots.taken.items (apart (entries_in slots) c.requires.pooled.rising), c.requires.pooled.count, c.in_default.ensures.cases.0) in
    (judged_full slots.count a.now (segment_arrived a) (parts_of_entries (entries_in slots)) none full, refl)

pub new-part-requires-clause-consistent : goal.new-part-requires-clause-consistent
new-part-requires-clause-consistent c =
    (one_of_all (IsFree c.args.self.now.limit) c.args.self.now.free.items _ c.in-Some.room c.requires.pooled.free (omega (arith, c.in-Some.ensures.cases)) (c.in-Some.ensures.value c.in-Some.room (omega (arith, c.in-Some.ensures.cases)))).consistent

pub accept-offered-requires-clause-fits : goal.accept-offered-requires-clause-fits
accept-offered-requires-clause-fits c = ap (λ e. conflicts e.1 (segment_arrived c.args.arrived)) c.new-part.ensures.entry ∙ nothing_conflicts (segment_arrived c.args.arrived)

pub returns-clause-pooled : goal.returns-clause-pooled
returns-clause-pooled c =
    let old = c.args.self.now in
    let a = c.args.arrived in
    let n = c.accept-offered.new.part in
    let free = one_of_all (IsFree old.limit) old.free.items _ c.in-Some.room c.requires.pooled.free (omega (arith, c.in-Some.ensures.cases)) (c.in-Some.ensures.value c.in-Some.room (omega (arith, c.in-Some.ensures.cases))) in
    record {
      rising = rising_with a.key old.taken.items c.insert_reserved.new.taken.items c.args.i n c.insert_reserved.ensures.items c.requires.pooled.rising c.requires.new
          (ap (λ e. e.0) c.accept-offered.ensures.entry ∙ ap (λ e. e.0) c.new-part.ensures.entry);
      rooms = subst (All (λ (p : PartInRoom). p.limit ≡ old.limit)) (sym c.insert_reserved.ensures.items)
          (all_put (λ (p : PartInRoom). p.limit ≡ old.limit) old.taken.items c.args.i n c.requires.pooled.rooms (c.accept-offered.ensures.limit ∙ (c.new-part.ensures.limit ∙ free.limit)));
      free = subst (All (IsFree old.limit)) (sym c.in-Some.ensures.rest) (All-take (IsFree old.limit) _ old.free.items c.requires.pooled.free);
      count = omega (arith, c.insert_reserved.ensures.len, c.in-Some.ensures.cases, c.requires.pooled.count);
      room_of_taken = omega (arith, c.insert_reserved.ensures.capacity, c.requires.pooled.room_of_taken);
      room_of_free = omega (arith, c.in-Some.ensures.capacity, c.requires.pooled.room_of_free);
      soonest = subst (All (λ (p : PartInRoom). c.min-self.result ≤ p.entry.1.last)) (sym c.insert_reserved.ensures.items)
          (all_put (λ (p : PartInRoom). c.min-self.result ≤ p.entry.1.last) old.taken.items c.args.i n (sooner old.taken.items old.soonest c.min-self.result (omega (arith, c.min-self.ensures)) c.requires.pooled.soonest)
          (omega (arith, c.min-self.ensures, ap (λ e. e.1.last) c.accept-offered.ensures.entry)));
    }

pub returns-clause-offers : goal.returns-clause-offers
returns-clause-offers c =
    let a = c.args.arrived in
    let slots = c.args.self.now in
    let es = entries_in slots in
    let none : get (parts_of_entries es) a.key ≡ None = no_part_there a.key es (new_there a.key es c.args.i c.requires.new) in
    let room : nat_le slots.count (len (parts_of_entries es)) ≡ false =
    grind (arith, nat_tests, part_count slots.taken.items (apart (entries_in slots) c.requires.pooled.rising), c.requires.pooled.count, c.in-Some.ensures.cases) in (
      ap Ok (c.accept-offered.ensures.offered ∙ ap (λ e. part_or_whole (with_offer e.1 a.now (segment_arrived a))) c.new-part.ensures.entry) ∙ judged_new slots.count a.now (segment_arrived a) (parts_of_entries es) none room,
      parts_with a.key (with_offer no_part a.now (segment_arrived a)) slots.taken.items c.insert_reserved.new.taken.items c.args.i c.accept-offered.new.part c.insert_reserved.ensures.items c.requires.new
          (c.accept-offered.ensures.entry ∙ ap (λ e. (e.0, with_offer e.1 a.now (segment_arrived a))) c.new-part.ensures.entry)
          ∙ no_part_under a.key a.now (segment_arrived a) (parts_of_entries es) none,
    )
