use Rattle.std.proofs.Common.{◌≡◌, ◌≤◌, sym, ap, subst, ◌∙◌, arith}
use Rattle.std.specs.List.{All}
use Rattle.someip_tp.specs.RoomParts.{PartInRoom}
use Rattle.someip_tp.specs.Pools.{IsFree, entries_in}
use Rattle.someip_tp.proofs.reserved_memory.SlotLemmas.{as_without, entries_left, all_without, all_pushed}
use Rattle.someip_tp.proofs.reserved_memory.RisingLemmas.{rising_left}
use Rattle.someip_tp.proofs.pool.slots.Slots.free_at.Goals as goal

pub returns-clause-pooled : goal.returns-clause-pooled
returns-clause-pooled c =
    let old = c.args.self.now in
    let split = c.remove-part.ensures.by_index.2 in
    record {
      rising = rising_left c.args.i old.taken.items c.remove-part.new.self.items c.requires.pooled.rising c.requires.inside split;
      rooms = subst (All (λ (p : PartInRoom). p.limit ≡ old.limit)) (sym (split ∙ as_without c.args.i old.taken.items)) (all_without (λ (p : PartInRoom). p.limit ≡ old.limit) c.args.i old.taken.items c.requires.pooled.rooms);
      free = subst (All (IsFree old.limit)) (sym c.push_reserved.ensures.items)
          (all_pushed (IsFree old.limit) old.free.items c.into_room.result c.requires.pooled.free (record {
            consistent = c.into_room.ensures.consistent;
            empty = c.into_room.ensures.empty;
            limit = c.into_room.ensures.limit ∙ (ap (λ (p : PartInRoom). p.limit) c.remove-part.ensures.value ∙ c.requires.pooled.rooms c.args.i c.remove-part.result c.requires.inside);
          }));
      count = omega (arith, c.remove-part.ensures.len, c.push_reserved.ensures.len, c.requires.pooled.count);
      room_of_taken = omega (arith, c.remove-part.ensures.capacity, c.requires.pooled.room_of_taken);
      room_of_free = omega (arith, c.push_reserved.ensures.capacity, c.requires.pooled.room_of_free);
      soonest = subst (All (λ (p : PartInRoom). old.soonest ≤ p.entry.1.last)) (sym (split ∙ as_without c.args.i old.taken.items)) (all_without (λ (p : PartInRoom). old.soonest ≤ p.entry.1.last) c.args.i old.taken.items c.requires.pooled.soonest);
    }

pub returns-clause-entries : goal.returns-clause-entries
returns-clause-entries c = entries_left c.args.i c.args.self.now.taken.items c.remove-part.new.self.items c.remove-part.ensures.by_index.2 ∙ sym (as_without c.args.i (entries_in c.args.self.now))
