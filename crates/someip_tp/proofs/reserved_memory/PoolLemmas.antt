-- A part in its room, once a segment was accepted.
use Rattle.std.proofs.Common.{◌≡◌, ◌≢◌, ℕ, ◌+◌, ◌%◌, ◌<◌, ◌≤◌, ◌==◌, Bool, true, false, ◌&&◌, not, map, nat_lt, nat_le, if◌then◌else◌, length, Option, None, Some, refl, sym, ap, ◌∙◌, arith}
use Rattle.std.specs.FinMap.{get, keys}
use Rattle.std.specs.Option.{is_some}
use Rattle.std.specs.List.{list_any}
use Rattle.std.proofs.lemmas.Bool.Decides.{nat_tests}
use Rattle.std.proofs.lemmas.Bool.{eqb-true}
use Rattle.std.proofs.lemmas.Option.{same_Some}
use Rattle.someip_reassembly.specs.SegmentOffers.{SegmentOffer, placed, conflicts, passes, differ, total_of}
use Rattle.someip_tp.specs.declared.pool.room.Room.{Room}
use Rattle.someip_tp.specs.declared.pool.part.RoomPart.TheInside.{Inside}
use Rattle.someip_tp.specs.Rooms.{held_bytes, Continues, IsConsistent}
use Rattle.someip_tp.specs.RoomParts.{view_part, IsSoundIn}
use Rattle.someip_reassembly.proofs.PartialLemmas.{no_conflict, any_place}
use Rattle.someip_tp.proofs.reserved_memory.RoomLemmas.{reaches_as, held_byte}

-- what a segment that contradicts nothing leaves fit
pub record Fit (p : Inside) (offset : ℕ) (more : Bool) (len : ℕ) : Type 0 where
  -- the last slice ends past all that is held
  pub last : more ≡ false → p.room.end ≤ offset + len
  -- no slice with bytes passes the total
  pub within : (total : ℕ) → p.total ≡ Some total → 0 < len → offset + len ≤ total
  -- the last slice tells the total that is known
  pub agrees : (total : ℕ) → p.total ≡ Some total → more ≡ false → total ≡ offset + len

pub fit_of : (p : Inside) (o : SegmentOffer) → IsConsistent p.room → conflicts (view_part p).entry.1 o ≡ false → Fit p o.offset o.more (length o.bytes)
fit_of p o ok fits =
    let none = no_conflict (view_part p).entry.1 o fits in
    record {
      last = λ is_last. past is_last none.3;
      within = λ total known some. under total known some none.1;
      agrees = λ total known is_last. told total known is_last none.2;
    }
  where
    past : o.more ≡ false → passes (total_of o) (keys (held_bytes p.room)) ≡ false → p.room.end ≤ o.offset + length o.bytes
    past is_last none =
        let at : passes (Some (o.offset + length o.bytes)) (keys (held_bytes p.room)) ≡ false = sym (ap (λ m. passes (if m then None else Some (o.offset + length o.bytes)) (keys (held_bytes p.room))) is_last) ∙ none in
        let short : nat_lt (o.offset + length o.bytes) p.room.end ≡ false = reaches_as p.room (o.offset + length o.bytes) ok ∙ at in
        grind (arith, nat_tests, short)

    under : (total : ℕ) → p.total ≡ Some total → 0 < length o.bytes → passes p.total (map (λ (e : ℕ × ℕ). e.0) (placed o.offset o.bytes)) ≡ false → o.offset + length o.bytes ≤ total
    under total known some none =
        let at : list_any (nat_le total) (map (λ (e : ℕ × ℕ). e.0) (placed o.offset o.bytes)) ≡ false = sym (ap (λ t. passes t (map (λ (e : ℕ × ℕ). e.0) (placed o.offset o.bytes))) known) ∙ none in
        let tests : (nat_lt 0 (length o.bytes) && nat_lt total (o.offset + length o.bytes)) ≡ false = sym (any_place total o.offset o.bytes) ∙ at in
        let filled : nat_lt 0 (length o.bytes) ≡ true = grind (arith, nat_tests, some) in
        let short : nat_lt total (o.offset + length o.bytes) ≡ false = rw filled at tests in
        grind (arith, nat_tests, short)

    told : (total : ℕ) → p.total ≡ Some total → o.more ≡ false → differ p.total (total_of o) ≡ false → total ≡ o.offset + length o.bytes
    told total known is_last none =
        let at : not (total == o.offset + length o.bytes) ≡ false = sym ((λ i. differ (known i) (if is_last i then None else Some (o.offset + length o.bytes)))) ∙ none in
        eqb-true total (o.offset + length o.bytes) (turn (total == o.offset + length o.bytes) at)
      where
        turn : (t : Bool) → not t ≡ false → t ≡ true
        turn true h = refl
        turn false h = cc

pub last_past : (p : Inside) (offset : ℕ) (more : Bool) (len : ℕ) → Fit p offset more len → (more ≡ true → len % 16 ≡ 0) → len % 16 ≢ 0 → p.room.end ≤ offset + len
last_past p offset true len fit whole part = absurd (part (whole refl))
last_past p offset false len fit whole part = fit.last refl

pub before_end : (p : Inside) (offset : ℕ) (more : Bool) (len : ℕ) → Fit p offset more len → IsSoundIn p → 0 < len → p.room.end % 16 ≢ 0 → offset + len ≤ p.room.end
before_end p offset more len fit ok some part = fit.within p.room.end (ok.cut part) some

-- an empty slice, or one with bytes
by_length : {Q : Type 0} (len : ℕ) → (len ≡ 0 → Q) → (0 < len → Q) → Q
by_length {Q} len none some = cases (len == 0) refl
  where
    cases : (b : Bool) → (len == 0) ≡ b → Q
    cases true test = none (eqb-true len 0 test)
    cases false test = some (grind (arith, test))

-- the end is that of the slice, or the one before
by_end : {Q : Type 0} (old new offset len : ℕ) → Continues old new offset len → (new ≡ old → Q) → (0 < len → old ≤ offset + len → new ≡ offset + len → Q) → Q
by_end {Q} old new offset len goes_on same own = by_length len (λ none. same (goes_on.0 none)) (λ some. cases some (nat_le old (offset + len)) refl)
  where
    cases : 0 < len → (b : Bool) → nat_le old (offset + len) ≡ b → Q
    cases some true test = let le : old ≤ offset + len = grind (arith, nat_tests, test) in own some le ((goes_on.1 some).2 le)
    cases some false test = same ((goes_on.1 some).3 (grind (arith, nat_tests, test)))

still_below : (p : Inside) (offset : ℕ) (more : Bool) (len end : ℕ) → IsSoundIn p → Fit p offset more len → Continues p.room.end end offset len
    → (total : ℕ) → (if more then p.total else Some (offset + len)) ≡ Some total → end ≤ total
still_below p offset true len end ok fit goes_on total known =
    by_end p.room.end end offset len goes_on (λ same. omega (arith, same, ok.below total known)) (λ some le own. omega (arith, own, fit.within total known some))
still_below p offset false len end ok fit goes_on total known =
    let is : offset + len ≡ total = same_Some (offset + len) total known in
    by_end p.room.end end offset len goes_on (λ same. omega (arith, same, is, fit.last refl)) (λ some le own. omega (arith, own, is))

still_cut : (p : Inside) (offset : ℕ) (more : Bool) (len end : ℕ) → IsSoundIn p → Fit p offset more len → Continues p.room.end end offset len → offset % 16 ≡ 0 → (more ≡ true → len % 16 ≡ 0)
    → end % 16 ≢ 0 → (if more then p.total else Some (offset + len)) ≡ Some end
still_cut p offset true len end ok fit goes_on aligned whole part =
    by_end p.room.end end offset len goes_on (λ same. ok.cut (λ none. part (ap (λ n. n % 16) same ∙ none)) ∙ ap Some (sym same))
    (λ some le own. absurd (part (omega (arith, own, aligned, whole refl))))
still_cut p offset false len end ok fit goes_on aligned whole part =
    by_end p.room.end end offset len goes_on
    (λ same. ap Some (sym (fit.agrees p.room.end (ok.cut (λ none. part (ap (λ n. n % 16) same ∙ none))) refl) ∙ sym same))
    (λ some le own. ap Some (sym own))

pub sound_still : (p : Inside) (offset : ℕ) (more : Bool) (len now : ℕ) (room : Room) (total : Option ℕ) → IsSoundIn p → Fit p offset more len → IsConsistent room → Continues p.room.end room.end offset len
    → offset % 16 ≡ 0 → (more ≡ true → len % 16 ≡ 0) → total ≡ (if more then p.total else Some (offset + len)) → IsSoundIn (record { key = p.key; room = room; total = total; last = now })
sound_still p offset more len now room total ok fit consistent goes_on aligned whole is = record {
  room = consistent;
  below = λ t known. still_below p offset more len room.end ok fit goes_on t (sym is ∙ known);
  cut = λ part. is ∙ still_cut p offset more len room.end ok fit goes_on aligned whole part;
}

-- ---- what is held lies below the total

pub held_below : (p : Inside) → IsSoundIn p → (total place : ℕ) → p.total ≡ Some total → is_some (get (held_bytes p.room) place) ≡ true → place < total
held_below p ok total place known held = cases (get (held_bytes p.room) place) refl held
  where
    cases : (o : Option ℕ) → get (held_bytes p.room) place ≡ o → is_some o ≡ true → place < total
    cases None is held = cc
    cases (Some a) is held = omega (arith, (held_byte p.room place a is).1, ok.below total known)
