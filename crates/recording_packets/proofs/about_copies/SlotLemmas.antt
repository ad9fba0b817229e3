-- The turns of packets after a change of a slot or of the others.
use Rattle.std.proofs.Common.{◌≡◌, ◌≢◌, ℕ, ◌<◌, ◌+◌, ◌/◌, ◌%◌, ◌^◌, ◌==◌, zero, suc, length, Bool, true, false, cond, List, [], ◌∷◌, ◌++◌, Option, None, Some, ◌&&◌, nat_le, nat_lt, ◌≤◌, refl, ap, sym, ◌∙◌, append_assoc, append-nil, take, arith}
use Rattle.std.specs.List.{flat_map, slice_index_or, slice_set}
use Rattle.std.specs.Option.{is_none, is_some, option_or}
use Rattle.std.specs.BTreeMap as tree
use Rattle.std.specs.BTreeMap.{is_at}
use Rattle.std.specs.Map.{lookup}
use Rattle.std.specs.Prelude.{IsTrue, ◌↔◌}
use Rattle.std.proofs.lemmas.List.{get_or-set_same, get_or-set_other, get_or_default, take_more}
use Rattle.std.proofs.lemmas.Grind.{flat_map-append}
use Rattle.std.proofs.lemmas.Nat.{shr-shr}
use Rattle.std.proofs.lemmas.Bool.Decides.{nat_tests}
use Rattle.std.proofs.lemmas.Bool.{eqb-false, eqb-true, eq-eqb, false_from_ne_true}
use Rattle.recording.specs.Packets.{Ipv4Value}
use Rattle.recording_packets.specs.copies.Remembered.{is_same}
use Rattle.recording_packets.specs.copies.Owned.{packet_of}
use Rattle.recording_packets.specs.copies.Slots.{halves, is_crowded, is_place, is_second, place_in, shared_cmp, slot_of, turn_at, turn_in, with_turn}
use Rattle.recording_packets.specs.declared.copies.owned.SharedPacket.{SharedPacket}
use Rattle.recording_packets.specs.declared.copies.turns.Place.{Place}
use Rattle.recording_packets.specs.declared.copies.turns.Turns.{Turns}
use Rattle.recording_packets.specs.declared.copies.turns.TheConstants.{FIRST_SHIFT, LEAST_SHIFT}
use Rattle.recording_packets.proofs.about_copies.SamePackets.{both, same_is, same_mark, same_self, is_same_by, tie_is}

-- nothing tells two packets apart
abbrev pub same : SharedPacket → SharedPacket → Bool
same a b = is_same (packet_of a.owned.value) (packet_of b.owned.value)

same_slot : (s : ℕ) (a b : SharedPacket) → same a b ≡ true → slot_of s a ≡ slot_of s b
same_slot s a b h = ap (λ n. n / 2 ^ (s % 64)) (same_mark a b h)

other_slot : (s : ℕ) (a b : SharedPacket) → slot_of s b ≢ slot_of s a → same a b ≡ false
other_slot s a b apart = false_from_ne_true (same a b) (λ h. apart (sym (same_slot s a b h)))

-- nothing more stands in the slots after one was made
pub one_more : (l : List (Option Place)) (i : ℕ) → slice_index_or (l ++ None ∷ []) i None ≡ slice_index_or l i None
one_more [] zero = refl
one_more [] (suc i) = refl
one_more (x ∷ l) zero = refl
one_more (x ∷ l) (suc i) = one_more l i

-- what stands in a slot stands in one that is there
pub is_there : (l : List (Option Place)) (i t : ℕ) (k : SharedPacket) → turn_at (slice_index_or l i None) k ≡ Some t → i < length l
is_there [] i t k h = cc
is_there (x ∷ l) zero t k h = omega arith
is_there (x ∷ l) (suc i) t k h = let rest : i < length l = is_there l i t k h in omega (arith, rest)

pub some_of : (x : Option ℕ) → is_some x ≡ true → (t : ℕ) × (x ≡ Some t)
some_of None h = cc
some_of (Some t) h = (t, refl)

pub no_turn : (x : Option ℕ) → is_some x ≡ false → x ≡ None
no_turn None h = refl
no_turn (Some t) h = cc

pub empty_place : (x : Option Place) → is_none x ≡ true → x ≡ None
empty_place None h = refl
empty_place (Some p) h = cc

-- nothing stands in a slot that is there
pub free_slot : (l : List (Option Place)) (i : ℕ) → (nat_lt i (length l) && is_none (slice_index_or l i None)) ≡ true → (i < length l) × (slice_index_or l i None ≡ None)
free_slot l i h = let e = both (nat_lt i (length l)) (is_none (slice_index_or l i None)) h in (grind (arith, nat_tests, e.0), empty_place (slice_index_or l i None) e.1)

-- who is the same as a packet
pub same_as : (p a b : SharedPacket) → same a b ≡ true → same p a ≡ same p b
same_as p a b h = ap (λ (x : Ipv4Value). is_same (packet_of p.owned.value) x) (same_is (packet_of a.owned.value) (packet_of b.owned.value) h)

pub same_from : (p q b : SharedPacket) → same p q ≡ true → same p b ≡ same q b
same_from p q b h = ap (λ (x : Ipv4Value). is_same x (packet_of b.owned.value)) (same_is (packet_of p.owned.value) (packet_of q.owned.value) h)

-- what a slot says of two that are the same
pub turn_as : (place : Option Place) (a b : SharedPacket) → same a b ≡ true → turn_at place a ≡ turn_at place b
turn_as None a b h = refl
turn_as (Some p) a b h = ap (λ x. cond x (Some p.turn) None) (same_as p.packet a b h)

pub or_none : (x y : Option ℕ) → option_or x y ≡ None → x ≡ None
or_none None y h = refl
or_none (Some t) y h = cc

-- ---- a slot

-- what stands in the slot of a packet after a slot was written
written : (turns turns' : Turns) (i : ℕ) (place : Option Place) (q : SharedPacket) → turns'.shift ≡ turns.shift → i < length turns.slots.items → turns'.slots.items ≡ slice_set turns.slots.items i place
    → (slot_of turns.shift q ≡ i → place_in turns' q ≡ place) × (slot_of turns.shift q ≢ i → place_in turns' q ≡ place_in turns q)
written turns turns' i place q shift there is = (
  λ at. by_slots ∙ ap (λ j. slice_index_or (slice_set turns.slots.items i place) j None) at ∙ get_or-set_same turns.slots.items i place None there,
  λ apart. by_slots ∙ get_or-set_other turns.slots.items i (slot_of turns.shift q) place None apart,
)
  where
    by_slots : place_in turns' q ≡ slice_index_or (slice_set turns.slots.items i place) (slot_of turns.shift q) None
    by_slots = ap (λ s. slice_index_or turns'.slots.items (slot_of s q) None) shift ∙ ap (λ l. slice_index_or l (slot_of turns.shift q) None) is

-- is the slot of this packet that one
at_slot : {P : Type 0} (s : ℕ) (q : SharedPacket) (i : ℕ) → (slot_of s q ≡ i → P) → (slot_of s q ≢ i → P) → P
at_slot {P} s q i here apart = cases (slot_of s q == i) refl
  where
    cases : (b : Bool) → (slot_of s q == i) ≡ b → P
    cases true h = here (eqb-true (slot_of s q) i h)
    cases false h = apart (eqb-false (slot_of s q) i h)

-- the turn of each packet by its slot and by the others
turn_by : (turns turns' : Turns) (q : SharedPacket) (place : Option Place) (other : Option ℕ) → place_in turns' q ≡ place → tree.get shared_cmp turns'.others q ≡ other
    → turn_in turns' q ≡ option_or (turn_at place q) other
turn_by turns turns' q place other p o = ap (λ x. option_or (turn_at x q) (tree.get shared_cmp turns'.others q)) p ∙ ap (λ x. option_or (turn_at place q) x) o

-- the same slots
kept_place : (turns turns' : Turns) (q : SharedPacket) → turns'.shift ≡ turns.shift → turns'.slots.items ≡ turns.slots.items → place_in turns' q ≡ place_in turns q
kept_place turns turns' q shift slots =
    ap (λ s. slice_index_or turns'.slots.items (slot_of s q) None) shift ∙ ap (λ l. slice_index_or l (slot_of turns.shift q) None) slots

not_same : (b : Bool) (x y z : Option ℕ) → b ≡ false → z ≡ y → z ≡ cond b x y
not_same true x y z h e = cc
not_same false x y z h e = e

-- a packet that had no turn is put in its slot, where nothing stood
pub slot_filled : (turns turns' : Turns) (k : SharedPacket) (t : ℕ) → turns'.shift ≡ turns.shift → slot_of turns.shift k < length turns.slots.items → place_in turns k ≡ None
    → turns'.slots.items ≡ slice_set turns.slots.items (slot_of turns.shift k) (Some (record { packet = k; turn = t })) → turns'.others ≡ turns.others
    → (q : SharedPacket) → turn_in turns' q ≡ cond (same k q) (Some t) (turn_in turns q)
slot_filled turns turns' k t shift there free is others q =
    let slots = written turns turns' (slot_of turns.shift k) (Some (record { packet = k; turn = t })) q shift there is in
    let rest : tree.get shared_cmp turns'.others q ≡ tree.get shared_cmp turns.others q = ap (λ o. tree.get shared_cmp o q) others in
    at_slot turns.shift q (slot_of turns.shift k)
    (λ here.
    turn_by turns turns' q _ _ (slots.0 here) rest ∙ either (same k q) (tree.get shared_cmp turns.others q)
    ∙ ap (λ x. cond (same k q) (Some t) x) (sym (turn_by turns turns q None _ (ap (λ i. slice_index_or turns.slots.items i None) here ∙ free) refl)))
    (λ apart. not_same (same k q) (Some t) (turn_in turns q) (turn_in turns' q) (other_slot turns.shift k q apart) (turn_by turns turns' q _ _ (slots.1 apart) rest))
  where
    either : (b : Bool) (x : Option ℕ) → option_or (cond b (Some t) None) x ≡ cond b (Some t) x
    either true x = refl
    either false x = refl

-- the turn of a packet that has none in its slot is put among the others
pub other_put : (turns turns' : Turns) (k : SharedPacket) (t : ℕ) → turns'.shift ≡ turns.shift → turn_at (place_in turns k) k ≡ None → turns'.slots.items ≡ turns.slots.items
    → ((q : SharedPacket) → tree.get shared_cmp turns'.others q ≡ cond (is_at (shared_cmp k) q) (Some t) (tree.get shared_cmp turns.others q))
    → (q : SharedPacket) → turn_in turns' q ≡ cond (same k q) (Some t) (turn_in turns q)
other_put turns turns' k t shift none slots updates q =
    turn_by turns turns' q _ _ (kept_place turns turns' q shift slots) (updates q ∙ ap (λ b. cond b (Some t) (tree.get shared_cmp turns.others q)) (tie_is k q)) ∙ cases (same k q) refl
  where
    cases : (b : Bool) → same k q ≡ b → option_or (turn_at (place_in turns q) q) (cond b (Some t) (tree.get shared_cmp turns.others q)) ≡ cond b (Some t) (turn_in turns q)
    cases false h = refl
    cases true h =
        let slot : place_in turns q ≡ place_in turns k = ap (λ i. slice_index_or turns.slots.items i None) (sym (same_slot turns.shift k q h)) in
        ap (λ x. option_or x (Some t)) (ap (λ p. turn_at p q) slot ∙ sym (turn_as (place_in turns k) k q h) ∙ none)

-- the packet that stands in its slot
pub placed : (place : Option Place) (k : SharedPacket) (t : ℕ) → turn_at place k ≡ Some t → (p : Place) × (place ≡ Some p) × (same p.packet k ≡ true) × (p.turn ≡ t)
placed None k t h = cc
placed (Some p) k t h = cases (same p.packet k) refl
  where
    cases : (b : Bool) → same p.packet k ≡ b → (p' : Place) × (Some p ≡ Some p') × (same p'.packet k ≡ true) × (p'.turn ≡ t)
    cases true alike = let at : Some p.turn ≡ Some t = sym (ap (λ b. cond b (Some p.turn) None) alike) ∙ h in (p, refl, alike, cc)
    cases false unlike = let at : None ≡ Some t = sym (ap (λ b. cond b (Some p.turn) None) unlike) ∙ h in cc

-- the packet in a slot gets another turn
pub slot_set : (turns turns' : Turns) (k : SharedPacket) (t before : ℕ) → turns'.shift ≡ turns.shift → slot_of turns.shift k < length turns.slots.items → turn_at (place_in turns k) k ≡ Some before
    → turns'.slots.items ≡ slice_set turns.slots.items (slot_of turns.shift k) (with_turn t (place_in turns k)) → turns'.others ≡ turns.others
    → (q : SharedPacket) → turn_in turns' q ≡ cond (same k q) (Some t) (turn_in turns q)
slot_set turns turns' k t before shift there stands is others q =
    let slots = written turns turns' (slot_of turns.shift k) (with_turn t (place_in turns k)) q shift there is in
    let rest : tree.get shared_cmp turns'.others q ≡ tree.get shared_cmp turns.others q = ap (λ o. tree.get shared_cmp o q) others in
    at_slot turns.shift q (slot_of turns.shift k)
    (λ here.
    let p = placed (place_in turns k) k before stands in
    let old : place_in turns q ≡ Some p.0 = ap (λ i. slice_index_or turns.slots.items i None) here ∙ p.1 in
    turn_by turns turns' q _ _ (slots.0 here ∙ ap (with_turn t) p.1) rest
    ∙ ap (λ b. option_or (cond b (Some t) None) (tree.get shared_cmp turns.others q)) (same_from p.0.packet k q p.2)
    ∙ either (same k q) p.0.turn (tree.get shared_cmp turns.others q)
    ∙ ap (λ b. cond (same k q) (Some t) (option_or (cond b (Some p.0.turn) None) (tree.get shared_cmp turns.others q))) (sym (same_from p.0.packet k q p.2))
    ∙ ap (λ x. cond (same k q) (Some t) x) (sym (turn_by turns turns q _ _ old refl)))
    (λ apart. not_same (same k q) (Some t) (turn_in turns q) (turn_in turns' q) (other_slot turns.shift k q apart) (turn_by turns turns' q _ _ (slots.1 apart) rest))
  where
    either : (b : Bool) (u : ℕ) (x : Option ℕ) → option_or (cond b (Some t) None) x ≡ cond b (Some t) (option_or (cond b (Some u) None) x)
    either true u x = refl
    either false u x = refl

-- ---- a packet is taken out

-- who stands in a slot at the turn of a packet
has_place : (mark t : ℕ) (place : Option Place) → is_place mark t place ≡ true → (p : Place) × (place ≡ Some p) × (p.packet.mark ≡ mark) × (p.turn ≡ t)
has_place mark t None h = cc
has_place mark t (Some p) h = let e = both (p.packet.mark == mark) (p.turn == t) h in (p, refl, eqb-true p.packet.mark mark e.0, eqb-true p.turn t e.1)

some_or : (b : Bool) (t : ℕ) (x : Option ℕ) → b ≡ true → option_or (cond b (Some t) None) x ≡ Some t
some_or true t x h = refl
some_or false t x h = cc

-- from its slot
pub slot_emptied : (turns turns' : Turns) (k : SharedPacket) (t : ℕ) → turns'.shift ≡ turns.shift → slot_of turns.shift k < length turns.slots.items → is_place k.mark t (place_in turns k) ≡ true
    → ((q : SharedPacket) → turn_in turns q ≡ Some t → packet_of q.owned.value ≡ packet_of k.owned.value)
    → turns'.slots.items ≡ slice_set turns.slots.items (slot_of turns.shift k) None
    → ((q : SharedPacket) → tree.get shared_cmp turns'.others q ≡ cond (is_at (shared_cmp k) q) None (tree.get shared_cmp turns.others q))
    → (q : SharedPacket) → turn_in turns' q ≡ cond (same k q) None (turn_in turns q)
slot_emptied turns turns' k t shift there stands alone is updates q =
    let slots = written turns turns' (slot_of turns.shift k) None q shift there is in
    let rest : tree.get shared_cmp turns'.others q ≡ cond (same k q) None (tree.get shared_cmp turns.others q) =
    updates q ∙ ap (λ b. cond b None (tree.get shared_cmp turns.others q)) (tie_is k q) in
    at_slot turns.shift q (slot_of turns.shift k)
    (λ here.
    let p = has_place k.mark t (place_in turns k) stands in
    let old : place_in turns q ≡ Some p.0 = ap (λ i. slice_index_or turns.slots.items i None) here ∙ p.1 in
    let own : place_in turns p.0.packet ≡ Some p.0 = ap (λ m. slice_index_or turns.slots.items (m / 2 ^ (turns.shift % 64)) None) p.2 ∙ p.1 in
    let at : turn_in turns p.0.packet ≡ Some t =
    turn_by turns turns p.0.packet _ _ own refl ∙ some_or (same p.0.packet p.0.packet) p.0.turn (tree.get shared_cmp turns.others p.0.packet) (same_self (packet_of p.0.packet.owned.value))
    ∙ ap (λ n. Some n) p.3 in
    let one : same p.0.packet k ≡ true = is_same_by (packet_of p.0.packet.owned.value) (packet_of k.owned.value) (alone p.0.packet at) in
    turn_by turns turns' q _ _ (slots.0 here) rest
    ∙ either (same k q) p.0.turn (tree.get shared_cmp turns.others q)
    ∙ ap (λ b. cond (same k q) None (option_or (cond b (Some p.0.turn) None) (tree.get shared_cmp turns.others q))) (sym (same_from p.0.packet k q one))
    ∙ ap (λ x. cond (same k q) None x) (sym (turn_by turns turns q _ _ old refl)))
    (λ apart.
    not_same (same k q) None (turn_in turns q) (turn_in turns' q) (other_slot turns.shift k q apart)
    (turn_by turns turns' q _ _ (slots.1 apart) (rest ∙ ap (λ b. cond b None (tree.get shared_cmp turns.others q)) (other_slot turns.shift k q apart))))
  where
    either : (b : Bool) (u : ℕ) (x : Option ℕ) → cond b None x ≡ cond b None (option_or (cond b (Some u) None) x)
    either true u x = refl
    either false u x = refl

-- where its turn does not stand in its slot
not_placed : (place : Option Place) (k : SharedPacket) (t : ℕ) (other : Option ℕ) → is_place k.mark t place ≡ false → option_or (turn_at place k) other ≡ Some t → turn_at place k ≡ None
not_placed None k t other h is = refl
not_placed (Some p) k t other h is = cases (same p.packet k) refl
  where
    cases : (b : Bool) → same p.packet k ≡ b → turn_at (Some p) k ≡ None
    cases false unlike = ap (λ b. cond b (Some p.turn) None) unlike
    cases true alike =
        let at : Some p.turn ≡ Some t = sym (some_or (same p.packet k) p.turn other alike) ∙ is in
        let turn : p.turn ≡ t = cc in
        let found : is_place k.mark t (Some p) ≡ true = rw (eq-eqb p.packet.mark k.mark (same_mark p.packet k alike), eq-eqb p.turn t turn) refl in
        let never : true ≡ false = sym found ∙ h in cc

-- from the others
pub other_gone : (turns turns' : Turns) (k : SharedPacket) (t : ℕ) → turns'.shift ≡ turns.shift → is_place k.mark t (place_in turns k) ≡ false → turn_in turns k ≡ Some t
    → turns'.slots.items ≡ turns.slots.items
    → ((q : SharedPacket) → tree.get shared_cmp turns'.others q ≡ cond (is_at (shared_cmp k) q) None (tree.get shared_cmp turns.others q))
    → (q : SharedPacket) → turn_in turns' q ≡ cond (same k q) None (turn_in turns q)
other_gone turns turns' k t shift apart is slots updates q =
    turn_by turns turns' q _ _ (kept_place turns turns' q shift slots) (updates q ∙ ap (λ b. cond b None (tree.get shared_cmp turns.others q)) (tie_is k q)) ∙ cases (same k q) refl
  where
    none : turn_at (place_in turns k) k ≡ None
    none = not_placed (place_in turns k) k t (tree.get shared_cmp turns.others k) apart is

    cases : (b : Bool) → same k q ≡ b → option_or (turn_at (place_in turns q) q) (cond b None (tree.get shared_cmp turns.others q)) ≡ cond b None (turn_in turns q)
    cases false h = refl
    cases true h =
        let slot : place_in turns q ≡ place_in turns k = ap (λ i. slice_index_or turns.slots.items i None) (sym (same_slot turns.shift k q h)) in
        ap (λ x. option_or x None) (ap (λ p. turn_at p q) slot ∙ sym (turn_as (place_in turns k) k q h) ∙ none)

-- nothing was put into the slots
pub same_turns : (turns turns' : Turns) → turns'.shift ≡ turns.shift → ((i : ℕ) → slice_index_or turns'.slots.items i None ≡ slice_index_or turns.slots.items i None) → turns'.others ≡ turns.others
    → (q : SharedPacket) → turn_in turns' q ≡ turn_in turns q
same_turns turns turns' shift slots others q =
    turn_by turns turns' q _ _ (slots (slot_of turns'.shift q) ∙ ap (λ s. slice_index_or turns.slots.items (slot_of s q) None) shift) (ap (λ o. tree.get shared_cmp o q) others)

-- ---- twice as many slots

-- what stands in one of the two slots for one
abbrev half : ℕ → Bool → Option Place → Option Place
half s second place = cond second (cond (is_second s place) place None) (cond (is_second s place) None place)

second_of : (s : ℕ) (x : Option Place) (l : List (Option Place)) → slice_index_or (halves s x ++ l) 1 None ≡ half s true x
second_of s x l = cases (is_second s x)
  where
    cases : (b : Bool) → slice_index_or (cond b (None ∷ x ∷ []) (x ∷ None ∷ []) ++ l) 1 None ≡ cond b x None
    cases true = refl
    cases false = refl

first_of : (s : ℕ) (x : Option Place) (l : List (Option Place)) → slice_index_or (halves s x ++ l) 0 None ≡ half s false x
first_of s x l = cases (is_second s x)
  where
    cases : (b : Bool) → slice_index_or (cond b (None ∷ x ∷ []) (x ∷ None ∷ []) ++ l) 0 None ≡ cond b None x
    cases true = refl
    cases false = refl

behind : (s : ℕ) (x : Option Place) (l : List (Option Place)) (j : ℕ) → slice_index_or (halves s x ++ l) (suc (suc j)) None ≡ slice_index_or l j None
behind s x l j = cases (is_second s x)
  where
    cases : (b : Bool) → slice_index_or (cond b (None ∷ x ∷ []) (x ∷ None ∷ []) ++ l) (suc (suc j)) None ≡ slice_index_or l j None
    cases true = refl
    cases false = refl

half_none : (s : ℕ) (b : Bool) → half s b None ≡ None
half_none s true = refl
half_none s false = refl

at_half : (s : ℕ) (l : List (Option Place)) (j : ℕ) → slice_index_or (flat_map (halves s) l) j None ≡ half s (j % 2 == 1) (slice_index_or l (j / 2) None)
at_half s [] j = sym (half_none s (j % 2 == 1))
at_half s (x ∷ l) zero = first_of s x (flat_map (halves s) l)
at_half s (x ∷ l) (suc zero) = second_of s x (flat_map (halves s) l)
at_half s (x ∷ l) (suc (suc j)) =
    let place : suc (suc j) / 2 ≡ suc (j / 2) = omega arith in
    let part : suc (suc j) % 2 ≡ j % 2 = omega arith in
    behind s x (flat_map (halves s) l) j ∙ at_half s l j ∙ ap (λ r. half s (r == 1) (slice_index_or l (j / 2) None)) (sym part)
    ∙ ap (λ i. half s (suc (suc j) % 2 == 1) (slice_index_or (x ∷ l) i None)) (sym place)

-- a packet is found in its half
in_half : (s : ℕ) (place : Option Place) (q : SharedPacket) → turn_at (half s (slot_of s q % 2 == 1) place) q ≡ turn_at place q
in_half s None q = ap (λ x. turn_at x q) (half_none s (slot_of s q % 2 == 1))
in_half s (Some p) q = cases (same p.packet q) refl (slot_of s q % 2 == 1) refl (slot_of s p.packet % 2 == 1) refl
  where
    cases : (a : Bool) → same p.packet q ≡ a → (b : Bool) → (slot_of s q % 2 == 1) ≡ b → (c : Bool) → (slot_of s p.packet % 2 == 1) ≡ c
        → turn_at (cond b (cond c (Some p) None) (cond c None (Some p))) q ≡ turn_at (Some p) q
    cases a h true e true f = refl
    cases a h false e false f = refl
    cases false h true e false f = sym (ap (λ x. cond x (Some p.turn) None) h)
    cases false h false e true f = sym (ap (λ x. cond x (Some p.turn) None) h)
    cases true h true e false f = let never : true ≡ false = sym e ∙ ap (λ i. i % 2 == 1) (sym (same_slot s p.packet q h)) ∙ f in cc
    cases true h false e true f = let never : false ≡ true = sym e ∙ ap (λ i. i % 2 == 1) (sym (same_slot s p.packet q h)) ∙ f in cc

-- the slot before
slot_before : (s s' : ℕ) (q : SharedPacket) → s' + 1 ≡ s → s < 64 → slot_of s' q / 2 ≡ slot_of s q
slot_before s s' q is small =
    let low : s % 64 ≡ s = omega (arith, small) in
    let low' : s' % 64 ≡ s' = omega (arith, small, is) in
    ap (λ t. q.mark / 2 ^ t / 2) low' ∙ shr-shr q.mark s' 1 ∙ ap (λ t. q.mark / 2 ^ t) (is ∙ sym low)

-- each packet has its turn as before
pub doubled_turns : (turns turns' : Turns) → turns'.shift + 1 ≡ turns.shift → turns.shift < 64 → turns'.slots.items ≡ flat_map (halves turns'.shift) turns.slots.items → turns'.others ≡ turns.others
    → (q : SharedPacket) → turn_in turns' q ≡ turn_in turns q
doubled_turns turns turns' shift small slots others q =
    ap (λ x. option_or (turn_at (place_in turns' q) q) x) (ap (λ o. tree.get shared_cmp o q) others)
    ∙ ap (λ x. option_or x (tree.get shared_cmp turns.others q))
    (ap (λ l. turn_at (slice_index_or l (slot_of turns'.shift q) None) q) slots
    ∙ ap (λ x. turn_at x q) (at_half turns'.shift turns.slots.items (slot_of turns'.shift q))
    ∙ in_half turns'.shift (slice_index_or turns.slots.items (slot_of turns'.shift q / 2) None) q
    ∙ ap (λ i. turn_at (slice_index_or turns.slots.items i None) q) (slot_before turns.shift turns'.shift q shift small))

-- one slot more was moved
pub moved_more : (f : Option Place → List (Option Place)) (old now first more : List (Option Place)) (i : ℕ) (x : Option Place) → i < length old → i < length now
    → slice_index_or now i None ≡ slice_index_or old i None → x ≡ slice_index_or now i x → more ≡ first ++ flat_map f (take i old) → more ++ f x ≡ first ++ flat_map f (take (i + 1) old)
moved_more f old now first more i x below within left item moved =
    let one : slice_index_or old i None ≡ x = sym left ∙ sym (get_or_default now i x None within) ∙ sym item in
    ap (λ l. l ++ f x) moved ∙ append_assoc first (flat_map f (take i old)) (f x)
    ∙ ap (λ l. first ++ l)
    (sym (ap (flat_map f) (take_more old i None below) ∙ flat_map-append f (take i old) (slice_index_or old i None ∷ []) ∙ ap (λ y. flat_map f (take i old) ++ y) (append-nil (f (slice_index_or old i None)) ∙ ap f one)))

-- there are no fewer slots
pub more_slots : (s : ℕ) (l : List (Option Place)) → length l ≤ length (flat_map (halves s) l)
more_slots s [] = omega arith
more_slots s (x ∷ l) = cases (is_second s x) (more_slots s l)
  where
    cases : (b : Bool) → length l ≤ length (flat_map (halves s) l) → suc (length l) ≤ length (cond b (None ∷ x ∷ []) (x ∷ None ∷ []) ++ flat_map (halves s) l)
    cases true h = omega (arith, h)
    cases false h = omega (arith, h)

-- the shift of slots that are doubled
pub crowded_shift : (s n : ℕ) → is_crowded s n ≡ true → (0 < s) × (s < 64)
crowded_shift s n h =
    let most = both (nat_lt LEAST_SHIFT s && nat_le s FIRST_SHIFT) _ h in
    let shift = both (nat_lt LEAST_SHIFT s) (nat_le s FIRST_SHIFT) most.0 in
    let above : 48 < s = grind (arith, nat_tests, shift.0) in
    let below : s ≤ 56 = grind (arith, nat_tests, shift.1) in
    (omega (arith, above), omega (arith, below))

-- no packet is among no others
no_entry : (p : SharedPacket → Bool) (es : List (SharedPacket × ℕ)) → length es ≡ 0 → lookup p es ≡ None
no_entry p [] h = refl
no_entry p (e ∷ es) h = absurd (omega (arith, h))

pub no_others : (others : List (SharedPacket × ℕ)) (empty : Bool) → IsTrue empty ↔ (length others ≡ 0) → empty ≡ true → (q : SharedPacket) → lookup (is_at (shared_cmp q)) others ≡ None
no_others others empty tells h q = no_entry (is_at (shared_cmp q)) others (tells.0 h)

pub none_gone : (others : List (SharedPacket × ℕ)) (k : SharedPacket) → ((q : SharedPacket) → lookup (is_at (shared_cmp q)) others ≡ None)
    → (q : SharedPacket) → lookup (is_at (shared_cmp q)) others ≡ cond (is_at (shared_cmp k) q) None (lookup (is_at (shared_cmp q)) others)
none_gone others k none q = cases (is_at (shared_cmp k) q)
  where
    cases : (b : Bool) → lookup (is_at (shared_cmp q)) others ≡ cond b None (lookup (is_at (shared_cmp q)) others)
    cases true = none q
    cases false = refl
