-- The turns of packets, in entries that stand in turn.
use Rattle.std.proofs.Common.{◌≡◌, ℕ, ◌<◌, Bool, true, false, cond, List, [], ◌∷◌, ◌++◌, Option, None, Some, refl, ap, sym, subst, ◌∙◌, arith}
use Rattle.std.specs.Prelude.{Result, Ok, Err, OnOk, OnErr, is_err}
use Rattle.std.specs.Map.{lookup, remove_entry}
use Rattle.std.specs.BTreeMap.{insert_entry, is_at}
use Rattle.std.specs.Ordering.{nat_cmp, is_eq, match_ordering}
use Rattle.std.specs.declared.cmp.Ordering.TheVariants.{Greater}
use Rattle.std.proofs.lemmas.Bool.Decides.{nat_tests}
use Rattle.recording.specs.Packets.{Ipv4Value}
use Rattle.recording_packets.specs.copies.Remembered.{is_same}
use Rattle.recording_packets.specs.copies.Owned.{packet_of}
use Rattle.recording_packets.specs.declared.copies.owned.SharedPacket.{SharedPacket}
use Rattle.recording_packets.specs.copies.Slots.{turn_in}
use Rattle.recording_packets.specs.copies.Tables.{HasTurns, IsInTurn, StandsBefore, moment_of, turn_of}
use Rattle.recording_packets.specs.declared.copies.sightings.Sighting.{Sighting}
use Rattle.recording_packets.specs.declared.copies.turns.Turns.{Turns}
use Rattle.recording_packets.proofs.about_copies.SamePackets.{same_is, same_self, same_turned}

-- the packet of an entry
abbrev pub packet_at : ℕ × Sighting → Ipv4Value
packet_at e = packet_of e.1.packet.owned.value

-- the entries of the other packets
abbrev pub without : Ipv4Value → List (ℕ × Sighting) → List (ℕ × Sighting)
without p [] = []
without p (e ∷ es) = cond (is_same (packet_at e) p) (without p es) (e ∷ without p es)

pub not_at : (n m : ℕ) → n < m → is_eq (nat_cmp m n) ≡ false
not_at n m h = grind (arith, nat_tests, h)

pub own_turn : (n : ℕ) → is_eq (nat_cmp n n) ≡ true
own_turn n = grind (arith, nat_tests)

above : (n m : ℕ) → n < m → nat_cmp m n ≡ Greater
above n m h = grind (arith, nat_tests, h)

-- ---- at the end

pub insert_last : (next : ℕ) (es : List (ℕ × Sighting)) (s : Sighting) → IsInTurn next es → insert_entry nat_cmp es next s ≡ es ++ (next, s) ∷ []
insert_last next [] s h = refl
insert_last next (e ∷ es) s h =
    ap (λ o. match_ordering o ((next, s) ∷ e ∷ es) ((e.0, s) ∷ es) (e ∷ insert_entry nat_cmp es next s)) (above e.0 next h.0)
    ∙ ap (λ t. e ∷ t) (insert_last next es s h.2)

pub remove_last : (next : ℕ) (es : List (ℕ × Sighting)) (s : Sighting) → IsInTurn next es → remove_entry (is_at (nat_cmp next)) (es ++ (next, s) ∷ []) ≡ es
remove_last next [] s h = ap (λ b. cond b [] ((next, s) ∷ [])) (own_turn next)
remove_last next (e ∷ es) s h =
    ap (λ b. cond b (es ++ (next, s) ∷ []) (e ∷ remove_entry (is_at (nat_cmp next)) (es ++ (next, s) ∷ []))) (not_at e.0 next h.0)
    ∙ ap (λ t. e ∷ t) (remove_last next es s h.2)

-- ---- where a packet stands

pub some_is : (b : Bool) (x y : Option ℕ) → b ≡ true → cond b x y ≡ x
some_is b x y h = ap (λ t. cond t x y) h

pub other_is : (b : Bool) (x y : Option ℕ) → b ≡ false → cond b x y ≡ y
other_is b x y h = ap (λ t. cond t x y) h

pub none_after : (e : ℕ × Sighting) (es : List (ℕ × Sighting)) (p : Ipv4Value) → StandsBefore e es → packet_at e ≡ p → turn_of p es ≡ None
none_after e [] p h is = refl
none_after e (d ∷ es) p h is =
    other_is _ _ _ (same_turned (packet_at d) p ∙ ap (λ (x : Ipv4Value). is_same x (packet_at d)) (sym is) ∙ h.0.1) ∙ none_after e es p h.1 is

pub turn_below : (next t : ℕ) (es : List (ℕ × Sighting)) (p : Ipv4Value) → IsInTurn next es → turn_of p es ≡ Some t → t < next
turn_below next t [] p h is = cc
turn_below next t (e ∷ es) p h is = cases (is_same (packet_at e) p) refl (turn_below next t es p h.2)
  where
    cases : (b : Bool) → is_same (packet_at e) p ≡ b → (turn_of p es ≡ Some t → t < next) → t < next
    cases true same rest =
        let same_turn : e.0 ≡ t = let found : Some e.0 ≡ Some t = sym (some_is _ _ (turn_of p es) same) ∙ is in cc in
        omega (arith, same_turn, h.0)
    cases false other rest = rest (sym (other_is _ (Some e.0) _ other) ∙ is)

pub turn_after : (t : ℕ) (e : ℕ × Sighting) (es : List (ℕ × Sighting)) (p : Ipv4Value) → StandsBefore e es → turn_of p es ≡ Some t → e.0 < t
turn_after t e [] p h is = cc
turn_after t e (d ∷ es) p h is = cases (is_same (packet_at d) p) refl (turn_after t e es p h.1)
  where
    cases : (b : Bool) → is_same (packet_at d) p ≡ b → (turn_of p es ≡ Some t → e.0 < t) → e.0 < t
    cases true same rest =
        let same_turn : d.0 ≡ t = let found : Some d.0 ≡ Some t = sym (some_is _ _ (turn_of p es) same) ∙ is in cc in
        omega (arith, same_turn, h.0.0)
    cases false other rest = rest (sym (other_is _ (Some d.0) _ other) ∙ is)

-- what is found at the turn of a packet is that packet
pub found_at : (next t : ℕ) (es : List (ℕ × Sighting)) (p : Ipv4Value) (s : Sighting) → IsInTurn next es → turn_of p es ≡ Some t
    → lookup (is_at (nat_cmp t)) es ≡ Some s → (packet_of s.packet.owned.value ≡ p) × (moment_of p es ≡ Some s.moment)
found_at next t [] p s h is found = cc
found_at next t (e ∷ es) p s h is found = cases (is_same (packet_at e) p) refl (found_at next t es p s h.2)
  where
    cases : (b : Bool) → is_same (packet_at e) p ≡ b
        → (turn_of p es ≡ Some t → lookup (is_at (nat_cmp t)) es ≡ Some s → (packet_of s.packet.owned.value ≡ p) × (moment_of p es ≡ Some s.moment))
        → (packet_of s.packet.owned.value ≡ p) × (moment_of p (e ∷ es) ≡ Some s.moment)
    cases true same next_found =
        let same_turn : e.0 ≡ t = let at : Some e.0 ≡ Some t = sym (some_is _ _ (turn_of p es) same) ∙ is in cc in
        let here : is_eq (nat_cmp t e.0) ≡ true = ap (λ n. is_eq (nat_cmp t n)) same_turn ∙ own_turn t in
        let one : e.1 ≡ s = let at : Some e.1 ≡ Some s = sym (ap (λ b. cond b (Some e.1) (lookup (is_at (nat_cmp t)) es)) here) ∙ found in cc in
        (ap (λ (x : Sighting). packet_of x.packet.owned.value) (sym one) ∙ same_is _ _ same, some_is _ _ _ same ∙ ap (λ (x : Sighting). Some x.moment) one)
    cases false other next_found =
        let is : turn_of p es ≡ Some t = sym (other_is _ (Some e.0) _ other) ∙ is in
        let past : is_eq (nat_cmp t e.0) ≡ false = not_at e.0 t (turn_after t e es p h.1 is) in
        let rest = next_found is (sym (ap (λ b. cond b (Some e.1) (lookup (is_at (nat_cmp t)) es)) past) ∙ found) in
        (rest.0, other_is _ _ _ other ∙ rest.1)

-- a packet has a moment where it has a turn
pub none_none : (es : List (ℕ × Sighting)) (p : Ipv4Value) → turn_of p es ≡ None → moment_of p es ≡ None
none_none [] p h = refl
none_none (e ∷ es) p h = cases (is_same (packet_at e) p) refl (none_none es p)
  where
    cases : (b : Bool) → is_same (packet_at e) p ≡ b → (turn_of p es ≡ None → moment_of p es ≡ None) → moment_of p (e ∷ es) ≡ None
    cases true same rest = let at : Some e.0 ≡ None = sym (some_is _ _ (turn_of p es) same) ∙ h in cc
    cases false other rest = other_is _ _ _ other ∙ rest (sym (other_is _ (Some e.0) _ other) ∙ h)

-- the first goes
pub first_gone : (e : ℕ × Sighting) (es : List (ℕ × Sighting)) (q : Ipv4Value) → StandsBefore e es
    → cond (is_same (packet_at e) q) None (turn_of q (e ∷ es)) ≡ turn_of q es
first_gone e es q h = cases (is_same (packet_at e) q) refl
  where
    cases : (b : Bool) → is_same (packet_at e) q ≡ b → cond (is_same (packet_at e) q) None (turn_of q (e ∷ es)) ≡ turn_of q es
    cases true same = some_is _ _ _ same ∙ sym (none_after e es q h (same_is _ _ same))
    cases false other = other_is _ None _ other ∙ other_is _ _ _ other

-- ---- in the tables

pub forgotten : (next : ℕ) (es left : List (ℕ × Sighting)) (turns turns' : Turns) (turn : ℕ) (s : Sighting) → es ≡ (turn, s) ∷ left
    → ((q : SharedPacket) → turn_in turns' q ≡ cond (is_same (packet_of s.packet.owned.value) (packet_of q.owned.value)) None (turn_in turns q))
    → IsInTurn next es → HasTurns turns es → HasTurns turns' left
forgotten next es left turns turns' turn s is updates h has q =
    let h : IsInTurn next ((turn, s) ∷ left) = subst (IsInTurn next) is h in
    updates q
    ∙ ap (λ t. cond (is_same (packet_of s.packet.owned.value) (packet_of q.owned.value)) None t) (has q ∙ ap (turn_of (packet_of q.owned.value)) is)
    ∙ first_gone (turn, s) left (packet_of q.owned.value) h.1

-- the first has its turn
pub first_turn : (es left : List (ℕ × Sighting)) (turns : Turns) (turn : ℕ) (s : Sighting) → es ≡ (turn, s) ∷ left → HasTurns turns es → turn_in turns s.packet ≡ Some turn
first_turn es left turns turn s is has =
    has s.packet ∙ ap (turn_of (packet_of s.packet.owned.value)) is ∙ some_is _ _ (turn_of (packet_of s.packet.owned.value) left) (same_self (packet_of s.packet.owned.value))

-- and no other packet has it
pub first_alone : (next : ℕ) (es left : List (ℕ × Sighting)) (turns : Turns) (turn : ℕ) (s : Sighting) → es ≡ (turn, s) ∷ left → IsInTurn next es → HasTurns turns es
    → (q : SharedPacket) → turn_in turns q ≡ Some turn → packet_of q.owned.value ≡ packet_of s.packet.owned.value
first_alone next es left turns turn s is h has q at = cases (is_same (packet_of s.packet.owned.value) (packet_of q.owned.value)) refl
  where
    stands : IsInTurn next ((turn, s) ∷ left)
    stands = subst (IsInTurn next) is h

    found : turn_of (packet_of q.owned.value) ((turn, s) ∷ left) ≡ Some turn
    found = ap (turn_of (packet_of q.owned.value)) (sym is) ∙ sym (has q) ∙ at

    cases : (b : Bool) → is_same (packet_of s.packet.owned.value) (packet_of q.owned.value) ≡ b → packet_of q.owned.value ≡ packet_of s.packet.owned.value
    cases true same = sym (same_is _ _ same)
    cases false other =
        let below : turn < turn = turn_after turn (turn, s) left (packet_of q.owned.value) stands.1 (sym (other_is _ (Some turn) _ other) ∙ found) in
        absurd (omega (arith, below))

pub err_is : {T E P : Type 0} (r : Result T E) → is_err r ≡ true → OnErr r P → P
err_is (Ok x) h p = cc
err_is (Err e) h p = p

pub ok_is : {T E P : Type 0} (r : Result T E) → is_err r ≡ false → OnOk r P → P
ok_is (Ok x) h p = p
ok_is (Err e) h p = cc
