-- Entries after a packet was noted: those of the other packets, and it as the youngest.
use Rattle.std.proofs.Common.{◌≡◌, ℕ, ◌+◌, ◌<◌, Bool, true, false, not, cond, List, [], ◌∷◌, ◌++◌, Option, None, Some, refl, ap, sym, subst, ◌∙◌, arith}
use Rattle.std.specs.Map.{lookup, remove_entry}
use Rattle.std.specs.BTreeMap.{is_at}
use Rattle.std.specs.Ordering.{nat_cmp, is_eq}
use Rattle.std.proofs.lemmas.Bool.Decides.{nat_tests}
use Rattle.recording.specs.Packets.{Ipv4Value}
use Rattle.recording_packets.specs.copies.Remembered.{is_same, others}
use Rattle.recording_packets.specs.copies.Owned.{packet_of}
use Rattle.recording_packets.specs.declared.copies.owned.SharedPacket.{SharedPacket}
use Rattle.recording_packets.specs.copies.Slots.{turn_in}
use Rattle.recording_packets.specs.copies.Tables.{HasTurns, IsInTurn, StandsBefore, remembered_in, turn_of, value_of}
use Rattle.recording_packets.specs.declared.copies.sightings.Sighting.{Sighting}
use Rattle.recording_packets.specs.declared.copies.turns.Turns.{Turns}
use Rattle.recording_packets.proofs.about_copies.SamePackets.{same_is, same_self}
use Rattle.recording_packets.proofs.about_copies.Turns.{found_at, packet_at, without, not_at, own_turn, some_is, other_is, none_after, turn_after, turn_below}

abbrev pub noted : ℕ → Sighting → List (ℕ × Sighting) → List (ℕ × Sighting)
noted next s es = without (packet_of s.packet.owned.value) es ++ (next, s) ∷ []

-- ---- the others

whole : (b : Bool) (xs ys : List (ℕ × Sighting)) → b ≡ false → cond b xs ys ≡ ys
whole b xs ys h = ap (λ t. cond t xs ys) h

gone : (b : Bool) (xs ys : List (ℕ × Sighting)) → b ≡ true → cond b xs ys ≡ xs
gone b xs ys h = ap (λ t. cond t xs ys) h

pub without_none : (p : Ipv4Value) (es : List (ℕ × Sighting)) → turn_of p es ≡ None → without p es ≡ es
without_none p [] h = refl
without_none p (e ∷ es) h = cases (is_same (packet_at e) p) refl (without_none p es)
  where
    cases : (b : Bool) → is_same (packet_at e) p ≡ b → (turn_of p es ≡ None → without p es ≡ es) → without p (e ∷ es) ≡ e ∷ es
    cases true same rest = let at : Some e.0 ≡ None = sym (some_is _ _ (turn_of p es) same) ∙ h in cc
    cases false other rest = whole _ _ _ other ∙ ap (λ t. e ∷ t) (rest (sym (other_is _ (Some e.0) _ other) ∙ h))

-- to take out what stands at the turn of a packet leaves the others
pub removed : (next t : ℕ) (es : List (ℕ × Sighting)) (p : Ipv4Value) → IsInTurn next es → turn_of p es ≡ Some t → remove_entry (is_at (nat_cmp t)) es ≡ without p es
removed next t [] p h is = cc
removed next t (e ∷ es) p h is = cases (is_same (packet_at e) p) refl (removed next t es p h.2)
  where
    cases : (b : Bool) → is_same (packet_at e) p ≡ b → (turn_of p es ≡ Some t → remove_entry (is_at (nat_cmp t)) es ≡ without p es)
        → remove_entry (is_at (nat_cmp t)) (e ∷ es) ≡ without p (e ∷ es)
    cases true same rest =
        let same_turn : e.0 ≡ t = let at : Some e.0 ≡ Some t = sym (some_is _ _ (turn_of p es) same) ∙ is in cc in
        let here : is_eq (nat_cmp t e.0) ≡ true = ap (λ n. is_eq (nat_cmp t n)) same_turn ∙ own_turn t in
        gone _ es (e ∷ remove_entry (is_at (nat_cmp t)) es) here ∙ sym (without_none p es (none_after e es p h.1 (same_is _ _ same))) ∙ sym (gone _ _ (e ∷ without p es) same)
    cases false other rest =
        let is : turn_of p es ≡ Some t = sym (other_is _ (Some e.0) _ other) ∙ is in
        let past : is_eq (nat_cmp t e.0) ≡ false = not_at e.0 t (turn_after t e es p h.1 is) in
        whole _ es (e ∷ remove_entry (is_at (nat_cmp t)) es) past ∙ ap (λ es. e ∷ es) (rest is) ∙ sym (whole _ (without p es) _ other)

removed_before_last : (t next : ℕ) (es : List (ℕ × Sighting)) (s : Sighting) → t < next
    → remove_entry (is_at (nat_cmp t)) (es ++ (next, s) ∷ []) ≡ remove_entry (is_at (nat_cmp t)) es ++ (next, s) ∷ []
removed_before_last t next [] s lt = whole _ [] ((next, s) ∷ []) (grind (arith, nat_tests, lt))
removed_before_last t next (e ∷ es) s lt = cases (is_eq (nat_cmp t e.0)) refl (removed_before_last t next es s lt)
  where
    cases : (b : Bool) → is_eq (nat_cmp t e.0) ≡ b
        → remove_entry (is_at (nat_cmp t)) (es ++ (next, s) ∷ []) ≡ remove_entry (is_at (nat_cmp t)) es ++ (next, s) ∷ []
        → remove_entry (is_at (nat_cmp t)) (e ∷ es ++ (next, s) ∷ []) ≡ remove_entry (is_at (nat_cmp t)) (e ∷ es) ++ (next, s) ∷ []
    cases true here rest =
        gone _ (es ++ (next, s) ∷ []) (e ∷ remove_entry (is_at (nat_cmp t)) (es ++ (next, s) ∷ [])) here
        ∙ ap (λ t. t ++ (next, s) ∷ []) (sym (gone _ es (e ∷ remove_entry (is_at (nat_cmp t)) es) here))
    cases false past rest =
        whole _ (es ++ (next, s) ∷ []) (e ∷ remove_entry (is_at (nat_cmp t)) (es ++ (next, s) ∷ [])) past
        ∙ ap (λ t. e ∷ t) rest
        ∙ ap (λ t. t ++ (next, s) ∷ []) (sym (whole _ es (e ∷ remove_entry (is_at (nat_cmp t)) es) past))

pub renewed : (next t : ℕ) (es : List (ℕ × Sighting)) (p : Ipv4Value) (s : Sighting) → packet_of s.packet.owned.value ≡ p → IsInTurn next es → turn_of p es ≡ Some t
    → remove_entry (is_at (nat_cmp t)) (es ++ (next, s) ∷ []) ≡ noted next s es
renewed next t es p s same h is =
    removed_before_last t next es s (turn_below next t es p h is) ∙ ap (λ l. l ++ (next, s) ∷ []) (removed next t es p h is) ∙ ap (λ q. without q es ++ (next, s) ∷ []) (sym same)

pub added : (next : ℕ) (es : List (ℕ × Sighting)) (s : Sighting) → turn_of (packet_of s.packet.owned.value) es ≡ None → es ++ (next, s) ∷ [] ≡ noted next s es
added next es s h = ap (λ l. l ++ (next, s) ∷ []) (sym (without_none _ es h))

-- ---- what they remember

values_last : (es : List (ℕ × Sighting)) (next : ℕ) (s : Sighting) → remembered_in (es ++ (next, s) ∷ []) ≡ remembered_in es ++ value_of s ∷ []
values_last [] next s = refl
values_last (e ∷ es) next s = ap (λ t. value_of e.1 ∷ t) (values_last es next s)

pub values_without : (p : Ipv4Value) (es : List (ℕ × Sighting)) → remembered_in (without p es) ≡ others p (remembered_in es)
values_without p [] = refl
values_without p (e ∷ es) = cases (is_same (packet_at e) p) refl (values_without p es)
  where
    cases : (b : Bool) → is_same (packet_at e) p ≡ b → remembered_in (without p es) ≡ others p (remembered_in es) → remembered_in (without p (e ∷ es)) ≡ others p (remembered_in (e ∷ es))
    cases true same rest =
        ap remembered_in (gone _ (without p es) (e ∷ without p es) same) ∙ rest
        ∙ sym (ap (λ b. cond (not b) (value_of e.1 ∷ others p (remembered_in es)) (others p (remembered_in es))) same)
    cases false other rest =
        ap remembered_in (whole _ (without p es) (e ∷ without p es) other) ∙ ap (λ t. value_of e.1 ∷ t) rest
        ∙ sym (ap (λ b. cond (not b) (value_of e.1 ∷ others p (remembered_in es)) (others p (remembered_in es))) other)

pub values_noted : (next : ℕ) (s : Sighting) (es : List (ℕ × Sighting)) → remembered_in (noted next s es) ≡ others (packet_of s.packet.owned.value) (remembered_in es) ++ value_of s ∷ []
values_noted next s es = values_last (without (packet_of s.packet.owned.value) es) next s ∙ ap (λ l. l ++ value_of s ∷ []) (values_without (packet_of s.packet.owned.value) es)

-- ---- their turns

turn_without : (p q : Ipv4Value) (es : List (ℕ × Sighting)) → turn_of q (without p es) ≡ cond (is_same p q) None (turn_of q es)
turn_without p q [] = nothing (is_same p q)
  where
    nothing : (b : Bool) → let none : Option ℕ = None in none ≡ cond b None none
    nothing true = refl
    nothing false = refl
turn_without p q (e ∷ es) = cases (is_same (packet_at e) p) refl (turn_without p q es)
  where
    -- another packet is not this one
    found : (b c : Bool) → is_same (packet_at e) q ≡ b → is_same p q ≡ c → is_same (packet_at e) p ≡ false
        → cond b (Some e.0) (cond c None (turn_of q es)) ≡ cond c None (cond b (Some e.0) (turn_of q es))
    found true true here there other =
        let one : is_same (packet_at e) p ≡ true = ap (λ (x : Ipv4Value). is_same x p) (same_is (packet_at e) q here ∙ sym (same_is p q there)) ∙ same_self p in
        cc
    found true false here there other = refl
    found false c here there other = refl

    either : (b : Bool) → cond b None (turn_of q es) ≡ cond b None (cond b (Some e.0) (turn_of q es))
    either true = refl
    either false = refl

    cases : (b : Bool) → is_same (packet_at e) p ≡ b → turn_of q (without p es) ≡ cond (is_same p q) None (turn_of q es)
        → turn_of q (without p (e ∷ es)) ≡ cond (is_same p q) None (turn_of q (e ∷ es))
    cases true same rest =
        let one : is_same (packet_at e) q ≡ is_same p q = ap (λ (x : Ipv4Value). is_same x q) (same_is _ _ same) in
        ap (turn_of q) (gone _ (without p es) (e ∷ without p es) same) ∙ rest ∙ either (is_same p q) ∙ sym (ap (λ b. cond (is_same p q) None (cond b (Some e.0) (turn_of q es))) one)
    cases false other rest =
        ap (turn_of q) (whole _ (without p es) (e ∷ without p es) other)
        ∙ ap (λ t. cond (is_same (packet_at e) q) (Some e.0) t) rest
        ∙ found (is_same (packet_at e) q) (is_same p q) refl refl other

turn_last : (q : Ipv4Value) (es : List (ℕ × Sighting)) (next : ℕ) (s : Sighting) → turn_of (packet_of s.packet.owned.value) es ≡ None
    → turn_of q (es ++ (next, s) ∷ []) ≡ cond (is_same (packet_of s.packet.owned.value) q) (Some next) (turn_of q es)
turn_last q [] next s none = refl
turn_last q (e ∷ es) next s none = cases (is_same (packet_at e) (packet_of s.packet.owned.value)) refl (turn_last q es next s)
  where
    found : (b c : Bool) → is_same (packet_at e) q ≡ b → is_same (packet_of s.packet.owned.value) q ≡ c → is_same (packet_at e) (packet_of s.packet.owned.value) ≡ false
        → cond b (Some e.0) (cond c (Some next) (turn_of q es)) ≡ cond c (Some next) (cond b (Some e.0) (turn_of q es))
    found true true here there other =
        let one : is_same (packet_at e) (packet_of s.packet.owned.value) ≡ true = ap (λ (x : Ipv4Value). is_same x (packet_of s.packet.owned.value)) (same_is (packet_at e) q here ∙ sym (same_is (packet_of s.packet.owned.value) q there)) ∙ same_self (packet_of s.packet.owned.value) in
        cc
    found true false here there other = refl
    found false c here there other = refl

    cases : (b : Bool) → is_same (packet_at e) (packet_of s.packet.owned.value) ≡ b
        → (turn_of (packet_of s.packet.owned.value) es ≡ None → turn_of q (es ++ (next, s) ∷ []) ≡ cond (is_same (packet_of s.packet.owned.value) q) (Some next) (turn_of q es))
        → turn_of q (e ∷ es ++ (next, s) ∷ []) ≡ cond (is_same (packet_of s.packet.owned.value) q) (Some next) (turn_of q (e ∷ es))
    cases true same rest = let at : Some e.0 ≡ None = sym (some_is _ _ (turn_of (packet_of s.packet.owned.value) es) same) ∙ none in cc
    cases false other rest =
        ap (λ t. cond (is_same (packet_at e) q) (Some e.0) t) (rest (sym (other_is _ (Some e.0) _ other) ∙ none))
        ∙ found (is_same (packet_at e) q) (is_same (packet_of s.packet.owned.value) q) refl refl other

pub turn_noted : (q : Ipv4Value) (next : ℕ) (s : Sighting) (es : List (ℕ × Sighting)) → turn_of q (noted next s es) ≡ cond (is_same (packet_of s.packet.owned.value) q) (Some next) (turn_of q es)
turn_noted q next s es =
    turn_last q (without (packet_of s.packet.owned.value) es) next s (turn_without (packet_of s.packet.owned.value) (packet_of s.packet.owned.value) es ∙ some_is _ _ _ (same_self (packet_of s.packet.owned.value)))
    ∙ ap (λ t. cond (is_same (packet_of s.packet.owned.value) q) (Some next) t) (turn_without (packet_of s.packet.owned.value) q es)
    ∙ either (is_same (packet_of s.packet.owned.value) q)
  where
    either : (b : Bool) → cond b (Some next) (cond b None (turn_of q es)) ≡ cond b (Some next) (turn_of q es)
    either true = refl
    either false = refl

-- ---- they stand in turn

before_without : (d : ℕ × Sighting) (p : Ipv4Value) (es : List (ℕ × Sighting)) → StandsBefore d es → StandsBefore d (without p es)
before_without d p [] h = tt
before_without d p (e ∷ es) h = cases (is_same (packet_at e) p) (before_without d p es h.1)
  where
    cases : (b : Bool) → StandsBefore d (without p es) → StandsBefore d (cond b (without p es) (e ∷ without p es))
    cases true rest = rest
    cases false rest = (h.0, rest)

in_turn_without : (next : ℕ) (p : Ipv4Value) (es : List (ℕ × Sighting)) → IsInTurn next es → IsInTurn next (without p es)
in_turn_without next p [] h = tt
in_turn_without next p (e ∷ es) h = cases (is_same (packet_at e) p) (in_turn_without next p es h.2)
  where
    cases : (b : Bool) → IsInTurn next (without p es) → IsInTurn next (cond b (without p es) (e ∷ without p es))
    cases true rest = rest
    cases false rest = (h.0, before_without e p es h.1, rest)

before_last : (d : ℕ × Sighting) (next : ℕ) (s : Sighting) (es : List (ℕ × Sighting)) → d.0 < next → is_same (packet_at d) (packet_of s.packet.owned.value) ≡ false
    → StandsBefore d es → StandsBefore d (es ++ (next, s) ∷ [])
before_last d next s [] lt other h = ((lt, other), tt)
before_last d next s (e ∷ es) lt other h = (h.0, before_last d next s es lt other h.1)

in_turn_last : (next : ℕ) (s : Sighting) (es : List (ℕ × Sighting)) → IsInTurn next es → IsInTurn (next + 1) (without (packet_of s.packet.owned.value) es ++ (next, s) ∷ [])
in_turn_last next s [] h = (omega arith, tt, tt)
in_turn_last next s (e ∷ es) h = cases (is_same (packet_at e) (packet_of s.packet.owned.value)) refl (in_turn_last next s es h.2)
  where
    cases : (b : Bool) → is_same (packet_at e) (packet_of s.packet.owned.value) ≡ b → IsInTurn (next + 1) (without (packet_of s.packet.owned.value) es ++ (next, s) ∷ [])
        → IsInTurn (next + 1) (cond b (without (packet_of s.packet.owned.value) es) (e ∷ without (packet_of s.packet.owned.value) es) ++ (next, s) ∷ [])
    cases true same rest = rest
    cases false other rest =
        (omega (arith, h.0), before_last e next s (without (packet_of s.packet.owned.value) es) h.0 other (before_without e (packet_of s.packet.owned.value) es h.1), rest)

pub in_turn_noted : (next : ℕ) (s : Sighting) (es : List (ℕ × Sighting)) → IsInTurn next es → IsInTurn (next + 1) (noted next s es)
in_turn_noted = in_turn_last

-- a turn more
pub in_turn_more : (n : ℕ) (es : List (ℕ × Sighting)) → IsInTurn n es → IsInTurn (n + 1) es
in_turn_more n [] h = tt
in_turn_more n (e ∷ es) h = (omega (arith, h.0), h.1, in_turn_more n es h.2)

-- ---- in the tables

-- the turns after a packet was noted
pub turns_noted : (next : ℕ) (s : Sighting) (es : List (ℕ × Sighting)) (turns turns' : Turns) (k : SharedPacket) → packet_of k.owned.value ≡ packet_of s.packet.owned.value
    → ((q : SharedPacket) → turn_in turns' q ≡ cond (is_same (packet_of k.owned.value) (packet_of q.owned.value)) (Some next) (turn_in turns q))
    → HasTurns turns es → HasTurns turns' (noted next s es)
turns_noted next s es turns turns' k same updates has q =
    updates q
    ∙ ap (λ (p : Ipv4Value). cond (is_same p (packet_of q.owned.value)) (Some next) (turn_in turns q)) same
    ∙ ap (λ t. cond (is_same (packet_of s.packet.owned.value) (packet_of q.owned.value)) (Some next) t) (has q)
    ∙ sym (turn_noted (packet_of q.owned.value) next s es)

-- the entries after a packet was noted that stood at a turn
pub renews : (next t moment : ℕ) (es more left : List (ℕ × Sighting)) (p : Ipv4Value) (k : SharedPacket) (earlier : Sighting) → IsInTurn next es → turn_of p es ≡ Some t
    → lookup (is_at (nat_cmp t)) es ≡ Some earlier → k.owned.value ≡ earlier.packet.owned.value
    → more ≡ es ++ (next, record { moment = moment; packet = k }) ∷ [] → left ≡ remove_entry (is_at (nat_cmp t)) more
    → (packet_of k.owned.value ≡ p) × (left ≡ noted next (record { moment = moment; packet = k }) es)
renews next t moment es more left p k earlier h is found clone inserts removes =
    let same : packet_of k.owned.value ≡ p = ap packet_of clone ∙ (found_at next t es p earlier h is found).0 in (
      same,
      removes ∙ ap (remove_entry (is_at (nat_cmp t))) inserts ∙ renewed next t es p (record { moment = moment; packet = k }) same h is,
    )

pub turns_added : (next : ℕ) (s : Sighting) (es more : List (ℕ × Sighting)) (turns turns' : Turns) (k : SharedPacket) → turn_of (packet_of s.packet.owned.value) es ≡ None
    → more ≡ es ++ (next, s) ∷ [] → packet_of k.owned.value ≡ packet_of s.packet.owned.value
    → ((q : SharedPacket) → turn_in turns' q ≡ cond (is_same (packet_of k.owned.value) (packet_of q.owned.value)) (Some next) (turn_in turns q))
    → HasTurns turns es → HasTurns turns' more
turns_added next s es more turns turns' k none is same updates has =
    subst (HasTurns turns') (sym (is ∙ added next es s none)) (turns_noted next s es turns turns' k same updates has)

-- the tables as they were
pub kept_turns : (es es' : List (ℕ × Sighting)) (turns turns' : Turns) → ((q : SharedPacket) → turn_in turns' q ≡ turn_in turns q) → es' ≡ es → HasTurns turns es → HasTurns turns' es'
kept_turns es es' turns turns' same is has q = same q ∙ has q ∙ ap (turn_of (packet_of q.owned.value)) (sym is)
