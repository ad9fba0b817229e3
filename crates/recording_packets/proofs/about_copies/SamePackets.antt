-- Packets that nothing tells apart.
use Rattle.std.proofs.Common.{◌≡◌, ℕ, ◌==◌, Bool, true, false, ◌&&◌, ◌||◌, List, refl, ap, sym, ◌∙◌, arith}
use Rattle.std.specs.Str.{bytes_eq}
use Rattle.std.specs.Ordering.{nat_cmp, ordering_then, is_eq}
use Rattle.std.specs.declared.cmp.Ordering.{Ordering}
use Rattle.std.specs.declared.cmp.Ordering.TheVariants.{Less, Equal, Greater}
use Rattle.std.proofs.lemmas.Bool.{eqb-true, eq-eqb}
use Rattle.std.proofs.lemmas.Bool.Decides.{nat_tests}
use Rattle.std.proofs.lemmas.Map.Text.{is_eq-slice_cmp}
use Rattle.std.proofs.lemmas.Slice.Eq.{bytes_eq-Decides}
use Rattle.recording.specs.Packets.{Ipv4Value}
use Rattle.recording_packets.specs.copies.Remembered.{is_same}
use Rattle.recording_packets.specs.copies.Owned.{packet_of}
use Rattle.recording_packets.specs.copies.Marks.{mark_of}
use Rattle.recording_packets.specs.declared.copies.owned.SharedPacket.{SharedPacket}
use Rattle.recording_packets.specs.copies.Slots.{packet_cmp, shared_cmp}
use Rattle.recording_packets.specs.declared.copies.owned.OwnedPacket.{OwnedPacket}

pub both : (a b : Bool) → (a && b) ≡ true → (a ≡ true) × (b ≡ true)
both true b h = (refl, h)
both false b h = cc

pub or_false : (a b : Bool) → (a || b) ≡ false → (a ≡ false) × (b ≡ false)
or_false true b h = cc
or_false false b h = (refl, h)

and_true : (a b : Bool) → a ≡ true → b ≡ true → (a && b) ≡ true
and_true a b p q = rw (p, q) refl

made : (s s' d d' : List ℕ) (i i' f f' p p' : ℕ) (b b' : List ℕ) → s ≡ s' → d ≡ d' → i ≡ i' → f ≡ f' → p ≡ p' → b ≡ b'
    → ◌≡◌ {A = Ipv4Value} (record { source = s; destination = d; identification = i; fragment = f; protocol = p; payload = b })
    (record { source = s'; destination = d'; identification = i'; fragment = f'; protocol = p'; payload = b' })
made s s' d d' i i' f f' p p' b b' es ed ei ef ep eb = rw (es, ed, ei, ef, ep, eb) refl

pub same_is : (a b : Ipv4Value) → is_same a b ≡ true → a ≡ b
same_is a b h =
    let e = both _ _ h in
    let d = both _ _ e.0 in
    let c = both _ _ d.0 in
    let p = both _ _ c.0 in
    let i = both _ _ p.0 in
    made a.source b.source a.destination b.destination a.identification b.identification a.fragment b.fragment a.protocol b.protocol a.payload b.payload
    ((bytes_eq-Decides a.source b.source).0 d.1) ((bytes_eq-Decides a.destination b.destination).0 e.1)
    (eqb-true _ _ i.0) (eqb-true _ _ i.1) (eqb-true _ _ p.1) ((bytes_eq-Decides a.payload b.payload).0 c.1)

pub same_self : (a : Ipv4Value) → is_same a a ≡ true
same_self a =
    and_true _ _ (and_true _ _ (and_true _ _ (and_true _ _ (and_true _ _ (eq-eqb a.identification a.identification refl) (eq-eqb a.fragment a.fragment refl))
    (eq-eqb a.protocol a.protocol refl)) ((bytes_eq-Decides a.payload a.payload).1 refl)) ((bytes_eq-Decides a.source a.source).1 refl))
    ((bytes_eq-Decides a.destination a.destination).1 refl)

pub is_same_by : (a b : Ipv4Value) → a ≡ b → is_same a b ≡ true
is_same_by a b e = ap (λ (x : Ipv4Value). is_same a x) (sym e) ∙ same_self a

pub same_turned : (a b : Ipv4Value) → is_same a b ≡ is_same b a
same_turned a b = cases (is_same a b) refl (is_same b a) refl
  where
    cases : (x : Bool) → is_same a b ≡ x → (y : Bool) → is_same b a ≡ y → is_same a b ≡ is_same b a
    cases true p y q = p ∙ sym (is_same_by b a (sym (same_is a b p)))
    cases false p true q = is_same_by a b (sym (same_is b a q)) ∙ sym q
    cases false p false q = p ∙ sym q

-- the marks of two that are the same
pub same_mark : (a b : SharedPacket) → is_same (packet_of a.owned.value) (packet_of b.owned.value) ≡ true → a.mark ≡ b.mark
same_mark a b h = a.marked ∙ ap mark_of (same_is (packet_of a.owned.value) (packet_of b.owned.value) h) ∙ sym b.marked

-- ---- by their order

both_tie : (x y : Ordering) (p q : Bool) → is_eq x ≡ p → is_eq y ≡ q → is_eq (ordering_then x y) ≡ (p && q)
both_tie Less y p q e f = ap (λ t. t && q) e
both_tie Equal y p q e f = f ∙ ap (λ t. t && q) e
both_tie Greater y p q e f = ap (λ t. t && q) e

number_tie : (a b : ℕ) → is_eq (nat_cmp a b) ≡ (a == b)
number_tie a b = grind (arith, nat_tests)

turned : (i f p b s d : Bool) → (i && (f && (p && (b && (s && d))))) ≡ (((((i && f) && p) && b) && s) && d)
turned false f p b s d = refl
turned true false p b s d = refl
turned true true false b s d = refl
turned true true true false s d = refl
turned true true true true s d = refl

packets_tie : (a b : OwnedPacket) → is_eq (packet_cmp a b) ≡ is_same (packet_of a) (packet_of b)
packets_tie a b =
    both_tie _ _ _ _ (number_tie a.identification b.identification)
    (both_tie _ _ _ _ (number_tie a.fragment b.fragment)
    (both_tie _ _ _ _ (number_tie a.protocol b.protocol)
    (both_tie _ _ _ _ (is_eq-slice_cmp a.payload.items b.payload.items)
    (both_tie _ _ _ _ (is_eq-slice_cmp a.source b.source) (is_eq-slice_cmp a.destination b.destination)))))
    ∙ turned (a.identification == b.identification) (a.fragment == b.fragment) (a.protocol == b.protocol) (bytes_eq a.payload.items b.payload.items)
    (bytes_eq a.source b.source) (bytes_eq a.destination b.destination)

-- the marks of two that are the same are equal
pub tie_is : (a b : SharedPacket) → is_eq (shared_cmp a b) ≡ is_same (packet_of a.owned.value) (packet_of b.owned.value)
tie_is a b = both_tie _ _ _ _ (number_tie a.mark b.mark) (packets_tie a.owned.value b.owned.value) ∙ cases (is_same (packet_of a.owned.value) (packet_of b.owned.value)) refl
  where
    either : (x : Bool) → (x && false) ≡ false
    either true = refl
    either false = refl

    cases : (x : Bool) → is_same (packet_of a.owned.value) (packet_of b.owned.value) ≡ x → (a.mark == b.mark && x) ≡ x
    cases true same =
        let one = same_is (packet_of a.owned.value) (packet_of b.owned.value) same in
        ap (λ t. t && true) (eq-eqb a.mark b.mark (a.marked ∙ ap mark_of one ∙ sym b.marked))
    cases false other = either (a.mark == b.mark)
