-- What a piece makes of a list of packets in part, where those are left out whose time is over.
use Rattle.std.proofs.Common.{◌≡◌, ℕ, ◌+◌, ◌≤◌, nat_lt, Bool, true, false, cond, ◌&&◌, List, [], ◌∷◌, length, get_or, take, drop, filter, Option, Some, None, Result, Ok, Err, OnErr, IfOk, unwrap_or, refl, ap, sym, subst, ◌∙◌, arith}
use Rattle.std.proofs.Math.Seq.{drop-nil}
use Rattle.std.proofs.lemmas.Bool.{and_parts}
use Rattle.std.proofs.lemmas.Bool.Decides.{nat_tests}
use Rattle.std.proofs.lemmas.List.{get_or_default}
use Rattle.std.proofs.lemmas.List.Sums.{sum_by-cons, sum_by-take-le, sum_by-take-drop}
use Rattle.std.specs.declared.alloc.AllocError.{AllocError}
use Rattle.recording_packets.specs.declared.fragments.piece.PacketKey.{PacketKey}
use Rattle.recording_packets.specs.declared.fragments.parts.Taken.{Taken}
use Rattle.recording_packets.specs.declared.fragments.parts.Taken.TheVariants.{TooLong, Differs, InPart, Whole}
use Rattle.recording_packets.specs.fragments.Pieces.{Piece, same_key, is_too_long}
use Rattle.recording_packets.specs.fragments.Parts.{Part, nothing_of, differs, with_piece, is_fresh, is_gone, part_under, without, with_part, fragments_of}
use Rattle.recording_packets.specs.fragments.Stores.{Store, part_for, newest, pushed_out, at_most_64, at_moment, received}
use Rattle.recording_packets.specs.fragments.Takings.{StandsAt, TakesAt, TakesNew, TakesIn, Takes, alone, differing, payload_in}
use Rattle.recording_packets.proofs.about_fragments.CellLemmas.{has_another-nil}
use Rattle.recording_packets.proofs.about_fragments.PartLemmas.{Hit, hit_at, NoHit, no_hit, fresh-and-gone}

-- ---- a packet that is held

-- the packet that is hit
found : (key : PacketKey) (now : ℕ) (old : List Part) (i : ℕ) (d : Part) → StandsAt key now old (Some i) → Hit key now old i (get_or old i d)
found key now old i d there = hit_at key now old i (get_or old i d) there.0 there.1 there.2 (get_or_default old i d (get_or old i d) there.0)

is_left : (key : PacketKey) (now : ℕ) (old : List Part) (i : ℕ) (d : Part) → StandsAt key now old (Some i) → is_fresh now (get_or old i d) ≡ true
is_left key now old i d there = (and_parts (same_key key (get_or old i d).key) (is_fresh now (get_or old i d)) (there.1 d)).1

takes_found : (key : PacketKey) (now : ℕ) (piece : Piece) (old new : List Part) (i : ℕ) (e : Part) (taken : Taken) → is_too_long piece ≡ false → is_fresh now e ≡ true
    → Hit key now old i e → TakesAt i e piece old taken new → TakesIn key e piece (filter (is_fresh now) old) taken (filter (is_fresh now) new)
takes_found key now piece old new i e TooLong short left hit t = absurd t
takes_found key now piece old new i e (Differs n) short left hit t = (short, t.0, t.1, ap (filter (is_fresh now)) t.2 ∙ hit.removed)
takes_found key now piece old new i e InPart short left hit t = (short, t.0, t.1, ap (filter (is_fresh now)) t.2 ∙ hit.changed (with_piece e piece) left)
takes_found key now piece old new i e (Whole payload) short left hit t = (short, t.0, t.1, ap (filter (is_fresh now)) t.2 ∙ hit.removed)

pub takes_some : (key : PacketKey) (now : ℕ) (piece : Piece) (old new : List Part) (i : ℕ) (r : Result Taken AllocError) → is_too_long piece ≡ false → StandsAt key now old (Some i)
    → IfOk r (λ taken. (d : Part) → TakesAt i (get_or old i d) piece old taken new) → IfOk r (λ taken. Takes key now piece (filter (is_fresh now) old) taken (filter (is_fresh now) new))
takes_some key now piece old new i (Err e) short there ok = tt
takes_some key now piece old new i (Ok taken) short there ok =
    let d : Part = nothing_of key now in
    let e : Part = get_or old i d in
    let hit : Hit key now old i e = found key now old i d there in
    let own : part_for key now (filter (is_fresh now) old) ≡ e = ap (λ o. unwrap_or o (nothing_of key now)) hit.under in
    subst (λ part. TakesIn key part piece (filter (is_fresh now) old) taken (filter (is_fresh now) new)) (sym own)
    (takes_found key now piece old new i e taken short (is_left key now old i d there) hit (ok d))

gone_found : (key : PacketKey) (now : ℕ) (piece : Piece) (old new : List Part) (i : ℕ) (e : Part) (taken : Taken) → is_fresh now e ≡ true
    → Hit key now old i e → TakesAt i e piece old taken new → filter (is_gone now) new ≡ filter (is_gone now) old
gone_found key now piece old new i e TooLong left hit t = absurd t
gone_found key now piece old new i e (Differs n) left hit t = ap (filter (is_gone now)) t.2 ∙ hit.gone_removed
gone_found key now piece old new i e InPart left hit t = ap (filter (is_gone now)) t.2 ∙ hit.gone_changed (with_piece e piece) left
gone_found key now piece old new i e (Whole payload) left hit t = ap (filter (is_gone now)) t.2 ∙ hit.gone_removed

pub gone_some : (key : PacketKey) (now : ℕ) (piece : Piece) (old new : List Part) (i : ℕ) (r : Result Taken AllocError) → StandsAt key now old (Some i)
    → IfOk r (λ taken. (d : Part) → TakesAt i (get_or old i d) piece old taken new) → OnErr r (new ≡ old) → filter (is_gone now) new ≡ filter (is_gone now) old
gone_some key now piece old new i (Err e) there ok err = ap (filter (is_gone now)) err
gone_some key now piece old new i (Ok taken) there ok err =
    let d : Part = nothing_of key now in
    gone_found key now piece old new i (get_or old i d) taken (is_left key now old i d there) (found key now old i d there) (ok d)

-- ---- a packet of which nothing came

not_before : (n : ℕ) → nat_lt n 0 ≡ false
not_before n = grind (arith, nat_tests)

and_none : (t : Bool) → (t && false) ≡ false
and_none true = refl
and_none false = refl

-- nothing differs from it
pub nothing_differs : (key : PacketKey) (now : ℕ) (piece : Piece) → differs (nothing_of key now) piece ≡ false
nothing_differs key now piece =
    rw (drop-nil piece.offset, has_another-nil piece.bytes, not_before) (and_none piece.last)

new_left : (key : PacketKey) (now : ℕ) → is_fresh now (nothing_of key now) ≡ true
new_left key now = grind (arith, nat_tests)

takes_added : (key : PacketKey) (now : ℕ) (piece : Piece) (old new : List Part) (taken : Taken) → is_too_long piece ≡ false
    → NoHit key now old → TakesNew (nothing_of key now) piece old taken new → TakesIn key (nothing_of key now) piece (filter (is_fresh now) old) taken (filter (is_fresh now) new)
takes_added key now piece old new TooLong short hit t = absurd t
takes_added key now piece old new (Differs n) short hit t = absurd t
takes_added key now piece old new InPart short hit t =
    (short, nothing_differs key now piece, t.0, ap (filter (is_fresh now)) t.1 ∙ hit.added (with_piece (nothing_of key now) piece) (new_left key now))
takes_added key now piece old new (Whole payload) short hit t =
    (short, nothing_differs key now piece, t.0, ap (filter (is_fresh now)) t.1 ∙ sym hit.all_others)

pub takes_none : (key : PacketKey) (now : ℕ) (piece : Piece) (old new : List Part) (r : Result Taken AllocError) → is_too_long piece ≡ false → StandsAt key now old None
    → IfOk r (λ taken. TakesNew (nothing_of key now) piece old taken new) → IfOk r (λ taken. Takes key now piece (filter (is_fresh now) old) taken (filter (is_fresh now) new))
takes_none key now piece old new (Err e) short there ok = tt
takes_none key now piece old new (Ok taken) short there ok =
    let hit : NoHit key now old = no_hit key now old there in
    let own : part_for key now (filter (is_fresh now) old) ≡ nothing_of key now = ap (λ o. unwrap_or o (nothing_of key now)) hit.under in
    subst (λ part. TakesIn key part piece (filter (is_fresh now) old) taken (filter (is_fresh now) new)) (sym own) (takes_added key now piece old new taken short hit ok)

gone_added : (key : PacketKey) (now : ℕ) (piece : Piece) (old new : List Part) (taken : Taken) → NoHit key now old → TakesNew (nothing_of key now) piece old taken new
    → filter (is_gone now) new ≡ filter (is_gone now) old
gone_added key now piece old new TooLong hit t = absurd t
gone_added key now piece old new (Differs n) hit t = absurd t
gone_added key now piece old new InPart hit t = ap (filter (is_gone now)) t.1 ∙ hit.gone_added (with_piece (nothing_of key now) piece) (new_left key now)
gone_added key now piece old new (Whole payload) hit t = ap (filter (is_gone now)) t.1

pub gone_none : (key : PacketKey) (now : ℕ) (piece : Piece) (old new : List Part) (r : Result Taken AllocError) → StandsAt key now old None
    → IfOk r (λ taken. TakesNew (nothing_of key now) piece old taken new) → OnErr r (new ≡ old) → filter (is_gone now) new ≡ filter (is_gone now) old
gone_none key now piece old new (Err e) there ok err = ap (filter (is_gone now)) err
gone_none key now piece old new (Ok taken) there ok err = gone_added key now piece old new taken (no_hit key now old there) ok

-- ---- counts

abbrev count_of : Part → ℕ
count_of part = part.fragments

without-count : (key : PacketKey) (now : ℕ) (parts : List Part) → fragments_of (without key parts) + (part_for key now parts).fragments ≡ fragments_of parts
without-count key now [] = refl
without-count key now (p ∷ ps) = cases (same_key key p.key) refl (without-count key now ps)
  where
    cases : (t : Bool) → same_key key p.key ≡ t → fragments_of (without key ps) + (part_for key now ps).fragments ≡ fragments_of ps
        → fragments_of (cond t ps (p ∷ without key ps)) + (unwrap_or (cond t (Some p) (part_under key ps)) (nothing_of key now)).fragments ≡ fragments_of (p ∷ ps)
    cases true is rest =
        let all : fragments_of (p ∷ ps) ≡ p.fragments + fragments_of ps = sum_by-cons count_of p ps in
        omega (arith, all)
    cases false is rest =
        let all : fragments_of (p ∷ ps) ≡ p.fragments + fragments_of ps = sum_by-cons count_of p ps in
        let left : fragments_of (p ∷ without key ps) ≡ p.fragments + fragments_of (without key ps) = sum_by-cons count_of p (without key ps) in
        omega (arith, all, left, rest)

with-count : (key : PacketKey) (now : ℕ) (n : Part) (parts : List Part) → fragments_of (with_part key n parts) + (part_for key now parts).fragments ≡ fragments_of parts + n.fragments
with-count key now n [] = let one : fragments_of (n ∷ []) ≡ n.fragments + fragments_of [] = sum_by-cons count_of n [] in omega (arith, one)
with-count key now n (p ∷ ps) = cases (same_key key p.key) refl (with-count key now n ps)
  where
    cases : (t : Bool) → same_key key p.key ≡ t → fragments_of (with_part key n ps) + (part_for key now ps).fragments ≡ fragments_of ps + n.fragments
        → fragments_of (cond t (n ∷ ps) (p ∷ with_part key n ps)) + (unwrap_or (cond t (Some p) (part_under key ps)) (nothing_of key now)).fragments ≡ fragments_of (p ∷ ps) + n.fragments
    cases true is rest =
        let all : fragments_of (p ∷ ps) ≡ p.fragments + fragments_of ps = sum_by-cons count_of p ps in
        let new : fragments_of (n ∷ ps) ≡ n.fragments + fragments_of ps = sum_by-cons count_of n ps in
        omega (arith, all, new)
    cases false is rest =
        let all : fragments_of (p ∷ ps) ≡ p.fragments + fragments_of ps = sum_by-cons count_of p ps in
        let left : fragments_of (p ∷ with_part key n ps) ≡ p.fragments + fragments_of (with_part key n ps) = sum_by-cons count_of p (with_part key n ps) in
        omega (arith, all, left, rest)

-- no fragment is counted twice
pub takes-count : (key : PacketKey) (now : ℕ) (piece : Piece) (old new : List Part) (taken : Taken) → Takes key now piece old taken new
    → alone taken + differing taken + fragments_of new ≤ fragments_of old + 1
takes-count key now piece old new TooLong t = let same : fragments_of new ≡ fragments_of old = ap fragments_of t.1 in omega (arith, same)
takes-count key now piece old new (Differs n) t =
    let given : n ≡ (part_for key now old).fragments + 1 = t.2 in
    let left : fragments_of new ≡ fragments_of (without key old) = ap fragments_of t.3 in
    omega (arith, given, left, without-count key now old)
takes-count key now piece old new InPart t =
    let left : fragments_of new ≡ fragments_of (with_part key (with_piece (part_for key now old) piece) old) = ap fragments_of t.3 in
    omega (arith, left, with-count key now (with_piece (part_for key now old) piece) old)
takes-count key now piece old new (Whole payload) t =
    let left : fragments_of new ≡ fragments_of (without key old) = ap fragments_of t.3 in
    omega (arith, left, without-count key now old)

-- what is given up and what is held of the packets in part, and those whose time is over
pub takes-bound : (key : PacketKey) (now : ℕ) (piece : Piece) (old new : List Part) (taken : Taken) → Takes key now piece (filter (is_fresh now) old) taken (filter (is_fresh now) new)
    → filter (is_gone now) new ≡ filter (is_gone now) old
    → alone taken + differing taken + fragments_of (filter (is_fresh now) new) + fragments_of (filter (is_gone now) new) ≤ fragments_of old + 1
takes-bound key now piece old new taken takes same =
    let gone : fragments_of (filter (is_gone now) new) ≡ fragments_of (filter (is_gone now) old) = ap fragments_of same in
    omega (arith, gone, takes-count key now piece (filter (is_fresh now) old) (filter (is_fresh now) new) taken takes, fresh-and-gone now old)

pub pushed-count : (parts : List Part) → fragments_of (pushed_out parts) ≤ fragments_of parts
pushed-count parts = cases (nat_lt 64 (length parts))
  where
    cases : (t : Bool) → fragments_of (cond t (take 1 parts) []) ≤ fragments_of parts
    cases true = sum_by-take-le count_of parts 1
    cases false = omega arith

pub newest-count : (parts : List Part) → fragments_of (newest parts) + fragments_of (pushed_out parts) ≡ fragments_of parts
newest-count parts = cases (nat_lt 64 (length parts))
  where
    cases : (t : Bool) → fragments_of (cond t (drop 1 parts) parts) + fragments_of (cond t (take 1 parts) []) ≡ fragments_of parts
    cases true = let split : fragments_of (take 1 parts) + fragments_of (drop 1 parts) ≡ fragments_of parts = sum_by-take-drop count_of parts 1 in omega (arith, split)
    cases false = omega arith

-- ---- the store

-- what a piece makes of the store whose packets are gone whose time is over
pub receives : (key : PacketKey) (now : ℕ) (piece : Piece) (s : Store) (new : List Part) (taken : Taken) → s.whole ≡ None → Takes key now piece s.parts taken new
    → record { parts = new; whole = payload_in taken; without_rest = s.without_rest + alone taken; that_differ = s.that_differ + differing taken } ≡ received key now piece s
receives key now piece s new TooLong none t =
    let d : s.that_differ + 0 ≡ s.that_differ = omega arith in
    rw t.0 (λ i. record { parts = t.1 i; whole = sym none i; without_rest = s.without_rest + 1; that_differ = d i })
receives key now piece s new (Differs n) none t =
    let w : s.without_rest + 0 ≡ s.without_rest = omega arith in
    rw (t.0, t.1) (λ i. record { parts = t.3 i; whole = sym none i; without_rest = w i; that_differ = s.that_differ + t.2 i })
receives key now piece s new InPart none t =
    let w : s.without_rest + 0 ≡ s.without_rest = omega arith in
    let d : s.that_differ + 0 ≡ s.that_differ = omega arith in
    rw (t.0, t.1, t.2) (λ i. record { parts = t.3 i; whole = sym none i; without_rest = w i; that_differ = d i })
receives key now piece s new (Whole payload) none t =
    let w : s.without_rest + 0 ≡ s.without_rest = omega arith in
    let d : s.that_differ + 0 ≡ s.that_differ = omega arith in
    rw (t.0, t.1, t.2) (λ i. record { parts = t.3 i; whole = Some payload.items; without_rest = w i; that_differ = d i })

pub offered_by_steps : (key : PacketKey) (now : ℕ) (piece : Piece) (s : Store) (new expired pushed : List Part) (taken : Taken) (whole : Option (List ℕ)) (gone out w d : ℕ)
    → Takes key now piece (filter (is_fresh now) s.parts) taken (filter (is_fresh now) new) → filter (is_gone now) new ≡ filter (is_gone now) s.parts
    → expired ≡ filter (is_fresh now) new → gone ≡ fragments_of (filter (is_gone now) new)
    → w ≡ s.without_rest + gone + alone taken → d ≡ s.that_differ + differing taken → whole ≡ payload_in taken
    → pushed ≡ newest expired → out ≡ fragments_of (pushed_out expired)
    → record { parts = pushed; whole = whole; without_rest = w + out; that_differ = d } ≡ at_most_64 (received key now piece (at_moment now s))
offered_by_steps key now piece s new expired pushed taken whole gone out w d takes same left count rest differ is newer pushed_count =
    let given : gone ≡ fragments_of (filter (is_gone now) s.parts) = count ∙ ap fragments_of same in
    let total : w ≡ s.without_rest + fragments_of (filter (is_gone now) s.parts) + alone taken = rest ∙ ap (λ n. s.without_rest + n + alone taken) given in
    let parts : pushed ≡ newest (filter (is_fresh now) new) = newer ∙ ap newest left in
    let outs : out ≡ fragments_of (pushed_out (filter (is_fresh now) new)) = pushed_count ∙ ap (λ ps. fragments_of (pushed_out ps)) left in
    let steps : ◌≡◌ {A = Store} (record { parts = pushed; whole = whole; without_rest = w + out; that_differ = d })
    (record { parts = newest (filter (is_fresh now) new); whole = payload_in taken; without_rest = s.without_rest + fragments_of (filter (is_gone now) s.parts) + alone taken + fragments_of (pushed_out (filter (is_fresh now) new)); that_differ = s.that_differ + differing taken }) =
    λ i. record { parts = parts i; whole = is i; without_rest = total i + outs i; that_differ = differ i } in
    steps ∙ ap at_most_64 (receives key now piece (at_moment now s) (filter (is_fresh now) new) taken refl takes)
