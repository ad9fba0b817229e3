-- Lists of packets in part: what is found in them, and what is left of them.
use Rattle.std.proofs.Common.{◌≡◌, ℕ, zero, suc, ◌+◌, ◌<◌, Bool, true, false, cond, not, ◌&&◌, List, [], ◌∷◌, ◌++◌, length, get_or, filter, Some, None, refl, ap, arith}
use Rattle.std.proofs.Math.ListN.{set}
use Rattle.std.specs.List.{remove}
use Rattle.std.proofs.lemmas.Bool.{and_parts}
use Rattle.std.proofs.lemmas.List.Sums.{sum_by-cons}
use Rattle.recording_packets.specs.declared.fragments.piece.PacketKey.{PacketKey}
use Rattle.recording_packets.specs.fragments.Pieces.{same_key}
use Rattle.recording_packets.specs.fragments.Parts.{Part, is_fresh, is_gone, part_under, without, with_part, fragments_of}
use Rattle.recording_packets.specs.fragments.Takings.{is_hit, NoneBefore}

-- ---- a packet that is found

-- what follows where this packet is the first that is hit
pub record Hit (key : PacketKey) (now : ℕ) (parts : List Part) (i : ℕ) (e : Part) : Type 0 where
  pub under : part_under key (filter (is_fresh now) parts) ≡ Some e
  pub removed : filter (is_fresh now) (remove parts i) ≡ without key (filter (is_fresh now) parts)
  pub changed : (n : Part) → is_fresh now n ≡ true → filter (is_fresh now) (set parts i n) ≡ with_part key n (filter (is_fresh now) parts)
  pub gone_removed : filter (is_gone now) (remove parts i) ≡ filter (is_gone now) parts
  pub gone_changed : (n : Part) → is_fresh now n ≡ true → filter (is_gone now) (set parts i n) ≡ filter (is_gone now) parts

hit_first : (key : PacketKey) (now : ℕ) (p : Part) (ps : List Part) → is_hit key now p ≡ true → Hit key now (p ∷ ps) zero p
hit_first key now p ps hit =
    let both = and_parts (same_key key p.key) (is_fresh now p) hit in
    let same : same_key key p.key ≡ true = both.0 in
    let fresh : is_fresh now p ≡ true = both.1 in
    record {
      under = rw (fresh, same) refl;
      removed = rw (fresh, same) refl;
      changed = λ n is. rw (is, fresh, same) refl;
      gone_removed = rw fresh refl;
      gone_changed = λ n is. rw (is, fresh) refl;
    }

hit_later : (key : PacketKey) (now : ℕ) (p : Part) (ps : List Part) (i : ℕ) (e : Part) (same fresh : Bool) → same_key key p.key ≡ same → is_fresh now p ≡ fresh
    → (same && fresh) ≡ false → Hit key now ps i e → Hit key now (p ∷ ps) (suc i) e
hit_later key now p ps i e same false s f none h =
    record {
      under = rw f h.under;
      removed = rw f h.removed;
      changed = λ n is. rw f (h.changed n is);
      gone_removed = rw f (ap (λ xs. p ∷ xs) h.gone_removed);
      gone_changed = λ n is. rw f (ap (λ xs. p ∷ xs) (h.gone_changed n is));
    }
hit_later key now p ps i e false true s f none h =
    record {
      under = rw (f, s) h.under;
      removed = rw (f, s) (ap (λ xs. p ∷ xs) h.removed);
      changed = λ n is. rw (f, s) (ap (λ xs. p ∷ xs) (h.changed n is));
      gone_removed = rw f h.gone_removed;
      gone_changed = λ n is. rw f (h.gone_changed n is);
    }
hit_later key now p ps i e true true s f none h = cc

pub hit_at : (key : PacketKey) (now : ℕ) (parts : List Part) (i : ℕ) (e : Part) → i < length parts → ((d : Part) → is_hit key now (get_or parts i d) ≡ true)
    → NoneBefore key now parts i → e ≡ get_or parts i e → Hit key now parts i e
hit_at key now [] i e lt hit before is = absurd (omega (arith, lt))
hit_at key now (p ∷ ps) zero e lt hit before is = rw is (hit_first key now p ps (hit p))
hit_at key now (p ∷ ps) (suc i) e lt hit before is =
    hit_later key now p ps i e (same_key key p.key) (is_fresh now p) refl refl (before 0 p (omega arith))
    (hit_at key now ps i e (omega (arith, lt)) hit (λ k d l. before (suc k) d (omega (arith, l))) is)

-- what follows where no packet is hit
pub record NoHit (key : PacketKey) (now : ℕ) (parts : List Part) : Type 0 where
  pub under : part_under key (filter (is_fresh now) parts) ≡ None
  pub all_others : without key (filter (is_fresh now) parts) ≡ filter (is_fresh now) parts
  pub added : (n : Part) → is_fresh now n ≡ true → filter (is_fresh now) (parts ++ n ∷ []) ≡ with_part key n (filter (is_fresh now) parts)
  pub gone_added : (n : Part) → is_fresh now n ≡ true → filter (is_gone now) (parts ++ n ∷ []) ≡ filter (is_gone now) parts

no_hit_more : (key : PacketKey) (now : ℕ) (p : Part) (ps : List Part) (same fresh : Bool) → same_key key p.key ≡ same → is_fresh now p ≡ fresh
    → (same && fresh) ≡ false → NoHit key now ps → NoHit key now (p ∷ ps)
no_hit_more key now p ps same false s f none h =
    record {
      under = rw f h.under;
      all_others = rw f h.all_others;
      added = λ n is. rw f (h.added n is);
      gone_added = λ n is. rw f (ap (λ xs. p ∷ xs) (h.gone_added n is));
    }
no_hit_more key now p ps false true s f none h =
    record {
      under = rw (f, s) h.under;
      all_others = rw (f, s) (ap (λ xs. p ∷ xs) h.all_others);
      added = λ n is. rw (f, s) (ap (λ xs. p ∷ xs) (h.added n is));
      gone_added = λ n is. rw f (h.gone_added n is);
    }
no_hit_more key now p ps true true s f none h = cc

pub no_hit : (key : PacketKey) (now : ℕ) (parts : List Part) → NoneBefore key now parts (length parts) → NoHit key now parts
no_hit key now [] before =
    record {
      under = refl;
      all_others = refl;
      added = λ n is. rw is refl;
      gone_added = λ n is. rw is refl;
    }
no_hit key now (p ∷ ps) before =
    no_hit_more key now p ps (same_key key p.key) (is_fresh now p) refl refl (before 0 p (omega arith))
    (no_hit key now ps (λ k d l. before (suc k) d (omega (arith, l))))

-- ---- a packet that is changed, and then taken out

pub remove-set : (parts : List Part) (i : ℕ) (n : Part) → remove (set parts i n) i ≡ remove parts i
remove-set [] i n = refl
remove-set (p ∷ ps) zero n = refl
remove-set (p ∷ ps) (suc i) n = ap (λ xs. p ∷ xs) (remove-set ps i n)

-- ---- how many fragments came

pub fresh-and-gone : (now : ℕ) (parts : List Part) → fragments_of (filter (is_fresh now) parts) + fragments_of (filter (is_gone now) parts) ≡ fragments_of parts
fresh-and-gone now [] = refl
fresh-and-gone now (p ∷ ps) = cases (is_fresh now p) refl (fresh-and-gone now ps)
  where
    all : fragments_of (p ∷ ps) ≡ p.fragments + fragments_of ps
    all = sum_by-cons (λ (x : Part). x.fragments) p ps

    cases : (t : Bool) → is_fresh now p ≡ t → fragments_of (filter (is_fresh now) ps) + fragments_of (filter (is_gone now) ps) ≡ fragments_of ps
        → fragments_of (cond t (p ∷ filter (is_fresh now) ps) (filter (is_fresh now) ps)) + fragments_of (cond (not t) (p ∷ filter (is_gone now) ps) (filter (is_gone now) ps)) ≡ fragments_of (p ∷ ps)
    cases true is rest =
        let left : fragments_of (p ∷ filter (is_fresh now) ps) ≡ p.fragments + fragments_of (filter (is_fresh now) ps) = sum_by-cons (λ (x : Part). x.fragments) p (filter (is_fresh now) ps) in
        omega (arith, left, all, rest)
    cases false is rest =
        let left : fragments_of (p ∷ filter (is_gone now) ps) ≡ p.fragments + fragments_of (filter (is_gone now) ps) = sum_by-cons (λ (x : Part). x.fragments) p (filter (is_gone now) ps) in
        omega (arith, left, all, rest)
