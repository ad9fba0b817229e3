-- The numbers of payloads, by the bytes of their keys.
use Rattle.std.proofs.Common.{◌≡◌, ℕ, Bool, true, false, cond, List, [], ◌∷◌, map, Some, refl, sym, ap, subst, ◌∙◌}
use Rattle.std.specs.BTreeMap.{is_at}
use Rattle.std.specs.Cmp.{eq_by_cmp_equiv, Equal-is}
use Rattle.std.specs.Cmp.Lexicographic.{slice_cmp}
use Rattle.std.specs.FinMap.{get, insert}
use Rattle.std.specs.Global.{Vec}
use Rattle.std.specs.Map.{KeepsOthers, IsKeyTest, AreApart, lookup}
use Rattle.std.specs.Ordering.{eq_by_cmp, nat_cmp}
use Rattle.std.proofs.lemmas.Cmp.{nat_list_cmp_total}
use Rattle.std.proofs.lemmas.Map.Lookups.{exact_bytes}
use Rattle.someip_tables.specs.Tables.{map_of}
use Rattle.someip_tables.proofs.Trees.{get-map_of, map_of-insert}

-- the entries with the bytes of their keys
abbrev pub shown : List (Vec ℕ × ℕ) → List (List ℕ × ℕ)
shown entries = map (λ e. (e.0.items, e.1)) entries

-- two byte strings are the same
abbrev pub same : List ℕ → List ℕ → Bool
same = eq_by_cmp (slice_cmp nat_cmp)

lookup_shown : (test : List ℕ → Bool) (entries : List (Vec ℕ × ℕ)) → lookup test (shown entries) ≡ lookup (λ k. test k.items) entries
lookup_shown test [] = refl
lookup_shown test (e ∷ entries) = ap (cond (test e.0.items) (Some e.1)) (lookup_shown test entries)

pub get_shown : (entries : List (Vec ℕ × ℕ)) (q : List ℕ) → get (map_of (slice_cmp nat_cmp) (shown entries)) q ≡ lookup (λ k. same q k.items) entries
get_shown entries q = get-map_of nat_list_cmp_total (shown entries) q ∙ lookup_shown (is_at (slice_cmp nat_cmp q)) entries

module _ (bs : List ℕ) (old new : List (Vec ℕ × ℕ)) (w : ℕ) (here : lookup (λ k. same bs k.items) new ≡ Some w)
    (others : KeepsOthers (eq_by_cmp (λ (a b : Vec ℕ). slice_cmp nat_cmp a.items b.items)) (λ k. same bs k.items) old new) where
  kept : (other : Vec ℕ → Bool) → IsKeyTest (eq_by_cmp (λ (a b : Vec ℕ). slice_cmp nat_cmp a.items b.items)) other → AreApart (λ (k : Vec ℕ). same bs k.items) other → lookup other new ≡ lookup other old
  unfolding KeepsOthers
  kept = others

  apart : (cs ks : List ℕ) → same bs cs ≡ false → same bs ks ≡ true → same cs ks ≡ false
  apart cs ks n y = (eq_by_cmp_equiv nat_list_cmp_total).symm cs ks ∙ sym ((eq_by_cmp_equiv nat_list_cmp_total).congr bs ks cs y) ∙ n

  at_bytes : (cs : List ℕ) (b : Bool) → same bs cs ≡ b → lookup (λ k. same cs k.items) new ≡ cond b (Some w) (lookup (λ k. same cs k.items) old)
  at_bytes cs true is = subst (λ l. lookup (λ k. same l k.items) new ≡ Some w) (exact_bytes bs cs ((Equal-is (slice_cmp nat_cmp bs cs)).0 is)) here
  at_bytes cs false is = kept (λ k. same cs k.items) (λ x y. (eq_by_cmp_equiv nat_list_cmp_total).congr cs x.items y.items) (λ k. apart cs k.items is)

  pub insert_shown : map_of (slice_cmp nat_cmp) (shown new) ≡ insert (map_of (slice_cmp nat_cmp) (shown old)) bs w
  insert_shown =
      map_of-insert nat_list_cmp_total exact_bytes (shown old) (shown new) bs w (λ q.
      lookup_shown (is_at (slice_cmp nat_cmp q)) new ∙ at_bytes q (same bs q) refl
      ∙ ap (cond (same bs q) (Some w)) (sym (lookup_shown (is_at (slice_cmp nat_cmp q)) old)))
