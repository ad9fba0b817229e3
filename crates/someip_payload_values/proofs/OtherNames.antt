-- Names that are compared with the earlier ones.
use Rattle.std.proofs.Common.{◌≡◌, ℕ, ◌+◌, ◌<◌, ◌≤◌, ◌||◌, ◌&&◌, not, Bool, true, false, cond, List, ◌∷◌, length, map, drop, get_or, Bor, refl, ap, ◌∙◌}
use Rattle.std.specs.List.{list_any}
use Rattle.std.specs.Str.{bytes_eq}
use Rattle.std.specs.Ordering.{nat_cmp}
use Rattle.std.specs.BTreeMap.{is_at}
use Rattle.std.specs.Cmp.Lexicographic.{slice_cmp}
use Rattle.std.proofs.lemmas.List.{drop_more}
use Rattle.std.proofs.lemmas.Map.Text.{is_eq-slice_cmp}
use Rattle.std.proofs.Math.ListN.{drop_of_length-le}
use Rattle.someip_payload_values.specs.Check.{is_name, are_names}

-- a set has one name more
pub one_more : (n k : List ℕ) (earlier : List (List ℕ)) (old new : Bool) → new ≡ cond (is_at (slice_cmp nat_cmp n) k) true old → old ≡ list_any (λ e. bytes_eq e k) earlier
    → new ≡ list_any (λ e. bytes_eq e k) (n ∷ earlier)
one_more n k earlier old new is before = is ∙ cases (bytes_eq n k) (is_eq-slice_cmp n k)
  where
    cases : (t : Bool) → is_at (slice_cmp nat_cmp n) k ≡ t → cond (is_at (slice_cmp nat_cmp n) k) true old ≡ t || list_any (λ e. bytes_eq e k) earlier
    cases true same = ap (λ t. cond t true old) same
    cases false same = ap (λ t. cond t true old) same ∙ before

pub names_on : (earlier : List (List ℕ)) (ns : List (Bor (List ℕ))) (i : ℕ) (d : Bor (List ℕ)) → i < length ns → is_name (get_or ns i d).now ≡ true → list_any (λ e. bytes_eq e (get_or ns i d).now) earlier ≡ false
    → are_names earlier (map (λ n. n.now) (drop i ns)) ≡ are_names ((get_or ns i d).now ∷ earlier) (map (λ n. n.now) (drop (i + 1) ns))
names_on earlier ns i d lt good new = rw (drop_more ns i d lt, good, new) refl

pub names_bad : (earlier : List (List ℕ)) (ns : List (Bor (List ℕ))) (i : ℕ) (d : Bor (List ℕ)) → i < length ns → is_name (get_or ns i d).now ≡ false → are_names earlier (map (λ n. n.now) (drop i ns)) ≡ false
names_bad earlier ns i d lt bad = rw (drop_more ns i d lt, bad) refl

pub names_again : (earlier : List (List ℕ)) (ns : List (Bor (List ℕ))) (i : ℕ) (d : Bor (List ℕ)) → i < length ns → list_any (λ e. bytes_eq e (get_or ns i d).now) earlier ≡ true → are_names earlier (map (λ n. n.now) (drop i ns)) ≡ false
names_again earlier ns i d lt among = rw (drop_more ns i d lt, among) (cases (is_name (get_or ns i d).now))
  where
    cases : (t : Bool) → (t && (not true && are_names ((get_or ns i d).now ∷ earlier) (map (λ n. n.now) (drop (i + 1) ns)))) ≡ false
    cases true = refl
    cases false = refl

pub names_done : (earlier : List (List ℕ)) (ns : List (Bor (List ℕ))) (i : ℕ) → length ns ≤ i → are_names earlier (map (λ n. n.now) (drop i ns)) ≡ true
names_done earlier ns i le = rw (drop_of_length-le ns le) refl
