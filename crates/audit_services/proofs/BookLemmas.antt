-- What a book of intervals holds once it told.
use Rattle.std.proofs.Common.{◌≡◌, ◌≢◌, ℕ, ◌<◌, ◌≤◌, nat_le, zero, suc, Bool, true, false, cond, List, [], ◌∷◌, ◌++◌, Option, None, Some, IsTrue, refl, ap, sym, ◌∙◌, arith}
use Rattle.std.specs.declared.cmp.Ordering.{Ordering}
use Rattle.std.specs.Ordering.{eq_by_cmp}
use Rattle.std.specs.Cmp.{IsTotalOrder}
use Rattle.std.specs.FinMap.{FinMap, IsAntisymmetric, empty, empty_of_len, get, get-insert, get-remove, insert, len, len-empty, remove, same_map}
use Rattle.std.proofs.lemmas.Bool.{leb-true, le-leb}
use Rattle.std.proofs.lemmas.List.{append-nil}
use Rattle.someip_tables.specs.Lastings.{expired}
use Rattle.someip_tables.specs.Waits.{HoldsFrom, is_due_by}
use Rattle.someip_tables.specs.Tables.{map_of}
use Rattle.someip_tables.specs.hashed.Rooms.{may_hold}
use Rattle.audit_services.specs.Books.{Book, after_begun, begun, book_of, is_same, told_begun, told_moved}
use Rattle.audit_services.specs.Stays.{IsBegun, Stay, Stays}

-- what is put in takes the place of what was taken out
pub insert_over : {K X : Type 0} {R : K → K → Ordering} (o : IsTotalOrder R) (exact : IsAntisymmetric R) (m n : FinMap R X) (key : K) (value : X) (b : Bool) → n ≡ cond b m (remove m key)
    → insert n key value ≡ insert m key value
insert_over {R = R} o exact m n key value true is = ap (λ k. insert k key value) is
insert_over {R = R} o exact m n key value false is =
    ap (λ k. insert k key value) is
    ∙ same_map o exact _ _ (λ q. get-insert o (remove m key) key value q ∙ ap (cond (eq_by_cmp R q key) (Some value)) (get-remove o m key q) ∙ cases q (eq_by_cmp R q key) refl ∙ sym (get-insert o m key value q))
  where
    cases : (q : _) (t : Bool) → eq_by_cmp R q key ≡ t → cond t (Some value) (cond (eq_by_cmp R q key) None (get m q)) ≡ cond t (Some value) (get m q)
    cases q true is = refl
    cases q false is = rw is refl

pub all_begun : {X : Type 0} (before after told : List X) → after ≡ before ++ told → IsBegun before after told
all_begun before after told is = (told, [], is, sym (append-nil told))

-- a map that is not filled is empty
unfilled : {K X : Type 0} {R : K → K → Ordering} (m : FinMap R X) → (m ≢ empty → ⊥) → m ≡ empty
unfilled {K} {X} {R} m never = cases (len m) refl
  where
    cases : (n : ℕ) → len m ≡ n → m ≡ empty
    cases zero is = empty_of_len m is
    cases (suc n) is = absurd (never (λ e. let none : len m ≡ 0 = ap len e ∙ len-empty R X in absurd (omega (arith, is, none))))

module _ {K V : Type 0} {R : K → K → Ordering} (stays : Stays R V) where
  -- before the first deadline nothing has expired
  pub none_expired : (first : Option ℕ) (now : ℕ) → HoldsFrom first (λ now. expired now stays ≢ empty) → (IsTrue (is_due_by now first) → ⊥) → expired now stays ≡ empty
  none_expired first now from never = unfilled (expired now stays) (λ filled. never ((from now).1 filled))

-- a value was put in, and what stood before it was taken out, if it was another
pub begun_book : {K V : Type 0} {R : K → K → Ordering} (o : IsTotalOrder R) (exact : IsAntisymmetric R) (C : V → V → Ordering) (now : ℕ) (key : K) (value : V) (ttl : ℕ) (limit : ℕ) (told : Bool) (old mid new : List (K × Stay V)) (stay : Stay V)
    → may_hold limit (map_of R old) key ≡ true → map_of R new ≡ insert (map_of R mid) key stay → map_of R mid ≡ cond (is_same C value (get (map_of R old) key)) (map_of R old) (remove (map_of R old) key)
    → stay ≡ begun C now value ttl (get (map_of R old) key)
    → book_of R (record { limit = limit; entries = new; told_full = told }) ≡ after_begun C now key value ttl (book_of R (record { limit = limit; entries = old; told_full = told }))
begun_book {V = V} {R = R} o exact C now key value ttl limit told old mid new stay room put left is =
    let stays : map_of R new ≡ insert (map_of R old) key (begun C now value ttl (get (map_of R old) key)) =
    put ∙ insert_over o exact (map_of R old) (map_of R mid) key stay (is_same C value (get (map_of R old) key)) left ∙ ap (insert (map_of R old) key) is in
    rw room (ap (λ (s : Stays R V). record { limit = limit; stays = s; told_full = told }) stays)

pub told_there : {K V : Type 0} (R : K → K → Ordering) (C : V → V → Ordering) (now : ℕ) (key : K) (value : V) (limit : ℕ) (told : Bool) (old : List (K × Stay V))
    → may_hold limit (map_of R old) key ≡ true → told_begun C now key value (book_of R (record { limit = limit; entries = old; told_full = told })) ≡ told_moved C now key value (get (map_of R old) key)
told_there R C now key value limit told old room = rw room refl

pub not_yet : (at now : ℕ) → nat_le at now ≡ true → at ≤ now
not_yet at now due = leb-true at now due

pub early : (at now : ℕ) → now < at → nat_le at now ≡ true → ⊥
early at now before due = let le = leb-true at now due in absurd (omega (arith, before, le))

pub come : (at now : ℕ) → at ≤ now → nat_le at now ≡ true
come at now le = le-leb at now le

pub le_itself : (n : ℕ) → n ≤ n
le_itself n = omega arith

abbrev pub the_book : {K V : Type 0} (R : K → K → Ordering) → ℕ → Stays R V → Bool → Book R V
the_book R limit stays told = record { limit = limit; stays = stays; told_full = told }
