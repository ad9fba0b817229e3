-- What a book of groups holds after some findings.
use Rattle.std.proofs.Common.{◌≡◌, ◌⊎◌, inl, inr, ℕ, zero, suc, ◌+◌, ◌-◌, ◌<◌, ◌≤◌, ◌^◌, nat_le, nat_lt, Bool, true, false, cond, ◌||◌, if◌then◌else◌, List, [], ◌∷◌, ◌++◌, length, Option, None, Some, refl, ap, subst, sym, ◌∙◌, arith}
use Rattle.std.specs.Option.{is_some}
use Rattle.std.specs.List.{flat_map}
use Rattle.std.specs.Ordering.{eq_by_cmp}
use Rattle.std.specs.BTreeMap.{BTreeMap, IsOrdered, btree_map_len}
use Rattle.std.specs.FinMap as finite
use Rattle.std.specs.FinMap.{find}
use Rattle.std.proofs.lemmas.Bool.{and_parts, leb-false, lt-leb, lt-ltb}
use Rattle.std.proofs.lemmas.List.Concat.{flat_map-cons}
use Rattle.someip_tables.specs.Distinct.{are_distinct}
use Rattle.someip_tables.specs.hashed.Rooms.{may_hold}
use Rattle.someip_tables.specs.Tables.{map_of}
use Rattle.someip_tables.proofs.Trees.{len-map_of}
use Rattle.someip_tables.proofs.Entries.{entries_distinct, none_found, own_test, same_by_test}
use Rattle.someip_audit.specs.declared.groups.group_key.GroupKey.{GroupKey}
use Rattle.someip_audit.specs.declared.groups.group_key.Grouped.{Grouped}
use Rattle.someip_audit.specs.groups.GroupKeys.{group_cmp}
use Rattle.someip_audit.specs.groups.GroupOrder.{exact_groups, groups_total}
use Rattle.someip_audit.specs.groups.GroupTables.{Groups, Numbers, after_one, is_one_told, more_by, number_of, one_more, told_more}
use Rattle.someip_audit.specs.groups.GroupHistories.{IsAmong, book_of, times}

-- ---- room

abbrev roomed : GroupKey → Groups → Bool → Groups
roomed key book b = if b then record book { numbers = finite.insert book.numbers key (one_more (number_of (finite.get book.numbers key))) } else book

len_more : (key : GroupKey) (book : Groups) → finite.len book.numbers ≤ finite.len (after_one key book).numbers
len_more key book = cases (may_hold book.limit book.numbers key)
  where
    more : (n : ℕ) (b : Bool) → n ≤ cond b n (n + 1)
    more n true = omega arith
    more n false = omega arith

    cases : (b : Bool) → finite.len book.numbers ≤ finite.len (roomed key book b).numbers
    cases true = rw (finite.len-insert groups_total book.numbers key (one_more (number_of (finite.get book.numbers key)))) (more (finite.len book.numbers) (finite.contains_key book.numbers key))
    cases false = omega arith

limit_same : (limit : ℕ) (came : List GroupKey) → (book_of limit came).limit ≡ limit
limit_same limit [] = refl
limit_same limit (key ∷ earlier) = cases (may_hold (book_of limit earlier).limit (book_of limit earlier).numbers key) (limit_same limit earlier)
  where
    cases : (b : Bool) → (book_of limit earlier).limit ≡ limit → (roomed key (book_of limit earlier) b).limit ≡ limit
    cases true is = is
    cases false is = is

or_true : (b : Bool) → b || true ≡ true
or_true true = refl
or_true false = refl

held_with_room : (limit : ℕ) (came : List GroupKey) (key : GroupKey) → finite.len (book_of limit came).numbers < limit → may_hold (book_of limit came).limit (book_of limit came).numbers key ≡ true
held_with_room limit came key room =
    rw (limit_same limit came, lt-ltb _ _ room) (or_true (is_some (finite.get (book_of limit came).numbers key)))

pub without_room_told : (key : GroupKey) (book : Groups) → may_hold book.limit book.numbers key ≡ false → is_one_told key book ≡ true
without_room_told key book none = ap (λ b. if b then nat_lt (number_of (finite.get book.numbers key)) 3 else true) none

pub without_room_same : (key : GroupKey) (book : Groups) → may_hold book.limit book.numbers key ≡ false → after_one key book ≡ book
without_room_same key book none = ap (roomed key book) none

-- ---- how many of each came

times_few : (key : GroupKey) (came : List GroupKey) → times key came ≤ length came
times_few key [] = omega arith
times_few key (w ∷ earlier) = cases (eq_by_cmp group_cmp key w) (times_few key earlier)
  where
    cases : (t : Bool) → times key earlier ≤ length earlier → cond t (times key earlier + 1) (times key earlier) ≤ length (w ∷ earlier)
    cases true few = omega (arith, few)
    cases false few = omega (arith, few)

-- what a book keeps of a group of which so many came
abbrev kept_of : ℕ → Option ℕ
kept_of zero = None
kept_of (suc n) = Some (suc n)

number_kept : (n : ℕ) → number_of (kept_of n) ≡ n
number_kept zero = refl
number_kept (suc n) = refl

kept_more : (n : ℕ) → kept_of (n + 1) ≡ Some (n + 1)
kept_more n = let more : n + 1 ≡ suc n = omega arith in rw more refl

one_more_is : (n : ℕ) → n + 1 < 2 ^ 64 → one_more n ≡ n + 1
one_more_is n few = rw (lt-ltb _ _ few) refl

kept : (limit : ℕ) (came : List GroupKey) (key : GroupKey) → length came < 2 ^ 64 → finite.len (book_of limit came).numbers < limit → finite.get (book_of limit came).numbers key ≡ kept_of (times key came)
kept limit [] key few room = finite.get-empty group_cmp key
kept limit (w ∷ earlier) key few room =
    let fewer : length earlier < 2 ^ 64 = omega (arith, few) in
    let before : finite.len (book_of limit earlier).numbers < limit = omega (arith, room, len_more w (book_of limit earlier)) in
    ap (λ b. finite.get (roomed w (book_of limit earlier) b).numbers key) (held_with_room limit earlier w before)
    ∙ finite.get-insert groups_total (book_of limit earlier).numbers w (one_more (number_of (finite.get (book_of limit earlier).numbers w))) key
    ∙ more (eq_by_cmp group_cmp key w) refl (kept limit earlier key fewer before) (kept limit earlier w fewer before)
  where
    more : (t : Bool) → eq_by_cmp group_cmp key w ≡ t → finite.get (book_of limit earlier).numbers key ≡ kept_of (times key earlier) → finite.get (book_of limit earlier).numbers w ≡ kept_of (times w earlier)
        → cond t (Some (one_more (number_of (finite.get (book_of limit earlier).numbers w)))) (finite.get (book_of limit earlier).numbers key) ≡ kept_of (cond t (times key earlier + 1) (times key earlier))
    more true tie is own =
        let same : key ≡ w = same_by_test exact_groups key w tie in
        let number : number_of (finite.get (book_of limit earlier).numbers w) ≡ times w earlier = ap number_of own ∙ number_kept (times w earlier) in
        let next : one_more (times w earlier) ≡ times w earlier + 1 = one_more_is (times w earlier) (omega (arith, few, times_few w earlier)) in
        ap (λ n. Some (one_more n)) number ∙ ap (λ n. Some n) next ∙ sym (kept_more (times w earlier)) ∙ ap (λ v. kept_of (times v earlier + 1)) (sym same)
    more false tie is own = is

pub first_three : (limit : ℕ) (came : List GroupKey) (key : GroupKey) → length came < 2 ^ 64 → finite.len (book_of limit came).numbers < limit → is_one_told key (book_of limit came) ≡ nat_lt (times key came) 3
first_three limit came key few room =
    ap (λ b. if b then nat_lt (number_of (finite.get (book_of limit came).numbers key)) 3 else true) (held_with_room limit came key room)
    ∙ ap (λ n. nat_lt n 3) (ap number_of (kept limit came key few room) ∙ number_kept (times key came))

-- ---- which are counted

-- it is an entry of the table, of more than three
abbrev Stands : List (GroupKey × ℕ) → Grouped → Type 0
Stands es one = (find group_cmp one.key es ≡ Some (one.more + 3)) × (0 < one.more)

less_three : (n : ℕ) → nat_le n 3 ≡ false → (n ≡ (n - 3) + 3) × (0 < n - 3)
less_three n is = let many = leb-false n 3 is in (omega (arith, many), omega (arith, many))

more_three : (n m : ℕ) → n ≡ m + 3 → 0 < m → (nat_le n 3 ≡ false) × (n - 3 ≡ m)
more_three n m is some = (lt-leb n 3 (omega (arith, is, some)), omega (arith, is))

among_is : (es : List (GroupKey × ℕ)) (one : Grouped) → are_distinct group_cmp es ≡ true → IsAmong one (flat_map told_more es) → Stands es one
among_is [] one apart is = absurd is
among_is (e ∷ es) one apart is =
    let parts = and_parts _ _ apart in
    cases (nat_le e.1 3) refl (none_found _ parts.0) (among_is es one parts.1) (subst (IsAmong one) (flat_map-cons told_more e es) is)
  where
    here : nat_le e.1 3 ≡ false → record { key = e.0; more = e.1 - 3 } ≡ one → Stands (e ∷ es) one
    here many same =
        let three = less_three e.1 many in (
          ap (λ (o : Grouped). find group_cmp o.key (e ∷ es)) (sym same) ∙ rw (own_test groups_total e.0) refl ∙ ap Some three.0 ∙ ap (λ (o : Grouped). Some (o.more + 3)) same,
          subst (λ (o : Grouped). 0 < o.more) same three.1,
        )

    there : (t : Bool) → eq_by_cmp group_cmp one.key e.0 ≡ t → find group_cmp e.0 es ≡ None → Stands es one → Stands (e ∷ es) one
    there true tie none rest =
        let gone : find group_cmp one.key es ≡ None = ap (λ k. find group_cmp k es) (same_by_test exact_groups one.key e.0 tie) ∙ none in
        absurd (cc)
    there false tie none rest = (rw tie rest.0, rest.1)

    cases : (b : Bool) → nat_le e.1 3 ≡ b → find group_cmp e.0 es ≡ None → (IsAmong one (flat_map told_more es) → Stands es one)
        → IsAmong one ((if b then [] else record { key = e.0; more = e.1 - 3 } ∷ []) ++ flat_map told_more es) → Stands (e ∷ es) one
    cases true few none rest others = there (eq_by_cmp group_cmp one.key e.0) refl none (rest others)
    cases false many none rest (inl same) = here many same
    cases false many none rest (inr others) = there (eq_by_cmp group_cmp one.key e.0) refl none (rest others)

is_among : (es : List (GroupKey × ℕ)) (one : Grouped) → Stands es one → IsAmong one (flat_map told_more es)
is_among [] one stands = absurd (cc)
is_among (e ∷ es) one stands =
    subst (IsAmong one) (sym (flat_map-cons told_more e es))
    (cases (eq_by_cmp group_cmp one.key e.0) refl stands.0 (λ found. is_among es one (found, stands.1)))
  where
    later : (b : Bool) → IsAmong one (flat_map told_more es) → IsAmong one ((if b then [] else record { key = e.0; more = e.1 - 3 } ∷ []) ++ flat_map told_more es)
    later true is = is
    later false is = inr is

    cases : (t : Bool) → eq_by_cmp group_cmp one.key e.0 ≡ t → cond t (Some e.1) (find group_cmp one.key es) ≡ Some (one.more + 3)
        → (find group_cmp one.key es ≡ Some (one.more + 3) → IsAmong one (flat_map told_more es))
        → IsAmong one (told_more e ++ flat_map told_more es)
    cases true tie found rest =
        let key : one.key ≡ e.0 = same_by_test exact_groups one.key e.0 tie in
        let number : e.1 ≡ one.more + 3 = cc in
        let three = more_three e.1 one.more number stands.1 in
        rw three.0 (inl (λ i. record { key = sym key i; more = three.1 i }))
    cases false tie found rest = later (nat_le e.1 3) (rest found)

some_kept : (n m : ℕ) → kept_of n ≡ Some m → n ≡ m
some_kept zero m is = absurd (cc)
some_kept (suc n) m is = cc

kept_some : (n m : ℕ) → n ≡ m + 3 → kept_of n ≡ Some (m + 3)
kept_some zero m is = absurd (omega (arith, is))
kept_some (suc n) m is = ap (λ k. Some k) is

pub counted : (limit : ℕ) (came : List GroupKey) (one : Grouped) → length came < 2 ^ 64 → finite.len (book_of limit came).numbers < limit
    → (IsAmong one (more_by (book_of limit came)) → (times one.key came ≡ one.more + 3) × (0 < one.more)) × ((times one.key came ≡ one.more + 3) × (0 < one.more) → IsAmong one (more_by (book_of limit came)))
counted limit came one few room = (
  λ is.
      let stands = among_is (finite.entries (book_of limit came).numbers) one (entries_distinct groups_total exact_groups (book_of limit came).numbers) is in
      let number : kept_of (times one.key came) ≡ Some (one.more + 3) = sym (kept limit came one.key few room) ∙ finite.get-entries (book_of limit came).numbers one.key ∙ stands.0 in
      (some_kept (times one.key came) (one.more + 3) number, stands.1),
  λ is.
      let found : find group_cmp one.key (finite.entries (book_of limit came).numbers) ≡ Some (one.more + 3) =
      sym (finite.get-entries (book_of limit came).numbers one.key) ∙ kept limit came one.key few room ∙ kept_some (times one.key came) one.more is.0 in
      is_among (finite.entries (book_of limit came).numbers) one (found, is.1),
)

-- ---- the tree

pub len_is : (held : BTreeMap GroupKey ℕ) (n : ℕ) → n ≡ btree_map_len held → IsOrdered group_cmp held → n ≡ finite.len (map_of group_cmp held.entries)
len_is held n is ordered = is ∙ sym (len-map_of groups_total exact_groups held.entries ordered)

pub may_is : (held : BTreeMap GroupKey ℕ) (key : GroupKey) (limit n : ℕ) (is_held : Bool) (may : Bool) → n ≡ finite.len (map_of group_cmp held.entries) → is_held ≡ is_some (finite.get (map_of group_cmp held.entries) key)
    → may ≡ (is_held || nat_lt n limit) → may ≡ may_hold limit (map_of group_cmp held.entries) key
may_is held key limit n is_held may count has is = is ∙ (λ i. has i || nat_lt (count i) limit)
