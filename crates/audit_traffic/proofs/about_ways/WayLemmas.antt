-- What a book of ways holds after some messages.
use Rattle.std.proofs.Common.{◌≡◌, inl, inr, ℕ, zero, suc, ◌+◌, ◌<◌, ◌≤◌, ◌^◌, nat_le, nat_lt, Bool, true, false, cond, ◌||◌, if◌then◌else◌, List, [], ◌∷◌, ◌++◌, length, None, Some, refl, ap, subst, sym, ◌∙◌, arith}
use Rattle.std.specs.Option.{is_none, is_some}
use Rattle.std.specs.List.{flat_map}
use Rattle.std.specs.Ordering.{eq_by_cmp}
use Rattle.std.specs.BTreeMap.{BTreeMap, IsOrdered, btree_map_len}
use Rattle.std.specs.FinMap as finite
use Rattle.std.specs.FinMap.{find}
use Rattle.std.proofs.lemmas.Bool.{and_parts, and_from}
use Rattle.std.proofs.lemmas.Bool.{eq-eqb, eqb-true, lt-ltb}
use Rattle.std.proofs.lemmas.List.Concat.{flat_map-cons}
use Rattle.someip_tables.specs.Distinct.{are_distinct}
use Rattle.someip_tables.specs.hashed.Rooms.{may_hold, told_when_full}
use Rattle.someip_tables.specs.Tables.{map_of}
use Rattle.someip_tables.proofs.Trees.{len-map_of}
use Rattle.someip_tables.proofs.Entries.{entries_distinct, none_found, own_test, same_by_test}
use Rattle.audit_traffic.specs.declared.ways.finding.Finding.TheVariants.{Full}
use Rattle.audit_traffic.specs.declared.ways.way.OneWay.{OneWay}
use Rattle.audit_traffic.specs.declared.ways.way.Way.{Way}
use Rattle.audit_traffic.specs.ways.WayKeys.{back, way_cmp}
use Rattle.audit_traffic.specs.ways.WayOrder.{exact_ways, ways_total}
use Rattle.audit_traffic.specs.ways.WayTables.{Numbers, Ways, after_message, is_one_way, number_of, one_more, one_ways, told_by, told_one_way}
use Rattle.audit_traffic.specs.ways.WayHistories.{IsAmong, IsOneWay, book_of, kept_of, times}

-- ---- whether it is full

abbrev roomed : Way → Ways → Bool → Ways
roomed way book b = if b then record book { numbers = finite.insert book.numbers way (one_more (number_of (finite.get book.numbers way))) } else record book { told_full = true }

pub full_stays : (way : Way) (book : Ways) → book.told_full ≡ true → (after_message way book).told_full ≡ true
full_stays way book is = cases (may_hold book.limit book.numbers way)
  where
    cases : (b : Bool) → (roomed way book b).told_full ≡ true
    cases true = is
    cases false = refl

not_before : (way : Way) (book : Ways) (b : Bool) → book.told_full ≡ b → (after_message way book).told_full ≡ false → book.told_full ≡ false
not_before way book false is fits = is
not_before way book true is fits = let full = full_stays way book is in absurd (cc)

pub full_noted : (way : Way) (book : Ways) → told_by way book ≡ Some Full → (book.told_full ≡ false) × ((after_message way book).told_full ≡ true)
full_noted way book is = cases (may_hold book.limit book.numbers way) book.told_full refl is
  where
    cases : (b t : Bool) → book.told_full ≡ t → (if b then None else told_when_full Full t) ≡ Some Full → (t ≡ false) × ((roomed way book b).told_full ≡ true)
    cases true t now e = absurd (cc)
    cases false true now e = absurd (cc)
    cases false false now e = (refl, refl)

-- ---- how many went each way

times_few : (way : Way) (went : List Way) → times way went ≤ length went
times_few way [] = omega arith
times_few way (w ∷ earlier) = cases (eq_by_cmp way_cmp way w) (times_few way earlier)
  where
    cases : (t : Bool) → times way earlier ≤ length earlier → cond t (times way earlier + 1) (times way earlier) ≤ length (w ∷ earlier)
    cases true few = omega (arith, few)
    cases false few = omega (arith, few)

number_kept : (n : ℕ) → number_of (kept_of n) ≡ n
number_kept zero = refl
number_kept (suc n) = refl

kept_more : (n : ℕ) → kept_of (n + 1) ≡ Some (n + 1)
kept_more n = let more : n + 1 ≡ suc n = omega arith in rw more refl

one_more_is : (n : ℕ) → n + 1 < 2 ^ 64 → one_more n ≡ n + 1
one_more_is n few = rw (lt-ltb _ _ few) refl

pub kept : (limit : ℕ) (went : List Way) (way : Way) → length went < 2 ^ 64 → (book_of limit went).told_full ≡ false → finite.get (book_of limit went).numbers way ≡ kept_of (times way went)
kept limit [] way few fits = finite.get-empty way_cmp way
kept limit (w ∷ earlier) way few fits =
    let before = not_before w (book_of limit earlier) (book_of limit earlier).told_full refl fits in
    let fewer : length earlier < 2 ^ 64 = omega (arith, few) in
    cases (may_hold (book_of limit earlier).limit (book_of limit earlier).numbers w) fits (kept limit earlier way fewer before) (kept limit earlier w fewer before)
  where
    more : (t : Bool) → eq_by_cmp way_cmp way w ≡ t → finite.get (book_of limit earlier).numbers way ≡ kept_of (times way earlier) → finite.get (book_of limit earlier).numbers w ≡ kept_of (times w earlier)
        → cond t (Some (one_more (number_of (finite.get (book_of limit earlier).numbers w)))) (finite.get (book_of limit earlier).numbers way) ≡ kept_of (cond t (times way earlier + 1) (times way earlier))
    more true tie is own =
        let same : way ≡ w = same_by_test exact_ways way w tie in
        let number : number_of (finite.get (book_of limit earlier).numbers w) ≡ times w earlier = ap number_of own ∙ number_kept (times w earlier) in
        let next : one_more (times w earlier) ≡ times w earlier + 1 = one_more_is (times w earlier) (omega (arith, few, times_few w earlier)) in
        ap (λ n. Some (one_more n)) number ∙ ap (λ n. Some n) next ∙ sym (kept_more (times w earlier)) ∙ ap (λ v. kept_of (times v earlier + 1)) (sym same)
    more false tie is own = is

    cases : (b : Bool) → (roomed w (book_of limit earlier) b).told_full ≡ false → finite.get (book_of limit earlier).numbers way ≡ kept_of (times way earlier) → finite.get (book_of limit earlier).numbers w ≡ kept_of (times w earlier)
        → finite.get (roomed w (book_of limit earlier) b).numbers way ≡ kept_of (times way (w ∷ earlier))
    cases true still is own =
        finite.get-insert ways_total (book_of limit earlier).numbers w (one_more (number_of (finite.get (book_of limit earlier).numbers w))) way
        ∙ more (eq_by_cmp way_cmp way w) refl is own
    cases false still is own = absurd (cc)

-- ---- which are told

-- it is an entry of the table, and goes one way alone
abbrev Stands : Numbers → List (Way × ℕ) → OneWay → Type 0
Stands numbers es one = (find way_cmp one.way es ≡ Some one.messages) × (is_one_way numbers (one.way, one.messages) ≡ true)

pub among_is : (numbers : Numbers) (es : List (Way × ℕ)) (one : OneWay) → are_distinct way_cmp es ≡ true → IsAmong one (flat_map (told_one_way numbers) es) → Stands numbers es one
among_is numbers [] one apart is = absurd is
among_is numbers (e ∷ es) one apart is =
    let parts = and_parts _ _ apart in
    cases (is_one_way numbers e) refl (none_found _ parts.0) (among_is numbers es one parts.1) (subst (IsAmong one) (flat_map-cons (told_one_way numbers) e es) is)
  where
    here : is_one_way numbers e ≡ true → record { way = e.0; messages = e.1 } ≡ one → Stands numbers (e ∷ es) one
    here way same = (
      ap (λ (o : OneWay). find way_cmp o.way (e ∷ es)) (sym same) ∙ rw (own_test ways_total e.0) refl ∙ ap (λ (o : OneWay). Some o.messages) same,
      ap (λ (o : OneWay). is_one_way numbers (o.way, o.messages)) (sym same) ∙ way,
    )

    there : (t : Bool) → eq_by_cmp way_cmp one.way e.0 ≡ t → find way_cmp e.0 es ≡ None → Stands numbers es one → Stands numbers (e ∷ es) one
    there true tie none rest =
        let gone : find way_cmp one.way es ≡ None = ap (λ k. find way_cmp k es) (same_by_test exact_ways one.way e.0 tie) ∙ none in
        absurd (cc)
    there false tie none rest = (rw tie rest.0, rest.1)

    cases : (b : Bool) → is_one_way numbers e ≡ b → find way_cmp e.0 es ≡ None → (IsAmong one (flat_map (told_one_way numbers) es) → Stands numbers es one)
        → IsAmong one ((if b then record { way = e.0; messages = e.1 } ∷ [] else []) ++ flat_map (told_one_way numbers) es) → Stands numbers (e ∷ es) one
    cases true way none rest (inl same) = here way same
    cases true way none rest (inr others) = there (eq_by_cmp way_cmp one.way e.0) refl none (rest others)
    cases false way none rest others = there (eq_by_cmp way_cmp one.way e.0) refl none (rest others)

pub is_among : (numbers : Numbers) (es : List (Way × ℕ)) (one : OneWay) → Stands numbers es one → IsAmong one (flat_map (told_one_way numbers) es)
is_among numbers [] one stands = absurd (cc)
is_among numbers (e ∷ es) one stands =
    subst (IsAmong one) (sym (flat_map-cons (told_one_way numbers) e es))
    (cases (eq_by_cmp way_cmp one.way e.0) refl stands.0 (λ found. is_among numbers es one (found, stands.1)))
  where
    later : (b : Bool) → IsAmong one (flat_map (told_one_way numbers) es) → IsAmong one ((if b then record { way = e.0; messages = e.1 } ∷ [] else []) ++ flat_map (told_one_way numbers) es)
    later true is = inr is
    later false is = is

    cases : (t : Bool) → eq_by_cmp way_cmp one.way e.0 ≡ t → cond t (Some e.1) (find way_cmp one.way es) ≡ Some one.messages
        → (find way_cmp one.way es ≡ Some one.messages → IsAmong one (flat_map (told_one_way numbers) es))
        → IsAmong one (told_one_way numbers e ++ flat_map (told_one_way numbers) es)
    cases true tie found rest =
        let way : one.way ≡ e.0 = same_by_test exact_ways one.way e.0 tie in
        let number : e.1 ≡ one.messages = cc in
        let yes : is_one_way numbers e ≡ true = ap (is_one_way numbers) (λ i. (sym way i, number i)) ∙ stands.1 in
        rw yes (inl (λ i. record { way = sym way i; messages = number i }))
    cases false tie found rest = later (is_one_way numbers e) (rest found)

-- what a book keeps of a way says how many went it
none_kept : (n : ℕ) → is_none (kept_of n) ≡ true → n ≡ 0
none_kept zero is = refl
none_kept (suc n) is = absurd (cc)

some_kept : (n m : ℕ) → kept_of n ≡ Some m → n ≡ m
some_kept zero m is = absurd (cc)
some_kept (suc n) m is = cc

one_way_is : (limit : ℕ) (went : List Way) (one : OneWay) → length went < 2 ^ 64 → (book_of limit went).told_full ≡ false → IsAmong one (one_ways (book_of limit went)) → IsOneWay one went
one_way_is limit went one few fits is =
    let stands = among_is (book_of limit went).numbers (finite.entries (book_of limit went).numbers) one (entries_distinct ways_total exact_ways (book_of limit went).numbers) (rw fits at is) in
    let parts = and_parts _ _ stands.1 in
    let number : kept_of (times one.way went) ≡ Some one.messages = sym (kept limit went one.way few fits) ∙ finite.get-entries (book_of limit went).numbers one.way ∙ stands.0 in
    let none : is_none (kept_of (times (back one.way) went)) ≡ true = ap is_none (sym (kept limit went (back one.way) few fits)) ∙ parts.1 in
    let times_is : times one.way went ≡ one.messages = some_kept (times one.way went) one.messages number in
    (and_from _ _ (ap (nat_le 8) times_is ∙ parts.0) (eq-eqb (times (back one.way) went) 0 (none_kept (times (back one.way) went) none)), times_is)

kept_some : (n m : ℕ) → n ≡ m → nat_le 8 n ≡ true → kept_of n ≡ Some m
kept_some zero m is many = absurd (cc)
kept_some (suc n) m is many = ap (λ k. Some k) is

is_one_way_told : (limit : ℕ) (went : List Way) (one : OneWay) → length went < 2 ^ 64 → (book_of limit went).told_full ≡ false → IsOneWay one went → IsAmong one (one_ways (book_of limit went))
is_one_way_told limit went one few fits is =
    let parts = and_parts _ _ is.0 in
    let found : find way_cmp one.way (finite.entries (book_of limit went).numbers) ≡ Some one.messages =
    sym (finite.get-entries (book_of limit went).numbers one.way) ∙ kept limit went one.way few fits ∙ kept_some (times one.way went) one.messages is.1 parts.0 in
    let none : is_none (finite.get (book_of limit went).numbers (back one.way)) ≡ true = ap is_none (kept limit went (back one.way) few fits ∙ ap kept_of (eqb-true (times (back one.way) went) 0 parts.1)) in
    rw fits (is_among (book_of limit went).numbers (finite.entries (book_of limit went).numbers) one (found, and_from _ _ (ap (nat_le 8) (sym is.1) ∙ parts.0) none))

pub reason : (limit : ℕ) (went : List Way) (one : OneWay) → length went < 2 ^ 64 → (book_of limit went).told_full ≡ false
    → (IsAmong one (one_ways (book_of limit went)) → IsOneWay one went) × (IsOneWay one went → IsAmong one (one_ways (book_of limit went)))
reason limit went one few fits = (one_way_is limit went one few fits, is_one_way_told limit went one few fits)

-- ---- the tree

pub len_is : (held : BTreeMap Way ℕ) (n : ℕ) → n ≡ btree_map_len held → IsOrdered way_cmp held → n ≡ finite.len (map_of way_cmp held.entries)
len_is held n is ordered = is ∙ sym (len-map_of ways_total exact_ways held.entries ordered)

pub may_is : (held : BTreeMap Way ℕ) (way : Way) (limit n : ℕ) (is_held : Bool) (may : Bool) → n ≡ finite.len (map_of way_cmp held.entries) → is_held ≡ is_some (finite.get (map_of way_cmp held.entries) way)
    → may ≡ (is_held || nat_lt n limit) → may ≡ may_hold limit (map_of way_cmp held.entries) way
may_is held way limit n is_held may count has is = is ∙ (λ i. has i || nat_lt (count i) limit)
