-- Items with commas between them and a bracket after the last, read one after the other.
use Rattle.std.proofs.Common.{◌≡◌, ℕ, ◌+◌, ◌<◌, ◌≤◌, ◌⊎◌, max, Result, Ok, Err, IsTrue, false, Vec, Global, List, [], ◌∷◌, ◌++◌, length, get_or, drop, slice_range, codes, inl, inr, ⊎_elim, refl, sym, ap, subst, ◌∙◌, append_assoc, arith}
use Rattle.std.proofs.lemmas.Bool.{false≢true}
use Rattle.std.proofs.lemmas.List.{length-append, get_or-drop}
use Rattle.someip_payload.specs.declared.shape_text_error.ShapeTextError.{ShapeTextError}
use Rattle.someip_payload.specs.ShapeText.{IsReadTo}
use Rattle.someip_payload.proofs.Converse.{fault_of, not_read}
use Rattle.someip_payload.proofs.Places.{behind_piece}
use Rattle.someip_payload.proofs.Pieces.{slice_range-byte, slice_range-append, slice_range-empty}

-- the text of items is that of the last one, or of one in front of others
abbrev pub ByFirst : (One All : Type 0) → (One → All → All) → All → (One → List ℕ → Type 0) → (All → List ℕ → Type 0) → Type 1
ByFirst One All in_front none IsText AreText =
    (P : All → List ℕ → Type 0) → ((x : One) (text : List ℕ) → IsText x text → P (in_front x none) text)
    → ((x : One) (xs : All) (text others : List ℕ) → IsText x text → AreText xs others → P (in_front x xs) (text ++ (codes "," ++ others)))
    → (xs : All) (text : List ℕ) → AreText xs text → P xs text

-- items, what each of them and all of them stand for, the texts of these, and how deep they lie
pub record Listing : Type 1 where
  pub Item : Type 0
  pub One : Type 0
  pub All : Type 0
  pub one : Item → One
  pub all : List Item → All
  pub in_front : One → All → All
  pub all-in_front : (s : Item) (ss : List Item) → all (s ∷ ss) ≡ in_front (one s) (all ss)
  pub IsText : One → List ℕ → Type 0
  pub AreText : All → List ℕ → Type 0
  pub last_text : (x : One) (text : List ℕ) → IsText x text → AreText (in_front x (all [])) text
  pub next_text : (x : One) (xs : All) (text others : List ℕ) → IsText x text → AreText xs others → AreText (in_front x xs) (text ++ (codes "," ++ others))
  pub by_first : ByFirst One All in_front (all []) IsText AreText
  pub depth_of : One → ℕ
  pub deepest_of : All → ℕ
  pub deepest-none : deepest_of (all []) ≡ 0
  pub deepest-in_front : (x : One) (xs : All) → deepest_of (in_front x xs) ≡ max (depth_of x) (deepest_of xs)
  -- the bracket after the last item, and what may stand after an item
  pub close : ℕ
  pub no_comma : close ≡ 44 → ⊥
  pub Stops : List ℕ → Type 0
  pub stops-comma : (rest : List ℕ) → Stops (44 ∷ rest)
  pub stops-close : (rest : List ℕ) → Stops (close ∷ rest)

-- a byte at the front of a text from a place on
byte_there : (text rest : List ℕ) (b at : ℕ) → drop at text ≡ b ∷ rest → get_or text at 0 ≡ b
byte_there text rest b at is =
    let here : get_or (drop at text) 0 0 ≡ get_or text (at + 0) 0 = get_or-drop at text 0 0 in
    let same : at + 0 ≡ at = omega arith in
    ap (λ n. get_or text n 0) (sym same) ∙ sym here ∙ ap (λ (t : List ℕ). get_or t 0 0) is

module _ (k : Listing) where
  open k use {Item, One, All, one, all, in_front, all-in_front, IsText, AreText, last_text, next_text, by_first, depth_of, deepest_of, deepest-none, deepest-in_front, close, no_comma, Stops, stops-comma, stops-close}

  -- what these items and the others after them stand for
  abbrev pub before : List Item → All → All
  before [] xs = xs
  before (s ∷ ss) xs = in_front (one s) (before ss xs)

  -- one more item in front of the others
  before-more : (ss : List Item) (s : Item) (xs : All) → before (ss ++ s ∷ []) xs ≡ before ss (in_front (one s) xs)
  before-more [] s xs = refl
  before-more (z ∷ ss) s xs = ap (in_front (one z)) (before-more ss s xs)

  -- no others
  before-none : (ss : List Item) → before ss (all []) ≡ all ss
  before-none [] = refl
  before-none (s ∷ ss) = ap (in_front (one s)) (before-none ss) ∙ sym (all-in_front s ss)

  -- one more item lies no deeper than is allowed
  deepest-push : (ss : List Item) (s : Item) (most : ℕ) → deepest_of (all ss) ≤ most → depth_of (one s) ≤ most → deepest_of (all (ss ++ s ∷ [])) ≤ most
  deepest-push [] s most inside within = rw (all-in_front s [], deepest-in_front (one s) (all [])) (omega (arith, inside, within))
  deepest-push (z ∷ ss) s most inside within =
      let parts : deepest_of (all (z ∷ ss)) ≡ max (depth_of (one z)) (deepest_of (all ss)) = ap deepest_of (all-in_front z ss) ∙ deepest-in_front (one z) (all ss) in
      let rest = deepest-push ss s most (omega (arith, inside, parts)) within in
      rw (all-in_front z (ss ++ s ∷ []), deepest-in_front (one z) (all (ss ++ s ∷ []))) (omega (arith, inside, parts, rest))

  -- ---- the text of the items that were read

  -- the text up to the comma after the last of them
  abbrev pub SoFar : List Item → List ℕ → Type 0
  SoFar ss text = (xs : All) (others : List ℕ) → AreText xs others → AreText (before ss xs) (text ++ others)

  -- the text goes on by the next item and a comma
  so_far-more : (ss : List Item) (s : Item) (text own : List ℕ) → SoFar ss text → IsText (one s) own → SoFar (ss ++ s ∷ []) (text ++ (own ++ codes ","))
  so_far-more ss s text own so_far is xs others are =
      rw (before-more ss s xs, append_assoc text (own ++ codes ",") others, append_assoc own (codes ",") others)
      (so_far (in_front (one s) xs) (own ++ (codes "," ++ others)) (next_text (one s) xs own others is are))

  -- the text ends with the last item
  so_far-last : (ss : List Item) (s : Item) (text own : List ℕ) → SoFar ss text → IsText (one s) own → AreText (all (ss ++ s ∷ [])) (text ++ own)
  so_far-last ss s text own so_far is =
      rw (← before-none (ss ++ s ∷ []), before-more ss s (all [])) (so_far (in_front (one s) (all [])) own (last_text (one s) own is))

  -- ---- the items that are left, which stand in the text with a bracket after them

  -- what is read at a place, where an item stands there
  abbrev pub ItemOnly : List ℕ → ℕ → ℕ → Result (Item × ℕ) ShapeTextError → Type 0
  ItemOnly text most next r = (x : One) (front tail : List ℕ) → drop next text ≡ front ++ tail → IsText x front → depth_of x ≤ most → Stops tail → IsReadTo one x (next + length front) r

  module _ (text : List ℕ) (most stop : ℕ) (xs : All) (rest : List ℕ) where
    -- others at a place, where these were read
    pub record Others (ss : List Item) (next : ℕ) (ys : All) (others : List ℕ) : Type 0 where
      pub is : xs ≡ before ss ys
      pub there : drop next text ≡ others ++ (close ∷ rest)
      pub deep : deepest_of ys ≤ most
      pub place : next + length others ≡ stop

    -- the others that are left
    pub record Left (ss : List Item) (next : ℕ) : Type 0 where
      pub ys : All
      pub others : List ℕ
      pub are : AreText ys others
      pub here : Others ss next ys others

    -- all were read, and the bracket stands here
    record Ended (ss : List Item) (end : ℕ) : Type 0 where
      is : all ss ≡ xs
      bracket : drop end text ≡ close ∷ rest
      place : end ≡ stop

    -- a comma stands here, and others after it
    record GoesOn (ss : List Item) (end : ℕ) : Type 0 where
      tail : List ℕ
      comma : drop end text ≡ 44 ∷ tail
      left : Left ss (end + 1)

    -- what follows the next item, unless memory ran out as it was read
    abbrev After : List Item → Result (Item × ℕ) ShapeTextError → Type 0
    After ss (Ok r) = Ended (ss ++ r.0 ∷ []) r.1 ⊎ GoesOn (ss ++ r.0 ∷ []) r.1
    After ss (Err e) = IsReadTo (λ (v : Vec Item Global). all v.items) xs stop (Err e)

    -- what was read is an item up to a place, or memory ran out
    after : (ss : List Item) (x : One) (place : ℕ) (r : Result (Item × ℕ) ShapeTextError) → IsReadTo one x place r → ((s : Item) (end : ℕ) → one s ≡ x → end ≡ place → After ss (Ok (s, end))) → After ss r
    after ss x place (Ok r) read follows = follows r.0 r.1 read.0 read.1
    after ss x place (Err e) read follows = read

    -- the next item is the last
    only_one : (ss : List Item) (next : ℕ) (r : Result (Item × ℕ) ShapeTextError) → ItemOnly text most next r → (x : One) (own : List ℕ) → IsText x own → Others ss next (in_front x (all [])) own → After ss r
    only_one ss next r only x own is h =
        let deep : depth_of x ≤ most = omega (arith, h.deep, deepest-in_front x (all [])) in
        after ss x (next + length own) r (only x own (close ∷ rest) h.there is deep (stops-close rest)) (λ s end same place. inl (record {
          is = sym (before-none (ss ++ s ∷ [])) ∙ before-more ss s (all []) ∙ ap (λ (o : One). before ss (in_front o (all []))) same ∙ sym h.is;
          bracket = behind_piece text own (close ∷ rest) next end h.there place;
          place = omega (arith, place, h.place);
        }))

    -- others stand after the next item
    and_others : (ss : List Item) (next : ℕ) (r : Result (Item × ℕ) ShapeTextError) → ItemOnly text most next r
        → (x : One) (ys : All) (own others : List ℕ) → IsText x own → AreText ys others → Others ss next (in_front x ys) (own ++ (codes "," ++ others)) → After ss r
    and_others ss next r only x ys own others is are h =
        let tail : List ℕ = others ++ (close ∷ rest) in
        let there : drop next text ≡ own ++ (44 ∷ tail) = h.there ∙ append_assoc own (codes "," ++ others) (close ∷ rest) in
        let deep : (depth_of x ≤ most) × (deepest_of ys ≤ most) = (omega (arith, h.deep, deepest-in_front x ys), omega (arith, h.deep, deepest-in_front x ys)) in
        after ss x (next + length own) r (only x own (44 ∷ tail) there is deep.0 (stops-comma tail)) (λ s end same place.
        let comma = behind_piece text own (44 ∷ tail) next end there place in
        let here : Others (ss ++ s ∷ []) (end + 1) ys others = record {
          is = h.is ∙ ap (λ (o : One). before ss (in_front o ys)) (sym same) ∙ sym (before-more ss s ys);
          there = behind_piece text (44 ∷ []) tail end (end + 1) comma refl;
          deep = deep.1;
          place = omega (arith, h.place, place, length-append own (44 ∷ others));
        } in
        inr (record { tail = tail; comma = comma; left = record { ys = ys; others = others; are = are; here = here } }))

    -- the next item, whichever it is
    step : (ss : List Item) (next : ℕ) (r : Result (Item × ℕ) ShapeTextError) → ItemOnly text most next r → Left ss next → After ss r
    step ss next r only l = by_first (λ ys others. Others ss next ys others → After ss r) (only_one ss next r only) (and_others ss next r only) l.ys l.others l.are l.here

  -- ---- a loop that reads them

  -- what holds of all items, where their text and a bracket stand at a place
  abbrev pub WhereAll : List ℕ → ℕ → ℕ → (All → ℕ → List ℕ → Type 0) → Type 0
  WhereAll text at most P = (xs : All) (whole rest : List ℕ) → drop at text ≡ whole ++ (close ∷ rest) → AreText xs whole → deepest_of xs ≤ most → P xs (length whole) rest

  -- what is read there
  abbrev pub AllOnly : List ℕ → ℕ → ℕ → Result (Vec Item Global × ℕ) ShapeTextError → Type 0
  AllOnly text at most r = WhereAll text at most (λ xs len rest. IsReadTo (λ v. all v.items) xs (at + (len + 1)) r)

  -- these items were read, up to this place
  pub record Reading (text : List ℕ) (at most : ℕ) (ss : List Item) (next : ℕ) : Type 0 where
    pub from : at ≤ next
    pub inside : next ≤ length text
    pub so_far : SoFar ss (slice_range text at next)
    pub left : WhereAll text at most (λ xs len rest. Left text most (at + len) xs rest ss next)
    pub within : deepest_of (all ss) ≤ most

  -- at the beginning no item was read
  pub none_read : (text : List ℕ) (at most : ℕ) (ss : List Item) → at ≤ length text → ss ≡ [] → Reading text at most ss at
  none_read text at most ss inside none = rw none (record {
    from = omega arith;
    inside = inside;
    so_far = λ xs others are. rw (slice_range-empty text at) are;
    left = λ xs whole rest is are deep. record { ys = xs; others = whole; are = are; here = record { is = refl; there = is; deep = deep; place = refl } };
    within = rw deepest-none (omega arith);
  })

  module _ {text : List ℕ} {at most : ℕ} {ss : List Item} {next : ℕ} (h : Reading text at most ss next) where
    -- what follows the next item, of whatever they are
    next_step : (r : Result (Item × ℕ) ShapeTextError) → ItemOnly text most next r → WhereAll text at most (λ xs len rest. After text most (at + len) xs rest ss r)
    next_step r only xs whole rest there are deep = step text most (at + length whole) xs rest ss next r only (h.left xs whole rest there are deep)

    -- no item could be read
    pub not_one : (e : ShapeTextError) (r : Result (Vec Item Global × ℕ) ShapeTextError) → r ≡ Err e → ItemOnly text most next (Err e) → AllOnly text at most r
    not_one e r is only = subst (AllOnly text at most) (sym is) (next_step (Err e) only)

    -- an item was read after them, up to this place
    module _ (s : Item) (end : ℕ) (ts : List Item) (pushed : ts ≡ ss ++ s ∷ []) where
      -- they lie no deeper than is allowed
      pub all_within : depth_of (one s) ≤ most → deepest_of (all ts) ≤ most
      all_within within = rw pushed (deepest-push ss s most h.within within)

      -- a comma stands after it
      pub one_more : next < end → (end < length text) × (get_or text end 0 ≡ 44) → IsText (one s) (slice_range text next end) → ItemOnly text most next (Ok (s, end)) → depth_of (one s) ≤ most
          → Reading text at most ts (end + 1)
      one_more past comma is only within =
          let piece : slice_range text at (end + 1) ≡ slice_range text at next ++ (slice_range text next end ++ codes ",") =
          rw (← slice_range-append text at next (end + 1) h.from (omega (arith, past)), ← slice_range-append text next end (end + 1) (omega (arith, past)) (omega arith), slice_range-byte text end comma.0, comma.1) in
          rw pushed (record {
            from = omega (arith, h.from, past);
            inside = omega (arith, comma.0);
            so_far = rw piece (so_far-more ss s (slice_range text at next) (slice_range text next end) h.so_far is);
            left = λ xs whole rest there are deep.
                ⊎_elim (λ (d : Ended text most (at + length whole) xs rest (ss ++ s ∷ []) end). absurd (no_comma (sym (byte_there text rest close end d.bracket) ∙ comma.1))) (λ (g : GoesOn text most (at + length whole) xs rest (ss ++ s ∷ []) end). g.left)
                (next_step (Ok (s, end)) only xs whole rest there are deep);
            within = deepest-push ss s most h.within within;
          })

      -- the bracket stands after it
      pub all_found : (last : ℕ) → next < end → IsText (one s) (slice_range text next end) → last ≡ end + 1 → slice_range text end last ≡ close ∷ []
          → (whole : List ℕ) × AreText (all ts) whole × (slice_range text at last ≡ whole ++ close ∷ [])
      all_found last past is place bracket =
          let piece : slice_range text at end ≡ slice_range text at next ++ slice_range text next end = rw (← slice_range-append text at next end h.from (omega (arith, past))) in (
            slice_range text at end,
            rw (pushed, piece) (so_far-last ss s (slice_range text at next) (slice_range text next end) h.so_far is),
            rw (← slice_range-append text at end last (omega (arith, h.from, past)) (omega (arith, place)), bracket),
          )

      -- no comma stands after it
      module _ (only : ItemOnly text most next (Ok (s, end))) (none : (others : List ℕ) → drop end text ≡ 44 ∷ others → IsTrue false) where
        -- they are all
        ended : WhereAll text at most (λ xs len rest. Ended text most (at + len) xs rest (ss ++ s ∷ []) end)
        ended xs whole rest there are deep =
            ⊎_elim (λ (d : Ended text most (at + length whole) xs rest (ss ++ s ∷ []) end). d) (λ (g : GoesOn text most (at + length whole) xs rest (ss ++ s ∷ []) end). absurd (false≢true (none g.tail g.comma)))
            (next_step (Ok (s, end)) only xs whole rest there are deep)

        -- the bracket was read
        pub all_only : (v : Vec Item Global) (last : ℕ) → v.items ≡ ts → last ≡ end + 1 → AllOnly text at most (Ok (v, last))
        all_only v last own place xs whole rest there are deep =
            let d = ended xs whole rest there are deep in
            (ap all (own ∙ pushed) ∙ d.is, omega (arith, d.place, place))

        -- a fault at the bracket
        pub no_bracket : (e : ShapeTextError) (r : Result (Vec Item Global × ℕ) ShapeTextError) → ((others : List ℕ) → drop end text ≡ close ∷ others → fault_of {A = ℕ} e ≡ Ok (end + 1)) → AllOnly text at most r
        no_bracket e r bad xs whole rest there are deep = absurd (not_read e (end + 1) (bad rest (ended xs whole rest there are deep).bracket))
