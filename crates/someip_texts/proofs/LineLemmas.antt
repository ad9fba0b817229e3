-- Reading a text line by line.
use Rattle.std.proofs.Common.{◌≡◌, ℕ, suc, ◌+◌, ◌==◌, ◌&&◌, ◌<◌, ◌≤◌, not, Bool, true, false, Bor, List, [], ◌∷◌, ◌++◌, length, get_or, drop, map, filter, Option, Some, None, refl, sym, ap, ◌∙◌, append_assoc, append-nil, length-append, arith, drop-cons, add-one}
use denote.Param.Members.{Mut}
use Rattle.std.proofs.lemmas.Iterator.{YieldsList}
use Rattle.std.proofs.lemmas.Iterator.Consumers.{YieldsList-from_enumerate, YieldsList-at}
use Rattle.std.proofs.lemmas.Iterator.Splits.{YieldsList-from_slice_split}
use Rattle.std.specs.Fn.{CalledAt}
use Rattle.std.specs.Iterator.Adapters.{enumerate_source, enumerate_count, enumerate_steps}
use Rattle.std.specs.Slice.Iter.{split_rest, split_done, split_callee, split_steps}
use Rattle.std.proofs.lemmas.List.{drop_all}
use Rattle.std.proofs.lemmas.List.FromFn.{length-enumerate_from, get_or-enumerate_from}
use Rattle.std.specs.List.{position_from, enumerate_from}
use Rattle.std.specs.Prelude.{is_none}
use Rattle.someip_texts.specs.Lines.{lines_of}

-- ---- the lines of a text

-- a text cut at each 0a gives its lines, with the number of those before each. The premises are the
-- clauses of `split`, what its closure answers, and the clauses of `enumerate` and `into_iter`
pub YieldsList-lines : {F : Type 0} {s made it : _} (g : Mut F (Bor ℕ × Unit {0}) Bool) {f : F} (text : List ℕ)
    → split_rest s ≡ text → split_done s ≡ false → split_callee s ≡ f
    → ((x : ℕ) (b : Bool) (q : F) → CalledAt g f x b q → (q ≡ f) × (b ≡ (x == 0x0a)))
    → enumerate_source made ≡ s → enumerate_count made ≡ 0 → it ≡ made
    → YieldsList {B = ℕ × List ℕ} (enumerate_steps (split_steps g)) (λ p. (p.0, p.1.now)) it (enumerate_from 0 (lines_of text))
YieldsList-lines g text rest done closure answers source count made =
    let parts = YieldsList-from_slice_split g (λ b. b == 0x0a) text rest done closure answers in
    YieldsList-at made (YieldsList-from_enumerate (YieldsList-at source parts) count)

-- the line that an iteration takes is the next one, and its index is the number of lines before it
pub next_line : (lines : List (List ℕ)) (n i : ℕ) (line : List ℕ)
    → (n < length (enumerate_from 0 lines)) × ((i, line) ≡ get_or (enumerate_from 0 lines) n (i, line))
    → (i ≡ n) × (drop n lines ≡ line ∷ drop (n + 1) lines)
next_line lines n i line h =
    let within : n < length lines = rw (length-enumerate_from 0 lines) at h.0 in
    let pair = h.1 ∙ get_or-enumerate_from 0 lines n (i, line) within in
    let same : line ≡ get_or lines n line = ap (λ (p : ℕ × List ℕ). p.1) pair in
    let place : i ≡ 0 + n = ap (λ (p : ℕ × List ℕ). p.0) pair in (
      omega arith,
      rw (add-one, drop-cons lines n line) (ap (λ (x : List ℕ). x ∷ drop (suc n) lines) (sym same)),
    )

-- ---- lines that say something, unless they are skipped

module _ {X : Type 0} (skipped : List ℕ → Bool) (says : List ℕ → Option X) where
  -- what some lines say that are not skipped
  abbrev pub said_by : List (List ℕ) → List (Option X)
  said_by lines = map says (filter (λ line. not (skipped line)) lines)

  -- the first bad line of some, the first of which has this number: it is not skipped, and says nothing
  abbrev pub bad_from : ℕ → List (List ℕ) → Option ℕ
  bad_from number lines = position_from (λ line. not (skipped line) && is_none (says line)) number lines

  -- what a loop keeps after n lines, which said this
  pub record HasRead (found : List (Option X)) (n : ℕ) (lines : List (List ℕ)) : Type 0 where
    pub said : found ++ said_by (drop n lines) ≡ said_by lines
    pub none_bad : bad_from (n + 1) (drop n lines) ≡ bad_from 1 lines

  -- a skipped line more
  pub HasRead-skipped : (found : List (Option X)) (n : ℕ) (lines : List (List ℕ)) (line : List ℕ)
      → drop n lines ≡ line ∷ drop (n + 1) lines → skipped line ≡ true
      → HasRead found n lines → HasRead found (n + 1) lines
  HasRead-skipped found n lines line next out h =
      let s : said_by (drop n lines) ≡ said_by (drop (n + 1) lines) = rw (next, out) refl in
      let b : bad_from (n + 1) (drop n lines) ≡ bad_from (n + 1 + 1) (drop (n + 1) lines) = rw (next, out) refl in
      record { said = rw s at h.said; none_bad = sym b ∙ h.none_bad }

  -- a line more that says something
  pub HasRead-more : (found : List (Option X)) (n : ℕ) (lines : List (List ℕ)) (line : List ℕ) (x : X)
      → drop n lines ≡ line ∷ drop (n + 1) lines → skipped line ≡ false → says line ≡ Some x
      → HasRead found n lines → HasRead (found ++ Some x ∷ []) (n + 1) lines
  HasRead-more found n lines line x next read is h =
      let rest = said_by (drop (n + 1) lines) in
      let s : said_by (drop n lines) ≡ Some x ∷ rest = rw (next, read, is) refl in
      let b : bad_from (n + 1) (drop n lines) ≡ bad_from (n + 1 + 1) (drop (n + 1) lines) = rw (next, read, is) refl in
      record { said = append_assoc found (Some x ∷ []) rest ∙ rw s at h.said; none_bad = sym b ∙ h.none_bad }

  -- a bad line is the first
  pub HasRead-bad : (found : List (Option X)) (n : ℕ) (lines : List (List ℕ)) (line : List ℕ)
      → drop n lines ≡ line ∷ drop (n + 1) lines → skipped line ≡ false → says line ≡ None
      → HasRead found n lines → bad_from 1 lines ≡ Some (n + 1)
  HasRead-bad found n lines line next read is h =
      let b : bad_from (n + 1) (drop n lines) ≡ Some (n + 1) = rw (next, read, is) refl in
      sym h.none_bad ∙ b

  -- where a line is not skipped, the lines say something
  pub HasRead-some : (found : List (Option X)) (n : ℕ) (lines : List (List ℕ)) (line : List ℕ)
      → drop n lines ≡ line ∷ drop (n + 1) lines → skipped line ≡ false
      → HasRead found n lines → said_by lines ≡ [] → ⊥
  HasRead-some found n lines line next read h none =
      let rest = said_by (drop (n + 1) lines) in
      let s : said_by (drop n lines) ≡ says line ∷ rest = rw (next, read) refl in
      let whole : found ++ (says line ∷ rest) ≡ [] = rw s at h.said ∙ none in
      let empty = ap (λ (xs : List (Option X)). length xs) whole in
      omega (arith, empty, length-append found (says line ∷ rest))

  -- all lines are read
  pub HasRead-all : (found : List (Option X)) (n : ℕ) (lines : List (List ℕ))
      → n ≡ length (enumerate_from 0 lines) → HasRead found n lines
      → (found ≡ said_by lines) × (bad_from 1 lines ≡ None)
  HasRead-all found n lines count h =
      let end : length lines ≤ n = omega (arith, count, length-enumerate_from 0 lines) in
      let s : found ++ said_by (drop n lines) ≡ found = rw (drop_all n lines end) (append-nil found) in
      let b : bad_from (n + 1) (drop n lines) ≡ None = rw (drop_all n lines end) refl in
      (sym s ∙ h.said, sym h.none_bad ∙ b)
