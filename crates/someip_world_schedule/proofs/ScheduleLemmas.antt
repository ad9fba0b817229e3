-- The numbers of the lines of a schedule.
use Rattle.std.proofs.Common.{◌≡◌, ℕ, ◌+◌, ◌≤◌, true, false, List, [], ◌∷◌, ◌++◌, length, drop, refl, sym, ◌∙◌, append_assoc, append-nil, arith}
use Rattle.std.proofs.lemmas.List.{drop_all}
use Rattle.std.proofs.lemmas.List.FromFn.{length-enumerate_from}
use Rattle.std.specs.List.{enumerate_from}
use Rattle.someip_world_schedule.specs.Schedule.{is_read, numbers_read}

-- ---- the numbers of the lines that are read

-- what the loop keeps after n lines, of which these are read
abbrev pub HasNumbered : List ℕ → ℕ → List (List ℕ) → Type 0
HasNumbered found n lines = found ++ numbers_read (n + 1) (drop n lines) ≡ numbers_read 1 lines

-- a skipped line more
pub HasNumbered-skipped : (found : List ℕ) (n : ℕ) (lines : List (List ℕ)) (line : List ℕ)
    → drop n lines ≡ line ∷ drop (n + 1) lines → is_read line ≡ false → HasNumbered found n lines → HasNumbered found (n + 1) lines
HasNumbered-skipped found n lines line next read h =
    let s : numbers_read (n + 1) (drop n lines) ≡ numbers_read (n + 1 + 1) (drop (n + 1) lines) = rw (next, read) refl in
    rw s at h

-- a line more that is read
pub HasNumbered-read : (found : List ℕ) (n : ℕ) (lines : List (List ℕ)) (line : List ℕ)
    → drop n lines ≡ line ∷ drop (n + 1) lines → is_read line ≡ true → HasNumbered found n lines → HasNumbered (found ++ (n + 1) ∷ []) (n + 1) lines
HasNumbered-read found n lines line next read h =
    let rest = numbers_read (n + 1 + 1) (drop (n + 1) lines) in
    let s : numbers_read (n + 1) (drop n lines) ≡ (n + 1) ∷ rest = rw (next, read) refl in
    append_assoc found ((n + 1) ∷ []) rest ∙ rw s at h

-- all lines are numbered
pub HasNumbered-all : (found : List ℕ) (n : ℕ) (lines : List (List ℕ)) → n ≡ length (enumerate_from 0 lines) → HasNumbered found n lines → found ≡ numbers_read 1 lines
HasNumbered-all found n lines count h =
    let end : length lines ≤ n = omega (arith, count, length-enumerate_from 0 lines) in
    let s : found ++ numbers_read (n + 1) (drop n lines) ≡ found = rw (drop_all n lines end) (append-nil found) in
    sym s ∙ h
