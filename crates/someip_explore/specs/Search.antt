-- The schedules up to a length, in the order in which they are tried.
use Rattle.std.specs.Prelude.{ℕ, zero, suc, List, [], ◌∷◌, ◌++◌}
use Rattle.std.specs.List.{Contains, flat_map}

module _ {S : Type 0} (next : List S → List S) where
  -- a beginning, and after it in so many steps all that it may go on by, one after the other: `next` gives the steps by which
  -- one may go on
  abbrev pub longer_by : ℕ → List S → List (List S)
  longer_by zero before = before ∷ []
  longer_by (suc n) before = flat_map (λ s. longer_by n (before ++ s ∷ [])) (next before)

  -- with at most so many steps more, the shorter ones first
  abbrev pub up_to : ℕ → List S → List (List S)
  up_to zero before = longer_by 0 before
  up_to (suc n) before = up_to n before ++ longer_by (suc n) before

  -- a beginning may go on by some steps: by each of them what stands before it
  abbrev pub MayGoOn : List S → List S → Type 0
  MayGoOn before [] = Unit {0}
  MayGoOn before (s ∷ more) = Contains (next before) s × MayGoOn (before ++ s ∷ []) more
