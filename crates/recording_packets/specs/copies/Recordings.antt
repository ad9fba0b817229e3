-- What is remembered after a whole recording.
use Rattle.std.specs.Prelude.{⊤, ℕ, ◌≤◌, List, [], ◌∷◌, ◌++◌}
use Rattle.recording_packets.specs.copies.Remembered.{SightingValue, after, cost_of_all, others}
use Rattle.recording_packets.specs.declared.copies.TheConstants.{BUDGET}

-- what is remembered after a recording, whose packets stand the youngest first
abbrev pub remembered_after : ℕ → List SightingValue → List SightingValue
remembered_after window [] = []
remembered_after window (seen ∷ earlier) = after window seen.moment seen.packet (remembered_after window earlier)

-- none of them was seen after a moment
abbrev pub AreUpTo : ℕ → List SightingValue → Type 0
AreUpTo moment [] = ⊤
AreUpTo moment (seen ∷ others) = (seen.moment ≤ moment) × AreUpTo moment others

-- the clock of a recording never falls
abbrev pub IsInTime : List SightingValue → Type 0
IsInTime [] = ⊤
IsInTime (seen ∷ earlier) = AreUpTo seen.moment earlier × IsInTime earlier

-- at no packet the budget is passed: what is remembered of the other packets, and this one, count no more
abbrev pub IsNeverFull : ℕ → List SightingValue → Type 0
IsNeverFull window [] = ⊤
IsNeverFull window (seen ∷ earlier) =
    (cost_of_all (others seen.packet (remembered_after window earlier) ++ seen ∷ []) ≤ BUDGET)
    × IsNeverFull window earlier
