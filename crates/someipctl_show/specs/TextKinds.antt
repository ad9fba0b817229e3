-- Texts of a kind, one of which is printed: what says a value in a text may do so in more than one way.
use Rattle.std.specs.Prelude.{ℕ, ◌≡◌, List, ◌++◌, Option}
use Rattle.someipctl_io.specs.Sending.{Sends, Stops}

-- a text of one kind, and then one of another
abbrev pub Joined : (List ℕ → Type 0) → (List ℕ → Type 0) → List ℕ → Type 0
Joined First Second text = (first second : List ℕ) × (text ≡ first ++ second) × First first × Second second

-- a text of the kind was sent
abbrev pub SendsOne : (List ℕ → Type 0) → Option (List ℕ) → List ℕ → Option (List ℕ) → List ℕ → Type 0
SendsOne Kind before held after waits = (text : List ℕ) × Kind text × Sends before held after waits text

-- sending a text of the kind stopped
abbrev pub StopsOne : (List ℕ → Type 0) → Option (List ℕ) → List ℕ → Option (List ℕ) → Type 0
StopsOne Kind before held after = (text : List ℕ) × Kind text × Stops before held after text
