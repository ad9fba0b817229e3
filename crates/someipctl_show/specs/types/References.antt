-- The names that the text of a shape refers to.
use Rattle.std.specs.Prelude.{◌≡◌, ℕ, ◌+◌, ◌==◌, ◌&&◌, ◌⊎◌, if◌then◌else◌, true, List, [], ◌∷◌, ◌++◌, take, Option, Some, None}
use Rattle.std.specs.Option.{is_some}
use Rattle.someip_payload_values.specs.Check.{is_later}
use Rattle.someip_payload_values.specs.Data.{Form}
use Rattle.someip_payload.specs.Named.{NamedForms, form_named}
use Rattle.someip_payload.specs.ShapeSizes.{form_count}
use Rattle.someip_payload.specs.ShapeText.{begins_name}

-- the bytes at the front of a text with which a name may go on
abbrev pub later_front : List ℕ → List ℕ
later_front [] = []
later_front (b ∷ rest) = if is_later b then b ∷ later_front rest else []

-- the longest name at the front of a text, where one begins
abbrev pub front_name : List ℕ → List ℕ
front_name text = take 64 (later_front text)

-- the names that a text refers to, in their order: each stands behind an `@`, and is as long as it can be
abbrev pub references : List ℕ → List (List ℕ)
references [] = []
references (b ∷ rest) = if (b == 64) && begins_name rest then front_name rest ∷ references rest else references rest

-- a name is one of these
abbrev pub IsOneOf : List ℕ → List (List ℕ) → Type 0
IsOneOf n [] = ⊥
IsOneOf n (m ∷ ms) = (n ≡ m) ⊎ IsOneOf n ms

-- a name stands for a form, and so does each of these
abbrev pub Knows : NamedForms → List ℕ → Type 0
Knows names n = is_some (form_named names n) ≡ true

abbrev pub KnowsAll : NamedForms → List (List ℕ) → Type 0
KnowsAll names ns = (n : List ℕ) → IsOneOf n ns → Knows names n

-- a text refers to this name after names that stand for a form each
abbrev pub RefersFirst : NamedForms → List ℕ → List ℕ → Type 0
RefersFirst names text n = (front : List (List ℕ)) × (rest : List (List ℕ)) × (references text ≡ front ++ n ∷ rest) × KnowsAll names front

-- b has what a has of these names
abbrev pub Agrees : NamedForms → NamedForms → List (List ℕ) → Type 0
Agrees a b ns = (n : List ℕ) (f : Form) → IsOneOf n ns → form_named a n ≡ Some f → form_named b n ≡ Some f

-- how many forms stand for a name, and for names
abbrev pub count_of : Option Form → ℕ
count_of None = 0
count_of (Some f) = form_count f

abbrev pub count_named : NamedForms → List (List ℕ) → ℕ
count_named names [] = 0
count_named names (n ∷ ns) = count_of (form_named names n) + count_named names ns

-- how many forms are written out where a text refers to names
abbrev pub written_out : NamedForms → List ℕ → ℕ
written_out names text = count_named names (references text)
