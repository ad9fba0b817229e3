-- Goals, as Rust values.
use Rattle.std.specs.Prelude.{ℕ, List, map, String, string_bytes}
use Rattle.std.specs.Global.{Vec}
use Rattle.std.specs.declared.alloc.Global.{Global}
use Rattle.someip_explore.specs.Goals.{Goal}
use Rattle.someip_explore.specs.declared.goal.Goal as declared

-- the words of texts
abbrev pub words_of : Vec (String Global) → List (List ℕ)
words_of texts = map string_bytes texts.items

abbrev pub goal_of : declared.Goal → Goal
goal_of goal = record { words = words_of goal.words; once = map words_of goal.once.items; never = map words_of goal.never.items }
