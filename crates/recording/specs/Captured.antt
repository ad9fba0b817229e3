-- A packet of a recording, as it was captured.
use Rattle.std.specs.Prelude.{ℕ, List, Option}
use Rattle.recording.specs.declared.time.Time.{Time}

-- when it was recorded, if that is said; the number of its interface; its link type; how many bytes it had; and those
-- that were captured
pub record RecordValue : Type 0 where
  pub time : Option Time
  pub interface : ℕ
  pub link : ℕ
  pub original : ℕ
  pub bytes : List ℕ
