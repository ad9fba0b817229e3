-- What becomes of a text that is sent to a writer through a buffer.
use Rattle.std.specs.Prelude.{ℕ, ◌≡◌, List, ◌++◌, Option}
use Rattle.std.specs.Io.KnownBytes.{Appends}

-- A text was sent: a front of what the buffer held and the text is written, and the rest of it waits in the buffer
pub record Sends (before : Option (List ℕ)) (held : List ℕ) (after : Option (List ℕ)) (waits text : List ℕ) : Type 0 where
  pub sent : List ℕ
  pub wrote : Appends before after sent
  pub rest : sent ++ waits ≡ held ++ text

-- Sending a text stopped: a front of what the buffer held and the text is written
pub record Stops (before : Option (List ℕ)) (held : List ℕ) (after : Option (List ℕ)) (text : List ℕ) : Type 0 where
  pub unsent : List ℕ
  pub sends : Sends before held after unsent text
