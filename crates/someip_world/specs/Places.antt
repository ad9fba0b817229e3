-- Where the lines stand that tell of datagrams.
use Rattle.std.specs.Prelude.{ℕ, suc, List, [], ◌∷◌, is_some, if◌then◌else◌}
use Rattle.someip_world_rules.specs.declared.line.Line.{Line}
use Rattle.someip_world_rules.specs.Datagrams.{datagram_in}

-- the places of those of some lines that tell of datagrams, where the first line stands at a place
abbrev pub places_from : ℕ → List Line → List ℕ
places_from place [] = []
places_from place (line ∷ lines) = if is_some (datagram_in line) then place ∷ places_from (suc place) lines else places_from (suc place) lines
