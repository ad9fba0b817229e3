-- What contracts see of the Rust values.
use Rattle.std.specs.Prelude.{◌≡◌, ◌≤◌, ℕ, suc, Bool, true, false, List, [], ◌∷◌, length, Option, Some, None, refl}
use Rattle.std.specs.Coded.{Coded, code_by, coded×, coded_ℕ, coded_list, coded_option}
use Rattle.recording_packets.specs.declared.fragments.piece.PacketKey.{PacketKey}
use Rattle.recording_packets.specs.declared.fragments.piece.Piece as declared_piece
use Rattle.recording_packets.specs.declared.fragments.partial.Partial.TheInside as inside_partial
use Rattle.recording_packets.specs.fragments.Pieces.{Piece}
use Rattle.recording_packets.specs.fragments.Cells.{Cells}
use Rattle.recording_packets.specs.fragments.Parts.{Part}
use Rattle.recording_packets.specs.fragments.Stores.{Store}

-- a piece with its bytes
abbrev pub view_piece : declared_piece.Piece → Piece
view_piece p = record { offset = p.offset; last = p.last; bytes = p.bytes.now }

-- the bytes that are known
abbrev pub cells_of : List Bool → List ℕ → Cells
cells_of [] bytes = []
cells_of (known ∷ knowns) [] = []
cells_of (true ∷ knowns) (byte ∷ bytes) = Some byte ∷ cells_of knowns bytes
cells_of (false ∷ knowns) (byte ∷ bytes) = None ∷ cells_of knowns bytes

-- how many are known
abbrev pub count_known : List Bool → ℕ
count_known [] = 0
count_known (true ∷ knowns) = suc (count_known knowns)
count_known (false ∷ knowns) = count_known knowns

abbrev pub view_partial : inside_partial.Inside → Part
view_partial p =
    record {
      key = p.key;
      first = p.first;
      fragments = p.fragments;
      cells = cells_of p.known.items p.bytes.items;
      end = p.end;
    }

-- what is true of every partial: there is a byte for each cell, and the known ones are counted
pub record IsSound (p : inside_partial.Inside) : Type 0 where
  pub long : length p.known.items ≤ length p.bytes.items
  pub counted : p.count ≡ count_known p.known.items

-- codes, by which a proof tells values apart
abbrev pub coded_key : Coded PacketKey
coded_key =
    code_by (List ℕ × (List ℕ × ℕ)) (coded× (coded_list coded_ℕ) (coded× (coded_list coded_ℕ) coded_ℕ))
    (λ k. (k.source, (k.destination, k.identification))) (λ c. record { source = c.0; destination = c.1.0; identification = c.1.1 }) (λ _. refl)

abbrev pub coded_part : Coded Part
coded_part =
    code_by (PacketKey × (ℕ × (ℕ × (Cells × Option ℕ)))) (coded× coded_key (coded× coded_ℕ (coded× coded_ℕ (coded× (coded_list (coded_option coded_ℕ)) (coded_option coded_ℕ)))))
    (λ p. (p.key, (p.first, (p.fragments, (p.cells, p.end)))))
    (λ c. record { key = c.0; first = c.1.0; fragments = c.1.1.0; cells = c.1.1.1.0; end = c.1.1.1.1 })
    (λ _. refl)

abbrev pub coded_store : Coded Store
coded_store =
    code_by (List Part × (Option (List ℕ) × (ℕ × ℕ))) (coded× (coded_list coded_part) (coded× (coded_option (coded_list coded_ℕ)) (coded× coded_ℕ coded_ℕ)))
    (λ s. (s.parts, (s.whole, (s.without_rest, s.that_differ))))
    (λ c. record { parts = c.0; whole = c.1.0; without_rest = c.1.1.0; that_differ = c.1.1.1 })
    (λ _. refl)
