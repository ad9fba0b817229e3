-- What a capture says, by what was read of it.
use Rattle.std.proofs.Common.{◌≡◌, ℕ, List, [], ◌∷◌, map, Some, Vec, Global, refl, ap, ◌∙◌}
use Rattle.someipctl_show.specs.Capture.{captured_datagrams}
use Rattle.someipctl_show.specs.ShowResult.{SaysDatagrams}
use Rattle.someipctl_show.proofs.ShownTextLemmas.{bytes_of_each}

map_some : (datagrams : List (Vec ℕ Global)) → map (λ (t : List ℕ). Some t) (bytes_of_each datagrams) ≡ map (λ d. Some d.items) datagrams
map_some [] = refl
map_some (d ∷ ds) = ap (λ t. Some d.items ∷ t) (map_some ds)

pub says : (text : List ℕ) (datagrams : List (Vec ℕ Global)) → map (λ d. Some d.items) datagrams ≡ captured_datagrams text → SaysDatagrams text (bytes_of_each datagrams)
says text datagrams is = map_some datagrams ∙ is
