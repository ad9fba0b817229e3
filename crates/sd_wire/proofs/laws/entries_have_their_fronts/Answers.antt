use Rattle.std.proofs.Common.{◌≡◌, ℕ, List, sym, subst}
use Rattle.sd_wire.specs.contents.Values.{EntryValue}
use Rattle.sd_wire.specs.fronts.Splitting.{AreFronts}
use Rattle.sd_wire.specs.fronts.Fronts.{front_lengths}
use Rattle.sd_wire.proofs.fronts.FrontLemmas.{fits_test, test_fits, lengths_are, are_lengths}
use Rattle.sd_wire.proofs.laws.entries_have_their_fronts.Goals as goal

fronts : (entries : List EntryValue) (lengths : List ℕ) → lengths ≡ front_lengths entries → AreFronts entries lengths
fronts entries lengths is = subst (AreFronts entries) (sym is) (lengths_are entries)

pub returns-clause-fits : goal.returns-clause-fits
returns-clause-fits c = λ entries. (fits_test entries, test_fits entries)

pub returns-clause-fronts : goal.returns-clause-fronts
returns-clause-fronts c = λ entries lengths. (are_lengths entries lengths, fronts entries lengths)
