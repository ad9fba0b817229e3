use Rattle.someipctl_audit.proofs.SeenLemmas.{lines_are_of_told}
use Rattle.someipctl_audit.proofs.laws.lines_are_of_what_is_told.Goals as goal

pub returns : goal.returns
returns c asked arrivals reports alone = lines_are_of_told asked arrivals reports alone
