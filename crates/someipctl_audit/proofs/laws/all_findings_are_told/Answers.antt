use Rattle.someipctl_audit.proofs.SeenLemmas.{all_told}
use Rattle.someipctl_audit.proofs.laws.all_findings_are_told.Goals as goal

pub returns : goal.returns
returns c asked arrivals reports none = all_told asked arrivals reports none
