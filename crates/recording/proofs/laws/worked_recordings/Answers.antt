use Rattle.std.proofs.Common.{refl}
use Rattle.recording.specs.Interfaces.{option_within}
use Rattle.recording.specs.Records.{items_within}
use Rattle.recording.proofs.laws.worked_recordings.Goals as goal

pub returns-clause-nothing : goal.returns-clause-nothing
unfolding items_within
returns-clause-nothing c = refl

pub returns-clause-packet : goal.returns-clause-packet
unfolding items_within
returns-clause-packet c = refl

pub returns-clause-cut : goal.returns-clause-cut
unfolding items_within
returns-clause-cut c = refl

pub returns-clause-blocks : goal.returns-clause-blocks
unfolding items_within option_within
returns-clause-blocks c = refl

pub returns-clause-none : goal.returns-clause-none
returns-clause-none c = refl
