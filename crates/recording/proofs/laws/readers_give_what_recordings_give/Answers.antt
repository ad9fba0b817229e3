use Rattle.std.proofs.Common.{refl}
use Rattle.recording.specs.Interfaces.{option_within}
use Rattle.recording.specs.Records.{items_within}
use Rattle.recording.proofs.GivenLemmas.{file_given}
use Rattle.recording.proofs.HeldSpelling.{held_whole}
use Rattle.recording.proofs.laws.readers_give_what_recordings_give.Goals as goal

pub returns-clause-same : goal.returns-clause-same
returns-clause-same c = file_given

pub returns-clause-all : goal.returns-clause-all
returns-clause-all c = held_whole

pub returns-clause-cut : goal.returns-clause-cut
unfolding items_within
returns-clause-cut c = refl

pub returns-clause-blocks : goal.returns-clause-blocks
unfolding items_within option_within
returns-clause-blocks c = refl

pub returns-clause-too_long : goal.returns-clause-too_long
unfolding items_within
returns-clause-too_long c = refl

pub returns-clause-long : goal.returns-clause-long
unfolding items_within
returns-clause-long c = refl
