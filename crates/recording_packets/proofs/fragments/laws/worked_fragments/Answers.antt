use Rattle.std.proofs.Common.{refl}
use Rattle.recording_packets.proofs.fragments.laws.worked_fragments.Goals as goal

pub returns-clause-two : goal.returns-clause-two
returns-clause-two c = refl

pub returns-clause-turned : goal.returns-clause-turned
returns-clause-turned c = refl

pub returns-clause-three : goal.returns-clause-three
returns-clause-three c = refl

pub returns-clause-overlap : goal.returns-clause-overlap
returns-clause-overlap c = refl

pub returns-clause-gap : goal.returns-clause-gap
returns-clause-gap c = refl

pub returns-clause-twice : goal.returns-clause-twice
returns-clause-twice c = refl

pub returns-clause-last : goal.returns-clause-last
returns-clause-last c = refl

pub returns-clause-differs : goal.returns-clause-differs
returns-clause-differs c = refl

pub returns-clause-other_end : goal.returns-clause-other_end
returns-clause-other_end c = refl

pub returns-clause-too_long : goal.returns-clause-too_long
returns-clause-too_long c = refl

pub returns-clause-alone : goal.returns-clause-alone
returns-clause-alone c = refl

pub returns-clause-other : goal.returns-clause-other
returns-clause-other c = refl

pub returns-clause-in_time : goal.returns-clause-in_time
returns-clause-in_time c = refl

pub returns-clause-too_late : goal.returns-clause-too_late
returns-clause-too_late c = refl
