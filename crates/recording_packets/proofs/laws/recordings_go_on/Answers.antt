use Rattle.recording_packets.proofs.IntakeLemmas.{after_packets-append, arrivals-append}
use Rattle.recording_packets.proofs.laws.recordings_go_on.Goals as goal

pub returns-clause-given : goal.returns-clause-given
returns-clause-given c = arrivals-append

pub returns-clause-after : goal.returns-clause-after
returns-clause-after c = after_packets-append
