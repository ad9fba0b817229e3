use Rattle.recording_packets.proofs.about_copies.RecordingLemmas.{as_recorded, only_recorded}
use Rattle.recording_packets.proofs.copies.laws.the_forgotten_does_not_matter.Goals as goal

pub returns-clause-same : goal.returns-clause-same
returns-clause-same c = λ window seen earlier in_time fits. as_recorded window seen.moment seen.packet earlier in_time.0 in_time.1 fits

pub returns-clause-only : goal.returns-clause-only
returns-clause-only c = only_recorded
