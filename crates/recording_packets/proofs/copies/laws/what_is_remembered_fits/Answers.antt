use Rattle.std.proofs.Common.{◌++◌, ◌∷◌, []}
use Rattle.recording_packets.specs.copies.Remembered.{others}
use Rattle.recording_packets.proofs.about_copies.Costs.{kept_fits}
use Rattle.recording_packets.proofs.about_copies.RecordingLemmas.{kept_stays, kept_tail}
use Rattle.recording_packets.proofs.copies.laws.what_is_remembered_fits.Goals as goal

pub returns-clause-fits : goal.returns-clause-fits
returns-clause-fits c = λ window now packet remembered. kept_fits window now (others packet remembered ++ record { moment = now; packet = packet } ∷ [])

pub returns-clause-oldest : goal.returns-clause-oldest
returns-clause-oldest c = kept_tail

pub returns-clause-stays : goal.returns-clause-stays
returns-clause-stays c = kept_stays
