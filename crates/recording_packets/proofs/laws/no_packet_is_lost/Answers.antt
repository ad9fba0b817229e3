use Rattle.std.proofs.Common.{arith, ◌∙◌}
use Rattle.recording_packets.specs.Intake.{nothing_taken}
use Rattle.recording_packets.proofs.CountLemmas.{all-count}
use Rattle.recording_packets.proofs.laws.no_packet_is_lost.Goals as goal

pub returns : goal.returns
returns c chosen items all = all-count chosen (nothing_taken chosen) items all ∙ omega arith
