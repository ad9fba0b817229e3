use Rattle.std.proofs.Common.{None}
use Rattle.recording_packets.specs.LeftOut.{nothing_left_out}
use Rattle.recording_packets.specs.fragments.Stores.{nothing_held}
use Rattle.recording_packets.proofs.CarriedLemmas.{arrivals-plain}
use Rattle.recording_packets.proofs.laws.packets_give_their_datagrams.Goals as goal

pub returns : goal.returns
returns c = arrivals-plain 0 0 nothing_held None nothing_left_out
