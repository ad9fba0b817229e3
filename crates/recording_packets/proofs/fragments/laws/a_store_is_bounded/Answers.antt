use Rattle.recording_packets.proofs.about_fragments.BoundLemmas.{few-held, short-held}
use Rattle.recording_packets.proofs.about_fragments.StoreLemmas.{offered-le}
use Rattle.recording_packets.proofs.fragments.laws.a_store_is_bounded.Goals as goal

pub returns-clause-keeps : goal.returns-clause-keeps
returns-clause-keeps c = offered-le

pub returns-clause-packets : goal.returns-clause-packets
returns-clause-packets c = few-held

pub returns-clause-bytes : goal.returns-clause-bytes
returns-clause-bytes c = short-held
