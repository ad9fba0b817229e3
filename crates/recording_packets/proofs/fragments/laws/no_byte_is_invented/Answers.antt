use Rattle.recording_packets.proofs.about_fragments.OrderLemmas.{payload-comes}
use Rattle.recording_packets.proofs.about_fragments.SourceLemmas.{store-brings}
use Rattle.recording_packets.proofs.fragments.laws.no_byte_is_invented.Goals as goal

pub returns-clause-pieces : goal.returns-clause-pieces
returns-clause-pieces c = payload-comes

pub returns-clause-store : goal.returns-clause-store
returns-clause-store c = store-brings
