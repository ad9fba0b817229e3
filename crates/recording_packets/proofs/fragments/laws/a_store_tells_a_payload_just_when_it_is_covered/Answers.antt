use Rattle.recording_packets.proofs.about_fragments.StoreLemmas.{told-when-covered}
use Rattle.recording_packets.proofs.fragments.laws.a_store_tells_a_payload_just_when_it_is_covered.Goals as goal

pub returns : goal.returns
returns c = told-when-covered
