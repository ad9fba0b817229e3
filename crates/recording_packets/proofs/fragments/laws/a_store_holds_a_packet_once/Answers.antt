use Rattle.recording_packets.proofs.about_fragments.OnceLemmas.{held-once, whole-gone, differs-gone}
use Rattle.recording_packets.proofs.fragments.laws.a_store_holds_a_packet_once.Goals as goal

pub returns-clause-once : goal.returns-clause-once
returns-clause-once c = held-once

pub returns-clause-whole : goal.returns-clause-whole
returns-clause-whole c = whole-gone

pub returns-clause-differs : goal.returns-clause-differs
returns-clause-differs c = differs-gone
