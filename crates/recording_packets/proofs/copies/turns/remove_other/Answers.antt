use Rattle.recording_packets.proofs.about_copies.SlotLemmas.{no_others, none_gone}
use Rattle.recording_packets.proofs.copies.turns.remove_other.Goals as goal

pub returns-else-not-is_empty : goal.returns-else-not-is_empty
returns-else-not-is_empty c =
    none_gone c.args.others.now.entries c.args.packet.now (no_others c.args.others.now.entries c.is_empty.result c.is_empty.ensures c.if-not-is_empty.false)
