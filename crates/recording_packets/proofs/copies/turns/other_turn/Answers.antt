use Rattle.std.proofs.Common.{sym}
use Rattle.recording_packets.proofs.about_copies.SlotLemmas.{no_others}
use Rattle.recording_packets.proofs.copies.turns.other_turn.Goals as goal

pub returns-then-is_empty : goal.returns-then-is_empty
returns-then-is_empty c =
    sym (no_others c.args.others.now.entries c.is_empty.result c.is_empty.ensures c.if-is_empty.true c.args.packet.now)
