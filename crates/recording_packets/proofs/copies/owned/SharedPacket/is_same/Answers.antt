use Rattle.std.proofs.Common.{◌∙◌, sym}
use Rattle.std.proofs.lemmas.Bool.{false_from_ne_true, ne_eqb}
use Rattle.recording_packets.proofs.about_copies.SamePackets.{same_mark}
use Rattle.recording_packets.proofs.copies.owned.SharedPacket.is_same.Goals as goal

pub returns-else-self-other : goal.returns-else-self-other
returns-else-self-other c =
    ne_eqb c.args.self.now.mark c.args.other.now.mark c.if-self-other.false
    ∙ sym (false_from_ne_true _ (λ h. c.if-self-other.false (same_mark c.args.self.now c.args.other.now h)))
