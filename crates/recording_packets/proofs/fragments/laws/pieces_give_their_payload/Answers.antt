use Rattle.std.proofs.Common.{suc, arith}
use Rattle.recording_packets.specs.fragments.Wholes.{part_of}
use Rattle.recording_packets.proofs.about_fragments.KnownLemmas.{made, made-agrees, made-payload}
use Rattle.recording_packets.proofs.fragments.laws.pieces_give_their_payload.Goals as goal

pub returns-clause-agree : goal.returns-clause-agree
returns-clause-agree c = λ key now payload piece pieces all.
    made-agrees payload pieces (part_of key now pieces) piece (all 0 piece (omega arith)) (made payload key now pieces (λ k d lt. all (suc k) d (omega (arith, lt))))

pub returns-clause-told : goal.returns-clause-told
returns-clause-told c = λ key now payload pieces all. made-payload payload pieces (part_of key now pieces) (made payload key now pieces all)
