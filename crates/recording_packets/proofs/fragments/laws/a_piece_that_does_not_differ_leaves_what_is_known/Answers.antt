use Rattle.std.proofs.Common.{ap, cond, Some}
use Rattle.recording_packets.specs.fragments.Pieces.{end_of}
use Rattle.recording_packets.proofs.about_fragments.DifferLemmas.{known-stays, known-then, end-stays}
use Rattle.recording_packets.proofs.fragments.laws.a_piece_that_does_not_differ_leaves_what_is_known.Goals as goal

pub returns-clause-stays : goal.returns-clause-stays
returns-clause-stays c = known-stays

pub returns-clause-known : goal.returns-clause-known
returns-clause-known c = known-then

pub returns-clause-end_stays : goal.returns-clause-end_stays
returns-clause-end_stays c = end-stays

pub returns-clause-end_known : goal.returns-clause-end_known
returns-clause-end_known c = λ part piece last. ap (λ l. cond l (Some (end_of piece)) part.end) last
