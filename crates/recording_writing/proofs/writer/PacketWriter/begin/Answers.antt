use Rattle.std.proofs.Common.{sym, subst}
use Rattle.recording_writing.specs.Files.{AreLinkTypes}
use Rattle.recording_writing.proofs.FileLemmas.{no_link_types}
use Rattle.recording_writing.proofs.writer.PacketWriter.begin.Goals as goal

pub invariant_of-result : goal.invariant_of-result
invariant_of-result g c = subst AreLinkTypes (sym c.new.ensures.items) no_link_types
