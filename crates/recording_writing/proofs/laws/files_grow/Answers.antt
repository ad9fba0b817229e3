use Rattle.std.proofs.Common.{[], append-nil}
use Rattle.recording.specs.declared.number.ByteOrder.TheVariants.{Big}
use Rattle.recording.specs.Spelling.{block_bytes}
use Rattle.recording_writing.specs.Blocks.{blocks_for, section_block}
use Rattle.recording_writing.proofs.FileLemmas.{file_grows, links_grow}
use Rattle.recording_writing.proofs.laws.files_grow.Goals as goal

pub returns-clause-begin : goal.returns-clause-begin
returns-clause-begin c = append-nil (block_bytes Big section_block)

pub returns-clause-grow : goal.returns-clause-grow
returns-clause-grow c = file_grows

pub returns-clause-links : goal.returns-clause-links
returns-clause-links c = links_grow []

pub returns-clause-one : goal.returns-clause-one
returns-clause-one c = λ links k. append-nil (blocks_for links k)
