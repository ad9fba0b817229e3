use Rattle.someipctl_extract.specs.Extraction.{nothing_taken}
use Rattle.someipctl_extract.proofs.ExtractionLemmas.{as_many}
use Rattle.someipctl_extract.proofs.laws.each_datagram_has_its_packets.Goals as goal

pub returns : goal.returns
returns c = λ w items. as_many w (nothing_taken w) items
