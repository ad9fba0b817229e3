use Rattle.std.proofs.Common.{◌≡◌, drop}
use Rattle.someipctl_io.proofs.SendingLemmas.{IsSending}
use Rattle.someipctl_extract.specs.Extraction.{with_packets}
use Rattle.someipctl_extract.proofs.ExtractionLemmas.{AreFit, bytes_behind}
use Rattle.someipctl_extract.proofs.output.Output.put_all.Given as goal

-- what is left of the packets is written behind what was
abbrev pub invariant-loop-packet : goal.invariant-loop-packet
invariant-loop-packet g l =
    IsSending (g.W.Write.contents l.fn.writer) l.fn.buffer (g.W.Write.contents l.writer) l.buffer (bytes_behind l.self (drop l.packet-index l.packets)) (bytes_behind l.fn.self l.packets)
    × (with_packets l.fn.self l.packets ≡ with_packets l.self (drop l.packet-index l.packets))
    × (AreFit (drop l.packet-index l.packets) → AreFit l.packets)
