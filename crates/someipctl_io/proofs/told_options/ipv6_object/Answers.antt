use Rattle.std.proofs.Common.{arith}
use Rattle.hex.specs.Hex.{encode_lower}
use Rattle.someipctl_io.specs.Parts.{part_text}
use Rattle.someipctl_io.proofs.EscapeLemmas.{escape-hex}
use Rattle.someipctl_io.proofs.ObjectLemmas.{endpoint-end}
use Rattle.someipctl_io.proofs.told_options.ipv6_object.Goals as goal

pub returns : goal.returns
returns c =
    endpoint-end c.args.begin.now (encode_lower c.args.octets.now) (part_text c.protocol_parts.result.0) (part_text c.protocol_parts.result.1) c.args.port c.args.protocol.0
    (escape-hex c.args.octets.now (λ i. omega (arith, c.type_inv.octets i))) c.protocol_parts.ensures.byte c.protocol_parts.ensures.text
