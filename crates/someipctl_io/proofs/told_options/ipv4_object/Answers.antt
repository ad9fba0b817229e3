use Rattle.std.proofs.Common.{rules}
use Rattle.std.specs.Net.Addr.{ipv4_octets}
use Rattle.std.specs.Net.Socket.{v4_ip, v4_port}
use Rattle.someipctl_io.specs.Parts.{part_text}
use Rattle.someipctl_io.proofs.ObjectLemmas.{ipv4-end}
use Rattle.someipctl_io.proofs.told_options.ipv4_object.Goals as goal

pub returns : goal.returns
returns c =
    let e = c.args.endpoint.now in
    rw (c.octets-octets.ensures, c.ip.ensures, c.port.ensures)
    (ipv4-end c.args.begin.now (ipv4_octets (v4_ip e.socket)) (part_text c.protocol_parts.result.0) (part_text c.protocol_parts.result.1) (v4_port e.socket) e.protocol.0 (search rules) c.protocol_parts.ensures.byte c.protocol_parts.ensures.text)
