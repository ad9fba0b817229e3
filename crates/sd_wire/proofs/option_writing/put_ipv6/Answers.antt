use Rattle.std.proofs.Common.{rules, arith}
use Rattle.sd_wire.proofs.option_writing.put_ipv6.Goals as goal

pub returns-clause-fits : goal.returns-clause-fits
returns-clause-fits c = record { address = search rules; protocol = c.protocol_byte-protocol.ensures.fits; port = omega arith }
