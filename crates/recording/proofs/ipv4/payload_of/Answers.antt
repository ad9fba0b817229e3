use Rattle.std.proofs.Common.{rules, ◌≡◌, ◌≤◌, ◌<◌, arith}
use Rattle.recording.specs.Packets.{header_len, total_len}
use Rattle.recording.proofs.PacketLemmas.{range-none}
use Rattle.recording.proofs.ipv4.payload_of.Goals as goal

pub returns-then-total-header : goal.returns-then-total-header
returns-then-total-header c = range-none c.args.ip.now (header_len c.args.ip.now) (total_len c.args.ip.now) (omega (arith, c.if-total-header.true, c.header_len-header.ensures, c.network_u16_at-total.ensures))
