-- What lines of a trace tell, worked out by hand.
use Rattle.std.specs.Prelude.{[], ◌∷◌, codes, None, Some}
use Rattle.std.specs.declared.net.socket_addr.SocketAddrV4.{SocketAddrV4}
use Rattle.someip_node_rules.specs.declared.output.Output.{Output}
use Rattle.someip_node_rules.specs.declared.output.Output.TheVariants.{Sent, Request}
use Rattle.someipctl_io.specs.ToldLines.{ToldHead}
use Rattle.someipctl_run.specs.ToldTraces.{head_at}

-- the endpoints of a client and a server
abbrev pub client : SocketAddrV4
client = record { ip = record { octets = 192 ∷ 168 ∷ 0 ∷ 2 ∷ [] }; port = 40001 }

abbrev pub server : SocketAddrV4
server = record { ip = record { octets = 192 ∷ 168 ∷ 0 ∷ 1 ∷ [] }; port = 30509 }

-- a datagram of two bytes
abbrev pub two_bytes : Output
two_bytes = Sent client server (0x12 ∷ 0x34 ∷ [])

-- a request without a payload that waits for no answer
abbrev pub unanswered : Output
unanswered = Request None (record { service = 0x1111; instance = 1 }) 0x0421 []

-- the second step, at the node `b`; it stands on the fourth line of the schedule
abbrev pub second_step : ToldHead
second_step = head_at None None 2 (codes "b")

abbrev pub second_step_on_its_line : ToldHead
second_step_on_its_line = head_at (Some (1 ∷ 4 ∷ [])) (Some 4) 2 (codes "b")
