-- Which messages of a recording are of Service Discovery (SOME/IP Service Discovery Protocol, "SOME/IP-SD Message Format").
use Rattle.std.specs.Prelude.{◌==◌, Bool, ◌&&◌, ◌||◌}
use Rattle.std.specs.Net.Socket.{v4_port}
use Rattle.someip_wire.specs.declared.header.Header.{Header}
use Rattle.someip_wire.specs.Discovery.{is_discovery}
use Rattle.someip_tables.specs.declared.hashed.origin.Origin.{Origin}

-- a datagram comes from or goes to the port of Service Discovery
abbrev pub is_at_discovery : Origin → Bool
is_at_discovery origin = v4_port origin.from == 30490 || v4_port origin.to == 30490

-- a message is one of Service Discovery: it has the header of one, and goes from or to port 30490
abbrev pub is_sd : Origin → Header → Bool
is_sd origin header = is_at_discovery origin && is_discovery header
