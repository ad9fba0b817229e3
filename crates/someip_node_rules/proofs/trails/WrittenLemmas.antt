-- What is told stands among the outputs as it is, and what is sent as its datagrams.
use Rattle.std.proofs.Common.{◌≡◌, List, [], ◌∷◌, ◌++◌, map, refl, ap}
use Rattle.std.specs.List.{flat_map}
use Rattle.std.specs.declared.net.socket_addr.SocketAddrV4.{SocketAddrV4}
use Rattle.someip_wire.specs.Spelling.{MessageValue}
use Rattle.someip_node_rules.specs.declared.output.Output.{Output}
use Rattle.someip_node_rules.specs.forms.Outputs.{datagrams_of, written, Sends, Tells}

pub told_written : (outputs : List Output) → flat_map written (map Tells outputs) ≡ outputs
told_written [] = refl
told_written (o ∷ outputs) = ap (λ os. o ∷ os) (told_written outputs)

-- a message to each of several endpoints
pub sent_to_all : (from : SocketAddrV4) (m : MessageValue) (endpoints : List SocketAddrV4) → flat_map written (map (λ to. Sends from to m) endpoints) ≡ flat_map (λ to. datagrams_of from to m) endpoints
sent_to_all from m [] = refl
sent_to_all from m (to ∷ endpoints) = ap (λ os. datagrams_of from to m ++ os) (sent_to_all from m endpoints)
