-- What a datagram reaches is what the rules say is at its destination.
use Rattle.std.proofs.Common.{◌≡◌, ℕ, List, [], ◌∷◌, Some, Result, Ok, Err, refl, subst, ap, sym, ◌∙◌}
use Rattle.std.specs.declared.net.socket_addr.SocketAddrV4.{SocketAddrV4}
use Rattle.std.specs.Net.Socket.{v4_ip}
use Rattle.someip_wire.specs.declared.error.WireError.{WireError}
use Rattle.someip_wire.specs.Reading.{items_of}
use Rattle.someip_wire.specs.Spelling.{MessageValue}
use Rattle.someip_node_rules.specs.declared.target.Target.{Target}
use Rattle.someip_node_rules.specs.declared.target.Target.TheVariants as target
use Rattle.someip_node_rules.specs.rules.Handling.{item_plan, message_at_plan, target_plan}
use Rattle.someip_node_rules.specs.rules.Plans.{Plan, both, each}
use Rattle.someip_node_engine.specs.declared.arrival.Addressee.TheVariants.{Client, Instance}
use Rattle.someip_node_engine.specs.declared.arrival.Reached.{Reached}
use Rattle.someip_node_engine.specs.declared.arrival.Reached.TheVariants.{Application, Discovery}
use Rattle.someip_node_engine.specs.Arrivals.{reached_from, reached_item_plan, reached_plan}

each_same : {X : Type 0} (f g : X → Plan) → ((x : X) → f x ≡ g x) → (xs : List X) → each f xs ≡ each g xs
each_same f g same [] = refl
each_same f g same (x ∷ xs) = ap (λ p. both p (each f xs)) (same x) ∙ ap (λ p. both (g x) p) (each_same f g same xs)

reached_by : (from to : SocketAddrV4) (goal : Target) (own reached : Reached) → reached_from from to goal ≡ Some own → reached_from from to goal ≡ Some reached
    → (m : MessageValue) → message_at_plan goal from to m ≡ reached_plan own m → message_at_plan goal from to m ≡ reached_plan reached m
reached_by from to goal own reached is other m same =
    let e : own ≡ reached = cc (sym is, other) in subst (λ (r : Reached). message_at_plan goal from to m ≡ reached_plan r m) e same

-- a message of a datagram goes to what its datagram reached
item_reached : (from to : SocketAddrV4) (goal : Target) (reached : Reached) → reached_from from to goal ≡ Some reached
    → (item : Result MessageValue WireError) → item_plan goal from to item ≡ reached_item_plan reached item
item_reached from to goal reached is (Err fault) = refl
item_reached from to (target.Discovery channel) reached is (Ok m) =
    reached_by from to (target.Discovery channel) (Discovery (v4_ip from) channel) reached refl is m refl
item_reached from to target.Client reached is (Ok m) =
    reached_by from to target.Client (Application (record { from = from; to = to; addressee = Client })) reached refl is m refl
item_reached from to (target.Instance instance) reached is (Ok m) =
    reached_by from to (target.Instance instance) (Application (record { from = from; to = to; addressee = Instance instance })) reached refl is m refl
item_reached from to target.Nowhere reached is (Ok m) = cc

-- so do all of them, where something is reached
pub target_reached : (from to : SocketAddrV4) (goal : Target) (reached : Reached) (bytes : List ℕ) → reached_from from to goal ≡ Some reached
    → target_plan goal from to bytes ≡ each (reached_item_plan reached) (items_of bytes)
target_reached from to target.Nowhere reached bytes is = cc
target_reached from to goal reached bytes is = each_same (item_plan goal from to) (reached_item_plan reached) (item_reached from to goal reached is) (items_of bytes)
