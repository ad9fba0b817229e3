use Rattle.std.proofs.Common.{◌≡◌, map, slice_get}
use Rattle.someip_c_node.specs.Endpoints.{offered_endpoint}
use Rattle.someip_c_node.proofs.own_endpoint.offered_endpoint.Given as goal

-- the place among those that are left is that among all
abbrev pub invariant-loop-instance : goal.invariant-loop-instance
invariant-loop-instance l =
    slice_get (map offered_endpoint l.instance-iterator) l.left ≡ slice_get (map offered_endpoint l.offers.entries) l.place
