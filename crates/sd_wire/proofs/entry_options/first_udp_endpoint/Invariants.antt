use Rattle.std.proofs.Common.{◌≡◌, drop}
use Rattle.sd_wire.specs.contents.Endpoints.{first_udp_endpoint}
use Rattle.sd_wire.proofs.entry_options.first_udp_endpoint.Given as goal

abbrev pub invariant-loop-option : goal.invariant-loop-option
invariant-loop-option l = first_udp_endpoint l.options ≡ first_udp_endpoint (drop l.option-index l.options)
