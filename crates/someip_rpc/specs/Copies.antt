-- Copies of what a service instance is set up with.
use Rattle.std.specs.Prelude.{◌≡◌}
use Rattle.someip_rpc.specs.declared.service.ServiceRules.{ServiceRules}

-- a copy has the same values: only the map of the events may lie elsewhere
abbrev pub IsCopyOfRules : ServiceRules → ServiceRules → Type 0
IsCopyOfRules rules copy = (copy ≡ record rules { events = copy.events }) × (copy.events.entries ≡ rules.events.entries)
