-- The faults that errors tell.
use Rattle.std.proofs.Common.{Some, Err, ◌≡◌}
use Rattle.toml.specs.Data.{Data}
use Rattle.someip_world_setup_keys.specs.declared.error.SetupError.{SetupError}
use Rattle.someip_world_setup_keys.specs.declared.error.SetupError.TheVariants as errors
use Rattle.someip_world_setup.specs.Readings.{HasFault}
use Rattle.someip_world_setup_keys.specs.Refusals.{RefusesKey, RefusesClash}
use Rattle.someip_world_setup_keys.specs.Keys.{TellsNotFound}
use Rattle.someip_world_setup_keys.specs.KnownKeys.{has_unknown_key}
use Rattle.someip_world_setup_keys.specs.Clashes.{has_clash}
use Rattle.someip_world_setup_keys.specs.SaidByKeys.{said_setup}
use Rattle.someip_world_setup_keys.specs.Values.{SetupValue}

pub unknown_refuses : (d : Data) (e : SetupError) → RefusesKey (has_unknown_key d) (Err e) → HasFault d e
unknown_refuses d errors.NotToml h = absurd h
unknown_refuses d (errors.Missing k) h = absurd h
unknown_refuses d (errors.WrongKind k) h = absurd h
unknown_refuses d (errors.OutOfRange k) h = absurd h
unknown_refuses d (errors.UnknownKey k) h = h
unknown_refuses d (errors.Clash k) h = absurd h
unknown_refuses d errors.OutOfMemory h = tt

pub parts_refuse : (d : Data) (e : SetupError) → TellsNotFound e (said_setup d) → HasFault d e
parts_refuse d errors.NotToml h = absurd h
parts_refuse d (errors.Missing k) h = h
parts_refuse d (errors.WrongKind k) h = h
parts_refuse d (errors.OutOfRange k) h = h
parts_refuse d (errors.UnknownKey k) h = absurd h
parts_refuse d (errors.Clash k) h = absurd h
parts_refuse d errors.OutOfMemory h = tt

pub clash_refuses : (d : Data) (v : SetupValue) (e : SetupError) → said_setup d ≡ Some v → RefusesClash (has_clash v) (Err e) → HasFault d e
clash_refuses d v errors.NotToml is h = absurd h
clash_refuses d v (errors.Missing k) is h = absurd h
clash_refuses d v (errors.WrongKind k) is h = absurd h
clash_refuses d v (errors.OutOfRange k) is h = absurd h
clash_refuses d v (errors.UnknownKey k) is h = absurd h
clash_refuses d v (errors.Clash k) is h = rw is h
clash_refuses d v errors.OutOfMemory is h = tt
