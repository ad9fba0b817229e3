use Rattle.std.proofs.Common.{refl, sym}
use Rattle.someip_world_setup_keys.proofs.tables.integers_at.Goals as goal

pub returns-in-Some : goal.returns-in-Some
returns-in-Some c = rw (sym c.in-Some.ensures) c.integers_of.ensures

pub returns-in-None : goal.returns-in-None
returns-in-None c = rw (sym c.in-None.ensures) refl
