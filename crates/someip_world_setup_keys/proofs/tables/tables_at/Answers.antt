use Rattle.std.proofs.Common.{refl, sym}
use Rattle.someip_world_setup_keys.proofs.tables.tables_at.Goals as goal

pub returns-in-Some : goal.returns-in-Some
returns-in-Some c = rw (sym c.in-Some.ensures) c.tables_of.ensures

pub returns-in-None : goal.returns-in-None
returns-in-None c = rw (sym c.in-None.ensures) refl
