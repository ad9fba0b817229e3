-- A message that has come in part, as the list of its accepted slices.
use Rattle.std.specs.Prelude.{◌≡◌, ℕ, ◌<◌, Some, IsSome}
use Rattle.std.specs.Coded.{Coded, coded×}
use Rattle.std.specs.FinMap.{get}
use Rattle.someip_reassembly.specs.declared.key.ReassemblyKey.{ReassemblyKey}
use Rattle.someip_reassembly.specs.declared.partial.Partial.TheInside.{Inside}
use Rattle.someip_reassembly.specs.Keys.{coded_key}
use Rattle.someip_reassembly.specs.Parts.{Part, coded_part}
use Rattle.someip_reassembly.specs.Slices.{bytes_in, AreOneText, AreInOrder}

-- a part under its key
abbrev pub Entry : Type 0
Entry = ReassemblyKey × Part

abbrev pub coded_entry : Coded Entry
coded_entry = coded× coded_key coded_part

-- what contracts see of a partial
abbrev pub view_partial : Inside → Entry
view_partial p = (p.key, record { bytes = bytes_in p.slices.items; total = p.total; last = p.last })

-- what is true of every partial: its slices have one byte at a place, stand in order, and lie below its total
pub record IsSound (p : Inside) : Type 0 where
  pub one_text : AreOneText p.slices.items
  pub in_order : AreInOrder p.slices.items
  pub below : (total place : ℕ) → p.total ≡ Some total → IsSome (get (bytes_in p.slices.items) place) → place < total
