-- Entries and messages without where their lists lie in memory.
use Rattle.std.specs.Prelude.{List, map}
use Rattle.sd_wire.specs.declared.flags.SdFlags.{SdFlags}
use Rattle.sd_wire.specs.declared.option.SdOption.{SdOption}
use Rattle.sd_wire.specs.declared.entry.EntryHead.{EntryHead}
use Rattle.sd_wire.specs.declared.entry.Entry.{Entry}
use Rattle.sd_wire.specs.declared.message.SdMessage.{SdMessage}
use Rattle.sd_wire.specs.declared.message.SdRead.{SdRead}
use Rattle.sd_wire.specs.declared.message.ReadEntry.{ReadEntry}
use Rattle.sd_wire.specs.declared.message.ReadEntry.TheVariants.{Good, BadRun}

-- an entry and the options of its two runs
pub record EntryValue : Type 0 where
  pub head : EntryHead
  pub first : List SdOption
  pub second : List SdOption

-- an entry that was read: with its options, or without them, where a run passes the options
pub data ReadValue : Type 0 where
  good : EntryValue → ReadValue
  bad_run : EntryHead → ReadValue

-- a message that was read
pub record SdValue : Type 0 where
  pub flags : SdFlags
  pub entries : List ReadValue

-- a message to write
pub record SdMessageValue : Type 0 where
  pub flags : SdFlags
  pub entries : List EntryValue

abbrev pub view_entry : Entry → EntryValue
view_entry e = record { head = e.head; first = e.run1.items; second = e.run2.items }

abbrev pub view_read : ReadEntry → ReadValue
view_read (Good e) = good (view_entry e)
view_read (BadRun head) = bad_run head

abbrev pub view_sd : SdRead → SdValue
view_sd r = record { flags = r.flags; entries = map view_read r.entries.items }

abbrev pub view_message : SdMessage → SdMessageValue
view_message m = record { flags = m.flags; entries = map view_entry m.entries.now }
