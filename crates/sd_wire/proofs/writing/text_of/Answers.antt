use Rattle.std.proofs.Common.{◌≡◌, ℕ, List, rules}
use Rattle.sd_wire.specs.layout.Fields.{flags_byte}
use Rattle.sd_wire.specs.contents.Values.{SdMessageValue, view_message}
use Rattle.sd_wire.specs.layout.Spelling.{sd_bytes}
use Rattle.sd_wire.specs.encoding.Writing.{WritesSd, pool_bytes}
use Rattle.sd_wire.proofs.encoding.WriteLemmas.{written_holds}
use Rattle.sd_wire.proofs.writing.text_of.Goals as goal

pub returns-clause-holds : goal.returns-clause-holds
returns-clause-holds c =
    let m : SdMessageValue = view_message c.args.message.now in
    let packed = c.in_ok-entries.ensures in
    let pooled = c.in_ok-options.ensures in
    let text : List ℕ = c.in_ok-joined.field-0.items in
    let is : text ≡ sd_bytes (flags_byte m.flags) 0 0 0 c.in_ok-entries.entries.items (pool_bytes c.in_ok-entries.pool.items) = search rules in
    let w : WritesSd m text = record {
      entries = c.in_ok-entries.entries.items;
      pool = c.in_ok-entries.pool.items;
      packs = search rules;
      is = is;
      entries_fit = search rules;
      options_fit = search rules;
    } in
    written_holds m text w (search rules) (search rules)
