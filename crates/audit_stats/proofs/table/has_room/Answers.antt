use Rattle.std.proofs.Common.{sym, ap, ◌∙◌}
use Rattle.std.specs.FinMap as finite
use Rattle.std.specs.Option.{is_some}
use Rattle.someip_tables.specs.Tables.{map_of}
use Rattle.someip_tables.proofs.Trees.{get-map_of, len-map_of}
use Rattle.audit_stats.proofs.TableLemmas.{room_by_key, room_left}
use Rattle.audit_stats.proofs.table.has_room.Goals as goal

pub returns-then-len-room : goal.returns-then-len-room
returns-then-len-room g c =
    room_left (is_some (finite.get (map_of g.K.Ord.cmp c.args.held.now.entries) c.args.key.now)) c.len.result (finite.len (map_of g.K.Ord.cmp c.args.held.now.entries)) c.args.room.now.limit c.if-len-room.true
    (c.len.ensures.len ∙ sym (len-map_of g.met.K.Ord.total g.met.K.Key.exact c.args.held.now.entries c.len.ensures.ordered))

pub returns-else-len-room : goal.returns-else-len-room
returns-else-len-room g c =
    room_by_key c.contains_key.result (is_some (finite.get (map_of g.K.Ord.cmp c.args.held.now.entries) c.args.key.now)) c.len.result (finite.len (map_of g.K.Ord.cmp c.args.held.now.entries)) c.args.room.now.limit c.if-len-room.false
    (c.contains_key.ensures ∙ ap is_some (sym (get-map_of g.met.K.Ord.total c.args.held.now.entries c.args.key.now)))
    (c.len.ensures.len ∙ sym (len-map_of g.met.K.Ord.total g.met.K.Key.exact c.args.held.now.entries c.len.ensures.ordered))
