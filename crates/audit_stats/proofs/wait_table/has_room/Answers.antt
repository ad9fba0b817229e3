use Rattle.std.proofs.Common.{refl, sym, ap, ◌∙◌}
use Rattle.std.specs.FinMap as finite
use Rattle.std.specs.Option.{is_some}
use Rattle.someip_tables.specs.Tables.{map_of}
use Rattle.someip_tables.proofs.Trees.{get-map_of}
use Rattle.someip_tables.proofs.about_hashed.Hashed.{by_order, entries_distinct, len_distinct}
use Rattle.audit_stats.specs.Keys.{call_cmp}
use Rattle.audit_stats.specs.KeyOrder.{calls_total}
use Rattle.audit_stats.proofs.TableLemmas.{room_by_key, room_left}
use Rattle.audit_stats.proofs.wait_table.has_room.Goals as goal

pub returns-then-len-room : goal.returns-then-len-room
returns-then-len-room c =
    room_left (is_some (finite.get (map_of call_cmp c.args.held.now.entries) c.args.call.now)) c.len.result (finite.len (map_of call_cmp c.args.held.now.entries)) c.args.room.now.limit c.if-len-room.true
    (c.len.ensures.len ∙ sym (len_distinct calls_total c.args.held.now.entries (entries_distinct calls_total c.args.held.now.entries c.len.ensures.unique)))

pub returns-else-len-room : goal.returns-else-len-room
returns-else-len-room c =
    room_by_key c.contains_key.result (is_some (finite.get (map_of call_cmp c.args.held.now.entries) c.args.call.now)) c.len.result (finite.len (map_of call_cmp c.args.held.now.entries)) c.args.room.now.limit c.if-len-room.false
    (c.contains_key.ensures ∙ ap is_some (by_order call_cmp (λ x y. refl) c.args.held.now c.args.call.now ∙ sym (get-map_of calls_total c.args.held.now.entries c.args.call.now)))
    (c.len.ensures.len ∙ sym (len_distinct calls_total c.args.held.now.entries (entries_distinct calls_total c.args.held.now.entries c.len.ensures.unique)))
