use Rattle.std.proofs.Common.{◌≡◌, false, sym, subst, arith, rules}
use Rattle.std.specs.Result.{is_err}
use Rattle.std.specs.FinMap as finite
use Rattle.someip_tables.specs.Agendas.{IsAgenda}
use Rattle.someip_tables.specs.Tables.{map_of}
use Rattle.someip_tables.proofs.AgendaLemmas.{agenda_fits_tree, agenda_with}
use Rattle.someip_tables.proofs.Trees.{map_of-insert}
use Rattle.someip_tables.proofs.Outcomes.{where_ok}
use Rattle.someip_tables.proofs.awaited.add.Goals as goal

put : (g : _) (c : goal.After-note g) → map_of g.K.Ord.cmp c.insert.new.self.entries ≡ finite.insert (map_of g.K.Ord.cmp c.args.held.now.entries) c.args.key c.args.value
put g c =
    let fine : is_err c.insert.result ≡ false = search rules in
    map_of-insert g.met.K.Ord.total g.met.K.Key.exact c.args.held.now.entries c.insert.new.self.entries c.args.key c.args.value
    (where_ok c.insert.result fine c.insert.ensures.updates).0

pub note-requires-clause-room : goal.note-requires-clause-room
note-requires-clause-room g c =
    let fits = agenda_fits_tree g.met.K.Ord.total g.met.K.Key.exact g.V.Waits.moment c.args.held.now.entries c.args.dues.now.items c.insert.ensures.was_ordered c.requires.agenda in
    let room = c.in_ok-make_room.ensures.room in
    rw c.make_room.ensures.same (omega (arith, fits, room))

pub returns-clause-ok : goal.returns-clause-ok
returns-clause-ok g c = put g c

pub returns-clause-agenda : goal.returns-clause-agenda
returns-clause-agenda g c =
    let more = rw (c.waits_for.ensures, c.make_room.ensures.same) at c.note.ensures.more in
    subst (IsAgenda g.V.Waits.moment c.note.new.dues.items) (sym (put g c))
    (agenda_with g.met.K.Ord.total g.met.K.Key.exact g.V.Waits.moment (map_of g.K.Ord.cmp c.args.held.now.entries) c.args.key c.args.value c.args.dues.now.items c.note.new.dues.items c.requires.absent c.requires.agenda c.note.ensures.falls more)
