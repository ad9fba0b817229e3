use Rattle.std.proofs.Common.{◌≡◌, true, ap, sym, subst, ◌∙◌, arith}
use Rattle.std.specs.FinMap as finite
use Rattle.std.specs.Option.{is_some}
use Rattle.std.specs.BTreeMap as tree
use Rattle.someip_tables.specs.Agendas.{IsAgenda}
use Rattle.someip_tables.specs.Tables.{map_of}
use Rattle.someip_tables.proofs.AgendaLemmas.{agenda_without, agenda_renewed, room_for_one, same_length}
use Rattle.someip_tables.proofs.Trees.{get-map_of, map_of-insert}
use Rattle.someip_tables.proofs.Outcomes.{where_no_err, not_none}
use Rattle.someip_tables.proofs.awaited.renew.Goals as goal

put : (g : _) (c : goal.After-note g) → map_of g.K.Ord.cmp c.insert.new.self.entries ≡ finite.insert (map_of g.K.Ord.cmp c.args.held.now.entries) c.args.key c.args.value
put g c =
    let there : is_some (tree.get g.K.Ord.cmp c.args.held.now c.args.key) ≡ true = ap (λ v. is_some v) (sym (get-map_of g.met.K.Ord.total c.args.held.now.entries c.args.key)) ∙ c.requires.there in
    map_of-insert g.met.K.Ord.total g.met.K.Key.exact c.args.held.now.entries c.insert.new.self.entries c.args.key c.args.value
    (where_no_err c.insert.result (λ none. not_none _ there none) c.insert.ensures.absent c.insert.ensures.updates).0

pub note-requires-clause-room : goal.note-requires-clause-room
note-requires-clause-room g c =
    let rest = rw c.moment_of-earlier.ensures at c.forget.ensures.rest in
    let agenda : IsAgenda g.V.Waits.moment c.forget.new.dues.items (finite.remove (map_of g.K.Ord.cmp c.args.held.now.entries) c.args.key) =
    agenda_without g.met.K.Ord.total g.met.K.Key.exact g.V.Waits.moment (map_of g.K.Ord.cmp c.args.held.now.entries) c.args.key c.args.dues.now.items c.forget.new.dues.items c.requires.agenda c.forget.ensures.falls rest in
    let lt = room_for_one g.met.K.Ord.total g.met.K.Key.exact g.V.Waits.moment c.args.held.now.entries c.args.key c.args.value c.forget.new.dues.items c.insert.ensures.was_ordered c.requires.there agenda in
    omega (arith, lt, c.requires.room, c.forget.ensures.room)

pub returns-clause-changed : goal.returns-clause-changed
returns-clause-changed g c = put g c

pub returns-clause-agenda : goal.returns-clause-agenda
returns-clause-agenda g c =
    let rest = rw c.moment_of-earlier.ensures at c.forget.ensures.rest in
    let agenda : IsAgenda g.V.Waits.moment c.forget.new.dues.items (finite.remove (map_of g.K.Ord.cmp c.args.held.now.entries) c.args.key) =
    agenda_without g.met.K.Ord.total g.met.K.Key.exact g.V.Waits.moment (map_of g.K.Ord.cmp c.args.held.now.entries) c.args.key c.args.dues.now.items c.forget.new.dues.items c.requires.agenda c.forget.ensures.falls rest in
    let more = rw c.waits_for.ensures at c.note.ensures.more in
    subst (IsAgenda g.V.Waits.moment c.note.new.dues.items) (sym (put g c))
    (agenda_renewed g.met.K.Ord.total g.met.K.Key.exact g.V.Waits.moment (map_of g.K.Ord.cmp c.args.held.now.entries) c.args.key c.args.value c.forget.new.dues.items c.note.new.dues.items agenda c.note.ensures.falls more)

pub returns-clause-room : goal.returns-clause-room
returns-clause-room g c =
    let len = same_length g.met.K.Ord.total g.met.K.Key.exact g.V.Waits.moment c.args.held.now.entries c.insert.new.self.entries c.args.key c.args.value c.insert.ensures.was_ordered c.insert.ensures.ordered c.requires.there (put g c) in
    omega (arith, len, c.requires.room, c.forget.ensures.room, c.note.ensures.room)
