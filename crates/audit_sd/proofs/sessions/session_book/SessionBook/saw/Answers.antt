use Rattle.std.proofs.Common.{◌≡◌, true, sym, ◌∙◌}
use Rattle.someip_tables.specs.Tables.{map_of}
use Rattle.someip_tables.specs.hashed.Rooms.{may_hold}
use Rattle.audit_sd.specs.sessions.SessionBooks.{pair_cmp}
use Rattle.audit_sd.proofs.about_sessions.PairLemmas.{entered_within}
use Rattle.audit_sd.proofs.sessions.session_book.SessionBook.saw.Goals as goal

pub invariant_of-self-2 : goal.invariant_of-self-2
invariant_of-self-2 c =
    let may : may_hold c.self.inside.room.limit (map_of pair_cmp c.self.inside.last.entries) (c.args.message.from, c.args.message.to) ≡ true = sym c.may_hold.ensures ∙ c.if-not-may_hold.false in
    entered_within c.args.message c.self.inside.room.limit (map_of pair_cmp c.self.inside.last.entries) (map_of pair_cmp c.enter.new.last.entries) c.enter.result c.self.invariant may c.enter.ensures.after c.enter.ensures.err
