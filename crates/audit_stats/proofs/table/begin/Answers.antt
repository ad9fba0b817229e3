use Rattle.std.proofs.Common.{ap, sym, ◌∙◌}
use Rattle.std.specs.FinMap as finite
use Rattle.someip_tables.specs.Tables.{map_of}
use Rattle.someip_tables.proofs.Outcomes.{on_err}
use Rattle.someip_tables.proofs.Trees.{len-map_of, map_of-insert}
use Rattle.audit_stats.proofs.TableLemmas.{no_more, one_more}
use Rattle.audit_stats.proofs.table.begin.Goals as goal

pub returns-clause-ok : goal.returns-clause-ok
returns-clause-ok g c =
    map_of-insert g.met.K.Ord.total g.met.K.Key.exact c.args.held.now.entries c.insert.new.self.entries c.args.key _ c.in_ok-insert.ensures.updates.0
    ∙ ap (finite.insert (map_of g.K.Ord.cmp c.args.held.now.entries) c.args.key) (c.in_ok-count.ensures.ok ∙ ap (g.V.Counts.after c.args.change) c.none-value.ensures)

pub returns-then-len-limit-clause-room : goal.returns-then-len-limit-clause-room
returns-then-len-limit-clause-room g c =
    sym (no_more c.len.result (finite.len (map_of g.K.Ord.cmp c.args.held.now.entries)) c.args.limit c.if-len-limit.true
    (c.len.ensures.len ∙ sym (len-map_of g.met.K.Ord.total g.met.K.Key.exact c.args.held.now.entries c.len.ensures.ordered)))

pub returns-in_err-count-clause-grows : goal.returns-in_err-count-clause-grows
returns-in_err-count-clause-grows g c =
    on_err c.from_residual.result
    (one_more c.len.result (finite.len (map_of g.K.Ord.cmp c.args.held.now.entries)) c.args.limit c.if-len-limit.false
    (c.len.ensures.len ∙ sym (len-map_of g.met.K.Ord.total g.met.K.Key.exact c.args.held.now.entries c.len.ensures.ordered)))

pub returns-in_err-insert-clause-grows : goal.returns-in_err-insert-clause-grows
returns-in_err-insert-clause-grows g c =
    on_err c.from_residual-in_err-insert.result
    (one_more c.len.result (finite.len (map_of g.K.Ord.cmp c.args.held.now.entries)) c.args.limit c.if-len-limit.false
    (c.len.ensures.len ∙ sym (len-map_of g.met.K.Ord.total g.met.K.Key.exact c.args.held.now.entries c.len.ensures.ordered)))

pub returns-clause-room : goal.returns-clause-room
returns-clause-room g c =
    sym (one_more c.len.result (finite.len (map_of g.K.Ord.cmp c.args.held.now.entries)) c.args.limit c.if-len-limit.false
    (c.len.ensures.len ∙ sym (len-map_of g.met.K.Ord.total g.met.K.Key.exact c.args.held.now.entries c.len.ensures.ordered)))
