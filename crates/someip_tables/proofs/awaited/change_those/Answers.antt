use Rattle.std.proofs.Common.{cond, ap, ◌∙◌}
use Rattle.std.specs.List.{list_any}
use Rattle.std.specs.Ordering.{eq_by_cmp}
use Rattle.std.proofs.lemmas.List.{take_all}
use Rattle.someip_tables.specs.Changed.{each_changed, changed_at}
use Rattle.someip_tables.specs.Tables.{map_of}
use Rattle.someip_tables.proofs.ChangedLemmas.{changed_none, change_next}
use Rattle.someip_tables.proofs.awaited.change_those.Goals as goal

pub loop-key-init : goal.loop-key-init
loop-key-init g c = (c.requires.agenda, c.requires.room, λ f answers apart. changed_none g.met.K.Ord.total g.met.K.Key.exact f (map_of g.K.Ord.cmp c.args.held.now.entries))

pub loop-key-preserved : goal.loop-key-preserved
loop-key-preserved g c = (
  c.change_at.ensures.agenda,
  c.change_at.ensures.room,
  λ f answers apart.
      let k = c.key-item.result in
      c.change_at.ensures.changed f answers ∙ ap (changed_at k (f k)) (c.loop-key.invariant.2 f answers apart)
      ∙ change_next g.met.K.Ord.total g.met.K.Key.exact f (map_of g.K.Ord.cmp c.args.held.now.entries) c.args.keys.now c.loop-key.key-index k apart c.loop-key-test.true c.key-item.is,
)

pub returns-clause-changed : goal.returns-clause-changed
returns-clause-changed g c = λ f answers apart.
    c.loop-key.invariant.2 f answers apart
    ∙ ap (λ ks. each_changed (λ k v. cond (list_any (eq_by_cmp g.K.Ord.cmp k) ks) (f k v) v) (map_of g.K.Ord.cmp c.args.held.now.entries)) (take_all c.loop-key.key-index c.args.keys.now c.loop-key-test.false)
