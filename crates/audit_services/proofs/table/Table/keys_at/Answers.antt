use Rattle.std.proofs.Common.{◌≡◌, ap, filter, sym, subst, ◌∙◌}
use Rattle.std.specs.List.{list_any}
use Rattle.std.specs.List.Sorted.{IsStrictlySortedBy}
use Rattle.std.specs.Ordering.{eq_by_cmp}
use Rattle.std.proofs.lemmas.List.Kept.{IsStrictlySortedBy-filter}
use Rattle.someip_tables.specs.Tables.{map_of}
use Rattle.audit_index.specs.Slots.{stands}
use Rattle.audit_index.proofs.KeysAtLemmas.{any_at}
use Rattle.audit_services.specs.Places.{is_among}
use Rattle.audit_services.proofs.PlaceLemmas.{just_there}
use Rattle.audit_services.proofs.table.Table.keys_at.Goals as goal

pub returns-clause-rises : goal.returns-clause-rises
returns-clause-rises g c =
    let at = λ (key : g.row.K.Denot). is_among g.P.Ord.cmp c.args.place (g.K.Placed.places key) in
    subst (IsStrictlySortedBy g.K.Ord.cmp) (sym (c.in_ok-those.ensures ∙ ap (filter at) c.deref.ensures.value)) (IsStrictlySortedBy-filter g.K.Ord.cmp at c.in_ok-keys.keys.items c.in_ok-keys.ensures.rises)

pub returns-clause-just : goal.returns-clause-just
returns-clause-just g c =
    let at = λ (key : g.row.K.Denot). is_among g.P.Ord.cmp c.args.place (g.K.Placed.places key) in
    rw (← c.self.view_is)
    (just_there g.met.K.Ord.total g.met.K.Key.exact g.K.Placed.places g.met.P.Key.exact (stands g.P.Ord.cmp g.K.Ord.cmp c.self.inside.at) (map_of g.K.Ord.cmp c.self.inside.held) c.args.place c.in_ok-keys.keys.items c.in_ok-those.those.items c.self.invariant
    (λ key. ap (list_any (eq_by_cmp g.K.Ord.cmp key)) c.in_ok-keys.ensures.keys ∙ any_at g.met.P.Ord.total g.met.P.Key.exact g.K.Ord.cmp c.args.place key c.self.inside.at) (c.in_ok-those.ensures ∙ ap (filter at) c.deref.ensures.value))
