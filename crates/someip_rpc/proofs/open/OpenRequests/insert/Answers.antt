use Rattle.std.proofs.Common.{◌≡◌, None, sym, ap, ◌∙◌}
use Rattle.slab.specs.Slab as slab
use Rattle.someip_rpc.proofs.OpenLemmas.{requests_put, indexes_put}
use Rattle.someip_rpc.proofs.open.OpenRequests.insert.Goals as goal

pub invariant_of-self-2 : goal.invariant_of-self-2
invariant_of-self-2 c =
    let key = c.vacant_key-key.result in
    let same : c.insert_reserved.result ≡ key = c.insert_reserved.ensures.key ∙ sym c.vacant_key-key.ensures.value in
    let vacant : slab.get c.self.inside.held key ≡ None = ap (λ s. slab.get s key) (sym c.reserve.ensures.rest_kept) ∙ c.vacant_key-key.ensures.vacant in
    indexes_put c.self.inside.index c.insert.new.self c.self.inside.held c.insert_reserved.new.self c.args.token key c.args.request c.in_ok-insert.ensures.updates.0 c.self.invariant vacant
    (ap (slab.get c.insert_reserved.new.self) (sym same) ∙ c.insert_reserved.ensures.updates.changed)
    (λ other apart. c.insert_reserved.ensures.updates.others other (λ e. apart (e ∙ same)) ∙ ap (λ s. slab.get s other) c.reserve.ensures.rest_kept)

pub returns-clause-ok : goal.returns-clause-ok
returns-clause-ok c =
    let key = c.vacant_key-key.result in
    let same : c.insert_reserved.result ≡ key = c.insert_reserved.ensures.key ∙ sym c.vacant_key-key.ensures.value in
    let vacant : slab.get c.self.inside.held key ≡ None = ap (λ s. slab.get s key) (sym c.reserve.ensures.rest_kept) ∙ c.vacant_key-key.ensures.vacant in
    rw (← c.self.view_is)
    (requests_put c.self.inside.index c.insert.new.self c.self.inside.held c.insert_reserved.new.self c.args.token key c.args.request c.in_ok-insert.ensures.updates.0 c.self.invariant vacant
    (ap (slab.get c.insert_reserved.new.self) (sym same) ∙ c.insert_reserved.ensures.updates.changed)
    (λ other apart. c.insert_reserved.ensures.updates.others other (λ e. apart (e ∙ same)) ∙ ap (λ s. slab.get s other) c.reserve.ensures.rest_kept))
