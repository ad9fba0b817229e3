use Rattle.std.proofs.Common.{◌≡◌, ◌+◌, ◌++◌, drop, filter, ap, sym, ◌∙◌}
use Rattle.std.proofs.lemmas.List.{append-nil, append_assoc}
use Rattle.audit_services.specs.Places.{is_among}
use Rattle.audit_services.proofs.EntryLemmas.{filter_first, next_left, none_left}
use Rattle.audit_services.proofs.table.those_at.Goals as goal

pub loop-key-init : goal.loop-key-init
loop-key-init g c = ap (λ ks. ks ++ filter (λ key. is_among g.P.Ord.cmp c.args.place.now (g.K.Placed.places key)) c.args.keys.now) c.new-those.ensures.items

pub loop-key-preserved : goal.loop-key-preserved
loop-key-preserved g c =
    let at = λ (key : g.row.K.Denot). is_among g.P.Ord.cmp c.args.place.now (g.K.Placed.places key) in
    let key = c.key-item.result in
    let rest = drop (c.loop-key.key-index + 1) c.args.keys.now in
    let is = next_left c.args.keys.now c.loop-key.key-index key c.loop-key-test.true c.key-item.is in
    ap (λ ks. ks ++ filter at rest) c.in_ok-push_if.ensures ∙ append_assoc c.loop-key.those.items _ (filter at rest)
    ∙ ap (λ ks. c.loop-key.those.items ++ ks) (rw c.is_at.ensures (sym (filter_first at key rest)) ∙ ap (filter at) (sym is)) ∙ c.loop-key.invariant

pub returns : goal.returns
returns g c =
    let at = λ (key : g.row.K.Denot). is_among g.P.Ord.cmp c.args.place.now (g.K.Placed.places key) in
    let end = none_left c.args.keys.now c.loop-key.key-index c.loop-key-test.false in
    sym (append-nil c.loop-key.those.items) ∙ ap (λ ks. c.loop-key.those.items ++ filter at ks) (sym end) ∙ c.loop-key.invariant
