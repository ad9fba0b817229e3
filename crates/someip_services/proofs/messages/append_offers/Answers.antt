use Rattle.std.proofs.Common.{◌∷◌, [], ◌+◌, map, drop, ap, sym, ◌++◌, ◌∙◌, append_assoc}
use Rattle.std.proofs.lemmas.List.{append-nil, drop_more}
use Rattle.someip_services.specs.declared.told.Told.TheVariants.{Offer}
use Rattle.someip_services.proofs.messages.append_offers.Goals as goal

pub loop-one-preserved : goal.loop-one-preserved
loop-one-preserved c =
    let left = drop_more c.args.ended.now c.loop-one.one-index _ c.loop-one-test.true in
    ap (λ ts. ts ++ map Offer (drop (c.loop-one.one-index + 1) c.args.ended.now)) c.in_ok-push.ensures.items
    ∙ append_assoc c.loop-one.told.items (_ ∷ []) (map Offer (drop (c.loop-one.one-index + 1) c.args.ended.now))
    ∙ ap (λ es. c.loop-one.told.items ++ map Offer es) (sym left) ∙ c.loop-one.invariant
