use Rattle.std.proofs.Common.{◌++◌, ap, map, sym, ◌∙◌}
use Rattle.std.proofs.lemmas.Result.{on_ok_weaker}
use Rattle.audit_services.specs.Books.{book_of, told_expired}
use Rattle.audit_services.specs.OfferedKeys.{offered_cmp}
use Rattle.audit_services.specs.SubscribedKeys.{subscribed_cmp}
use Rattle.someip_services.specs.declared.told.Told.TheVariants.{Offer}
use Rattle.someip_services.proofs.ServiceLemmas.{expired_so}
use Rattle.someip_services.proofs.history.ServiceHistory.expire.Goals as goal

pub returns : goal.returns
returns c =
    let o = book_of offered_cmp c.self.inside.offers in
    let q = book_of subscribed_cmp c.self.inside.subscriptions in
    on_ok_weaker c.append_subscriptions.result
    (λ last. expired_so c.args.at c.args.self.now c.self.inside.sessions o _ q _ c.self.inside.told.items c.append_offers.new.told.items _ c.deref.result.now c.deref-2.result.now
    (sym c.self.view_is) c.in_ok-expire.ensures.after c.in_ok-expire-2.ensures.after c.in_ok-append_offers.ensures
    (c.deref.ensures.value ∙ c.in_ok-expire.ensures.told ∙ ap (λ es. es ++ told_expired c.args.at o) c.clear.ensures.items) last
    (c.deref-2.ensures.value ∙ c.in_ok-expire-2.ensures.told ∙ ap (λ es. es ++ told_expired c.args.at q) c.clear-2.ensures.items))
    c.append_subscriptions.ensures
