use Rattle.std.proofs.Common.{◌++◌, ap, sym, ◌∙◌}
use Rattle.std.proofs.lemmas.Result.{on_ok_weaker}
use Rattle.audit_services.specs.Books.{book_of}
use Rattle.audit_services.specs.Histories.{told_by}
use Rattle.audit_services.specs.OfferedKeys.{offered_cmp}
use Rattle.audit_services.specs.SubscribedKeys.{no_terms_cmp, place_cmp, places_of_subscribed, subscribed_cmp}
use Rattle.someip_services.proofs.ServiceLemmas.{subscriptions_changed_so}
use Rattle.someip_services.proofs.history.ServiceHistory.change_subscriptions.Goals as goal

pub returns : goal.returns
returns c =
    let o = book_of offered_cmp c.self.inside.offers in
    let q = book_of subscribed_cmp c.self.inside.subscriptions in
    on_ok_weaker c.tell_full.result
    (subscriptions_changed_so c.args.now c.args.self.now c.tell_full.new.self c.self.inside.sessions o q c.self.inside.told.items c.append_subscriptions.new.told.items c.in_ok-full.full (sym c.self.view_is)
    c.args.shown _ c.deref.result.now c.in_ok-full.ensures.after
    (c.deref.ensures.value ∙ c.in_ok-full.ensures.told ∙ ap (λ es. es ++ told_by place_cmp subscribed_cmp no_terms_cmp places_of_subscribed c.args.now c.args.shown q) c.clear.ensures.items)
    c.in_ok-append_subscriptions.ensures c.in_ok-full.ensures.full)
    c.tell_full.ensures
