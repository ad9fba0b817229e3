use Rattle.std.proofs.Common.{◌++◌, ap, sym, ◌∙◌}
use Rattle.std.proofs.lemmas.Result.{on_ok_weaker}
use Rattle.someip_tables.specs.Endpoints.{address_cmp}
use Rattle.audit_services.specs.Books.{book_of}
use Rattle.audit_services.specs.Histories.{told_by}
use Rattle.audit_services.specs.OfferedKeys.{offered_cmp, places_of_offered, terms_cmp}
use Rattle.audit_services.specs.SubscribedKeys.{subscribed_cmp}
use Rattle.someip_services.proofs.ServiceLemmas.{offers_changed_so}
use Rattle.someip_services.proofs.history.ServiceHistory.change_offers.Goals as goal

pub returns : goal.returns
returns c =
    let o = book_of offered_cmp c.self.inside.offers in
    let q = book_of subscribed_cmp c.self.inside.subscriptions in
    on_ok_weaker c.tell_full.result
    (offers_changed_so c.args.now c.args.self.now c.tell_full.new.self c.self.inside.sessions o q c.self.inside.told.items c.append_offers.new.told.items c.in_ok-full.full (sym c.self.view_is)
    c.args.shown _ c.deref.result.now c.in_ok-full.ensures.after
    (c.deref.ensures.value ∙ c.in_ok-full.ensures.told ∙ ap (λ es. es ++ told_by address_cmp offered_cmp terms_cmp places_of_offered c.args.now c.args.shown o) c.clear.ensures.items)
    c.in_ok-append_offers.ensures c.in_ok-full.ensures.full)
    c.tell_full.ensures
