-- Codes of what is known, by which a proof tells values apart.
use Rattle.std.specs.Prelude.{ℕ, Bool, List, refl}
use Rattle.std.specs.Coded.{Coded, code_by, coded×, coded_ℕ, coded_bool, coded_list}
use Rattle.std.specs.declared.cmp.Ordering.{Ordering}
use Rattle.std.specs.FinMap as finite
use Rattle.someip_tables.specs.Lastings.{coded_lasting}
use Rattle.audit_sd.specs.sessions.SessionBooks.{Sessions, coded_sessions}
use Rattle.audit_services.specs.contracts.offered.OfferTerms as terms
use Rattle.audit_services.specs.contracts.offered.Offered as offered
use Rattle.audit_services.specs.contracts.subscribed.NoTerms as no_terms
use Rattle.audit_services.specs.contracts.subscribed.Subscribed as subscribed
use Rattle.audit_services.specs.Books.{Book}
use Rattle.audit_services.specs.Stays.{Stay, Stays}
use Rattle.someip_services.specs.contracts.told.Told as told
use Rattle.someip_services.specs.declared.told.Told.{Told}
use Rattle.someip_services.specs.Services.{Known, OfferBook, SubscriptionBook, Work}

abbrev pub coded_stay : {V : Type 0} → Coded V → Coded (Stay V)
coded_stay {V} v = coded_lasting (code_by (V × ℕ) (coded× v coded_ℕ) (λ s. (s.value, s.since)) (λ p. record { value = p.0; since = p.1 }) (λ _. refl))

abbrev pub coded_book : {K V : Type 0} {R : K → K → Ordering} → Coded K → Coded V → Coded (Book R V)
coded_book {K} {V} {R} k v =
    code_by (ℕ × (Stays R V × Bool)) (coded× coded_ℕ (coded× (finite.code k (coded_stay v)) coded_bool)) (λ b. (b.limit, (b.stays, b.told_full)))
    (λ c. record { limit = c.0; stays = c.1.0; told_full = c.1.1 }) (λ _. refl)

abbrev pub coded_known : Coded Known
coded_known =
    code_by (Sessions × (OfferBook × SubscriptionBook))
    (coded× coded_sessions (coded× (coded_book offered.the_row.coded terms.the_row.coded) (coded_book subscribed.the_row.coded no_terms.the_row.coded)))
    (λ k. (k.sessions, (k.offers, k.subscriptions))) (λ c. record { sessions = c.0; offers = c.1.0; subscriptions = c.1.1 }) (λ _. refl)

abbrev pub coded_work : Coded Work
coded_work = code_by (Known × List Told) (coded× coded_known (coded_list told.the_row.coded)) (λ w. (w.known, w.told)) (λ c. record { known = c.0; told = c.1 }) (λ _. refl)
