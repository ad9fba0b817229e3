-- Codes, by which a proof tells calls, what is known of them and books apart.
use Rattle.std.specs.Prelude.{◌≡◌, ℕ, Bool, List, ◌⊎◌, refl}
use Rattle.std.proofs.Common.{inl, inr}
use Rattle.std.specs.Coded.{Coded, code_by, coded×, coded⊎, coded_ℕ, coded_bool, coded_list}
use Rattle.std.specs.FinMap as finite
use Rattle.std.specs.declared.net.socket_addr.SocketAddrV4.{SocketAddrV4}
use Rattle.someip_tables.specs.Endpoints.{coded_endpoint}
use Rattle.someip_tables.specs.declared.hashed.origin.Numbers.{Numbers}
use Rattle.someip_tables.specs.hashed.Origins.{coded_numbers}
use Rattle.audit_traffic.specs.declared.calls.call.AuditedCall.{AuditedCall}
use Rattle.audit_traffic.specs.declared.calls.excerpt.Excerpt.{Excerpt}
use Rattle.audit_traffic.specs.declared.calls.finding.CallRules.{CallRules}
use Rattle.audit_traffic.specs.declared.calls.known.Known.{Known}
use Rattle.audit_traffic.specs.declared.calls.known.Known.TheVariants.{Open, Overdue, Answered}
use Rattle.audit_traffic.specs.declared.calls.known.OpenCall.{OpenCall}
use Rattle.audit_traffic.specs.calls.CallBooks.{Book, Calls}

abbrev pub coded_call : Coded AuditedCall
coded_call =
    code_by ((SocketAddrV4 × SocketAddrV4) × ((ℕ × ℕ) × ((ℕ × ℕ) × ℕ)))
    (coded× (coded× coded_endpoint coded_endpoint) (coded× (coded× coded_ℕ coded_ℕ) (coded× (coded× coded_ℕ coded_ℕ) coded_ℕ)))
    (λ c. ((c.from, c.to), ((c.service, c.method), ((c.client, c.session), c.interface))))
    (λ p. record { from = p.0.0; to = p.0.1; service = p.1.0.0; method = p.1.0.1; client = p.1.1.0.0; session = p.1.1.0.1; interface = p.1.1.1 })
    (λ _. refl)

abbrev pub coded_excerpt : Coded Excerpt
coded_excerpt = code_by (ℕ × List ℕ) (coded× coded_ℕ (coded_list coded_ℕ)) (λ e. (e.size, e.first)) (λ p. record { size = p.0; first = p.1 }) (λ _. refl)

abbrev pub coded_open : Coded OpenCall
coded_open =
    code_by ((Numbers × ℕ) × (ℕ × Excerpt)) (coded× (coded× coded_numbers coded_ℕ) (coded× coded_ℕ coded_excerpt)) (λ c. ((c.numbers, c.since), (c.until, c.excerpt)))
    (λ p. record { numbers = p.0.0; since = p.0.1; until = p.1.0; excerpt = p.1.1 }) (λ _. refl)

abbrev KnownCode : Type 0
KnownCode = OpenCall ⊎ (ℕ ⊎ ℕ)

abbrev code_of : Known → KnownCode
code_of (Open call) = inl call
code_of (Overdue since) = inr (inl since)
code_of (Answered until) = inr (inr until)

abbrev known_with : KnownCode → Known
known_with (inl call) = Open call
known_with (inr (inl since)) = Overdue since
known_with (inr (inr until)) = Answered until

pub known_with-code_of : (known : Known) → known_with (code_of known) ≡ known
known_with-code_of (Open call) = refl
known_with-code_of (Overdue since) = refl
known_with-code_of (Answered until) = refl

abbrev pub coded_known : Coded Known
coded_known = code_by KnownCode (coded⊎ coded_open (coded⊎ coded_ℕ coded_ℕ)) code_of known_with known_with-code_of

abbrev pub coded_rules : Coded CallRules
coded_rules =
    code_by (ℕ × ℕ) (coded× coded_ℕ coded_ℕ) (λ r. (r.limit, r.begins)) (λ p. record { limit = p.0; begins = p.1 }) (λ _. refl)

abbrev pub coded_book : Coded Book
coded_book =
    code_by (CallRules × (Calls × Bool)) (coded× coded_rules (coded× (finite.code coded_call coded_known) coded_bool)) (λ b. (b.rules, (b.calls, b.full)))
    (λ p. record { rules = p.0; calls = p.1.0; full = p.1.1 }) (λ _. refl)
