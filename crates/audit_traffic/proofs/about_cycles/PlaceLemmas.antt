-- Which flows are at a place, in plain words.
use Rattle.std.proofs.Common.{◌≡◌, ℕ, ◌==◌, Bool, true, false, not, ◌&&◌, ◌||◌, refl, ap, ◌∙◌, arith}
use Rattle.std.proofs.lemmas.Bool.Decides.{nat_tests}
use Rattle.std.specs.declared.cmp.Ordering.{Ordering}
use Rattle.std.specs.declared.cmp.Ordering.TheVariants.{Less, Equal, Greater}
use Rattle.std.specs.Ordering.{eq_by_cmp, is_eq, nat_cmp, ordering_then}
use Rattle.std.specs.FinMap.{retain_keys}
use Rattle.std.specs.declared.net.ipv4_addr.Ipv4Addr.{Ipv4Addr}
use Rattle.someip_tables.specs.Endpoints.{address_cmp}
use Rattle.audit_traffic.specs.declared.events.flow.EventFlow.{EventFlow}
use Rattle.audit_traffic.specs.events.EventRules as rules
use Rattle.audit_traffic.specs.cycles.CycleRules.{goes_by, is_of_service}
use Rattle.audit_traffic.specs.cycles.CycleTables.{Watches}
use Rattle.audit_traffic.specs.cycles.WatchPlaces.{at_address, at_service, at_subscription, is_at}

number_eq : (a b : ℕ) → is_eq (nat_cmp a b) ≡ (a == b)
number_eq a b = grind (arith, nat_tests)

then_eq : (a b : Ordering) → is_eq (ordering_then a b) ≡ (is_eq a && is_eq b)
then_eq Less b = refl
then_eq Equal b = refl
then_eq Greater b = refl

or_false : (b : Bool) → (b || false) ≡ b
or_false true = refl
or_false false = refl

-- ---- an address

by_address : (a b : Ordering) → (is_eq (ordering_then a Equal) || (is_eq (ordering_then b Equal) || (is_eq (ordering_then a Greater) || is_eq (ordering_then a Greater)))) ≡ (is_eq a || is_eq b)
by_address Less Less = refl
by_address Less Equal = refl
by_address Less Greater = refl
by_address Equal b = refl
by_address Greater Less = refl
by_address Greater Equal = refl
by_address Greater Greater = refl

address_is : (address : Ipv4Addr) (flow : EventFlow) → is_at (at_address address) flow ≡ rules.is_at address flow
address_is address flow = by_address (address_cmp flow.sender.ip address) (address_cmp flow.receiver.ip address)

-- ---- a service

never : (a : Ordering) → is_eq (ordering_then a Less) ≡ false
never Less = refl
never Equal = refl
never Greater = refl

by_service : (a b n : Ordering)
    → (is_eq (ordering_then a Less) || (is_eq (ordering_then b Less) || (is_eq (ordering_then a (ordering_then n Equal)) || is_eq (ordering_then a (ordering_then n Greater))))) ≡ (is_eq a && is_eq n)
by_service a b n =
    ap (λ x. x || (is_eq (ordering_then b Less) || (is_eq (ordering_then a (ordering_then n Equal)) || is_eq (ordering_then a (ordering_then n Greater))))) (never a)
    ∙ ap (λ x. x || (is_eq (ordering_then a (ordering_then n Equal)) || is_eq (ordering_then a (ordering_then n Greater)))) (never b) ∙ cases a n
  where
    cases : (a n : Ordering) → (is_eq (ordering_then a (ordering_then n Equal)) || is_eq (ordering_then a (ordering_then n Greater))) ≡ (is_eq a && is_eq n)
    cases Less n = refl
    cases Greater n = refl
    cases Equal Less = refl
    cases Equal Equal = refl
    cases Equal Greater = refl

service_is : (server : Ipv4Addr) (service : ℕ) (flow : EventFlow) → is_at (at_service server service) flow ≡ is_of_service server service flow
service_is server service flow =
    by_service (address_cmp flow.sender.ip server) (address_cmp flow.receiver.ip server) (nat_cmp flow.service service)
    ∙ ap (λ b. is_eq (address_cmp flow.sender.ip server) && b) (number_eq flow.service service)

-- ---- a subscription

by_subscription : (a b n e : Ordering)
    → (is_eq (ordering_then a Less) || (is_eq (ordering_then b Less) || (is_eq (ordering_then a (ordering_then n Less)) || is_eq (ordering_then a (ordering_then n e))))) ≡ (is_eq a && (is_eq n && is_eq e))
by_subscription a b n e =
    ap (λ x. x || (is_eq (ordering_then b Less) || (is_eq (ordering_then a (ordering_then n Less)) || is_eq (ordering_then a (ordering_then n e))))) (never a)
    ∙ ap (λ x. x || (is_eq (ordering_then a (ordering_then n Less)) || is_eq (ordering_then a (ordering_then n e)))) (never b) ∙ cases a n
  where
    cases : (a n : Ordering) → (is_eq (ordering_then a (ordering_then n Less)) || is_eq (ordering_then a (ordering_then n e))) ≡ (is_eq a && (is_eq n && is_eq e))
    cases Less n = refl
    cases Greater n = refl
    cases Equal Less = refl
    cases Equal Equal = refl
    cases Equal Greater = refl

subscription_is : (server : Ipv4Addr) (service : ℕ) (client : Ipv4Addr) (flow : EventFlow) → is_at (at_subscription server service client) flow ≡ goes_by server service client flow
subscription_is server service client flow =
    by_subscription (address_cmp flow.sender.ip server) (address_cmp flow.receiver.ip server) (nat_cmp flow.service service) (address_cmp flow.receiver.ip client)
    ∙ ap (λ b. is_eq (address_cmp flow.sender.ip server) && (b && eq_by_cmp address_cmp flow.receiver.ip client)) (number_eq flow.service service)

-- ---- so what is left is the same

kept_alike : (p q : EventFlow → Bool) (m : Watches) → ((flow : EventFlow) → p flow ≡ q flow) → retain_keys m (λ flow. not (p flow)) ≡ retain_keys m (λ flow. not (q flow))
kept_alike p q m same = ap (λ (t : EventFlow → Bool). retain_keys m (λ flow. not (t flow))) (λ i flow. same flow i)

pub left_by_address : (address : Ipv4Addr) (m : Watches) → retain_keys m (λ flow. not (is_at (at_address address) flow)) ≡ retain_keys m (λ flow. not (rules.is_at address flow))
left_by_address address m = kept_alike (is_at (at_address address)) (rules.is_at address) m (address_is address)

pub left_by_service : (server : Ipv4Addr) (service : ℕ) (m : Watches) → retain_keys m (λ flow. not (is_at (at_service server service) flow)) ≡ retain_keys m (λ flow. not (is_of_service server service flow))
left_by_service server service m = kept_alike (is_at (at_service server service)) (is_of_service server service) m (service_is server service)

pub left_by_subscription : (server : Ipv4Addr) (service : ℕ) (client : Ipv4Addr) (m : Watches)
    → retain_keys m (λ flow. not (is_at (at_subscription server service client) flow)) ≡ retain_keys m (λ flow. not (goes_by server service client flow))
left_by_subscription server service client m = kept_alike (is_at (at_subscription server service client)) (goes_by server service client) m (subscription_is server service client)
