-- The session that a call takes is the first that does not wait.
use Rattle.std.proofs.Common.{◌≡◌, ℕ, zero, suc, ◌+◌, ◌==◌, ◌<◌, ◌≤◌, nat_le, Bool, true, false, cond, refl, sym, ap, ◌∙◌, arith}
use Rattle.std.specs.FinMap as finite
use Rattle.std.proofs.lemmas.Bool.{eqb-true, leb-true, leb-false}
use Rattle.someip_rpc.specs.declared.ids.CallKey.{CallKey}
use Rattle.someip_rpc.specs.declared.ids.MessageId.{MessageId}
use Rattle.std.specs.declared.net.socket_addr.SocketAddrV4.{SocketAddrV4}
use Rattle.someip_rpc.specs.declared.call.Call.{Call}
use Rattle.someip_rpc.specs.declared.call.ClientRules.{ClientRules}
use Rattle.someip_rpc.specs.Calls.{Client, IsFirstFree, Pending, called, is_pending}
use Rattle.someip_rpc.specs.IdOrder.{calls_total, exact_calls}
use Rattle.someip_tables.specs.Sessions.{next_session}
use Rattle.someip_rpc.specs.Sessions.{session_after}
use Rattle.someip_rpc.proofs.SessionLemmas.{at_least, differ}
use Rattle.someip_node_rules.specs.rules.Calling.{first_free, first_free_of, session_of}
use Rattle.someip_node_rules.specs.histories.Items.{changed, Called}
use Rattle.someip_node_rules.specs.forms.Setups.{client_rules}
use Rattle.someip_node_rules.specs.histories.Tables.{Tables}

-- the sessions after the next one
after_next : (n session : ℕ) → session_after n (next_session session) ≡ session_after (suc n) session
after_next zero session = refl
after_next (suc n) session = ap next_session (after_next n session)

-- a search that is long enough finds the first one
found : (m n : ℕ) (pending : Pending) (message : MessageId) (first : ℕ) → n ≤ m → is_pending pending message (session_after n first) ≡ false
    → ((k : ℕ) → k < n → is_pending pending message (session_after k first) ≡ true) → first_free_of m pending message first ≡ session_after n first
found zero zero pending message first le free waits = refl
found zero (suc n) pending message first le free waits = absurd (omega (arith, le))
found (suc m) zero pending message first le free waits = rw free refl
found (suc m) (suc n) pending message first le free waits =
    rw (waits zero (omega arith))
    (found m n pending message (next_session first) (omega (arith, le)) (ap (is_pending pending message) (after_next n first) ∙ free)
    (λ k below. ap (is_pending pending message) (after_next k first) ∙ waits (suc k) (omega (arith, below)))
    ∙ after_next n first)

-- past the greatest session none comes twice
past : (n first : ℕ) → 65535 < first → session_after n first ≡ first + n
past zero first above = omega arith
past (suc n) first above = step (session_after n first) (past n first above) (session_after n first == 0xffff) refl
  where
    step : (s : ℕ) → s ≡ first + n → (b : Bool) → (s == 0xffff) ≡ b → cond b 1 (s + 1) ≡ first + suc n
    step s is true equal = let last : s ≡ 65535 = eqb-true s 65535 equal in absurd (omega (arith, above))
    step s is false equal = omega (arith, is)

distinct : (first i j : ℕ) → i < 1026 → j < 1026 → session_after i first ≡ session_after j first → i ≡ j
distinct first i j x y same = cases (nat_le first 65535) refl
  where
    cases : (b : Bool) → nat_le first 65535 ≡ b → i ≡ j
    cases true b = differ first i j (leb-true first 65535 b) (omega (arith, x)) (omega (arith, y)) same
    cases false b = let above : 65535 < first = leb-false first 65535 b in omega (arith, past i first above, past j first above, same)

module _ (pending : Pending) (message : MessageId) (first : ℕ) where
  abbrev key : ℕ → CallKey
  key n = record { message = message; session = session_after n first }

  waiting : (n : ℕ) → n ≤ 1025 → ((k : ℕ) → k < n → is_pending pending message (session_after k first) ≡ true) → n ≤ finite.len pending
  waiting n few waits =
      at_least calls_total exact_calls n pending key (λ i j x y same. distinct first i j (omega (arith, x, few)) (omega (arith, y, few)) (ap (λ k. k.session) same)) waits

  few_wait : (n : ℕ) → finite.len pending ≤ 1024 → ((k : ℕ) → k < n → is_pending pending message (session_after k first) ≡ true) → n ≤ finite.len pending
  few_wait n most waits = cases (nat_le n 1025) refl
    where
      cases : (b : Bool) → nat_le n 1025 ≡ b → n ≤ finite.len pending
      cases true b = waiting n (leb-true n 1025 b) waits
      cases false b =
          let above : 1025 < n = leb-false n 1025 b in
          let many : 1025 ≤ finite.len pending = waiting 1025 (omega arith) (λ k below. waits k (omega (arith, below, above))) in
          absurd (omega (arith, many, most))

-- the first session that does not wait is found among as many as wait
pub first_free_is : (pending : Pending) (message : MessageId) (first session : ℕ) → finite.len pending ≤ 1024 → IsFirstFree pending message first session → first_free pending message first ≡ session
unfolding first_free
first_free_is pending message first session most free =
    found (finite.len pending) free.0 pending message first (few_wait pending message first free.0 most free.3) (ap (is_pending pending message) (sym free.1) ∙ free.2) free.3 ∙ sym free.1

-- a call was sent
pub called_is : (t self new : Tables) (rules : ClientRules) (call : Call) (to : SocketAddrV4) (session : ℕ) (client : Client) → t ≡ self → new ≡ record t { client = client }
    → rules ≡ client_rules t.config → client ≡ called rules call to session t.clock t.client → session ≡ session_of call self → new ≡ changed self (Called call to (session_of call self))
called_is t self new rules call to session client same is by begun session_is =
    is
    ∙ ap (λ c. record t { client = c }) (begun ∙ ap (λ r. called r call to session t.clock t.client) by)
    ∙ ap (λ s. changed t (Called call to s)) session_is
    ∙ ap (λ u. changed u (Called call to (session_of call self))) same
