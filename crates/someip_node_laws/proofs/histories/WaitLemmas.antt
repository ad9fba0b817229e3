-- How long a call waits, and how long an offer is known.
use Rattle.std.proofs.Common.{◌≡◌, ◌≢◌, ◌↔◌, ℕ, ◌+◌, ◌*◌, ◌<◌, Bool, true, false, not, cond, List, ◌∷◌, None, Some, refl, ap, sym, ◌∙◌}
use Rattle.std.specs.Option.{is_some, option_map}
use Rattle.std.specs.declared.net.socket_addr.SocketAddrV4.{SocketAddrV4}
use Rattle.someip_tables.specs.declared.deadline.Deadline.TheVariants.{At}
use Rattle.someip_tables.specs.declared.lasting.Lasting.{Lasting}
use Rattle.someip_tables.specs.Deadlines.{deadline_after, has_passed}
use Rattle.someip_tables.specs.Lastings.{unless_passed}
use Rattle.someip_tables.proofs.Entries.{own_test}
use Rattle.sd_core.specs.declared.keys.InstanceId.{InstanceId}
use Rattle.sd_core.specs.declared.received.KnownOffer.{KnownOffer}
use Rattle.sd_core.specs.declared.received.ReceivedOffer.{ReceivedOffer}
use Rattle.sd_core.specs.KeyOrder.{instances_total}
use Rattle.sd_core.specs.SeekTables.{known_at}
use Rattle.someip_rpc.specs.declared.call.Call.{Call}
use Rattle.someip_rpc.specs.declared.call.CallKind.TheVariants.{Request}
use Rattle.someip_rpc.specs.declared.call.Awaited.{Awaited}
use Rattle.someip_rpc.specs.declared.ids.CallKey.{CallKey}
use Rattle.someip_rpc.specs.IdOrder.{calls_total}
use Rattle.someip_node_rules.specs.declared.config.Config.{Config}
use Rattle.someip_node_rules.specs.histories.CallQuestions.{awaited_at, awaited_from, called_by, call_key}
use Rattle.someip_node_rules.specs.histories.Items.{Item, AnswerTaken, Called, OfferCounted, OfferWithdrawn, Ticked}
use Rattle.someip_node_rules.specs.steps.Lives.{is_offer_known, is_waiting}
use Rattle.someip_node_rules.specs.histories.Questions.{clock_at}
use Rattle.someip_node_rules.specs.histories.SeekQuestions.{known_offer_at, offer_from}
use Rattle.someip_node_laws.proofs.histories.NamedLemmas.{get-pending}
use Rattle.someip_node_laws.proofs.histories.TimeLemmas.{within, within_ttl}
use Rattle.someip_node_rules.proofs.histories.WishLives.{get-known}

-- ---- calls

module _ (config : Config) (items : List Item) where
  waits_until : (call : Call) (peer : SocketAddrV4) (session ms : ℕ) → call.kind ≡ Request
      → is_waiting config (Ticked ms ∷ Called call peer session ∷ items) (call_key call session)
      ≡ not (has_passed (clock_at items + ms) (At (clock_at items + config.common.call_timeout_ms)))
  waits_until call peer session ms is =
      ap is_some (get-pending config (Ticked ms ∷ Called call peer session ∷ items) key)
      ∙ ap (λ kind. is_some (unless_passed later (called_by kind key awaited key (awaited_at config items key)))) is
      ∙ ap (λ t. is_some (unless_passed later (cond t (Some awaited) (awaited_at config items key)))) (own_test calls_total key)
      ∙ cases (has_passed later awaited.until)
    where
      key : CallKey
      key = call_key call session

      later : ℕ
      later = clock_at items + ms

      awaited : Lasting Awaited
      awaited = awaited_from config call peer (clock_at items)

      cases : (b : Bool) → is_some (cond (not b) (Some awaited) None) ≡ not b
      cases true = refl
      cases false = refl

  pub waits_its_time : (call : Call) (peer : SocketAddrV4) (session ms : ℕ) → call.kind ≡ Request
      → (is_waiting config (Ticked ms ∷ Called call peer session ∷ items) (call_key call session) ≡ true) ↔ (ms < config.common.call_timeout_ms)
  waits_its_time call peer session ms is =
      let until = waits_until call peer session ms is in
      let in_time = within (clock_at items) config.common.call_timeout_ms ms in
      ((λ t. in_time.0 (sym until ∙ t)), (λ lt. until ∙ in_time.1 lt))

  pub waits_no_more : (key : CallKey) → is_waiting config (AnswerTaken key ∷ items) key ≡ false
  waits_no_more key =
      ap is_some (get-pending config (AnswerTaken key ∷ items) key)
      ∙ ap (λ t. is_some (unless_passed (clock_at items) (cond t None (awaited_at config items key)))) (own_test calls_total key)

-- ---- offers

module _ (items : List Item) where
  known_is : (instance : InstanceId) → is_offer_known items instance ≡ is_some (known_at (clock_at items) (known_offer_at items instance))
  known_is instance = ap (λ v. is_some (known_at (clock_at items) v)) (get-known items instance)

module _ (items : List Item) (offer : ReceivedOffer) (endpoint : SocketAddrV4) where
  known_until : (ms : ℕ) → is_offer_known (Ticked ms ∷ OfferCounted offer endpoint ∷ items) offer.instance
      ≡ not (has_passed (clock_at items + ms) (deadline_after (clock_at items) offer.ttl))
  known_until ms =
      known_is (Ticked ms ∷ OfferCounted offer endpoint ∷ items) offer.instance
      ∙ ap (λ t. is_some (known_at later (unless_passed later (cond t (Some lasting) (known_offer_at items offer.instance))))) (own_test instances_total offer.instance)
      ∙ cases (has_passed later lasting.until) refl
    where
      later : ℕ
      later = clock_at items + ms

      lasting : Lasting KnownOffer
      lasting = offer_from offer endpoint (clock_at items)

      cases : (b : Bool) → has_passed later lasting.until ≡ b → is_some (known_at later (cond (not b) (Some lasting) None)) ≡ not b
      cases true is = refl
      cases false is = ap (λ b. is_some (option_map (λ l. l.value) (cond (not b) (Some lasting) None))) is

  pub known_its_ttl : (ms : ℕ) → offer.ttl ≢ 0xFFFFFF
      → (is_offer_known (Ticked ms ∷ OfferCounted offer endpoint ∷ items) offer.instance ≡ true) ↔ (ms < 1000 * offer.ttl)
  known_its_ttl ms timed =
      let in_time = within_ttl (clock_at items) offer.ttl ms timed in
      ((λ t. in_time.0 (sym (known_until ms) ∙ t)), (λ lt. known_until ms ∙ in_time.1 lt))

pub known_no_more : (items : List Item) (instance : InstanceId) → is_offer_known (OfferWithdrawn instance ∷ items) instance ≡ false
known_no_more items instance =
    known_is (OfferWithdrawn instance ∷ items) instance
    ∙ ap (λ t. is_some (known_at (clock_at items) (cond t None (known_offer_at items instance)))) (own_test instances_total instance)
