-- The offers of a node, and those that it knows, as each item changes them.
use Rattle.std.proofs.Common.{◌≡◌, ℕ, ◌+◌, not, List, ◌∷◌, Option, None, Some, refl}
use Rattle.std.specs.List.{flat_map}
use Rattle.std.specs.Option.{option_and_then, option_map}
use Rattle.std.specs.FinMap.{remove}
use Rattle.std.specs.declared.net.ipv4_addr.Ipv4Addr.{Ipv4Addr}
use Rattle.std.specs.declared.net.socket_addr.SocketAddrV4.{SocketAddrV4}
use Rattle.someip_tables.specs.Deadlines.{has_passed}
use Rattle.sd_core.specs.declared.keys.InstanceId.{InstanceId}
use Rattle.sd_core.specs.declared.received.ReceivedOffer.{ReceivedOffer}
use Rattle.sd_core.specs.KeyOrder.{instances_total, exact_instances}
use Rattle.sd_core.specs.OfferTables.{after_tick, without}
use Rattle.sd_core.specs.SeekTables.{forgetting, learned, seek_after_tick, stands_by}
use Rattle.sd_core.specs.Sendings.{after_find, sent_if_due}
use Rattle.someip_node_rules.specs.declared.config.Config.{Config}
use Rattle.someip_node_rules.specs.histories.Items.{Item, OfferCounted, OfferStopped, OfferWithdrawn, PeerRebooted, Ticked}
use Rattle.someip_node_rules.specs.histories.OfferQuestions.{offered_instances, offering_at, offers_in, versions_of}
use Rattle.someip_node_rules.specs.histories.Questions.{clock_at}
use Rattle.someip_node_rules.specs.histories.SeekQuestions.{finding_at, instance_counted, known_in, known_offer_at, majors_of, offer_from, seek_in}
use Rattle.someip_node_rules.specs.forms.Setups.{wanted_instances}
use Rattle.someip_node_rules.proofs.histories.QuestionLemmas.{table-insert, table-remove, table-retain, table-shown}

mapped : {X Y : Type 0} (f : X → Y) (v : Option X) → option_map f v ≡ option_and_then (λ x. Some (f x)) v
mapped f None = refl
mapped f (Some x) = refl

module _ (config : Config) (delay : ℕ) (items : List Item) where
  -- ---- its own

  pub offers_ticked : (ms : ℕ) → offers_in config delay (Ticked ms ∷ items) ≡ after_tick config.common.phases (clock_at items + ms) (offers_in config delay items)
  offers_ticked ms = λ i. record {
    versions = versions_of config;
    up =
        table-shown instances_total exact_instances (offered_instances config) (offering_at config.common.phases delay items) _ _
        (λ q. mapped (sent_if_due config.common.phases (clock_at items + ms)) (offering_at config.common.phases delay items q)) i;
  }

  pub offers_stopped : (instance : InstanceId) → offers_in config delay (OfferStopped instance ∷ items) ≡ without instance (offers_in config delay items)
  offers_stopped instance = λ i. record {
    versions = versions_of config;
    up = table-remove instances_total exact_instances (offered_instances config) (offering_at config.common.phases delay items) _ instance (λ q. refl) i;
  }

  -- ---- those that it knows

  pub seek_ticked : (ms : ℕ) → seek_in config delay (Ticked ms ∷ items) ≡ seek_after_tick config.common.phases (clock_at items + ms) (seek_in config delay items)
  seek_ticked ms = λ i. record {
    wanted = majors_of config;
    known =
        table-retain instances_total exact_instances (flat_map instance_counted items) (known_offer_at items) _
        (λ _ lasting. not (has_passed (clock_at items + ms) lasting.until)) (λ q. refl) i;
    finding =
        table-shown instances_total exact_instances (wanted_instances config) (finding_at config.common.phases delay items) _
        (after_find config.common.phases (clock_at items + ms)) (λ q. refl) i;
  }

  pub seek_counted : (offer : ReceivedOffer) (endpoint : SocketAddrV4)
      → seek_in config delay (OfferCounted offer endpoint ∷ items) ≡ learned offer endpoint (clock_at items) (seek_in config delay items)
  seek_counted offer endpoint = λ i. record {
    wanted = majors_of config;
    known =
        table-insert instances_total exact_instances (flat_map instance_counted items) (known_offer_at items) _ offer.instance
        (offer_from offer endpoint (clock_at items)) (λ q. refl) i;
    finding =
        table-remove instances_total exact_instances (wanted_instances config) (finding_at config.common.phases delay items) _ offer.instance (λ q. refl) i;
  }

  pub seek_rebooted : (peer : Ipv4Addr) → seek_in config delay (PeerRebooted peer ∷ items) ≡ forgetting peer (clock_at items) (seek_in config delay items)
  seek_rebooted peer = λ i. record {
    wanted = majors_of config;
    known =
        table-retain instances_total exact_instances (flat_map instance_counted items) (known_offer_at items) _
        (λ _ lasting. not (stands_by peer (clock_at items) lasting)) (λ q. refl) i;
    finding = (seek_in config delay items).finding;
  }

  pub known_withdrawn : (instance : InstanceId) → known_in (OfferWithdrawn instance ∷ items) ≡ remove (known_in items) instance
  known_withdrawn instance =
      table-remove instances_total exact_instances (flat_map instance_counted items) (known_offer_at items) _ instance (λ q. refl)
