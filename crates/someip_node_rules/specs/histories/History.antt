-- What a node met since its start, and its tables: the answers to all questions to that.
use Rattle.std.specs.Prelude.{ℕ, List, [], ◌∷◌}
use Rattle.someip_node_rules.specs.declared.config.Config.{Config}
use Rattle.someip_node_rules.specs.histories.CallQuestions.{client_in, server_in}
use Rattle.someip_node_rules.specs.histories.DiscoveryQuestions.{multicast_in, parts_in, peers_in, unicast_in}
use Rattle.someip_node_rules.specs.histories.Items.{Item}
use Rattle.someip_node_rules.specs.histories.OfferQuestions.{offers_in}
use Rattle.someip_node_rules.specs.rules.Plans.{Kept, Work, work}
use Rattle.someip_node_rules.specs.histories.Questions.{clock_at}
use Rattle.someip_node_rules.specs.histories.SeekQuestions.{seek_in}
use Rattle.someip_node_rules.specs.forms.Setups.{limits_of}
use Rattle.someip_node_rules.specs.histories.SubscriberQuestions.{subscribers_in}
use Rattle.someip_node_rules.specs.histories.Tables.{Tables}
use Rattle.someip_node_rules.specs.histories.WishQuestions.{wishes_in}

-- what a node was started with, with the delay in milliseconds before its first Offers and Finds, and what it met since
-- then, the newest first
pub record History : Type 0 where
  pub config : Config
  pub delay : ℕ
  pub items : List Item

-- a start
abbrev pub start_of : Config → ℕ → History
start_of config delay = record { config = config; delay = delay; items = [] }

-- an item more
abbrev pub met : History → Item → History
met h item = record h { items = item ∷ h.items }

-- the answers to all questions
abbrev pub answers_of : History → Tables
answers_of h = record {
  config = h.config;
  clock = clock_at h.items;
  parts = parts_in (limits_of h.config) h.items;
  peers = peers_in h.items;
  multicast = multicast_in h.items;
  unicast = unicast_in h.items;
  offers = offers_in h.config h.delay h.items;
  seek = seek_in h.config h.delay h.items;
  subscribers = subscribers_in h.items;
  wishes = wishes_in h.items;
  client = client_in h.config h.items;
  server = server_in h.items;
}

-- a history is asked, and meets items
abbrev pub historic : Kept History
historic = record { ask = answers_of; meet = met }

-- work by a history, as its tables show it
abbrev pub shown_work : Work History → Work Tables
shown_work w = work (answers_of w.state) w.outputs w.replies
