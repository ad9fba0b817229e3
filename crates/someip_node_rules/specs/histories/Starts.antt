-- The tables of a node that has met nothing.
use Rattle.std.specs.Prelude.{ℕ}
use Rattle.std.specs.FinMap as finite
use Rattle.sd_core.specs.OfferTables.{started}
use Rattle.sd_core.specs.SeekTables.{searching}
use Rattle.sd_session.specs.Sessions.{first}
use Rattle.someip_rpc.specs.Servers.{unasked}
use Rattle.someip_node_rules.specs.declared.config.Config.{Config}
use Rattle.someip_node_rules.specs.histories.OfferQuestions.{versions_of}
use Rattle.someip_node_rules.specs.histories.SeekQuestions.{majors_of}
use Rattle.someip_node_rules.specs.histories.Tables.{Tables}

-- each instance that it offers is up and each that it wants is searched for, with the same delay before the first Offers
-- and Finds
abbrev pub started_tables : Config → ℕ → Tables
started_tables config delay = record {
  config = config;
  clock = 0;
  parts = finite.empty;
  peers = finite.empty;
  multicast = first;
  unicast = finite.empty;
  offers = started delay (record { versions = versions_of config; up = finite.empty });
  seek = searching delay (record { wanted = majors_of config; known = finite.empty; finding = finite.empty });
  subscribers = finite.empty;
  wishes = finite.empty;
  client = record { pending = finite.empty; sessions = finite.empty };
  server = unasked;
}
