-- What is kept of the life of a node stays at a step of another node.
use Rattle.std.proofs.Common.{◌≡◌, ◌≢◌, ◌<◌, ◌⊎◌, inl, inr, arith, ℕ, suc, List, Option, None, Some, sym, subst, ◌∙◌}
use Rattle.std.specs.FinMap as finite
use Rattle.someip_wire.specs.Spelling.{MessageValue}
use Rattle.someip_reassembly.specs.declared.key.ReassemblyKey.{ReassemblyKey}
use Rattle.someip_node_rules.specs.histories.History.{History}
use Rattle.someip_node_rules.specs.declared.config.Config.{Config}
use Rattle.someip_world_schedule.specs.declared.step.Step.{Step}
use Rattle.someip_world_setup.specs.declared.setup_node.SetupNode.{SetupNode}
use Rattle.someip_world_rules.specs.Turns.{Turn}
use Rattle.someip_world_rules.specs.exchanges.Belonging.{HandsUp, WasHandedUp}
use Rattle.someip_world_rules.specs.exchanges.CleanReuse.{Arrives}
use Rattle.someip_world_rules.specs.Deliveries.{LivesOn, Restarted}
use Rattle.someip_world_rules.proofs.Deliverings.{one_turn}
use Rattle.someip_world_rules.proofs.Lives.{below_next, lives_back, lives_next}
use Rattle.someip_world_verdict.specs.Books.{LifeKept, PayloadNumbers}
use Rattle.someip_world_verdict.specs.Streams.{stream_of}
use Rattle.someip_world_verdict.specs.declared.life.Arrival.{Arrival}
use Rattle.someip_world_verdict.proofs.Kept.{KeepsLife, KnowsArrival, PayloadsGrow}

-- what no earlier step does, and this one does not, no step up to this one does
pub none_next : (P : ℕ → Type 0) (i n : ℕ) → ((k : ℕ) → i < k → k < n → P k → ⊥) → (P n → ⊥) → (k : ℕ) → i < k → k < suc n → P k → ⊥
none_next P i n before here k after lt p = cases (below_next k n lt)
  where
    cases : (k < n) ⊎ (k ≡ n) → ⊥
    cases (inl l) = before k after l p
    cases (inr e) = here (subst P e p)

module _ (nodes : List SetupNode) (configs : List Config) (ss : List Step) (n place : ℕ) (alive : Restarted nodes configs ss n place → ⊥) where
  module _ (payloads more : PayloadNumbers) (grow : PayloadsGrow payloads more) where
    -- no segment came before this step, nor in it
    none_arrives : (key : ReassemblyKey) → ((now : ℕ) (m : MessageValue) → Arrives nodes configs ss n place now m key → ⊥) → KnowsArrival nodes configs ss payloads n place key None
        → (i now : ℕ) (m : MessageValue) → i < suc n → LivesOn nodes configs ss place i (suc n) → Arrives nodes configs ss i place now m key → ⊥
    none_arrives key none knows i now m lt lives arrives = cases (below_next i n lt)
      where
        cases : (i < n) ⊎ (i ≡ n) → ⊥
        cases (inl l) = knows i now m l (lives_back nodes configs ss n place alive i lives) arrives
        cases (inr e) = none now m (subst (λ j. Arrives nodes configs ss j place now m key) e arrives)

    -- a step that delivers no segment under a key here leaves what is known of its arrivals
    pub arrival_stays : (key : ReassemblyKey) → ((now : ℕ) (m : MessageValue) → Arrives nodes configs ss n place now m key → ⊥)
        → (o : Option Arrival) → KnowsArrival nodes configs ss payloads n place key o → KnowsArrival nodes configs ss more (suc n) place key o
    arrival_stays key none None knows = none_arrives key none knows
    arrival_stays key none (Some arrival) knows =
        let before = knows.before in
        record {
          i = knows.i;
          before = omega (arith, before);
          lives = lives_next nodes configs ss n place alive knows.i knows.lives;
          message = knows.message;
          arrives = knows.arrives;
          payload = grow knows.message.payload arrival.payload knows.payload;
          last = λ k now m. none_next (λ j. Arrives nodes configs ss j place now m key) knows.i n (λ j. knows.last j now m) (none now m) k;
        }

    -- one that delivers no segment here leaves what is known of all arrivals
    pub arrivals_stay : ((now : ℕ) (m : MessageValue) (key : ReassemblyKey) → Arrives nodes configs ss n place now m key → ⊥)
        → (key : ReassemblyKey) (o : Option Arrival) → KnowsArrival nodes configs ss payloads n place key o → KnowsArrival nodes configs ss more (suc n) place key o
    arrivals_stay none key = arrival_stays key (λ now m. none now m key)

  -- a step that hands up nothing here leaves what was handed up
  pub handed_stays : (token since : ℕ) → (HandsUp nodes configs ss n place token → ⊥) → WasHandedUp nodes configs ss place token n since → WasHandedUp nodes configs ss place token (suc n) since
  handed_stays token since none was =
      let before = was.before in
      record {
        i = was.i;
        before = omega (arith, before);
        lives = lives_next nodes configs ss n place alive was.i was.lives;
        handed = was.handed;
        last = none_next (λ j. HandsUp nodes configs ss j place token) was.i n was.last none;
        datagram = was.datagram;
        delivers = was.delivers;
      }

  -- and what was handed up by then was so before
  pub handed_before : (token since : ℕ) → (HandsUp nodes configs ss n place token → ⊥) → WasHandedUp nodes configs ss place token (suc n) since → WasHandedUp nodes configs ss place token n since
  handed_before token since none was = cases (below_next was.i n was.before)
    where
      cases : (was.i < n) ⊎ (was.i ≡ n) → WasHandedUp nodes configs ss place token n since
      cases (inl l) = record { i = was.i; before = l; lives = lives_back nodes configs ss n place alive was.i was.lives; handed = was.handed; last = λ k after lt. was.last k after (omega (arith, lt)); datagram = was.datagram; delivers = was.delivers }
      cases (inr e) = absurd (none (subst (λ j. HandsUp nodes configs ss j place token) e was.handed))

-- a step that does nothing at a place leaves what is kept of the life there
pub quiet_life : (nodes : List SetupNode) (configs : List Config) (ss : List Step) (n place : ℕ) (payloads more : PayloadNumbers) → PayloadsGrow payloads more
    → (Restarted nodes configs ss n place → ⊥) → ((now : ℕ) (m : MessageValue) (key : ReassemblyKey) → Arrives nodes configs ss n place now m key → ⊥)
    → ((token : ℕ) → HandsUp nodes configs ss n place token → ⊥)
    → (h : History) (life : LifeKept) → KeepsLife nodes configs ss payloads n place h life → KeepsLife nodes configs ss more (suc n) place h life
quiet_life nodes configs ss n place payloads more grow alive none still h life keeps = record {
  clock = keeps.clock;
  counters = keeps.counters;
  sessions = keeps.sessions;
  handed = λ token since is. handed_stays nodes configs ss n place alive token since (still token) (keeps.handed token since is);
  handed_only = λ token since was. keeps.handed_only token since (handed_before nodes configs ss n place alive token since (still token) was);
  arrivals = λ key. arrivals_stay nodes configs ss n place alive payloads more grow none key (finite.get life.arrivals (stream_of key)) (keeps.arrivals key);
}

module _ (nodes : List SetupNode) (configs : List Config) (ss : List Step) (n : ℕ) (s : Step) (t : Turn nodes configs ss n s) (payloads more : PayloadNumbers) (grow : PayloadsGrow payloads more) where
  -- a step leaves the lives at all other places
  pub other_life : (place : ℕ) → place ≢ t.place → (h : History) (life : LifeKept) → KeepsLife nodes configs ss payloads n place h life → KeepsLife nodes configs ss more (suc n) place h life
  other_life place other =
      quiet_life nodes configs ss n place payloads more grow
      (λ r. other (sym r.at ∙ sym (one_turn nodes configs ss n s t r.step r.turn).place))
      (λ now m key a. other (sym a.at ∙ sym (one_turn nodes configs ss n s t _ a.delivers.turn).place))
      (λ token u. other (sym u.at ∙ sym (one_turn nodes configs ss n s t u.does.step u.does.turn).place))
