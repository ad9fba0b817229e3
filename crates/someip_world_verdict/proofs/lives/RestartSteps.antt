-- What is kept of a life after the node is started again.
use Rattle.std.proofs.Common.{◌≡◌, ℕ, ◌<◌, suc, arith, Bool, true, false, if◌then◌else◌, List, [], Option, None, Some, Ok, Err, refl, sym, ap, subst, ◌∙◌}
use Rattle.std.specs.FinMap as finite
use Rattle.std.specs.FinMap.{get-empty}
use Rattle.someip_node_rules.specs.histories.History.{History}
use Rattle.someip_node_rules.specs.rules.Inputs.{Input}
use Rattle.someip_node_rules.specs.histories.CallQuestions.{times_published}
use Rattle.someip_node_rules.specs.histories.Questions.{clock_at}
use Rattle.someip_node_rules.specs.histories.WishQuestions.{course_at}
use Rattle.std.specs.Ordering.{nat_cmp}
use Rattle.sd_core.specs.Eventgroups.{eventgroup_cmp}
use Rattle.someip_rpc.specs.Ids.{event_cmp}
use Rattle.someip_tables.specs.Sessions.{session_after_last}
use Rattle.someip_rpc.specs.Sessions.{session_after}
use Rattle.someip_node_rules.specs.declared.config.Config.{Config}
use Rattle.someip_world_schedule.specs.declared.step.Step.{Step}
use Rattle.someip_world_schedule.specs.declared.step.Step.TheVariants as steps
use Rattle.someip_world_setup.specs.declared.setup_node.SetupNode.{SetupNode}
use Rattle.someip_world_rules.specs.Datagrams.{SentDatagram, datagram_at}
use Rattle.someip_world_rules.specs.Deeds.{Takes, Restarts, deed_of, delivery, is_addressed}
use Rattle.someip_world_rules.specs.declared.line.Line.{Line}
use Rattle.someip_world_rules.specs.declared.step_fault.StepFault.{StepFault}
use Rattle.someip_world_rules.specs.Turns.{Turn}
use Rattle.someip_world_rules.proofs.LiarLemmas.{again_at}
use Rattle.someip_world_rules.specs.exchanges.Beginnings.{last_counter}
use Rattle.someip_world_rules.specs.Deliveries.{LivesOn}
use Rattle.someip_world_verdict.specs.Books.{LifeKept, NoteKept, PayloadNumbers, new_life}
use Rattle.someip_world_verdict.specs.Booking.{answered_in, handed_up, life_after, life_then, tokens_told}
use Rattle.someip_world_verdict.specs.StreamOrder.{stream_cmp}
use Rattle.someip_world_verdict.specs.Streams.{stream_of}
use Rattle.someip_world_verdict.proofs.Kept.{KeepsLife, KnowsArrival}

-- ---- the step is a Restart

pub no_restart_if : (b : Bool) (input : Input) (fault : StepFault) (delay : ℕ) → (if b then Err fault else Ok (Takes input)) ≡ Ok (Restarts delay) → ⊥
no_restart_if true input fault delay is = absurd cc
no_restart_if false input fault delay is = absurd cc

no_restart_else : (b : Bool) (input : Input) (fault : StepFault) (delay : ℕ) → (if b then Ok (Takes input) else Err fault) ≡ Ok (Restarts delay) → ⊥
no_restart_else true input fault delay is = absurd cc
no_restart_else false input fault delay is = absurd cc

no_restart_delivered : (config : Config) (o : Option SentDatagram) (delay : ℕ) → delivery config o ≡ Ok (Restarts delay) → ⊥
no_restart_delivered config None delay is = absurd cc
no_restart_delivered config (Some d) delay is = no_restart_else (is_addressed config d) _ _ delay is

module _ (config : Config) (notes : List NoteKept) (life : LifeKept) (h : History) (lines : List Line) (delay : ℕ) where
  -- the life is new, and nothing is answered
  abbrev IsNew : Step → Type 0
  IsNew s = (life_then config notes life s ≡ new_life) × (answered_in notes life s ≡ None)

  pub begins_anew : (s : Step) → deed_of h lines s ≡ Ok (Restarts delay) → IsNew s
  begins_anew (steps.Restart node ms) is = (refl, refl)
  begins_anew (steps.Tick node ms) is = absurd (no_restart_if _ _ _ delay is)
  begins_anew (steps.Deliver number node) is = absurd (no_restart_delivered h.config (datagram_at lines number) delay is)
  begins_anew (steps.Call node kind instance method payload) is = absurd (no_restart_if _ _ _ delay is)
  begins_anew (steps.Answer node token reply payload) is = absurd (no_restart_if _ _ _ delay is)
  begins_anew (steps.Publish node instance event payload) is = absurd (no_restart_if _ _ _ delay is)
  begins_anew (steps.PublishTo node group to event payload) is = absurd (no_restart_if _ _ _ delay is)
  begins_anew (steps.Subscribe node group) is = absurd cc
  begins_anew (steps.Unsubscribe node group) is = absurd cc
  begins_anew (steps.StopOffer node instance) is = absurd cc
  begins_anew (steps.Inject node port to payload) is = absurd cc

-- ---- a new life

-- nothing is kept of a life that has just begun
module _ (nodes : List SetupNode) (configs : List Config) (ss : List Step) (payloads : PayloadNumbers) (n place : ℕ)
    (none_lives : (i : ℕ) → i < n → LivesOn nodes configs ss place i n → ⊥) (h : History) (fresh : h.items ≡ []) where
  pub new_kept : KeepsLife nodes configs ss payloads n place h new_life
  new_kept = record {
    clock = ap clock_at (sym fresh);
    counters = λ q. get-empty eventgroup_cmp q ∙ ap (λ items. last_counter (course_at items q).begun) (sym fresh);
    sessions = λ e. ap session_after_last (get-empty event_cmp e) ∙ ap (λ items. session_after (suc (times_published items e)) 0) (sym fresh);
    handed = λ token since at. let none : finite.get new_life.tokens token ≡ None = get-empty nat_cmp token in absurd cc;
    handed_only = λ token since was. absurd (none_lives was.i was.before was.lives);
    arrivals = λ key. subst (KnowsArrival nodes configs ss payloads n place key) (sym (get-empty stream_cmp (stream_of key))) (λ i now m lt lives a. none_lives i lt lives);
  }

-- ---- what is kept of it

module _ (nodes : List SetupNode) (configs : List Config) (ss : List Step) (n : ℕ) (s : Step) (t : Turn nodes configs ss n s) (delay : ℕ) (is : t.deed ≡ Restarts delay) where
  -- no life goes on over the step
  none_lives : (i : ℕ) → i < suc n → LivesOn nodes configs ss t.place i (suc n) → ⊥
  none_lives i lt lives = lives n (omega (arith, lt)) (omega arith) (record { step = s; turn = t; at = refl; delay = delay; restarts = is })

  module _ (payloads : PayloadNumbers) (h : History) (fresh : h.items ≡ []) where
    -- nothing is kept of it but that it is new
    pub restarted_life : (config : Config) (notes : List NoteKept) (life : LifeKept) (lines : List Line)
        → KeepsLife nodes configs ss payloads (suc n) t.place h (life_after config notes life s lines finite.empty)
    restarted_life config notes life lines =
        let new = begins_anew config notes life t.history t.before.lines delay s (again_at nodes configs ss n s t delay is).1 in
        subst (KeepsLife nodes configs ss payloads (suc n) t.place h)
        (λ k. record (sym new.0 k) { tokens = handed_up (sym new.1 k) (tokens_told lines) (sym new.0 k).tokens; counters = finite.empty }) (new_kept nodes configs ss payloads (suc n) t.place none_lives h fresh)
