-- The clock that is kept of a life goes on with that of the node.
use Rattle.std.proofs.Common.{◌≡◌, ℕ, ◌+◌, ◌^◌, false, nat_lt, if◌then◌else◌, List, arith, Option, None, Some, Ok, refl, sym, ap, ◌∙◌}
use Rattle.std.proofs.lemmas.Bool.{lt-ltb, ltb-false}
use Rattle.someip_node_rules.specs.histories.History.{History}
use Rattle.someip_node_rules.specs.rules.Inputs.{Input}
use Rattle.someip_node_rules.specs.rules.Plans.{Work}
use Rattle.someip_node_rules.specs.histories.Questions.{clock_at}
use Rattle.someip_node_rules.specs.steps.Steps.{step}
use Rattle.someip_world_schedule.specs.declared.step.Step.{Step}
use Rattle.someip_world_schedule.specs.declared.step.Step.TheVariants as steps
use Rattle.someip_world_rules.specs.Deeds.{clock_limit}
use Rattle.someip_world_rules.specs.declared.line.Line.{Line}
use Rattle.someip_world_rules.proofs.about_exchanges.runs.ClockLemmas.{other_clock, tick_clock}
use Rattle.someip_world_rules.proofs.about_exchanges.openings.RuleInputs.{is_tick}
use Rattle.someip_world_verdict.specs.Books.{LifeKept, NoteKept, note_at}
use Rattle.someip_world_verdict.specs.Booking.{Publication, arrived, arrived_with, clock_after, life_on, published_session}
use Rattle.someip_world_verdict.specs.declared.stream.Stream.{Stream}
use Rattle.someip_world_verdict.proofs.StepInputs.{IsInputOf}

-- a publication leaves the clock
pub published_clock : (o : Option Publication) (life : LifeKept) → (published_session o life).clock ≡ life.clock
published_clock None life = refl
published_clock (Some p) life = refl

-- and so does what comes
arrived_clock : (stream : Option Stream) (payload : Option ℕ) (life : LifeKept) → (arrived stream payload life).clock ≡ life.clock
arrived_clock None payload life = refl
arrived_clock (Some stream) None life = refl
arrived_clock (Some stream) (Some payload) life = refl

arrived_with_clock : (note : Option NoteKept) (life : LifeKept) → (arrived_with note life).clock ≡ life.clock
arrived_with_clock None life = refl
arrived_with_clock (Some note) life = arrived_clock note.stream note.payload life

-- a tick that does not pass the last moment counts
tick_counts : (clock ms : ℕ) → nat_lt clock_limit (clock + ms) ≡ false → clock_after clock ms ≡ clock + ms
tick_counts clock ms is =
    let most = ltb-false clock_limit (clock + ms) is in
    ap (λ b. if b then clock + ms else clock) (lt-ltb (clock + ms) (2 ^ 63) (omega (arith, most)))

module _ (h : History) (lines : List Line) (input : Input) (done : Work History) (did : step h input ≡ Ok done) (notes : List NoteKept) (life : LifeKept)
    (now : life.clock ≡ clock_at h.items) where
  stays : is_tick input ≡ false → life.clock ≡ clock_at done.state.items
  stays other = now ∙ sym (other_clock h input done other did)

  -- the clock goes on with a tick, and stays with any other input
  pub clock_on : (s : Step) → IsInputOf h lines input s → (life_on notes life s).clock ≡ clock_at done.state.items
  clock_on (steps.Tick node ms) is =
      let input_is = is.0 in
      ap (λ clock. clock_after clock ms) now ∙ tick_counts (clock_at h.items) ms is.1
      ∙ sym (tick_clock h ms done (ap (step h) (sym input_is) ∙ did))
  clock_on (steps.Deliver number node) is = arrived_with_clock (note_at notes number) life ∙ stays (ap is_tick is.2)
  clock_on (steps.Call node kind instance method payload) is = stays (ap is_tick is)
  clock_on (steps.Answer node token reply payload) is = stays (ap is_tick is)
  clock_on (steps.Publish node instance event payload) is = stays (ap is_tick is)
  clock_on (steps.PublishTo node group to event payload) is = stays (ap is_tick is)
  clock_on (steps.Subscribe node group) is = stays (ap is_tick is)
  clock_on (steps.Unsubscribe node group) is = stays (ap is_tick is)
  clock_on (steps.StopOffer node instance) is = stays (ap is_tick is)
  clock_on (steps.Restart node delay) is = absurd is
  clock_on (steps.Inject node port to payload) is = absurd is
