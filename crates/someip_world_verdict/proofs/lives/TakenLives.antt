-- What is kept of a life after a step whose input its node takes.
use Rattle.std.proofs.Common.{◌≡◌, ℕ, ◌+◌, suc, true, List, slice_get, Some, Ok, ap, sym, subst, ◌∙◌}
use Rattle.std.specs.FinMap as finite
use Rattle.std.specs.FinMap.{FinMap}
use Rattle.std.specs.Ordering.{nat_cmp}
use Rattle.sd_core.specs.Eventgroups.{eventgroup_cmp}
use Rattle.sd_core.specs.declared.eventgroup.Eventgroup.{Eventgroup}
use Rattle.someip_node_rules.specs.trails.Copies.{IsCopy}
use Rattle.someip_node_rules.specs.forms.GoodConfigs.{is_good}
use Rattle.someip_node_rules.specs.histories.History.{History}
use Rattle.someip_node_rules.specs.rules.Inputs.{Input}
use Rattle.someip_node_rules.specs.rules.Plans.{Work}
use Rattle.someip_node_rules.specs.steps.Steps.{step}
use Rattle.someip_node_rules.specs.histories.WishQuestions.{course_at}
use Rattle.someip_node_rules.specs.declared.config.Config.{Config}
use Rattle.someip_world_schedule.specs.declared.step.Step.{Step}
use Rattle.someip_world_setup.specs.declared.setup_node.SetupNode.{SetupNode}
use Rattle.someip_world_rules.specs.Announced.{AllFits}
use Rattle.someip_world_rules.specs.Deeds.{Takes}
use Rattle.someip_world_rules.specs.Runs.{told_lines}
use Rattle.someip_world_rules.specs.Turns.{Turn}
use Rattle.someip_world_rules.proofs.LiarLemmas.{taken_at}
use Rattle.someip_world_rules.specs.exchanges.Beginnings.{last_counter}
use Rattle.someip_world_verdict.specs.Books.{Book, LifeKept, PayloadNumbers}
use Rattle.someip_world_verdict.specs.Booking.{answered_in, handed_up, life_after, life_on, life_then, publication_in, tokens_told}
use Rattle.someip_world_verdict.proofs.lives.ArrivalSteps.{KnowsThen, arrivals_on, published_arrivals}
use Rattle.someip_world_verdict.proofs.lives.ClockSteps.{clock_on, published_clock}
use Rattle.someip_world_verdict.proofs.Kept.{Kept, KeepsLife, PayloadsGrow}
use Rattle.someip_world_verdict.proofs.lives.SessionSteps.{sessions_on}
use Rattle.someip_world_verdict.proofs.StepInputs.{IsInputOf, input_of}
use Rattle.someip_world_verdict.proofs.lives.TokenSteps.{handed_on, handed_on_only}
use Rattle.someip_world_verdict.proofs.lives.TokensTold.{published_tokens, tokens_on}

module _ (nodes : List SetupNode) (configs : List Config) (ss : List Step) (n : ℕ) (s : Step) (t : Turn nodes configs ss n s)
    (fits : AllFits nodes configs ss) (well : (place : ℕ) (c : Config) → slice_get configs place ≡ Some c → is_good c ≡ true)
    (input : Input) (is : t.deed ≡ Takes input) (done : Work History) (did : step t.history input ≡ Ok done)
    (config : Config) (copy : IsCopy config t.history.config)
    (book : Book) (kept : Kept nodes configs ss n t.before book) (life : LifeKept) (keeps : KeepsLife nodes configs ss book.payloads n t.place t.history life)
    (counters : FinMap eventgroup_cmp ℕ) (counted : (q : Eventgroup) → finite.get counters q ≡ last_counter (course_at done.state.items q).begun)
    (more : PayloadNumbers) (grow : PayloadsGrow book.payloads more) where
  -- the step gives the input
  so : IsInputOf t.history t.before.lines input s
  so = input_of t.history t.before.lines input s (taken_at nodes configs ss n s t input is).1

  -- the life but for tokens and counters
  abbrev next : LifeKept
  next = life_then config book.notes life s

  -- the tokens before those that are handed up
  same_tokens : next.tokens ≡ life.tokens
  same_tokens = published_tokens (publication_in config life s) (life_on book.notes life s) ∙ tokens_on t.history t.before.lines input book.notes life s so

  -- the tokens after those that are handed up
  abbrev tokens_then : FinMap nat_cmp ℕ → FinMap nat_cmp ℕ
  tokens_then tokens = handed_up (answered_in book.notes life s) (tokens_told (told_lines (n + 1) t.place (Ok done.outputs))) tokens

  -- what is kept of the life is so after the step
  pub taken_life : KeepsLife nodes configs ss more (suc n) t.place done.state
      (life_after config book.notes life s (told_lines (n + 1) t.place (Ok done.outputs)) counters)
  taken_life = record {
    clock =
        published_clock (publication_in config life s) (life_on book.notes life s)
        ∙ clock_on t.history t.before.lines input done did book.notes life keeps.clock s so;
    counters = counted;
    sessions = sessions_on config t.history copy life keeps.sessions done input did book.notes t.before.lines s so;
    handed = λ token since at.
        handed_on nodes configs ss n s t input is book.payloads book.notes kept.notes done did life token since (keeps.handed token since)
        (ap (λ tokens. finite.get (tokens_then tokens) token) (sym same_tokens) ∙ at);
    handed_only = λ token since was.
        ap (λ tokens. finite.get (tokens_then tokens) token) same_tokens
        ∙ handed_on_only nodes configs ss n s t input is book.payloads book.notes kept.notes done did life token since (keeps.handed_only token since) was;
    arrivals =
        subst (KnowsThen nodes configs ss n s t input is fits well book.payloads more grow life keeps.clock keeps.arrivals)
        (sym (published_arrivals (publication_in config life s) (life_on book.notes life s)))
        (arrivals_on nodes configs ss n s t input is fits well book.payloads more grow life keeps.clock keeps.arrivals book.notes kept.notes so);
  }
