-- What a schedule may go on by, and what it comes to, by what a run of it gives.
use Rattle.std.proofs.Common.{◌≡◌, ℕ, Bool, List, length, flat_map, if◌then◌else◌, Result, Ok, Err, sym, ap, subst, ◌∙◌}
use Rattle.std.specs.Global as global
use Rattle.someip_world_schedule.specs.declared.step.Step.{Step}
use Rattle.someip_world_setup.specs.declared.setup_node.SetupNode.{SetupNode}
use Rattle.someip_world.specs.Running.{IsTold}
use Rattle.someip_world_rules.specs.declared.error.RunError.{RunError}
use Rattle.someip_world_rules.specs.declared.error.RunError.TheVariants.{BadStep, OutOfMemory}
use Rattle.someip_world_rules.specs.declared.line.Line.{Line}
use Rattle.someip_world_rules.specs.declared.reuse.Reuse.{Reuse}
use Rattle.someip_world_rules.specs.exchanges.CleanReuse.{IsVerdictOn}
use Rattle.someip_explore.specs.declared.moves.Move.{Move}
use Rattle.someip_explore.specs.declared.search.Explored.{Explored}
use Rattle.someip_explore.specs.declared.search.Explored.TheVariants as explored
use Rattle.someip_explore.specs.declared.search.Judgement.TheVariants.{Bad, Missed, Reached}
use Rattle.someip_explore.specs.Exploring.{ExploresTo, IsTraced, exploration_of, judged_by, judged_count, judgement_of}
use Rattle.someip_explore.specs.Goals.{Goal, run_reaches}
use Rattle.someip_explore.specs.LimitValues.{LimitValues}
use Rattle.someip_explore.specs.Moves.{next_by, next_steps, stands_for}
use Rattle.someip_explore.specs.Searching.{Explores}
use Rattle.someip_explore.specs.Traces.{trace_of, verdict_of}
use Rattle.someip_explore.specs.Watching.{HearsOf, judged_in}
use Rattle.someip_explore.proofs.TraceLemmas.{comes_to_trace}
use Rattle.someip_explore.proofs.OneVerdict.{one_verdict}

-- what a run gives is the trace
pub traced_so : (nodes : List SetupNode) (ss : List Step) (ran : Result (global.Vec Line) RunError) → IsTold nodes ss ran → IsTraced nodes ss ran
traced_so nodes ss (Ok lines) told = sym (comes_to_trace nodes ss (Ok lines.items) told)
traced_so nodes ss (Err (BadStep index fault)) told = sym (comes_to_trace nodes ss (Err (BadStep index fault)) told)
traced_so nodes ss (Err OutOfMemory) told = record {}

-- a verdict on it is that which is told
pub verdict_so : (nodes : List SetupNode) (ss : List Step) (lines : List Line) (verdict : Reuse) → trace_of nodes ss ≡ Ok lines → IsVerdictOn nodes ss lines verdict
    → IsVerdictOn nodes ss lines (verdict_of nodes ss lines) → verdict ≡ verdict_of nodes ss lines
verdict_so nodes ss lines verdict is on told = one_verdict nodes ss lines is verdict (verdict_of nodes ss lines) on told

-- ---- how a schedule may go on

pub next_so : (nodes : List SetupNode) (moves : List Move) (ss : List Step) (lines : List Line) → trace_of nodes ss ≡ Ok lines
    → flat_map (stands_for nodes ss lines) moves ≡ next_steps nodes moves ss
next_so nodes moves ss lines is = sym (ap (next_by nodes moves ss) is)

pub none_next : (nodes : List SetupNode) (moves : List Move) (ss : List Step) (error : RunError) → trace_of nodes ss ≡ Err error → next_by nodes moves ss (Err error) ≡ next_steps nodes moves ss
none_next nodes moves ss error is = sym (ap (next_by nodes moves ss) is)

-- ---- what it comes to

pub judged_so : (nodes : List SetupNode) (goal : Goal) (done : ℕ) (ss : List Step) (lines : List Line) (does : Bool) → trace_of nodes ss ≡ Ok lines
    → does ≡ run_reaches nodes goal done lines (verdict_of nodes ss lines) → (if does then Reached else Missed) ≡ judgement_of nodes goal done ss
judged_so nodes goal done ss lines does is so = ap (λ b. if b then Reached else Missed) so ∙ sym (ap (judged_by nodes goal done ss) is)

pub judged_bad : (nodes : List SetupNode) (goal : Goal) (done : ℕ) (ss : List Step) (error : RunError) → trace_of nodes ss ≡ Err error → Bad ≡ judgement_of nodes goal done ss
judged_bad nodes goal done ss error is = sym (ap (judged_by nodes goal done ss) is)

-- ---- what a search comes to

pub explores_so : (nodes : List SetupNode) (moves : List Move) (goal : Goal) (limits : LimitValues) (beginning : List Step) (steps : global.Vec Step) (found : Explored)
    → Explores (next_steps nodes moves) (judgement_of nodes goal (length beginning)) limits.steps limits.schedules beginning steps.items found
    → ExploresTo nodes moves goal limits beginning (exploration_of steps found)
explores_so nodes moves goal limits beginning steps (explored.Found count) explores = explores
explores_so nodes moves goal limits beginning steps (explored.None count) explores = explores
explores_so nodes moves goal limits beginning steps (explored.Stopped covered) explores = explores

-- the same by numbers that are those of the beginning and of the limits
pub explores_by : (nodes : List SetupNode) (moves : List Move) (goal : Goal) (limits : LimitValues) (beginning : List Step) (steps : global.Vec Step) (found : Explored)
    → (done longest most : ℕ) → done ≡ length beginning → longest ≡ limits.steps → most ≡ limits.schedules
    → Explores (next_steps nodes moves) (judgement_of nodes goal done) longest most beginning steps.items found → ExploresTo nodes moves goal limits beginning (exploration_of steps found)
explores_by nodes moves goal limits beginning steps found done longest most is far many explores =
    explores_so nodes moves goal limits beginning steps found
    (subst (λ n. Explores (next_steps nodes moves) (judgement_of nodes goal n) limits.steps limits.schedules beginning steps.items found) is
    (subst (λ n. Explores (next_steps nodes moves) (judgement_of nodes goal done) n limits.schedules beginning steps.items found) far
    (subst (λ n. Explores (next_steps nodes moves) (judgement_of nodes goal done) longest n beginning steps.items found) many explores)))

-- the search judged as many as are told of it
pub watched_so : {W : Type 0} (hears : W → ℕ → W → Type 0) (limits : LimitValues) (steps : global.Vec Step) (found : Explored) (most : ℕ) (old new : W) → most ≡ limits.schedules
    → HearsOf hears (judged_in most found) old new → HearsOf hears (judged_count limits (exploration_of steps found)) old new
watched_so hears limits steps (explored.Found count) most old new is heard = heard
watched_so hears limits steps (explored.None count) most old new is heard = heard
watched_so hears limits steps (explored.Stopped covered) most old new is heard = subst (λ n. HearsOf hears n old new) is heard
