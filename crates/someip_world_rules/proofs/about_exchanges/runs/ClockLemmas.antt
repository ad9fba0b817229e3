-- A step leaves the configuration as it is, and the clock too unless it is a tick.
use Rattle.std.proofs.Common.{◌≡◌, ℕ, ◌+◌, false, List, [], ◌∷◌, Ok, refl, ap, subst, ◌∙◌}
use Rattle.std.specs.List.{AllByRecursion}
use Rattle.sd_wire.specs.contents.Values.{EntryValue}
use Rattle.someip_node_rules.specs.declared.receiver.Receiver.TheVariants.{Group}
use Rattle.someip_node_rules.specs.rules.Ticking.{due_entries}
use Rattle.someip_node_rules.specs.forms.Entries.{fronts}
use Rattle.someip_node_rules.specs.histories.History.{History, answers_of, historic, met}
use Rattle.someip_node_rules.specs.rules.Inputs as inputs
use Rattle.someip_node_rules.specs.rules.Inputs.{Input, refusal_of}
use Rattle.someip_node_rules.specs.histories.Items as items
use Rattle.someip_node_rules.specs.histories.Items.{Item}
use Rattle.someip_node_rules.specs.trails.Meetings.{MetBy}
use Rattle.someip_node_rules.specs.rules.Plans.{Work, does, each, rule, run}
use Rattle.someip_node_rules.specs.rules.Plans as plans
use Rattle.someip_node_rules.specs.histories.Questions.{clock_at, clock_by}
use Rattle.someip_node_rules.specs.forms.Receivers.{message_plan_to}
use Rattle.someip_node_rules.specs.steps.Steps.{step, work_on}
use Rattle.someip_node_rules.specs.trails.Trails.{after, met_by, trail_of}
use Rattle.someip_node_rules.proofs.trails.MeaningLemmas.{done_by}
use Rattle.someip_node_rules.proofs.trails.MeetingLemmas.{all_met, state_met}
use Rattle.someip_node_rules.proofs.lists.MemberLemmas.{all_weaker}
use Rattle.someip_world_rules.proofs.about_exchanges.openings.RuleInputs.{AskedBy, done_asked, is_tick}

-- ---- the configuration

-- ---- the clock

-- an item leaves the clock as it is
abbrev pub LeavesClock : Item → Type 0
LeavesClock item = (now : ℕ) → clock_by item now ≡ now

-- where each item does, the clock stays
pub clock_stays : (h : History) (met_items : List Item) → AllByRecursion LeavesClock met_items → clock_at (after h met_items).items ≡ clock_at h.items
clock_stays h [] all = refl
clock_stays h (item ∷ rest) all = clock_stays (met h item) rest all.1 ∙ all.0 (clock_at h.items)

-- what is met by an input that is no tick leaves the clock
pub leaves_clock : (h : History) (input : Input) → is_tick input ≡ false → (item : Item) → MetBy h input item → LeavesClock item
leaves_clock h input other (items.Ticked ms) by now =
    let tick : input ≡ inputs.Tick ms = subst (λ r. AskedBy r input) by.holds (done_asked h input _ by) in
    let none = subst (λ x. is_tick x ≡ false) tick other in absurd cc
leaves_clock h input other item by now = refl

-- messages of Service Discovery to the group leave the clock
group_clock : (messages : List (List EntryValue)) (w : Work History)
    → clock_at (run historic (each (message_plan_to Group) messages) w).state.items ≡ clock_at w.state.items
group_clock [] w = refl
group_clock (message ∷ messages) w = group_clock messages (run historic (message_plan_to Group message) w)

-- by a tick the clock goes on by its milliseconds
pub tick_clock : (h : History) (ms : ℕ) (done : Work History) → step h (inputs.Tick ms) ≡ Ok done → clock_at done.state.items ≡ clock_at h.items + ms
tick_clock h ms done is =
    ap (λ (w : Work History). clock_at w.state.items) (done_by h (inputs.Tick ms) (refusal_of (inputs.Tick ms) (answers_of h)) done is)
    ∙ group_clock (fronts (due_entries (clock_at h.items + ms) (answers_of h))) (does historic (rule (plans.Ticks ms)) (work_on h))

-- by any other input it stays
pub other_clock : (h : History) (input : Input) (done : Work History) → is_tick input ≡ false → step h input ≡ Ok done
    → clock_at done.state.items ≡ clock_at h.items
other_clock h input done other is =
    ap (λ (s : History). clock_at s.items) (state_met h input done is)
    ∙ clock_stays h (met_by (trail_of h input)) (all_weaker (MetBy h input) LeavesClock (leaves_clock h input other) (met_by (trail_of h input)) (all_met h input))
