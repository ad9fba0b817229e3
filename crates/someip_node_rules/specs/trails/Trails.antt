-- What a plan does over a history, rule by rule, each with the work that it was done at.
use Rattle.std.specs.Prelude.{List, [], ◌∷◌, ◌++◌}
use Rattle.std.specs.List.{flat_map, fold}
use Rattle.someip_node_rules.specs.histories.History.{History, answers_of, historic, met}
use Rattle.someip_node_rules.specs.rules.Inputs.{Input, plan_of}
use Rattle.someip_node_rules.specs.histories.Items.{Item}
use Rattle.someip_node_rules.specs.rules.Outcomes.{Outcome}
use Rattle.someip_node_rules.specs.forms.Outputs.{Given}
use Rattle.someip_node_rules.specs.rules.Plans.{Plan, rest, act, both, asks, replying, Rule, Work, rule, run}
use Rattle.someip_node_rules.specs.steps.Steps.{work_on}

-- a rule that was done, and the work before it
pub record Done : Type 0 where
  pub by : Rule
  pub before : Work History

-- what it said there
abbrev pub outcome_of : Done → Outcome
outcome_of done = rule done.by (answers_of done.before.state)

-- the rules that a plan does, in order
abbrev pub trail : Plan → Work History → List Done
trail rest w = []
trail (act r) w = record { by = r; before = w } ∷ []
trail (both p q) w = trail p w ++ trail q (run historic p w)
trail (asks f) w = trail (f (answers_of w.state)) w
trail (replying f) w = trail (f w.replies) (record w { replies = [] })

-- those of a step
abbrev pub trail_of : History → Input → List Done
trail_of h input = trail (plan_of input) (work_on h)

-- what they gave, in order
abbrev pub given_by : List Done → List Given
given_by dones = flat_map (λ done. (outcome_of done).given) dones

-- and what was met by them
abbrev pub met_by : List Done → List Item
met_by dones = flat_map (λ done. (outcome_of done).items) dones

-- a history once more was met
abbrev pub after : History → List Item → History
after h items = fold met h items
