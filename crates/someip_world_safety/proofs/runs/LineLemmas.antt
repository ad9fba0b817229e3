-- What a line of a trace tells, its node gave in its step.
use Rattle.std.proofs.Common.{◌≡◌, ℕ, ◌+◌, false, List, [], map, Result, Ok, Err, arith, refl, sym, ap, subst, ◌∙◌}
use Rattle.std.specs.List.{Contains}
use Rattle.someip_node_rules.specs.declared.config.Config.{Config}
use Rattle.someip_node_rules.specs.declared.error.NodeError.{NodeError}
use Rattle.someip_node_rules.specs.declared.output.Output.{Output}
use Rattle.someip_node_rules.specs.declared.output.Output.TheVariants.{Sent}
use Rattle.someip_node_rules.specs.rules.Plans.{Work}
use Rattle.someip_node_rules.specs.histories.History.{History}
use Rattle.someip_node_rules.specs.steps.Steps.{given_in, step}
use Rattle.someip_node_rules.proofs.trails.MeaningLemmas.{is_sent}
use Rattle.someip_node_rules.proofs.lists.MemberLemmas.{all_from_members, all_map, at_member, only_one}
use Rattle.someip_world_schedule.specs.declared.step.Step.{Step}
use Rattle.someip_world_setup.specs.declared.setup_node.SetupNode.{SetupNode}
use Rattle.someip_world_rules.specs.declared.line.Line.{Line}
use Rattle.someip_world_rules.specs.declared.line.Told.TheVariants.{Gave, Refused}
use Rattle.someip_world_rules.specs.Deeds.{Deed, Injects, Restarts, Takes, done_with}
use Rattle.someip_world_rules.specs.Runs.{run_of, told_lines}
use Rattle.someip_world_rules.specs.Turns.{IsOfStep}
use Rattle.someip_world_rules.proofs.LineLemmas.{line_of_step}
use Rattle.someip_world_safety.specs.Safety.{TellsOf}

-- an element of what some are mapped to is what one of them is mapped to
mapped_from : {X Y : Type 0} (f : X → Y) (xs : List X) (y : Y) → Contains (map f xs) y → (x : X) × Contains xs x × (y ≡ f x)
mapped_from {X} {Y} f xs y among =
    at_member (λ z. (x : X) × Contains xs x × (z ≡ f x)) (map f xs) y
    (all_map (λ z. (x : X) × Contains xs x × (z ≡ f x)) f xs (all_from_members (λ w. (x : X) × Contains xs x × (f w ≡ f x)) xs (λ w there. (w, there, refl)))) among

-- what is given is one thing
one_output : (a b : Output) → Gave a ≡ Gave b → a ≡ b
one_output a b is = cc

module _ (nodes : List SetupNode) (configs : List Config) (steps : List Step) (line : Line) (o : Output) (tells : line.told ≡ Gave o) (plain : is_sent o ≡ false) where
  -- of a step
  module _ (l : IsOfStep nodes configs steps line) where
    abbrev h : History
    h = l.turn.history

    -- a node that took an input
    by_due : {input : _} → l.turn.deed ≡ Takes input → (due : Result (Work History) NodeError) → step h input ≡ due → Contains (told_lines (l.i + 1) l.turn.place (given_in due)) line
        → TellsOf nodes configs steps line o
    by_due {input} takes (Ok done) due among =
        let one = mapped_from (λ output. record { step = l.i + 1; node = l.turn.place; told = Gave output }) done.outputs line among in
        let same : one.0 ≡ o = one_output one.0 o (sym (ap (λ x. x.told) one.2) ∙ tells) in
        let index = l.index in
        record {
          told = tells;
          n = l.i;
          index = omega (arith, index);
          does = record { step = l.s; turn = l.turn; input = input; takes = takes; done = done; happened = due };
          at = ap (λ x. x.node) one.2;
          gave = subst (Contains done.outputs) same one.1;
        }
    by_due takes (Err refusal) due among =
        let only = only_one (record { step = l.i + 1; node = l.turn.place; told = Refused refusal }) line among in
        let clash : Refused refusal ≡ Gave o = sym (ap (λ x. x.told) only) ∙ tells in absurd cc

    -- what is sent is something else
    not_sent : (from to : _) (bytes : List ℕ) → o ≡ Sent from to bytes → ⊥
    not_sent from to bytes is = let clash = sym (ap is_sent is) ∙ plain in absurd cc

    by_deed : (deed : Deed) → l.turn.deed ≡ deed → Contains (told_lines (l.i + 1) l.turn.place (given_in (done_with h deed))) line → TellsOf nodes configs steps line o
    by_deed (Takes input) is among = by_due is (step h input) refl among
    by_deed (Restarts delay) is among = absurd (at_member (λ x. ⊥) [] line tt among)
    by_deed (Injects from to bytes) is among =
        let only = only_one (record { step = l.i + 1; node = l.turn.place; told = Gave (Sent from to bytes) }) line among in
        absurd (not_sent from to bytes (one_output o (Sent from to bytes) (sym tells ∙ ap (λ x. x.told) only)))

    by_step : TellsOf nodes configs steps line o
    by_step = by_deed l.turn.deed refl l.told

  -- of a run
  pub tells_of : (lines : List Line) → run_of nodes configs steps ≡ Ok lines → Contains lines line → TellsOf nodes configs steps line o
  tells_of lines is among = by_step (line_of_step nodes configs steps lines line is among)
