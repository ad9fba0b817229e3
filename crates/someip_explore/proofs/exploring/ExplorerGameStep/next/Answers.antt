use Rattle.std.proofs.Common.{◌≡◌, flat_map, ap, ◌∙◌}
use Rattle.std.proofs.lemmas.Result.{IfOk-weaker}
use Rattle.someip_explore.specs.Moves.{next_steps, stands_for}
use Rattle.someip_explore.proofs.ExploringLemmas.{next_so}
use Rattle.someip_explore.proofs.exploring.ExplorerGameStep.next.Goals as goal

pub returns-in-Ok-clause-found : goal.returns-in-Ok-clause-found
returns-in-Ok-clause-found g c =
    let nodes = c.args.self.now.actors.nodes in
    let moves = c.args.self.now.moves.now in
    let steps = c.args.steps.now in
    IfOk-weaker c.steps_after.result (λ found. found.items ≡ flat_map (stands_for c.nodes-nodes.result.now steps c.as_slice.result.now) moves) (λ found. found.items ≡ next_steps nodes moves steps)
    (λ found is.
    is ∙ ap (λ own. flat_map (stands_for own steps c.as_slice.result.now) moves) (c.nodes-nodes.ensures.nodes ∙ ap (λ network. network.nodes) c.setup-setup.ensures)
    ∙ ap (λ lines. flat_map (stands_for nodes steps lines) moves) c.as_slice.ensures.value
    ∙ next_so nodes moves steps c.in-Ok.lines.items c.in-Ok.ensures.traced)
    c.steps_after.ensures
