use Rattle.std.proofs.Common.{suc, refl}
use Rattle.someip_node_rules.specs.declared.output.Output.TheVariants.{Answered, Event, Subscribed}
use Rattle.someip_world_safety.proofs.runs.LineLemmas.{tells_of}
use Rattle.someip_world_safety.proofs.runs.SafeRuns.{clean_through, clean_up_to}
use Rattle.someip_world_safety.proofs.safety.runs_are_safe_by_their_verdict.Goals as goal

pub returns-clause-among_liars : goal.returns-clause-among_liars
returns-clause-among_liars c lines verdict judged configs are comes =
    let nodes = c.args.setup.now.nodes in
    let steps = c.args.steps.now in
    let safe = c.runs_are_safe.ensures in
    let is = judged configs are comes in
    record {
      answers = λ n up. safe.answers configs n are (clean_up_to nodes configs steps verdict (suc n) is up);
      events = λ n up. safe.events configs n are (clean_up_to nodes configs steps verdict (suc n) is up);
      acknowledged = λ n up. safe.acknowledged configs n are (clean_up_to nodes configs steps verdict (suc n) is up);
      answer_lines = λ line message session code payload among told.
          let of = tells_of nodes configs steps line (Answered message session code payload) told refl lines comes among in
          (of, λ honest up. safe.answers configs of.n are (clean_through nodes configs steps verdict line of.n is of.index up) of.does message session code payload of.gave honest);
      event_lines = λ line instance event payload among told.
          let of = tells_of nodes configs steps line (Event instance event payload) told refl lines comes among in
          (of, λ honest up. safe.events configs of.n are (clean_through nodes configs steps verdict line of.n is of.index up) of.does instance event payload of.gave honest);
      subscribed_lines = λ line eventgroup counter among told.
          let of = tells_of nodes configs steps line (Subscribed eventgroup counter) told refl lines comes among in
          (of, λ honest up. safe.acknowledged configs of.n are (clean_through nodes configs steps verdict line of.n is of.index up) of.does eventgroup counter of.gave honest);
      subscriptions = λ n w le led up. safe.subscriptions configs n w are le led (clean_up_to nodes configs steps verdict n is up);
      publications = λ n. safe.publications configs n;
      publications_to_one = λ n. safe.publications_to_one configs n;
      offers = λ n. safe.offers configs n are;
    }

pub returns-clause-without_liars : goal.returns-clause-without_liars
returns-clause-without_liars c none lines verdict judged configs are comes =
    let nodes = c.args.setup.now.nodes in
    let steps = c.args.steps.now in
    let safe = c.runs_without_liars_are_safe.ensures in
    let is = judged configs are comes in
    record {
      answers = λ n up. safe.answers none configs n are (clean_up_to nodes configs steps verdict (suc n) is up);
      events = λ n up. safe.events none configs n are (clean_up_to nodes configs steps verdict (suc n) is up);
      acknowledged = λ n up. safe.acknowledged none configs n are (clean_up_to nodes configs steps verdict (suc n) is up);
      answer_lines = λ line message session code payload among told.
          let of = tells_of nodes configs steps line (Answered message session code payload) told refl lines comes among in
          (of, λ up. safe.answers none configs of.n are (clean_through nodes configs steps verdict line of.n is of.index up) of.does message session code payload of.gave);
      event_lines = λ line instance event payload among told.
          let of = tells_of nodes configs steps line (Event instance event payload) told refl lines comes among in
          (of, λ up. safe.events none configs of.n are (clean_through nodes configs steps verdict line of.n is of.index up) of.does instance event payload of.gave);
      subscribed_lines = λ line eventgroup counter among told.
          let of = tells_of nodes configs steps line (Subscribed eventgroup counter) told refl lines comes among in
          (of, λ up. safe.acknowledged none configs of.n are (clean_through nodes configs steps verdict line of.n is of.index up) of.does eventgroup counter of.gave);
      subscriptions = λ n w le led up. safe.subscriptions none configs n w are le led (clean_up_to nodes configs steps verdict n is up);
      publications = λ n. safe.publications none configs n;
      publications_to_one = λ n. safe.publications_to_one none configs n;
      offers = λ n. safe.offers none configs n are;
    }
