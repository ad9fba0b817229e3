use Rattle.std.proofs.Common.{map, rules, tests, ◌∙◌, ap}
use Rattle.std.proofs.lemmas.Fn.{filter_same}
use Rattle.someipctl_show.specs.Services.{is_asked_by}
use Rattle.someipctl_show.specs.ShowResult.{view_services}
use Rattle.someipctl_show.proofs.WordLemmas.{filter-map}
use Rattle.someipctl_show.proofs.show.keep_asked.Goals as goal

pub returns : goal.returns
returns c =
    let kept = filter_same _ (λ d. is_asked_by (view_services c.args.services) d.items) _ (λ x b q k. search (rules, tests)) _ _ c.retain.ensures.filtered in
    ap (map (λ d. d.items)) kept ∙ filter-map (λ d. d.items) (is_asked_by (view_services c.args.services)) c.args.datagrams.now.items
