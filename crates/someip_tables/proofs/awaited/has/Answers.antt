use Rattle.std.proofs.Common.{ap, sym, ◌∙◌}
use Rattle.std.specs.Option.{is_some}
use Rattle.someip_tables.proofs.Trees.{get-map_of}
use Rattle.someip_tables.proofs.awaited.has.Goals as goal

pub returns : goal.returns
returns g c = c.contains_key.ensures ∙ sym (ap (λ v. is_some v) (get-map_of g.met.K.Ord.total c.args.held.now.entries c.args.key.now))
