use Rattle.std.proofs.Common.{◌≡◌, ◌∙◌, rules}
use Rattle.std.specs.HashMap as hash
use Rattle.someip_tables.proofs.about_hashed.Hashed.{by_order}
use Rattle.someip_tables.proofs.hashed.tracked.look.Goals as goal

pub returns : goal.returns
returns g c =
    let found : c.copied.result ≡ hash.get g.K.PartialEq.eq c.args.held.now c.args.key.now = search rules in
    found ∙ by_order g.K.Ord.cmp g.met.K.Ord.matches_eq c.args.held.now c.args.key.now
