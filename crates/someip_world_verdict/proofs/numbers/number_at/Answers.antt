use Rattle.std.proofs.Common.{◌∙◌, sym, rules, ◌≡◌}
use Rattle.std.specs.Map.{lookup}
use Rattle.someip_world_verdict.proofs.noting.PayloadNumbers.{get_shown, same}
use Rattle.someip_world_verdict.proofs.numbers.number_at.Goals as goal

pub returns : goal.returns
returns c =
    let known : c.copied.result ≡ lookup (λ k. same c.args.payload.now.items k.items) c.args.numbers.now.entries = search rules in
    known ∙ sym (get_shown c.args.numbers.now.entries c.args.payload.now.items)
