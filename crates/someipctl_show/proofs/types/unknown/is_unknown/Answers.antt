use Rattle.std.proofs.Common.{bytes_eq, not, Bool, sym, ap, ◌∙◌}
use Rattle.someip_texts.proofs.FoundLemmas.{list_any-map}
use Rattle.someipctl_show.proofs.types.unknown.is_unknown.Goals as goal

pub returns : goal.returns
returns c = ap (λ (b : Bool). not b) (c.is_one_of.ensures ∙ sym (list_any-map (bytes_eq c.args.key.now) (λ k. k.now) c.args.known.now))
