use Rattle.std.proofs.Common.{sym, ap, ◌∙◌, bytes_eq}
use Rattle.std.specs.List.{list_any}
use Rattle.someip_texts.proofs.FoundLemmas.{list_any-map}
use Rattle.someip_world_setup_keys.proofs.unknown.is_known_key.Goals as goal

pub returns : goal.returns
returns c =
    c.is_one_of.ensures ∙ sym (list_any-map (bytes_eq c.args.key.now) (λ known. known.now) c.known_keys.result.now)
    ∙ ap (list_any (bytes_eq c.args.key.now)) c.known_keys.ensures
