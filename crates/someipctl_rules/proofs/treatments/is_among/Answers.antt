use Rattle.std.proofs.Common.{◌∙◌, sym}
use Rattle.someip_texts.proofs.FoundLemmas.{list_any-map}
use Rattle.toml.specs.View.{view}
use Rattle.someipctl_rules.specs.Treating.{is_text_of}
use Rattle.someipctl_rules.proofs.treatments.is_among.Goals as goal

pub returns : goal.returns
returns c = c.has_text.ensures ∙ sym (list_any-map (is_text_of c.args.words.now) view c.args.values.now)
