use Rattle.std.proofs.Common.{◌∙◌, ◌++◌, ◌∷◌, [], ap, List}
use Rattle.json.specs.Json as json
use Rattle.json.specs.Token.{Token}
use Rattle.someipctl_show.proofs.about_types.ValueFieldLemmas.{field-written}
use Rattle.someipctl_show.proofs.types.value_fields.put_text_field.Goals as goal

pub returns : goal.returns
returns c =
    field-written c.args.out.items c.string.new.self.before _ c.args.key.now (json.string c.args.text.now) c.string.new.self.tokens
    (c.in_ok-string.ensures.room.0 ∙ c.in_ok-key.ensures.room.0 ∙ c.new-out.ensures.before ∙ c.in_ok-push.ensures.items)
    (c.in_ok-string.ensures.ok ∙ ap (λ (t : List Token). t ++ Token.string c.args.text.now ∷ []) (c.in_ok-key.ensures.ok ∙ ap (λ (t : List Token). t ++ Token.key c.args.key.now ∷ []) c.new-out.ensures.tokens))
    c.into_inner.ensures.items
