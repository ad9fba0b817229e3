use Rattle.std.proofs.Common.{◌∙◌, ◌++◌, ◌∷◌, [], ap, List, decimal}
use Rattle.json.specs.Json as json
use Rattle.json.specs.Token.{Token}
use Rattle.someipctl_show.proofs.about_types.ValueFieldLemmas.{field-written}
use Rattle.someipctl_show.proofs.types.value_fields.put_number_field.Goals as goal

pub returns : goal.returns
returns c =
    field-written c.args.out.items c.u64.new.self.before _ c.args.key.now (json.number (decimal c.args.n)) c.u64.new.self.tokens
    (c.in_ok-u64.ensures.room.0 ∙ c.in_ok-key.ensures.room.0 ∙ c.new-out.ensures.before ∙ c.in_ok-push.ensures.items)
    (c.in_ok-u64.ensures.ok ∙ ap (λ (t : List Token). t ++ Token.number (decimal c.args.n) ∷ []) (c.in_ok-key.ensures.ok ∙ ap (λ (t : List Token). t ++ Token.key c.args.key.now ∷ []) c.new-out.ensures.tokens))
    c.into_inner.ensures.items
