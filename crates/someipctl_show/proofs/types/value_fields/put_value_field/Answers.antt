use Rattle.std.proofs.Common.{◌∙◌, ◌++◌, ◌∷◌, [], ap, List, codes}
use Rattle.json.specs.Token.{Token}
use Rattle.someip_payload_values.specs.View.{form}
use Rattle.someipctl_io.specs.ValueObjects.{value_json}
use Rattle.someipctl_show.proofs.about_types.ValueFieldLemmas.{field-written}
use Rattle.someipctl_show.proofs.types.value_fields.put_value_field.Goals as goal

pub returns : goal.returns
returns c =
    let said = c.in_ok-put_value.ensures in (
      said.1.0,
      said.1.1,
      field-written c.args.out.items c.put_value.new.out.before _ (codes "value") (value_json (form c.args.told.now.shape.now) said.1.0) c.put_value.new.out.tokens
          (said.2.before ∙ c.in_ok-key.ensures.room.0 ∙ c.new-out.ensures.before ∙ c.in_ok-push.ensures.items)
          (said.2.tokens ∙ ap (λ (t : List Token). t ++ said.0) (c.in_ok-key.ensures.ok ∙ ap (λ (t : List Token). t ++ Token.key (codes "value") ∷ []) c.new-out.ensures.tokens) ∙ ap (λ (t : List Token). Token.key (codes "value") ∷ t) said.1.2)
          c.into_inner.ensures.items,
    )
