use Rattle.std.proofs.Common.{rules, ◌≡◌, [], ◌∷◌}
use Rattle.std.proofs.Output.{has_written_append, has_written_of_eq}
use Rattle.std.proofs.lemmas.List.{flat_map_more}
use Rattle.std.specs.Str.{chars}
use Rattle.someip_payload_values.specs.ValueText.{escaped}
use Rattle.someip_payload_values.proofs.Characters.{encode_utf8_all-more, chars_of_all}
use Rattle.someip_payload_values.proofs.value_text.write_quoted.Goals as goal

pub loop-c-preserved : goal.loop-c-preserved
loop-c-preserved g c = (
  encode_utf8_all-more _ _ _ _ _ c.loop-c.invariant.0 c.in-Some.ensures.steps.0,
  λ p. has_written_of_eq _ _ _ _ _ (flat_map_more escaped (34 ∷ []) c.loop-c.yielded c.in-Some.c)
      (has_written_append _ _ _ _ _ _ (c.loop-c.invariant.1 p) (search rules)),
)

pub returns : goal.returns
returns g c p done =
    let all : c.loop-c.yielded ≡ chars c.args.text.now = chars_of_all _ _ _ c.utf8.text c.loop-c.invariant.0 c.in-None.ensures.steps.0.0 in
    rw (← all) (has_written_append _ _ _ _ _ _ (c.loop-c.invariant.1 p) (search rules))
