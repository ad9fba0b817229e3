use Rattle.std.proofs.Common.{◌∷◌, [], ap, ◌∙◌}
use Rattle.std.proofs.Output.{has_written_of_eq}
use Rattle.std.proofs.lemmas.List.{take_all}
use Rattle.std.specs.List.{flat_map}
use Rattle.hex.specs.Hex.{encode_lower}
use Rattle.someip_texts.proofs.HexTexts.{each_byte}
use Rattle.someip_texts.proofs.word.write_hex.Goals as goal

pub returns : goal.returns
returns g c p done =
    has_written_of_eq _ _ _ _ _ (ap (flat_map (λ b. encode_lower (b ∷ []))) (take_all c.loop-byte.byte-index c.args.bytes.now c.loop-byte-test.false) ∙ each_byte c.args.bytes.now) (c.loop-byte.invariant p)
