use Rattle.std.proofs.Common.{◌≡◌, ◌∙◌, ap, arith, slice_range}
use Rattle.sd_wire.proofs.spelled.FieldLemmas.{field16_fits, length-slice}
use Rattle.sd_wire.specs.layout.Fields.{IsBytes}
use Rattle.sd_wire.proofs.option_reading.raw.Goals as goal

pub kept-requires : goal.kept-requires
kept-requires c =
    let bytes : IsBytes c.args.bytes.now = λ i. omega (arith, c.type_inv.bytes i) in
    let has = c.requires.option in
    let items : c.in_ok-content-2.content.value.items ≡ slice_range c.args.bytes.now 3 c.args.size = ap (λ v. v.items) c.in_ok-content-2.ensures.ok ∙ c.in_ok-content.ensures.items in
    let len = length-slice c.args.bytes.now 3 c.args.size (omega (arith, has.size)) has.within in
    record {
      unknown = c.requires.unknown;
      some = rw items (omega (arith, len, has.size, has.some));
      fits = rw items (omega (arith, len, has.size, field16_fits c.args.bytes.now 0 bytes));
    }
