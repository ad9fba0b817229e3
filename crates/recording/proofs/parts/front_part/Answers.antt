use Rattle.std.proofs.Common.{◌≡◌, ◌-◌, ◌∙◌, sym, ap, arith, Ok, Option}
use Rattle.recording.specs.Captured.{RecordValue}
use Rattle.recording.specs.View.{given_in, view_block}
use Rattle.recording.proofs.RangeLemmas.{given-behind}
use Rattle.recording.proofs.SectionLemmas.{blocks_meaning}
use Rattle.recording.proofs.parts.front_part.Goals as goal

pub returns-in_ok-packet-in-Blocks-clause-meaning : goal.returns-in_ok-packet-in-Blocks-clause-meaning
returns-in_ok-packet-in-Blocks-clause-meaning c =
    let b = c.in_ok-block-in-Blocks in
    let k = c.in_ok-packet-in-Blocks in
    let given : given_in b.block.body.now k.packet ≡ given_in c.args.rest.now c.behind.result =
    given-behind c.args.rest.now b.block.body.now 8 (b.len - 4) k.packet b.ensures.body (omega (arith, b.ensures.within.0)) k.ensures.within
    ∙ ap (given_in c.args.rest.now) (sym c.behind.ensures) in
    rw c.in-Blocks.is
    (blocks_meaning c.in-Blocks.order c.args.interfaces.now.items c.args.place c.args.rest.now (view_block b.block) _ b.ensures.none b.ensures.block
    (k.ensures.ok ∙ ap (λ (m : Option RecordValue). Ok m) given))
