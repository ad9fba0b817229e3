use Rattle.std.proofs.Common.{◌++◌, ap, ◌∙◌, refl}
use Rattle.someip_reassembly.proofs.SliceLemmas.{bytes_once_put, one_text_once_put}
use Rattle.someip_reassembly.proofs.partial.put.Goals as goal

pub returns-clause-ok : goal.returns-clause-ok
returns-clause-ok c =
    bytes_once_put c.args.slices.now.items c.insert.new.self.items c.index_for-at.result _ c.args.offset c.args.bytes.now c.in_ok-insert.ensures.items refl
    (c.in_ok-extend_from_slice.ensures.items ∙ ap (λ bs. bs ++ c.args.bytes.now) c.new-kept.ensures.items) c.requires.agree

pub returns-clause-one_text : goal.returns-clause-one_text
returns-clause-one_text c =
    one_text_once_put c.args.slices.now.items c.insert.new.self.items c.index_for-at.result _ c.args.offset c.args.bytes.now c.in_ok-insert.ensures.items refl
    (c.in_ok-extend_from_slice.ensures.items ∙ ap (λ bs. bs ++ c.args.bytes.now) c.new-kept.ensures.items) c.requires.agree c.requires.one_text
