use Rattle.std.proofs.Common.{◌∙◌, sym, arith, rules}
use Rattle.std.proofs.lemmas.Fn.{filter_same}
use Rattle.someipctl_extract.proofs.KeptLemmas.{cleaned-many}
use Rattle.someipctl_extract.proofs.kept.clean.Goals as goal

pub returns-then-len-gt-MOST : goal.returns-then-len-gt-MOST
returns-then-len-gt-MOST c =
    filter_same _ _ _ (λ x b f' k. search rules) _ _ c.retain.ensures.filtered
    ∙ sym (cleaned-many c.args.intake.now.fragments.parts c.args.parts.now.items (omega (arith, c.len.ensures, c.if-len-gt-MOST.true)))
