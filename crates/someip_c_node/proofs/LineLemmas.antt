-- From the parts of a line to the step that it spells.
use Rattle.std.proofs.Common.{◌≡◌, ◌∙◌, sym, ap, subst, ℕ, List}
use Rattle.std.specs.Prelude.{Bool, true, if◌then◌else◌, None, Some, Result}
use Rattle.std.specs.Str.{is_utf8}
use Rattle.someip_world_schedule.specs.declared.step.Step.{Step}
use Rattle.someip_world_schedule.specs.declared.step_words.WordFault.{WordFault}
use Rattle.someip_world_schedule.specs.StepWords.{◌>>=◌, IsReadOf, cut_in}
use Rattle.someip_c_node.specs.Acts.{step_of_parts, step_without_node}

pub cut_read : (line text word others : List ℕ) (read : Result Step WordFault) → text ≡ line → is_utf8 line ≡ true → cut_in 0x20 text ≡ Some (word, others)
    → IsReadOf (step_of_parts (word, others)) read → IsReadOf (step_without_node line) read
cut_read line text word others read same utf8 cut is =
    let whole : step_without_node line ≡ (cut_in 0x20 line >>= step_of_parts) = ap (λ (b : Bool). if b then cut_in 0x20 line >>= step_of_parts else None) utf8 in
    let parts : (cut_in 0x20 line >>= step_of_parts) ≡ step_of_parts (word, others) = ap (λ o. o >>= step_of_parts) (sym (ap (cut_in 0x20) same) ∙ cut) in
    subst (λ found. IsReadOf found read) (sym (whole ∙ parts)) is
