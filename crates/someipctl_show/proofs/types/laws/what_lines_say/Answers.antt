use Rattle.std.proofs.Common.{ℕ, List, Some, None, codes, ap, refl, ◌∙◌}
use Rattle.someip_payload_values.specs.Check.{checked}
use Rattle.someip_payload_codec.specs.Reading.{decoded, data_by, members_at, ordered_at}
use Rattle.someip_payload_values.specs.Data.{Data, uint, tuple, item, no_items}
use Rattle.someip_payload_values.specs.ToldText.{IsToldOf}
use Rattle.someip_payload_values.specs.ValueText.{data_text}
use Rattle.someip_payload_values.proofs.ToldTexts.{one_text as one_telling}
use Rattle.std.specs.Fmt.{digits}
use Rattle.someipctl_show.specs.types.ValueLine.{read_line}
use Rattle.someipctl_show.proofs.types.laws.what_lines_say.Goals as goal

-- the value of both members
abbrev two : ℕ → Data
two n = tuple (item (uint 42) (item (uint n) no_items))

pub returns-clause-value : goal.returns-clause-value
unfolding checked decoded data_by members_at ordered_at data_text digits IsToldOf
returns-clause-value c =
    λ line. (
      λ is. is.2 ∙ ap (λ (t : List ℕ). read_line 3 (Some (codes "speed")) t 3 3) (one_telling _ (two 7) is.0 refl is.1),
      λ e. (codes "(42,7)", (two 7, (refl, (refl, tt)), refl), e),
    )

pub returns-clause-front : goal.returns-clause-front
unfolding checked decoded data_by members_at ordered_at data_text digits IsToldOf
returns-clause-front c =
    λ line. (
      λ is. is.2 ∙ ap (λ (t : List ℕ). read_line 3 (Some (codes "speed")) t 3 4) (one_telling _ (two 7) is.0 refl is.1),
      λ e. (codes "(42,7)", (two 7, (refl, (refl, tt)), refl), e),
    )

pub returns-clause-fault : goal.returns-clause-fault
unfolding checked decoded data_by members_at ordered_at data_text digits
returns-clause-fault c = λ line. (λ is. is, λ is. is)

pub returns-clause-nameless : goal.returns-clause-nameless
unfolding checked decoded data_by members_at ordered_at data_text digits IsToldOf
returns-clause-nameless c =
    λ line. (
      λ is. is.2 ∙ ap (λ (t : List ℕ). read_line 3 None t 3 3) (one_telling _ (two 7) is.0 refl is.1),
      λ e. (codes "(42,7)", (two 7, (refl, (refl, tt)), refl), e),
    )

pub returns-clause-good : goal.returns-clause-good
unfolding checked decoded data_by members_at ordered_at data_text digits
returns-clause-good c = refl

pub returns-clause-bad : goal.returns-clause-bad
unfolding checked decoded data_by members_at ordered_at data_text digits
returns-clause-bad c = refl

pub returns-clause-named : goal.returns-clause-named
unfolding checked decoded data_by members_at ordered_at data_text digits IsToldOf
returns-clause-named c =
    λ line. (
      λ is. is.2 ∙ ap (λ (t : List ℕ). read_line 3 (Some (codes "speed")) t 3 3) (one_telling _ (two 3) is.0 refl is.1),
      λ e. (codes "(speed=42,gear=D)", (two 3, (refl, (refl, tt)), refl), e),
    )

pub returns-clause-unnamed : goal.returns-clause-unnamed
unfolding checked decoded data_by members_at ordered_at data_text digits IsToldOf
returns-clause-unnamed c =
    λ line. (
      λ is. is.2 ∙ ap (λ (t : List ℕ). read_line 3 (Some (codes "speed")) t 3 3) (one_telling _ (two 4) is.0 refl is.1),
      λ e. (codes "(speed=42,gear=4)", (two 4, (refl, (refl, tt)), refl), e),
    )
