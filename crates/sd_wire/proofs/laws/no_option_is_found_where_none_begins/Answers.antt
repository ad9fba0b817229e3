use Rattle.std.proofs.Common.{◌≡◌, ℕ, List, ◌++◌, drop, Option, Some, None, sym, ap, ◌∙◌, refl}
use Rattle.sd_wire.specs.declared.option.SdOption.{SdOption}
use Rattle.sd_wire.specs.layout.Fields.{IsBytes}
use Rattle.sd_wire.specs.layout.Spelling.{option_bytes}
use Rattle.sd_wire.specs.decoding.Reading.{SpellsOption}
use Rattle.sd_wire.specs.decoding.Faults.{option_size}
use Rattle.sd_wire.specs.decoding.Program.{option_in}
use Rattle.sd_wire.proofs.decoding.OptionLemmas.{has_option}
use Rattle.sd_wire.proofs.spelled.OptionSpelling.{is_front}
use Rattle.sd_wire.proofs.spelled.OptionRead.{option_read}
use Rattle.sd_wire.proofs.laws.no_option_is_found_where_none_begins.Goals as goal

BeginsWithNone : List ℕ → Type 0
BeginsWithNone bytes = (o : SdOption) (first rest : List ℕ) → bytes ≡ first ++ rest → SpellsOption o first → ⊥

begins_with_none : (bytes : List ℕ) → option_size bytes ≡ None → BeginsWithNone bytes
unfolding BeginsWithNone
begins_with_none bytes none = λ o first rest is spells.
    let read = option_read o first rest spells in
    let both = sym none ∙ ap option_size is ∙ read.size in
    cc

none_is_found : (bytes : List ℕ) → IsBytes bytes → BeginsWithNone bytes → option_size bytes ≡ None
unfolding BeginsWithNone
none_is_found bytes fits begins =
    let P : Option ℕ → Type 0 = λ n. option_size bytes ≡ n → n ≡ None in
    (elim (option_size bytes) as P [
      | None ↦ λ e. refl
      | Some n ↦ λ e.
          let front = is_front n bytes fits (has_option bytes n e) in
          let o = option_in bytes in
          let first = option_bytes front.reserved1 front.reserved2 o in
          let spells : SpellsOption o first = record { reserved1 = front.reserved1; reserved2 = front.reserved2; is = refl; fits = front.fits } in
          absurd (begins o first (drop n bytes) (sym front.is) spells)
    ]) refl

pub returns : goal.returns
unfolding BeginsWithNone
returns c = λ bytes fits. (begins_with_none bytes, none_is_found bytes fits)
