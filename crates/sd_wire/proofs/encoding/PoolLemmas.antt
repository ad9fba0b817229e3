-- Runs in a pool of options.
use Rattle.std.proofs.Common.{◌≡◌, ℕ, ◌+◌, ◌<◌, List, [], ◌∷◌, ◌++◌, length, get_or, drop, sym, ap, ◌∙◌, arith}
use Rattle.std.proofs.lemmas.List.{length-drop, get_or-drop, take_more}
use Rattle.sd_wire.specs.declared.option.SdOption.{SdOption}
use Rattle.sd_wire.specs.decoding.Reading.{selected}

abbrev Pool : Type 0
Pool = List SdOption

-- one more option of a run
pub selected-more : (pool : Pool) (index i : ℕ) (o : SdOption) → index + i < length pool → o ≡ get_or pool (index + i) o → selected pool index (i + 1) ≡ selected pool index i ++ o ∷ []
selected-more pool index i o lt is =
    let behind : get_or (drop index pool) i o ≡ o = get_or-drop index pool i o ∙ sym is in
    take_more (drop index pool) i o (omega (arith, length-drop index pool, lt)) ∙ ap (λ (x : SdOption). selected pool index i ++ x ∷ []) behind
