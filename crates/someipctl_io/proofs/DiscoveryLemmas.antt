-- Lists of entries and options, printed one by one.
use Rattle.std.proofs.Common.{◌≡◌, ℕ, ◌+◌, ◌<◌, ◌≤◌, List, [], ◌∷◌, ◌++◌, length, get_or, drop, codes, sym, ap, ◌∙◌, arith}
use Rattle.std.specs.List.{flat_map}
use Rattle.std.proofs.lemmas.List.{drop_more}
use Rattle.sd_wire.specs.declared.SdOption.{SdOption}
use Rattle.someipctl_io.specs.Options.{option_text, run_text}

-- the next of the elements that are left
pub next_left : {X : Type 0} (xs : List X) (i : ℕ) (x : X) → i < length xs → x ≡ get_or xs i x → drop i xs ≡ x ∷ drop (i + 1) xs
next_left xs i x lt is = drop_more xs i x lt ∙ ap (λ y. y ∷ drop (i + 1) xs) (sym is)

-- a run with options is its first one and the others
pub run_of : (run : List SdOption) (first : SdOption) → 1 ≤ length run → first ≡ get_or run 0 first → run_text run ≡ option_text first ++ flat_map (λ other. codes ", " ++ option_text other) (drop 1 run)
run_of [] first some is = absurd (omega (arith, some))
run_of (o ∷ os) first some is = ap (λ x. option_text x ++ flat_map (λ other. codes ", " ++ option_text other) os) (sym is)
