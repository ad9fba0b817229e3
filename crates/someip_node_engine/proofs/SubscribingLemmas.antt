-- Entries that are added for each of several things.
use Rattle.std.proofs.Common.{◌≡◌, ℕ, ◌+◌, ◌<◌, List, ◌++◌, length, get_or, drop, ap, sym, ◌∙◌, append_assoc}
use Rattle.std.specs.List.{flat_map}
use Rattle.std.proofs.lemmas.List.{at_drop_more}

-- once those of one thing were added, those of the things that are left are what they were with it
pub one_added : {X Y : Type 0} (f : X → List Y) (xs : List X) (i : ℕ) (d : X) (before after all : List Y) → i < length xs
    → after ≡ before ++ f (get_or xs i d) → before ++ flat_map f (drop i xs) ≡ all
    → after ++ flat_map f (drop (i + 1) xs) ≡ all
one_added f xs i d before after all lt added left =
    ap (λ ys. ys ++ flat_map f (drop (i + 1) xs)) added ∙ append_assoc before (f (get_or xs i d)) (flat_map f (drop (i + 1) xs))
    ∙ ap (λ ys. before ++ ys) (sym (at_drop_more (flat_map f) xs i d lt)) ∙ left
