-- What a watcher hears.
use Rattle.std.proofs.Common.{◌≡◌, ℕ, ◌+◌, ◌*◌, ◌/◌, ◌%◌, suc, List, [], ◌∷◌, ◌++◌, map, refl, sym, ap, subst, ◌∙◌, Result, Ok, Err, arith}
use Rattle.std.proofs.lemmas.List.{map-append}
use Rattle.std.specs.Result.{IsErr}
use Rattle.someip_explore.specs.Moves.{numbers_to}
use Rattle.someip_explore.specs.Watching.{HearsAll, HearsOf, Watched, millions_to}

another_million : (n : ℕ) → (n + 1) % 1_000_000 ≡ 0 → millions_to (n + 1) ≡ millions_to n ++ (n + 1) ∷ []
another_million n is =
    let one : (n + 1) / 1_000_000 ≡ suc (n / 1_000_000) = omega (arith, is) in
    let whole : suc (n / 1_000_000) * 1_000_000 ≡ n + 1 = omega (arith, is) in
    ap (λ k. map (λ millions. millions * 1_000_000) (numbers_to k)) one
    ∙ map-append (λ millions. millions * 1_000_000) (numbers_to (n / 1_000_000)) (suc (n / 1_000_000) ∷ [])
    ∙ ap (λ k. millions_to n ++ k ∷ []) whole

module _ {W : Type 0} (hears : W → ℕ → W → Type 0) where
  -- one number more
  heard_more : (numbers : List ℕ) (number : ℕ) (a b c : W) → HearsAll hears numbers a b → hears b number c → HearsAll hears (numbers ++ number ∷ []) a c
  heard_more [] number a b c heard more = (c, subst (λ w. hears w number c) heard more, refl)
  heard_more (x ∷ xs) number a b c heard more = (heard.0, heard.1, heard_more xs number heard.0 b c heard.2 more)

  -- the next schedule makes another million, of which the watcher hears
  pub heard_next : (judged : ℕ) (first old new : W) → (judged + 1) % 1_000_000 ≡ 0 → HearsOf hears judged first old → hears old (judged + 1) new → HearsOf hears (judged + 1) first new
  heard_next judged first old new is heard next =
      subst (λ numbers. HearsAll hears numbers first new) (sym (another_million judged is)) (heard_more (millions_to judged) (judged + 1) first old new heard next)

  -- an error tells nothing of how many were judged
  pub watched_until : {A E : Type 0} (judged : A → ℕ) (r : Result A E) (old new : W) → IsErr r → ((count : ℕ) × HearsOf hears count old new) → Watched hears judged r old new
  watched_until judged (Ok found) old new is heard = absurd cc
  watched_until judged (Err error) old new is heard = heard
