-- Datagrams in order, and what an account tells of them.
use Rattle.std.proofs.Common.{◌≡◌, ◌⊎◌, inl, inr, ℕ, suc, ◌+◌, List, [], ◌∷◌, ◌++◌, length, Option, None, Some, refl, sym, ap, subst, ◌∙◌, append_assoc, append-nil, arith}
use Rattle.recording_packets.specs.Intake.{ArrivalValue}
use Rattle.someipctl_accounts.specs.Accounts.{Came, TakesAll, came_from, came_in, came_next, latest_of}
use Rattle.someipctl_recordings.specs.Moments.{moment_of}

pub came-append : (n l : ℕ) (xs ys : List ArrivalValue) → came_from n l (xs ++ ys) ≡ came_from n l xs ++ came_from (n + length xs) (latest_of l xs) ys
came-append n l [] ys =
    let same : n ≡ n + 0 = omega arith in
    ap (λ k. came_from k l ys) same
came-append n l (a ∷ xs) ys =
    let same : (n + 1) + length xs ≡ n + suc (length xs) = omega arith in
    ap (λ (q : List Came). came_next n l a ∷ q)
    (came-append (n + 1) (moment_of l a.datagram.time) xs ys
    ∙ ap (λ k. came_from (n + 1) (moment_of l a.datagram.time) xs ++ came_from k (latest_of (moment_of l a.datagram.time) xs) ys) same)

pub latest-append : (l : ℕ) (xs ys : List ArrivalValue) → latest_of l (xs ++ ys) ≡ latest_of (latest_of l xs) ys
latest-append l [] ys = refl
latest-append l (a ∷ xs) ys = latest-append (moment_of l a.datagram.time) xs ys

module _ {A : Type 0} (takes : A → Came → List ℕ → A → Type 0) where
  pub takes-append : (a b d : A) (xs ys : List Came) (t u : List ℕ) → TakesAll takes a xs t b → TakesAll takes b ys u d → TakesAll takes a (xs ++ ys) (t ++ u) d
  takes-append a b d [] ys t u (none, same) more =
      subst (λ (s : List ℕ). TakesAll takes a ys (s ++ u) d) (sym none) (subst (λ (s : A). TakesAll takes s ys u d) same more)
  takes-append a b d (x ∷ xs) ys t u (first, rest, between, one, others, is) more =
      (first, rest ++ u, between, one, takes-append between b d xs ys rest u others more, ap (λ s. s ++ u) is ∙ append_assoc first rest u)

  -- one more
  pub takes_one : (a b : A) (x : Came) (t : List ℕ) → takes a x t b → TakesAll takes a (x ∷ []) t b
  takes_one a b x t one = (t, [], b, one, (refl, refl), sym (append-nil t))

  -- one more arrival
  pub takes_more : (a b d : A) (xs : List ArrivalValue) (x : ArrivalValue) (t u : List ℕ) (n l : ℕ) → n ≡ length xs → l ≡ latest_of 0 xs
      → TakesAll takes a (came_in xs) t b → takes b (came_next n l x) u d → TakesAll takes a (came_in (xs ++ x ∷ [])) (t ++ u) d
  takes_more a b d xs x t u n l count moment all one =
      subst (λ (q : List Came). TakesAll takes a q (t ++ u) d) (sym (came-append 0 0 xs (x ∷ []) ∙ same))
      (takes-append a b d (came_in xs) (came_next n l x ∷ []) t u all (takes_one b d (came_next n l x) u one))
    where
      there : 0 + length xs ≡ n
      there = omega (arith, count)

      same : came_in xs ++ came_from (0 + length xs) (latest_of 0 xs) (x ∷ []) ≡ came_in xs ++ came_next n l x ∷ []
      same = ap (λ k. came_in xs ++ came_from k (latest_of 0 xs) (x ∷ [])) there ∙ ap (λ k. came_in xs ++ came_from n k (x ∷ [])) (sym moment)
