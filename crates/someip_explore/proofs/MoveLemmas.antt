-- The words of moves, by how many there are.
use Rattle.std.proofs.Common.{◌≡◌, ℕ, Bool, true, false, ◌&&◌, if◌then◌else◌, List, [], ◌∷◌, length, get_or, codes, bytes_eq, Bor, Result, refl, sym, ap, subst, ◌∙◌, arith}
use Rattle.std.specs.List.{AllByRecursion}
use Rattle.someip_world_schedule.specs.declared.step_words.WordFault.{WordFault}
use Rattle.someip_world_schedule.specs.StepWords.{IsReadOf}
use Rattle.someip_world_schedule.specs.Steps.{IsUnparted, joined_by_blanks, words_in}
use Rattle.someip_world_schedule.proofs.LineLemmas.{only_words}
use Rattle.someip_world_schedule.proofs.StepLemmas.{past, texts, three}
use Rattle.someip_explore.specs.declared.moves.Move.{Move}
use Rattle.someip_explore.specs.MoveWords.{any_answer, answer_move, deliveries_to, is_answer_word, is_star, move_of_words, plain_move}

-- a list of five words
pub five : (ws : List (Bor (List ℕ))) → length ws ≡ 5
    → texts ws ≡ (get_or ws 0 past).now ∷ (get_or ws 1 past).now ∷ (get_or ws 2 past).now ∷ (get_or ws 3 past).now ∷ (get_or ws 4 past).now ∷ []
five [] h = absurd (omega (arith, h))
five (a ∷ []) h = absurd (omega (arith, h))
five (a ∷ b ∷ []) h = absurd (omega (arith, h))
five (a ∷ b ∷ c ∷ []) h = absurd (omega (arith, h))
five (a ∷ b ∷ c ∷ e ∷ []) h = absurd (omega (arith, h))
five (a ∷ b ∷ c ∷ e ∷ f ∷ []) h = refl
five (a ∷ b ∷ c ∷ e ∷ f ∷ g ∷ ws) h = absurd (omega (arith, h))

-- other numbers of words are those of no answer with a star, and of no delivery with one
pub not_five : (ws : List (Bor (List ℕ))) → (length ws ≡ 5 → ⊥) → answer_move (texts ws) ≡ plain_move (texts ws)
not_five [] h = refl
not_five (a ∷ []) h = refl
not_five (a ∷ b ∷ []) h = refl
not_five (a ∷ b ∷ c ∷ []) h = refl
not_five (a ∷ b ∷ c ∷ e ∷ []) h = refl
not_five (a ∷ b ∷ c ∷ e ∷ f ∷ []) h = absurd (h refl)
not_five (a ∷ b ∷ c ∷ e ∷ f ∷ g ∷ ws) h = refl

pub not_three : (ws : List (Bor (List ℕ))) → (length ws ≡ 3 → ⊥) → move_of_words (texts ws) ≡ answer_move (texts ws)
not_three [] h = refl
not_three (a ∷ []) h = refl
not_three (a ∷ b ∷ []) h = refl
not_three (a ∷ b ∷ c ∷ []) h = absurd (h refl)
not_three (a ∷ b ∷ c ∷ e ∷ ws) h = refl

-- ---- what comes of a reading

-- the step of a line is that of its words
pub plain_read : (line : List ℕ) (words : List (List ℕ)) (read : Result Move WordFault) → words ≡ words_in line → IsReadOf (plain_move (words_in line)) read → IsReadOf (plain_move words) read
plain_read line words read is plain = subst (λ ws. IsReadOf (plain_move ws) read) (sym is) plain

-- five words
module _ (ws : List (Bor (List ℕ))) (len : length ws ≡ 5) (read : Result Move WordFault) where
  abbrev word : ℕ → List ℕ
  word i = (get_or ws i past).now

  pub answer_read : true ≡ (is_answer_word (word 0) && is_star (word 2)) → IsReadOf (any_answer (word 0) (word 1) (word 3) (word 4)) read → IsReadOf (answer_move (texts ws)) read
  answer_read test found =
      let is : answer_move (texts ws) ≡ any_answer (word 0) (word 1) (word 3) (word 4) =
      ap answer_move (five ws len)
      ∙ ap (λ b. if b then any_answer (word 0) (word 1) (word 3) (word 4) else plain_move (word 0 ∷ word 1 ∷ word 2 ∷ word 3 ∷ word 4 ∷ [])) (sym test) in
      subst (λ m. IsReadOf m read) (sym is) found

  pub no_answer_read : false ≡ (is_answer_word (word 0) && is_star (word 2)) → IsReadOf (plain_move (texts ws)) read → IsReadOf (answer_move (texts ws)) read
  no_answer_read test found =
      let is : answer_move (texts ws) ≡ plain_move (texts ws) =
      ap answer_move (five ws len)
      ∙ ap (λ b. if b then any_answer (word 0) (word 1) (word 3) (word 4) else plain_move (word 0 ∷ word 1 ∷ word 2 ∷ word 3 ∷ word 4 ∷ [])) (sym test)
      ∙ sym (ap plain_move (five ws len)) in
      subst (λ m. IsReadOf m read) (sym is) found

-- three words
module _ (ws : List (Bor (List ℕ))) (len : length ws ≡ 3) (read : Result Move WordFault) where
  abbrev one : ℕ → List ℕ
  one i = (get_or ws i past).now

  pub delivery_read : true ≡ (bytes_eq (one 0) (codes "deliver") && is_star (one 1)) → IsReadOf (deliveries_to (one 2)) read → IsReadOf (move_of_words (texts ws)) read
  delivery_read test found =
      let is : move_of_words (texts ws) ≡ deliveries_to (one 2) =
      ap move_of_words (three ws len) ∙ ap (λ b. if b then deliveries_to (one 2) else plain_move (one 0 ∷ one 1 ∷ one 2 ∷ [])) (sym test) in
      subst (λ m. IsReadOf m read) (sym is) found

  pub no_delivery_read : false ≡ (bytes_eq (one 0) (codes "deliver") && is_star (one 1)) → IsReadOf (plain_move (texts ws)) read → IsReadOf (move_of_words (texts ws)) read
  no_delivery_read test found =
      let is : move_of_words (texts ws) ≡ plain_move (texts ws) =
      ap move_of_words (three ws len) ∙ ap (λ b. if b then deliveries_to (one 2) else plain_move (one 0 ∷ one 1 ∷ one 2 ∷ [])) (sym test)
      ∙ sym (ap plain_move (three ws len)) in
      subst (λ m. IsReadOf m read) (sym is) found

-- the line of an answer to the token 0 has its words
pub words_to_first : (word node code payload : List ℕ) → AllByRecursion IsUnparted (word ∷ node ∷ code ∷ payload ∷ [])
    → words_in (joined_by_blanks (word ∷ node ∷ codes "0" ∷ code ∷ payload ∷ [])) ≡ word ∷ node ∷ codes "0" ∷ code ∷ payload ∷ []
words_to_first word node code payload all =
    only_words word (node ∷ codes "0" ∷ code ∷ payload ∷ []) (all.0, (all.1.0, (refl, (all.1.1.0, (all.1.1.1.0, tt)))))
