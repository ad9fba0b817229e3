-- The numbers of datagrams, and what is left of the lines of a trace.
use Rattle.std.proofs.Common.{◌≡◌, ℕ, ◌+◌, ◌<◌, ◌≤◌, Bool, true, false, ◌||◌, List, [], ◌∷◌, ◌++◌, length, take, drop, get_or, Option, None, Some, is_some, refl, sym, ap, ◌∙◌, arith, length-append}
use Rattle.std.proofs.lemmas.List.{at_drop_more, take_more}
use Rattle.std.proofs.lemmas.List.Elements.{filter_map-append}
use Rattle.someip_world_rules.specs.Datagrams.{SentDatagram, datagram_in, datagrams_in}
use Rattle.someip_world_rules.specs.declared.line.Line.{Line}
use Rattle.someip_world_setup.specs.declared.setup_node.SetupNode.{SetupNode}
use Rattle.someip_explore.specs.Goals.{Goal, line_reaches, next_number, number_after, reaches_behind}

-- how many datagrams a line adds
abbrev one_if : Bool → ℕ
one_if true = 1
one_if false = 0

one_line : (line : Line) (found : Option SentDatagram) → datagram_in line ≡ found → length (datagrams_in (line ∷ [])) ≡ one_if (is_some found)
one_line line None is = rw is refl
one_line line (Some d) is = rw is refl

after : (number : ℕ) (line : Line) (found : Option SentDatagram) → datagram_in line ≡ found → number_after number line ≡ number + one_if (is_some found)
after number line None is = rw is (omega arith)
after number line (Some d) is = rw is refl

next_append : (before : List Line) (line : Line) → number_after (next_number before) line ≡ next_number (before ++ line ∷ [])
next_append before line =
    let found = datagram_in line in
    let longer = ap length (filter_map-append datagram_in before (line ∷ [])) ∙ length-append (datagrams_in before) (datagrams_in (line ∷ [])) in
    let one = one_line line found refl in
    after (next_number before) line found refl ∙ omega (arith, longer, one)

pub numbered_on : (lines : List Line) (i : ℕ) (line : Line) → i < length lines → line ≡ get_or lines i line → number_after (next_number (take i lines)) line ≡ next_number (take (i + 1) lines)
numbered_on lines i line lt is = next_append (take i lines) line ∙ ap next_number (ap (λ x. take i lines ++ x ∷ []) is ∙ sym (take_more lines i line lt))

-- a number goes up by one at most
pub number_within : (number : ℕ) (line : Line) → number_after number line ≤ number + 1
number_within number line = let found = datagram_in line in cases found (after number line found refl)
  where
    cases : (found : Option SentDatagram) → number_after number line ≡ number + one_if (is_some found) → number_after number line ≤ number + 1
    cases None is = omega (arith, is)
    cases (Some d) is = omega (arith, is)

module _ (nodes : List SetupNode) (goal : Goal) (done : ℕ) (lines : List Line) (i : ℕ) (line : Line) (lt : i < length lines) (is : line ≡ get_or lines i line) where
  -- the line that is next decides, or what is left after it
  next_line : reaches_behind nodes goal done (take i lines) (drop i lines)
      ≡ (line_reaches nodes goal done (take i lines) line || reaches_behind nodes goal done (take (i + 1) lines) (drop (i + 1) lines))
  next_line =
      at_drop_more (reaches_behind nodes goal done (take i lines)) lines i line lt
      ∙ ap (λ x. reaches_behind nodes goal done (take i lines) (x ∷ drop (i + 1) lines)) (sym is)
      ∙ ap (λ before. line_reaches nodes goal done (take i lines) line || reaches_behind nodes goal done before (drop (i + 1) lines))
      (ap (λ x. take i lines ++ x ∷ []) is ∙ sym (take_more lines i line lt))

  pub line_does : line_reaches nodes goal done (take i lines) line ≡ true → reaches_behind nodes goal done (take i lines) (drop i lines) ≡ true
  line_does e = next_line ∙ ap (λ b. b || reaches_behind nodes goal done (take (i + 1) lines) (drop (i + 1) lines)) e

  pub line_does_not : line_reaches nodes goal done (take i lines) line ≡ false
      → reaches_behind nodes goal done (take (i + 1) lines) (drop (i + 1) lines) ≡ reaches_behind nodes goal done (take i lines) (drop i lines)
  line_does_not e = sym (next_line ∙ ap (λ b. b || reaches_behind nodes goal done (take (i + 1) lines) (drop (i + 1) lines)) e)
