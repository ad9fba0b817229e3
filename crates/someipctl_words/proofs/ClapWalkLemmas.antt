-- What holds of a walk over words that has no fault.
use Rattle.std.proofs.Common.{◌≡◌, ◌∙◌, ◌<◌, ◌&&◌, ◌||◌, ℕ, Bool, cond, true, false, not, zero, suc, refl, sym, ap, arith, List, [], ◌∷◌, ◌++◌, length, Option, Some, None, IfSome, is_some, codes, true≢false, nat_lt, length-append}
use Rattle.std.specs.Prelude.{find, fold, option_and_then, slice_get}
use Rattle.std.specs.List.{list_all, list_any}
use Rattle.std.specs.Option.{option_map_or}
use Rattle.std.specs.Str.{bytes_eq, chars}
use Rattle.std.proofs.lemmas.Slice.Eq.{bytes_eq-Decides}
use Rattle.clap.specs.Facts.{explicit_source, unwrap_or_range}
use Rattle.clap.specs.Lexer.{long_of, short_of}
use Rattle.clap.specs.Kinds.{Kinds, check_kinds, or_else, range_kinds, request_kinds}
use Rattle.clap.specs.Values.{is_request}
use Rattle.clap.specs.Walk.{Held, Names, Outcome, Row, Rule, Step, Text, Waiting, Walk, after_flag, after_step, action_of, arg_by_id, arg_by_index, arg_by_long, arg_by_short, at_row, attached_value, bundle, bundle_met, bundle_step, flag_met, has_long, has_short, default_rows, done, finished, first_of, has_row, idle, is_pending, long_met, long_or_other, more_values, next, nothing_held, option, option_met, option_word, plain, plain_word, positional, reacted, reading_by, refused, rows_after, settled, settled_rows, short_met, short_or_plain, stop_after, subcommand, subcommand_met, subcommand_or_other, takes_several, takes_values, to_positional, trailing, used, used_as, used_by_id, value, waits, walk, walk_from, walked, walked_from, with_default, with_values, without, word_met}
use Rattle.clap.specs.Faults.{built_fault, bundle_fault, bundle_step_fault, check_fault, entered_fault, flag_word_fault, flags_fault, level_fault, long_fault, option_fault, other_fault, positional_fault, react_fault, settle_fault, short_fault, step_fault, stray_fault, turn_fault, use_fault, walk_fault, word_fault}
use Rattle.clap.specs.Simple.{App, Shape, entered, names_of}
use Rattle.clap.specs.Takes.{is_given}
use Rattle.clap.specs.declared.builder.ArgAction.{ArgAction}
use Rattle.clap.specs.declared.builder.ArgAction.TheVariants as action
use Rattle.clap.specs.declared.parser.ValueSource.TheVariants.{CommandLine, DefaultValue}
use Rattle.clap.specs.declared.error.ErrorKind.TheVariants as kind
use Rattle.clap.specs.declared.parser.ValueSource.{ValueSource}
use Rattle.clap.proofs.WalkLemmas.{both}
use Rattle.clap.proofs.FaultLemmas.{request_fault}

-- ---- faults, one after the other

pub or_nil : (a b : Kinds) → or_else a b ≡ [] → (a ≡ []) × (b ≡ [])
or_nil [] b e = (refl, e)
or_nil (k ∷ ks) b e = absurd cc

-- a property of the walk that each word without a fault keeps is kept by all of them
pub walk_keeps : (P : Walk → Type 0) (s : Shape) (names : Names)
    → ((w : Walk) (word : Text) → turn_fault s names w word ≡ [] → P w → P (walked s.rules names w word))
    → (words : List Text) (w : Walk) → walk_fault s names w words ≡ [] → P w → P (fold (walked s.rules names) w words)
unfolding walk_fault
walk_keeps P s names step [] w none h = h
walk_keeps P s names step (word ∷ rest) w none h =
    let parts = or_nil _ _ none in
    walk_keeps P s names step rest (walked s.rules names w word) parts.1 (step w word parts.0 h)

-- ---- a word that calls for help is a fault

-- the step enters no subcommand
abbrev IsInside : Step → Type 0
IsInside (subcommand name) = ⊥
IsInside _ = Unit {0}

plain_inside : (c : List Rule) (waiting : Waiting) (word : Text) (h : Held) → IsInside (plain_word c waiting word h).1
plain_inside c (option id) word h = tt
plain_inside c idle word h = tt
plain_inside c positional word h = tt

flag_inside : (c : List Rule) (waiting : Waiting) (word : Text) (h : Held) (o : Outcome) → IsInside (after_flag c waiting word h o).1
flag_inside c waiting word h done = tt
flag_inside c waiting word h (waits id) = tt
flag_inside c waiting word h plain = plain_inside c waiting word h
flag_inside c waiting word h refused = plain_inside c waiting word h

short_inside : (c : List Rule) (waiting : Waiting) (word : Text) (flags : Option Text) (h : Held) → IsInside (short_or_plain c waiting word flags h).1
short_inside c waiting word None h = plain_inside c waiting word h
short_inside c waiting word (Some flags) h = flag_inside c waiting word _ _

long_inside : (c : List Rule) (waiting : Waiting) (word : Text) (name : Option (Text × Option Text)) (h : Held) → IsInside (long_or_other c waiting word name h).1
long_inside c waiting word (Some p) h = flag_inside c waiting word _ _
long_inside c waiting word None h = short_inside c waiting word (short_of word) h

-- the subcommand that a walk entered is not `help`
abbrev pub EntersNoHelp : Option (Text × List Text) → Type 0
EntersNoHelp stopped = IfSome stopped (λ p. bytes_eq p.0 (codes "help") ≡ false)

to_positional_enters : (c : List Rule) (a : Option Rule) (word : Text) (w : Walk) (h : Held) → EntersNoHelp w.stopped → EntersNoHelp (to_positional c a word w h).stopped
to_positional_enters c None word w h before = before
to_positional_enters c (Some a) word w h before = tt

inside_enters : (c : List Rule) (word : Text) (w : Walk) (h : Held) (step : Step) → IsInside step → EntersNoHelp w.stopped → EntersNoHelp (after_step c word w h step).stopped
inside_enters c word w h (next waiting) i before = before
inside_enters c word w h (trailing position) i before = before
inside_enters c word w h (subcommand name) i before = absurd i
inside_enters c word w h value i before = to_positional_enters c (arg_by_index c w.position) word w h before

other_enters : (s : Shape) (met : Option Text) (word : Text) (w : Walk) → s.disable_help_subcommand ≡ false → other_fault s met word w.held ≡ [] → EntersNoHelp w.stopped
    → EntersNoHelp (after_step s.rules word w (subcommand_or_other s.rules met w.waiting w.position word w.held).0 (subcommand_or_other s.rules met w.waiting w.position word w.held).1).stopped
other_enters s (Some name) word w enabled none before = go (bytes_eq name (codes "help")) s.disable_help_subcommand enabled none
  where
    go : (b d : Bool) → d ≡ false → cond (b && not d) (kind.DisplayHelp ∷ kind.InvalidSubcommand ∷ []) [] ≡ [] → b ≡ false
    go false d e none = refl
    go true true e none = absurd (true≢false e)
    go true false e none = absurd cc
other_enters s None word w enabled none before = go (bytes_eq word (45 ∷ 45 ∷ []))
  where
    go : (b : Bool) → EntersNoHelp (after_step s.rules word w (cond b (w.held, trailing w.position) (long_or_other s.rules w.waiting word (long_of word) w.held)).0
        (cond b (w.held, trailing w.position) (long_or_other s.rules w.waiting word (long_of word) w.held)).1).stopped
    go true = before
    go false = inside_enters s.rules word w _ _ (long_inside s.rules w.waiting word (long_of word) w.held) before

-- a word without a fault enters a subcommand other than `help`, or none
pub turn_enters : (s : Shape) (names : Names) → s.disable_help_subcommand ≡ false → (w : Walk) (word : Text) → turn_fault s names w word ≡ [] → EntersNoHelp w.stopped
    → EntersNoHelp (walked s.rules names w word).stopped
unfolding walked
turn_enters s names enabled w word none before = stop w.stopped before none
  where
    met : Held × Step
    met = word_met s.rules names w.is_trailing w.waiting w.position word w.held

    trail : (b : Bool) → cond b [] (other_fault s (subcommand_met names w.waiting word) word w.held) ≡ []
        → EntersNoHelp (after_step s.rules word w (cond b (w.held, value) (subcommand_or_other s.rules (subcommand_met names w.waiting word) w.waiting w.position word w.held)).0
        (cond b (w.held, value) (subcommand_or_other s.rules (subcommand_met names w.waiting word) w.waiting w.position word w.held)).1).stopped
    trail true none = inside_enters s.rules word w w.held value tt before
    trail false none = other_enters s (subcommand_met names w.waiting word) word w enabled none before

    stop : (o : Option (Text × List Text)) → EntersNoHelp o
        → cond (is_some o) [] (or_else (word_fault s names w.is_trailing w.waiting word w.held) (step_fault s w.position
        (word_met s.rules names w.is_trailing w.waiting w.position word w.held).0 (word_met s.rules names w.is_trailing w.waiting w.position word w.held).1)) ≡ []
        → EntersNoHelp (walked_from s.rules names o w word).stopped
    stop (Some p) before none = before
    stop None before none = trail w.is_trailing (or_nil _ _ none).0

-- ---- each use has a value

-- each use of the argument has a value, or asks for help, or has one that stands for none
abbrev pub has_value : Rule → Bool
has_value a = nat_lt 0 (unwrap_or_range a.range).start_inclusive || (is_request (action_of a) || nat_lt 0 (length a.missing))

-- each row has a value
abbrev pub HaveValues : List Row → Type 0
HaveValues [] = Unit {0}
HaveValues (r ∷ rs) = (0 < length r.values) × HaveValues rs

joined_values : (xs ys : List Row) → HaveValues xs → HaveValues ys → HaveValues (xs ++ ys)
joined_values [] ys h k = k
joined_values (x ∷ xs) ys h k = (h.0, joined_values xs ys h.1 k)

at_row_values : (id : Text) (change : Row → List Row) (missing rows : List Row) → ((r : Row) → 0 < length r.values → HaveValues (change r)) → HaveValues missing → HaveValues rows
    → HaveValues (at_row id change missing rows)
at_row_values id change missing [] changed added h = added
at_row_values id change missing (r ∷ rs) changed added h = go (bytes_eq r.id id) (at_row_values id change missing rs changed added h.1)
  where
    go : (b : Bool) → HaveValues (at_row id change missing rs) → HaveValues (cond b (change r ++ rs) (r ∷ at_row id change missing rs))
    go true rest = joined_values (change r) rs (changed r h.0) h.1
    go false rest = (h.0, rest)

without_values : (id : Text) (rows : List Row) → HaveValues rows → HaveValues (without id rows)
without_values id rows h = at_row_values id (λ _. []) [] rows (λ r k. tt) tt h

with_values_values : (a : Rule) (from : ValueSource) (v : Text) (vs : List Text) (rows : List Row) → HaveValues rows → HaveValues (with_values a.id (reading_by a) from (v ∷ vs) rows)
with_values_values a from v vs rows h = at_row_values a.id (more_values from (v ∷ vs)) _ rows
    (λ r k. let more : 0 < length (r.values ++ v ∷ vs) = simp length-append (omega arith) in (more, tt)) (omega arith, tt) h

used_as_values : (x : ArgAction) (a : Rule) (v : Text) (vs : List Text) (rows : List Row) → HaveValues rows → HaveValues (used_as x a.id (reading_by a) (v ∷ vs) rows)
used_as_values action.Set a v vs rows h = with_values_values a CommandLine v vs _ (without_values a.id rows h)
used_as_values action.SetTrue a v vs rows h = with_values_values a CommandLine v vs _ (without_values a.id rows h)
used_as_values action.SetFalse a v vs rows h = with_values_values a CommandLine v vs _ (without_values a.id rows h)
used_as_values action.Append a v vs rows h = with_values_values a CommandLine v vs rows h
used_as_values action.Count a v vs rows h = with_values_values a CommandLine v vs _ (without_values a.id rows h)
used_as_values action.Help a v vs rows h = h
used_as_values action.HelpShort a v vs rows h = h
used_as_values action.HelpLong a v vs rows h = h
used_as_values action.Version a v vs rows h = h

asks_something : (x : ArgAction) → is_request x ≡ true → request_kinds x ≡ [] → ⊥
asks_something action.Set e f = true≢false (sym e)
asks_something action.SetTrue e f = true≢false (sym e)
asks_something action.SetFalse e f = true≢false (sym e)
asks_something action.Append e f = true≢false (sym e)
asks_something action.Count e f = true≢false (sym e)
asks_something action.Help e f = cc
asks_something action.HelpShort e f = cc
asks_something action.HelpLong e f = cc
asks_something action.Version e f = cc

none_given : (least most : ℕ) → nat_lt 0 least ≡ true → range_kinds least most 0 ≡ [] → ⊥
none_given least most some none =
    let bad : range_kinds least most 0 ≡ kind.InvalidValue ∷ [] = rw some refl in
    cc

-- a use without a fault leaves rows with values
used_values : (again : Bool) (a : Rule) (values : List Text) (rows : List Row) → has_value a ≡ true → use_fault again a values rows ≡ [] → HaveValues rows → HaveValues (used a values rows)
used_values again a (v ∷ vs) rows valued none h = used_as_values (action_of a) a v vs rows h
used_values again a [] rows valued none h = go (nat_lt 0 (unwrap_or_range a.range).start_inclusive) refl valued
  where
    stands : (missing : List Text) → nat_lt 0 (length missing) ≡ true → HaveValues (used_as (action_of a) a.id (reading_by a) missing rows)
    stands [] some = absurd (true≢false (sym some))
    stands (v ∷ vs) some = used_as_values (action_of a) a v vs rows h

    asks : (r : Bool) → is_request (action_of a) ≡ r → (r || nat_lt 0 (length a.missing)) ≡ true → HaveValues (used a [] rows)
    asks true is some = absurd (asks_something (action_of a) is (request_fault (action_of a) again a a.missing rows is ∙ (or_nil _ _ none).1))
    asks false is some = stands a.missing some

    go : (b : Bool) → nat_lt 0 (unwrap_or_range a.range).start_inclusive ≡ b → (b || (is_request (action_of a) || nat_lt 0 (length a.missing))) ≡ true → HaveValues (used a [] rows)
    go true is valued = absurd (none_given _ _ is (or_nil _ _ none).0)
    go false is some = asks (is_request (action_of a)) refl some

-- ---- the walk keeps that

-- what is found among rules that all pass passes
found_passes : (p q : Rule → Bool) (c : List Rule) → list_all q c ≡ true → IfSome (find p c) (λ a. q a ≡ true)
found_passes p q [] all = tt
found_passes p q (x ∷ xs) all = go (p x) (found_passes p q xs (both _ _ all).1)
  where
    go : (b : Bool) → IfSome (find p xs) (λ a. q a ≡ true) → IfSome (cond b (Some x) (find p xs)) (λ a. q a ≡ true)
    go true rest = (both (q x) _ all).0
    go false rest = rest

-- the rules of a command each use of whose arguments has a value
module _ (c : List Rule) (again : Bool) (all : list_all has_value c ≡ true) where
  pub settled_values : (h : Held) → settle_fault c again h ≡ [] → HaveValues h.rows → HaveValues (settled c h).rows
  settled_values h none before = go h.pending none
    where
      pick : (values : List Text) (o : Option Rule) → IfSome o (λ a. has_value a ≡ true) → option_map_or (λ a. use_fault again a values h.rows) o [] ≡ []
          → HaveValues (used_by_id o values h.rows)
      pick values None valued none = before
      pick values (Some a) valued none = used_values again a values h.rows valued none before

      go : (p : Option (Text × List Text)) → option_map_or (λ p. option_map_or (λ a. use_fault again a p.1 h.rows) (arg_by_id c p.0) []) p [] ≡ [] → HaveValues (settled_rows c p h.rows)
      go None none = before
      go (Some p) none = pick p.1 (arg_by_id c p.0) (found_passes (λ a. bytes_eq a.id p.0) has_value c all) none

  reacted_values : (a : Rule) (values : List Text) (h : Held) → has_value a ≡ true → react_fault c again a values h ≡ [] → HaveValues h.rows → HaveValues (reacted c a values h).rows
  reacted_values a values h valued none before =
      let parts = or_nil (settle_fault c again h) _ none in
      used_values again a values (settled c h).rows valued parts.1 (settled_values h parts.0 before)

  option_values : (a : Rule) (v : Option Text) (h : Held) → has_value a ≡ true → option_fault c again a v h ≡ [] → HaveValues h.rows → HaveValues (option_met c a v h).0.rows
  option_values a (Some v) h valued none before = reacted_values a (v ∷ []) h valued none before
  option_values a None h valued none before = settled_values h none before

  long_values : (found : Option Rule) (v : Option Text) (h : Held) → IfSome found (λ a. has_value a ≡ true) → long_fault c again found v h ≡ [] → HaveValues h.rows
      → HaveValues (long_met c found v h).0.rows
  long_values None v h valued none before = before
  long_values (Some a) v h valued none before = go (takes_values a) v none
    where
      go : (b : Bool) (v : Option Text) → cond b (option_fault c again a v h) (cond (is_some v) (kind.TooManyValues ∷ []) (react_fault c again a [] h)) ≡ []
          → HaveValues (cond b (option_met c a v h) (flag_met c a v h)).0.rows
      go true v none = option_values a v h valued none before
      go false (Some v) none = before
      go false None none = reacted_values a [] h valued none before

  bundle_values : (k : ℕ) (flags : Text) (skip : ℕ) (so_far : Outcome) (h : Held) → flags_fault c again k flags skip h ≡ [] → HaveValues h.rows → HaveValues (bundle_met c k flags skip so_far h).0.rows
  unfolding bundle_met flags_fault
  bundle_values zero flags skip so_far h none before = before
  bundle_values (suc k) flags skip so_far h none before = go (slice_get (chars flags) 0) skip none (λ rest less so now. bundle_values k rest less so now)
    where
      flag : (a : Rule) (rest : Text) (b : Bool) → has_value a ≡ true
          → cond b (option_fault c again a (attached_value rest) h) (or_else (react_fault c again a [] h) (flags_fault c again k rest 0 (reacted c a [] h))) ≡ []
          → ((rest : Text) (less : ℕ) (so : Outcome) (now : Held) → flags_fault c again k rest less now ≡ [] → HaveValues now.rows → HaveValues (bundle_met c k rest less so now).0.rows)
          → HaveValues (cond b (option_met c a (attached_value rest) h) (bundle_met c k rest 0 done (reacted c a [] h))).0.rows
      flag a rest true valued none more = option_values a (attached_value rest) h valued none before
      flag a rest false valued none more =
          let parts = or_nil (react_fault c again a [] h) _ none in
          more rest 0 done (reacted c a [] h) parts.1 (reacted_values a [] h valued parts.0 before)

      pick : (rest : Text) (found : Option Rule) → IfSome found (λ a. has_value a ≡ true) → short_fault c again found rest h (flags_fault c again k rest 0) ≡ []
          → ((rest : Text) (less : ℕ) (so : Outcome) (now : Held) → flags_fault c again k rest less now ≡ [] → HaveValues now.rows → HaveValues (bundle_met c k rest less so now).0.rows)
          → HaveValues (short_met c found rest h (bundle_met c k rest 0 done)).0.rows
      pick rest None valued none more = before
      pick rest (Some a) valued none more = flag a rest (takes_values a) valued none more

      go : (o : Option ℕ) (skip : ℕ) → bundle_step_fault c again o flags skip h (flags_fault c again k) ≡ []
          → ((rest : Text) (less : ℕ) (so : Outcome) (now : Held) → flags_fault c again k rest less now ≡ [] → HaveValues now.rows → HaveValues (bundle_met c k rest less so now).0.rows)
          → HaveValues (bundle_step c o flags skip so_far h (bundle_met c k)).0.rows
      go None skip none more = before
      go (Some x) zero none more = pick _ (arg_by_short c x) (found_passes (λ a. not (is_some a.index) && has_short a x) has_value c all) none more
      go (Some x) (suc skip) none more = more _ skip so_far h none before

  plain_values : (waiting : Waiting) (word : Text) (h : Held) → HaveValues h.rows → HaveValues (plain_word c waiting word h).0.rows
  plain_values (option id) word h before = go (arg_by_id c id)
    where
      go : (o : Option Rule) → HaveValues (option_word o id word h).0.rows
      go None = before
      go (Some a) = before
  plain_values idle word h before = before
  plain_values positional word h before = before

  flag_values : (waiting : Waiting) (word : Text) (h : Held) (o : Outcome) → HaveValues h.rows → HaveValues (after_flag c waiting word h o).0.rows
  flag_values waiting word h done before = before
  flag_values waiting word h (waits id) before = before
  flag_values waiting word h plain before = plain_values waiting word h before
  flag_values waiting word h refused before = plain_values waiting word h before

  short_values : (waiting : Waiting) (word : Text) (flags : Option Text) (h : Held) → option_map_or (λ flags. bundle_fault c again flags h) flags [] ≡ [] → HaveValues h.rows
      → HaveValues (short_or_plain c waiting word flags h).0.rows
  short_values waiting word None h none before = plain_values waiting word h before
  short_values waiting word (Some flags) h none before =
      flag_values waiting word (bundle c flags h).0 _ (bundle_values (length flags) flags h.skip plain (record h { skip = 0 }) none before)

  flag_word_values : (waiting : Waiting) (word : Text) (name : Option (Text × Option Text)) (h : Held) → flag_word_fault c again name word h ≡ [] → HaveValues h.rows
      → HaveValues (long_or_other c waiting word name h).0.rows
  flag_word_values waiting word (Some p) h none before =
      flag_values waiting word (long_met c (arg_by_long c p.0) p.1 h).0 _
      (long_values (arg_by_long c p.0) p.1 h (found_passes (λ a. not (is_some a.index) && has_long a p.0) has_value c all) none before)
  flag_word_values waiting word None h none before = short_values waiting word (short_of word) h none before

  positional_values : (o : Option Rule) (word : Text) (w : Walk) (h : Held) → (s : Shape) → option_map_or (λ a. positional_fault c again a h) o (stray_fault s) ≡ [] → HaveValues h.rows
      → HaveValues (to_positional c o word w h).held.rows
  positional_values None word w h s none before = before
  positional_values (Some a) word w h s none before = go (is_pending a h.pending && takes_several a) none
    where
      go : (b : Bool) → cond b [] (settle_fault c again h) ≡ [] → HaveValues (cond b h (settled c h)).rows
      go true none = before
      go false none = settled_values h none before

module _ (s : Shape) (names : Names) (all : list_all has_value s.rules ≡ true) where
  step_values : (word : Text) (w : Walk) (h : Held) (step : Step) → step_fault s w.position h step ≡ [] → HaveValues h.rows → HaveValues (after_step s.rules word w h step).held.rows
  step_values word w h (next waiting) none before = before
  step_values word w h (trailing position) none before = before
  step_values word w h (subcommand name) none before = before
  step_values word w h value none before = positional_values s.rules s.args_override_self all (arg_by_index s.rules w.position) word w h s none before

  other_values : (met : Option Text) (word : Text) (w : Walk) → other_fault s met word w.held ≡ [] → HaveValues w.held.rows
      → HaveValues (subcommand_or_other s.rules met w.waiting w.position word w.held).0.rows
  other_values (Some name) word w none before = before
  other_values None word w none before = go (bytes_eq word (45 ∷ 45 ∷ [])) none
    where
      go : (b : Bool) → cond b [] (flag_word_fault s.rules s.args_override_self (long_of word) word w.held) ≡ []
          → HaveValues (cond b (w.held, trailing w.position) (long_or_other s.rules w.waiting word (long_of word) w.held)).0.rows
      go true none = before
      go false none = flag_word_values s.rules s.args_override_self all w.waiting word (long_of word) w.held none before

  -- a word without a fault leaves rows with values
  turn_values : (w : Walk) (word : Text) → turn_fault s names w word ≡ [] → HaveValues w.held.rows → HaveValues (walked s.rules names w word).held.rows
  unfolding walked
  turn_values w word none before = stop w.stopped none
    where
      met : (b : Bool) → cond b [] (other_fault s (subcommand_met names w.waiting word) word w.held) ≡ []
          → HaveValues (cond b (w.held, value) (subcommand_or_other s.rules (subcommand_met names w.waiting word) w.waiting w.position word w.held)).0.rows
      met true none = before
      met false none = other_values (subcommand_met names w.waiting word) word w none before

      stop : (o : Option (Text × List Text))
          → cond (is_some o) [] (or_else (word_fault s names w.is_trailing w.waiting word w.held) (step_fault s w.position
          (word_met s.rules names w.is_trailing w.waiting w.position word w.held).0 (word_met s.rules names w.is_trailing w.waiting w.position word w.held).1)) ≡ []
          → HaveValues (walked_from s.rules names o w word).held.rows
      stop (Some p) none = before
      stop None none =
          let parts = or_nil (word_fault s names w.is_trailing w.waiting word w.held) _ none in
          step_values word w _ _ parts.1 (met w.is_trailing parts.0)

-- ---- after the walk

default_values : (rows : List Row) (a : Rule) → HaveValues rows → HaveValues (with_default rows a)
default_values rows a before = go (has_row a.id rows) a.defaults
  where
    go : (b : Bool) (values : List Text) → HaveValues (cond b rows (default_rows a.id (reading_by a) values rows))
    go true values = before
    go false [] = before
    go false (v ∷ vs) = with_values_values a DefaultValue v vs rows before

defaults_values : (c : List Rule) (rows : List Row) → HaveValues rows → HaveValues (fold with_default rows c)
defaults_values [] rows before = before
defaults_values (a ∷ rest) rows before = defaults_values rest (with_default rows a) (default_values rows a before)

-- a row that was given has a first value
given_first : (id : Text) (rows : List Row) → HaveValues rows → is_given id rows ≡ true → is_some (first_of id rows) ≡ true
given_first id [] have given = absurd (true≢false (sym given))
given_first id (r ∷ rs) have given = go (bytes_eq r.id id) given (given_first id rs have.1)
  where
    first : (values : List Text) → 0 < length values → is_some (slice_get values 0) ≡ true
    first [] some = absurd (omega arith)
    first (v ∷ vs) some = refl

    go : (b : Bool) → option_map_or (λ r. explicit_source r.source) (cond b (Some r) (find (λ r. bytes_eq r.id id) rs)) false ≡ true
        → (is_given id rs ≡ true → is_some (first_of id rs) ≡ true)
        → is_some (option_and_then (λ r. slice_get r.values 0) (cond b (Some r) (find (λ r. bytes_eq r.id id) rs))) ≡ true
    go true given rest = first r.values have.0
    go false given rest = rest given

-- the last checks pass: no help is wanted, no subcommand, and no argument
none_wanted : (a b c : Bool) → check_kinds a b c ≡ [] → (b ≡ false) × (c ≡ false)
none_wanted true b c none = absurd cc
none_wanted false true c none = absurd cc
none_wanted false false true none = absurd cc
none_wanted false false false none = (refl, refl)

-- the command wants this argument
abbrev pub is_wanted : Text → Shape → Bool
is_wanted id s = not s.subcommand_negates_reqs && list_any (λ a. bytes_eq a.id id && a.required) s.rules

wanted_given : (id : Text) (rows : List Row) (c : List Rule) → list_any (λ a. bytes_eq a.id id && a.required) c ≡ true → list_any (λ a. a.required && not (is_given a.id rows)) c ≡ false
    → is_given id rows ≡ true
wanted_given id rows [] wanted none = absurd (true≢false (sym wanted))
wanted_given id rows (a ∷ rest) wanted none = go (bytes_eq a.id id) a.required (is_given a.id rows) refl refl wanted none (wanted_given id rows rest)
  where
    go : (b r g : Bool) → bytes_eq a.id id ≡ b → is_given a.id rows ≡ g → (b && r || list_any (λ a. bytes_eq a.id id && a.required) rest) ≡ true
        → (r && not g || list_any (λ a. a.required && not (is_given a.id rows)) rest) ≡ false
        → (list_any (λ a. bytes_eq a.id id && a.required) rest ≡ true → list_any (λ a. a.required && not (is_given a.id rows)) rest ≡ false → is_given id rows ≡ true)
        → is_given id rows ≡ true
    go true true true same given wanted none more = ap (λ i. is_given i rows) (sym ((bytes_eq-Decides a.id id).0 same)) ∙ given
    go true true false same given wanted none more = absurd (true≢false none)
    go true false g same given wanted none more = more wanted none
    go false true true same given wanted none more = more wanted none
    go false true false same given wanted none more = absurd (true≢false none)
    go false false g same given wanted none more = more wanted none

-- a command that takes words without a fault has a value for each argument that it wants
pub wanted_value : (s : Shape) (id : Text) → list_all has_value s.rules ≡ true → is_wanted id s ≡ true → (words : List Text) → level_fault s [] nothing_held words false [] ≡ []
    → is_some (first_of id (rows_after s.rules [] words)) ≡ true
wanted_value s id all wanted words none =
    let end = (walk s.rules [] nothing_held words).held in
    let walked_parts = or_nil (walk_fault s [] (walk_from nothing_held) words) _ none in
    let settled_parts = or_nil (settle_fault s.rules s.args_override_self end) _ walked_parts.1 in
    let check : check_fault s (finished s.rules end) false ≡ [] = (or_nil _ _ settled_parts.1).1 in
    let kept : HaveValues end.rows = walk_keeps (λ w. HaveValues w.held.rows) s [] (turn_values s [] all) words (walk_from nothing_held) walked_parts.0 tt in
    let rows : HaveValues (finished s.rules end) = defaults_values s.rules _ (settled_values s.rules s.args_override_self all end settled_parts.0 kept) in
    given_first id (finished s.rules end) rows (go s.subcommand_negates_reqs wanted (none_wanted _ _ _ check).1)
  where
    go : (negates : Bool) → (not negates && list_any (λ a. bytes_eq a.id id && a.required) s.rules) ≡ true
        → (not (negates && false) && list_any (λ a. a.required && not (is_given a.id (rows_after s.rules [] words))) s.rules) ≡ false
        → is_given id (rows_after s.rules [] words) ≡ true
    go true wanted none = absurd (true≢false (sym wanted))
    go false wanted none = wanted_given id (rows_after s.rules [] words) s.rules wanted none

-- a command that requires a subcommand, and takes words without a fault, enters one other than `help`, which has no fault either
pub enters_subcommand : (a : App) (words : List Text) → a.top.disable_help_subcommand ≡ false → a.top.subcommand_required ≡ true → built_fault a nothing_held words ≡ []
    → let stop = stop_after a.top.rules (names_of a) words in EntersNoHelp stop × (entered_fault a stop ≡ []) × (is_some (entered a stop) ≡ true)
enters_subcommand a words help needs none =
    let stop = stop_after a.top.rules (names_of a) words in
    let end = (walk a.top.rules (names_of a) nothing_held words).held in
    let walked_parts = or_nil (walk_fault a.top (names_of a) (walk_from nothing_held) words) _ none in
    let below_parts = or_nil (entered_fault a stop) _ walked_parts.1 in
    let settled_parts = or_nil (settle_fault a.top.rules a.top.args_override_self end) _ below_parts.1 in
    let check : check_fault a.top (finished a.top.rules end) (is_some (entered a stop)) ≡ [] = (or_nil _ _ settled_parts.1).1 in
    let kept : EntersNoHelp stop = walk_keeps (λ w. EntersNoHelp w.stopped) a.top (names_of a) (turn_enters a.top (names_of a) help) words (walk_from nothing_held) walked_parts.0 tt in
    (kept, below_parts.0, go (is_some (entered a stop)) a.top.subcommand_required needs (none_wanted _ _ _ check).0)
  where
    go : (has needs : Bool) → needs ≡ true → (not has && needs) ≡ false → has ≡ true
    go true needs e none = refl
    go false true e none = absurd (true≢false none)
    go false false e none = absurd (true≢false (sym e))
