-- What clap's matches say of the command line.
use Rattle.std.proofs.Common.{◌≡◌, ◌∙◌, ◌||◌, ◌==◌, Bool, cond, true, false, true≢false, refl, sym, ap, subst, List, [], ◌∷◌, Option, Some, None, IsSome, is_some, codes, find, option_map, drop, Box, Result, ◌⊎◌, inl, inr}
use Rattle.std.specs.List.{list_all}
use Rattle.std.specs.Option.{option_map_or}
use Rattle.std.proofs.Math.Path.{fun_ext}
use Rattle.std.specs.Prelude.{IfOk, option_and_then, unwrap_or}
use Rattle.std.specs.Str.{bytes_eq}
use Rattle.std.proofs.lemmas.Slice.Eq.{bytes_eq-Decides}
use Rattle.std.proofs.lemmas.Result.{IfOk-weaker}
use Rattle.std.specs.Box.{box_value}
use Rattle.std.specs.declared.alloc.Global.{Global}
use Rattle.clap.specs.Words.{all_of}
use Rattle.clap.specs.Words.{App, HasMatchesOf, Row, Shape, Text, app_of, built, fault_of, first_of, first_value, found_of, is_simple, is_simple_and_free, rows_of, shape_of, subcommand_name_of, subcommand_rows, subcommand_rows_of}
use Rattle.clap.specs.Words.{HasKind, IsAmong, Kinds, kind_of}
use Rattle.clap.specs.declared.Error.{Error}
use Rattle.clap.specs.declared.error.ErrorKind.{ErrorKind}
use Rattle.clap.specs.declared.error.ErrorKind.TheVariants as kind
use Rattle.someipctl_words.specs.declared.command.LineError.{LineError}
use Rattle.someipctl_words.specs.declared.command.LineError.TheVariants.{Usage, Help, OutOfMemory}
use Rattle.clap.specs.Walk.{answers_to, nothing_held}
use Rattle.clap.specs.Simple.{entered, label_of, rows_at}
use Rattle.clap.specs.Faults.{entered_fault, level_fault}
use Rattle.clap.specs.declared.ArgMatches.{ArgMatches}
use Rattle.clap.specs.declared.Command.{Command}
use Rattle.clap.specs.declared.parser.matches.ArgMatches.TheViews.{out-ArgMatches, out-SubCommand}
use Rattle.clap.specs.declared.parser.matches.Found.{Found}
use Rattle.clap.specs.declared.parser.matches.SubCommand.{SubCommand}
use Rattle.clap.proofs.WalkLemmas.{first_value-rows, raw_values-rows}
use Rattle.clap.proofs.OnLiterals.{clap_on_literals}
use Rattle.someipctl_words.specs.CommandLine.{HaveFault, IsLineErrorOf, IsTaken, RefusesWords, cli, is_flag, asked_by_subcommand, asked_by_entered, Request, requested, show_request, values_of}
use Rattle.someipctl_words.proofs.ClapWalkLemmas.{EntersNoHelp, enters_subcommand, has_value, is_wanted, wanted_value}

-- a command alone, as it is among others
pub shape_from_app : {E : Type 0} (r : Result Command E) (app : App) → IfOk r (λ c. app_of c ≡ app) → IfOk r (λ c. shape_of c ≡ app.top)
shape_from_app r app h = IfOk-weaker r (λ c. app_of c ≡ app) (λ c. shape_of c ≡ app.top) (λ c is. ap (λ (a : App). a.top) is) h

pub cli_is_free : is_simple_and_free cli ≡ true
unfolding clap_on_literals
cli_is_free = refl

pub cli_is_simple : is_simple cli ≡ true
unfolding clap_on_literals
cli_is_simple = refl

-- ---- words without a fault ask for a command

-- under a name that is not `help`, words without a fault ask the subcommand for something
abbrev Asks : Shape → Type 0
Asks s = (name : Text) → answers_to name (label_of s) ≡ true → bytes_eq name (codes "help") ≡ false
    → (words : List Text) → level_fault s [] nothing_held words false [] ≡ [] → IsSome (asked_by_entered (Some (rows_at s words)))

abbrev EachAsks : List Shape → Type 0
EachAsks [] = Unit {0}
EachAsks (s ∷ rest) = Asks s × EachAsks rest

found_asks : (p : Text × List Text) → bytes_eq p.0 (codes "help") ≡ false → (subs : List Shape) → EachAsks subs
    → option_map_or (λ s. level_fault s [] nothing_held p.1 false []) (find (λ s. answers_to p.0 (label_of s)) subs) [] ≡ []
    → is_some (option_map (λ s. rows_at s p.1) (find (λ s. answers_to p.0 (label_of s)) subs)) ≡ true
    → IsSome (asked_by_entered (option_map (λ s. rows_at s p.1) (find (λ s. answers_to p.0 (label_of s)) subs)))
found_asks p named [] each none some = absurd (true≢false (sym some))
found_asks p named (s ∷ rest) each none some = go (answers_to p.0 (label_of s)) refl none some (found_asks p named rest each.1)
  where
    go : (b : Bool) → answers_to p.0 (label_of s) ≡ b
        → option_map_or (λ s. level_fault s [] nothing_held p.1 false []) (cond b (Some s) (find (λ s. answers_to p.0 (label_of s)) rest)) [] ≡ []
        → is_some (option_map (λ s. rows_at s p.1) (cond b (Some s) (find (λ s. answers_to p.0 (label_of s)) rest))) ≡ true
        → (option_map_or (λ s. level_fault s [] nothing_held p.1 false []) (find (λ s. answers_to p.0 (label_of s)) rest) [] ≡ []
        → is_some (option_map (λ s. rows_at s p.1) (find (λ s. answers_to p.0 (label_of s)) rest)) ≡ true
        → IsSome (asked_by_entered (option_map (λ s. rows_at s p.1) (find (λ s. answers_to p.0 (label_of s)) rest))))
        → IsSome (asked_by_entered (option_map (λ s. rows_at s p.1) (cond b (Some s) (find (λ s. answers_to p.0 (label_of s)) rest))))
    go true is none some more = each.0 p.0 is named p.1 none
    go false is none some more = more none some

stop_asks : (a : App) → EachAsks a.subs → (stop : Option (Text × List Text)) → EntersNoHelp stop → entered_fault a stop ≡ [] → is_some (entered a stop) ≡ true
    → IsSome (asked_by_entered (entered a stop))
stop_asks a each None named none some = absurd (true≢false (sym some))
stop_asks a each (Some p) named none some = found_asks p named a.subs each none some

-- a value that is there, and what is asked for with it
with_value : {A : Type 0} (value : Option Text) (asks : Text → A) → is_some value ≡ true → IsSome (option_map asks value)
with_value None asks some = absurd (true≢false (sym some))
with_value (Some v) asks some = refl

with_values : {A : Type 0} (value other : Option Text) (asks : Text → Text → A) → is_some value ≡ true → is_some other ≡ true → IsSome (option_and_then (λ v. option_map (asks v) other) value)
with_values None other asks some more = absurd (true≢false (sym some))
with_values (Some v) other asks some more = with_value other (asks v) more

with_three : {A : Type 0} (value other third : Option Text) (asks : Text → Text → Text → A) → is_some value ≡ true → is_some other ≡ true → is_some third ≡ true
    → IsSome (option_and_then (λ v. option_and_then (λ w. option_map (asks v w) third) other) value)
with_three None other third asks some more last = absurd (true≢false (sym some))
with_three (Some v) other third asks some more last = with_values other third (asks v) more last

-- a subcommand asks for something that needs the value of one argument, or those of two or three
one_asks : (s : Shape) (id : Text) (asks : (Text → Option Text) → (Text → List Text) → Text → Request)
    → ((value : Text → Option Text) (values : Text → List Text) → asked_by_subcommand s.name value values ≡ option_map (asks value values) (value id))
    → list_all has_value s.rules ≡ true → is_wanted id s ≡ true → Asks s
one_asks s id asks is valued wanted name met named words none =
    let value : Text → Option Text = λ id. first_of id (rows_at s words).1 in
    let values : Text → List Text = λ id. unwrap_or (all_of id (rows_at s words).1) [] in
    rw (is value values) (with_value (value id) (asks value values) (wanted_value s id valued wanted words none))

two_asks : (s : Shape) (id other : Text) (asks : (Text → Option Text) → Text → Text → Request)
    → ((value : Text → Option Text) (values : Text → List Text) → asked_by_subcommand s.name value values ≡ option_and_then (λ v. option_map (asks value v) (value other)) (value id))
    → list_all has_value s.rules ≡ true → is_wanted id s ≡ true → is_wanted other s ≡ true → Asks s
two_asks s id other asks is valued first second name met named words none =
    let value : Text → Option Text = λ id. first_of id (rows_at s words).1 in
    let values : Text → List Text = λ id. unwrap_or (all_of id (rows_at s words).1) [] in
    rw (is value values) (with_values (value id) (value other) (asks value) (wanted_value s id valued first words none) (wanted_value s other valued second words none))

three_asks : (s : Shape) (id other third : Text) (asks : (Text → Option Text) → (Text → List Text) → Text → Text → Text → Request)
    → ((value : Text → Option Text) (values : Text → List Text) → asked_by_subcommand s.name value values
    ≡ option_and_then (λ v. option_and_then (λ w. option_map (asks value values v w) (value third)) (value other)) (value id))
    → list_all has_value s.rules ≡ true → is_wanted id s ≡ true → is_wanted other s ≡ true → is_wanted third s ≡ true → Asks s
three_asks s id other third asks is valued wanted too last name met named words none =
    let value : Text → Option Text = λ id. first_of id (rows_at s words).1 in
    let values : Text → List Text = λ id. unwrap_or (all_of id (rows_at s words).1) [] in
    rw (is value values)
    (with_three (value id) (value other) (value third) (asks value values) (wanted_value s id valued wanted words none)
    (wanted_value s other valued too words none) (wanted_value s third valued last words none))

-- no other name is that of `help`
help_asks : (s : Shape) → label_of s ≡ (codes "help", []) → Asks s
help_asks s is name met named words none = go (bytes_eq (codes "help") name) refl (subst (λ label. answers_to name label ≡ true) is met)
  where
    go : (b : Bool) → bytes_eq (codes "help") name ≡ b → (b || false) ≡ true → IsSome (asked_by_entered (Some (rows_at s words)))
    go true e t =
        let same : codes "help" ≡ name = (bytes_eq-Decides (codes "help") name).0 e in
        let bad : bytes_eq (codes "help") (codes "help") ≡ false = subst (λ n. bytes_eq n (codes "help") ≡ false) (sym same) named in
        absurd (true≢false bad)
    go false e t = absurd (true≢false (sym t))

cli_asks : EachAsks (built cli).subs
cli_asks = (
  one_asks _ (codes "capture") _ (λ value values. refl) refl refl,
  (
    two_asks _ (codes "shape") (codes "hex") _ (λ value values. refl) refl refl refl,
    (
      two_asks _ (codes "shape") (codes "value") _ (λ value values. refl) refl refl refl,
      (
        one_asks _ (codes "file") _ (λ value values. refl) refl refl,
        (
          two_asks _ (codes "setup") (codes "schedule") _ (λ value values. refl) refl refl refl,
          (
            one_asks _ (codes "file") _ (λ value values. refl) refl refl,
            (
              two_asks _ (codes "setup") (codes "schedule") _ (λ value values. refl) refl refl refl,
              (
                one_asks _ (codes "file") _ (λ value values. refl) refl refl,
                (
                  three_asks _ (codes "setup") (codes "moves") (codes "goal") _ (λ value values. refl) refl refl refl refl,
                  (
                    one_asks _ (codes "file") _ (λ value values. refl) refl refl,
                    (
                      one_asks _ (codes "file") _ (λ value values. refl) refl refl,
                      (one_asks _ (codes "file") _ (λ value values. refl) refl refl, (help_asks _ refl, tt)),
                    ),
                  ),
                ),
              ),
            ),
          ),
        ),
      ),
    ),
  ),
)

pub taken_matches : (words : List Text) → IsTaken words → IsSome (requested words)
taken_matches words none =
    let entry = enters_subcommand (built cli) (drop 1 words) refl refl none in
    stop_asks (built cli) cli_asks _ entry.0 entry.1 entry.2

-- ---- any word that is no flag can be shown

pub show_capture_taken : (program capture : Text) → is_flag capture ≡ false → IsTaken (program ∷ codes "show" ∷ capture ∷ [])
unfolding clap_on_literals
show_capture_taken program [] plain = refl
show_capture_taken program (x ∷ []) plain = go (x == 45) refl
  where
    go : (b : Bool) → (x == 45) ≡ b → IsTaken (program ∷ codes "show" ∷ (x ∷ []) ∷ [])
    go true e = simp e
    go false e = simp e
show_capture_taken program (x ∷ (y ∷ ys)) plain = simp plain

pub show_capture_requested : (program capture : Text) → is_flag capture ≡ false → requested (program ∷ codes "show" ∷ capture ∷ []) ≡ Some (show_request capture None None false)
unfolding clap_on_literals
show_capture_requested program [] plain = refl
show_capture_requested program (x ∷ []) plain = go (x == 45) refl
  where
    go : (b : Bool) → (x == 45) ≡ b → requested (program ∷ codes "show" ∷ (x ∷ []) ∷ []) ≡ Some (show_request (x ∷ []) None None false)
    go true e = simp e
    go false e = simp e
show_capture_requested program (x ∷ (y ∷ ys)) plain = simp plain

-- ---- what a parse of the command line says

-- what a parse that succeeds gives is what its words ask for, and they have no fault
pub parsed_asks : (a : App) (words : List Text) (m : ArgMatches) → a ≡ cli → HasMatchesOf a words m → (is_simple_and_free a ≡ true → fault_of a words ≡ [])
    → (asked_by_entered (subcommand_rows_of m) ≡ requested words) × IsTaken words
parsed_asks a words m is matches taken =
    let here : HasMatchesOf cli words m = subst (λ (a : App). HasMatchesOf a words m) is matches in
    let none : is_simple_and_free cli ≡ true → fault_of cli words ≡ [] = subst (λ (a : App). (is_simple_and_free a ≡ true → fault_of a words ≡ [])) is taken in
    (ap asked_by_entered (here cli_is_simple).1, none cli_is_free)

-- so it gives something
pub parsed_some : (a : App) (words : List Text) (m : ArgMatches) → a ≡ cli → HasMatchesOf a words m → (is_simple_and_free a ≡ true → fault_of a words ≡ [])
    → (None ≡ asked_by_entered (subcommand_rows_of m)) → ⊥
parsed_some a words m is matches taken none =
    let parsed = parsed_asks a words m is matches taken in
    let some : is_some (requested words) ≡ true = taken_matches words parsed.1 in
    absurd (true≢false (sym some ∙ sym (ap is_some (none ∙ parsed.0))))

-- ---- what an error of the parse says

help_among : (k : ErrorKind) (faults : Kinds) → k ≡ kind.DisplayHelp → (k ≡ kind.OutOfMemory) ⊎ IsAmong k faults → IsAmong kind.DisplayHelp faults
help_among k faults is (inl memory) = absurd (let bad : kind.DisplayHelp ≡ kind.OutOfMemory = sym is ∙ memory in cc)
help_among k faults is (inr among) = subst (λ (k : ErrorKind). IsAmong k faults) is among

other_among : (k : ErrorKind) (faults : Kinds) → (k ≡ kind.OutOfMemory → ⊥) → (k ≡ kind.OutOfMemory) ⊎ IsAmong k faults → IsAmong k faults
other_among k faults other (inl memory) = absurd (other memory)
other_among k faults other (inr among) = among

-- help comes for a call for help, and usage for another fault
pub refuses_words : (a : App) (words : List Text) (from : Error) (l : LineError) → a ≡ cli → (is_simple_and_free a ≡ true → HasKind (fault_of a words) from) → IsLineErrorOf from l → RefusesWords words l
refuses_words a words from (Help text) is kinds shown =
    help_among (kind_of from) (fault_of cli words) shown (subst (λ (a : App). (is_simple_and_free a ≡ true → HasKind (fault_of a words) from)) is kinds cli_is_free)
refuses_words a words from (Usage e) is kinds shown =
    let among = other_among (kind_of from) (fault_of cli words) shown.2 (subst (λ (a : App). (is_simple_and_free a ≡ true → HasKind (fault_of a words) from)) is kinds cli_is_free) in
    subst (λ (e : Error). HaveFault words (kind_of e)) (sym shown.0) (shown.1, among)
refuses_words a words from OutOfMemory is kinds shown = tt

-- a name and rows that a look gave are those of the subcommand
pub entered_is : (m : ArgMatches) (name : Text) (rows : List Row) → Some name ≡ subcommand_name_of m → Some rows ≡ option_map (λ p. p.1) (subcommand_rows_of m)
    → subcommand_rows_of m ≡ Some (name, rows)
entered_is m name rows e f = go (out-ArgMatches m).subcommand e f
  where
    go : (o : Option (Box SubCommand Global)) → Some name ≡ option_map (λ b. (out-SubCommand (box_value b)).name.now) o → Some rows ≡ option_map (λ p. p.1) (subcommand_rows o)
        → subcommand_rows o ≡ Some (name, rows)
    go None e f = absurd cc
    go (Some b) e f =
        let s = out-SubCommand (box_value b) in
        let a : name ≡ s.name.now = cc in
        let r : rows ≡ rows_of (found_of s.matches) = cc in
        ap (λ (x : Text). Some (x, rows_of (found_of s.matches))) (sym a) ∙ ap (λ (y : List Row). Some (name, y)) (sym r)

-- what a subcommand's matches ask for is what was entered
pub entered_asks : (m : ArgMatches) (name : Text) (f : Found) → subcommand_rows_of m ≡ Some (name, rows_of f)
    → asked_by_subcommand name (first_value f) (values_of f) ≡ asked_by_entered (subcommand_rows_of m)
entered_asks m name f is =
    let all : (id : Text) → values_of f id ≡ unwrap_or (all_of id (rows_of f)) [] = λ id. ap (λ (o : Option (List Text)). unwrap_or o []) (raw_values-rows f id) in
    ap (λ (value : Text → Option Text). asked_by_subcommand name value (values_of f)) (fun_ext (first_value-rows f))
    ∙ ap (asked_by_subcommand name (λ id. first_of id (rows_of f))) (fun_ext all)
    ∙ sym (ap asked_by_entered is)
