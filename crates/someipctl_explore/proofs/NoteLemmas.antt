-- What is told of a search, one line after the other.
use Rattle.std.proofs.Common.{◌≡◌, ℕ, List, [], ◌∷◌, ◌++◌, take, drop, Option, Result, Ok, Err, sym, ap, subst, ◌∙◌, append_assoc}
use Rattle.std.specs.List.{flat_map}
use Rattle.std.specs.Result.{IfErr, IsErrAnd}
use Rattle.std.specs.Io.KnownBytes.{Appends}
use Rattle.std.proofs.KnownBytes.{Appends-kept, Appends-nil, Appends-trans, Keeps-refl, Keeps-trans}
use Rattle.std.proofs.lemmas.List.{take-append-drop}
use Rattle.someip_explore.specs.Watching.{HearsAll, HearsOf, millions_to}
use Rattle.someip_world_setup.specs.declared.setup_node.SetupNode.{SetupNode}
use Rattle.someipctl_io.specs.declared.fault.Fault.{Fault}
use Rattle.someipctl_io.specs.declared.fault.Fault.TheVariants.{Refused, CannotRead, CannotWrite, OutOfMemory}
use Rattle.someipctl_run.specs.Commands.{RefusesTrace}
use Rattle.someipctl_run.specs.declared.error.ScheduleRefusal.{ScheduleRefusal}
use Rattle.someipctl_explore.specs.Noting.{Begins, LeavesNotes, Noted, NotedAs, progress_line, progress_text}
use Rattle.someipctl_explore.specs.declared.notes.Notes.{Notes}
use Rattle.someipctl_explore.specs.declared.notes.Progress.{Progress}
use Rattle.someipctl_explore.specs.declared.notes.Progress.TheVariants.{Silent, Lines, Stopped}

-- the first bytes of a text
pub begun : (before after : Option (List ℕ)) (text line : List ℕ) → text ≡ line → ((n : ℕ) × Appends before after (take n text)) → Begins before after line
begun before after text line is wrote = (take wrote.0 text, drop wrote.0 text, wrote.1, sym is ∙ sym (take-append-drop wrote.0 text))

-- no text
none_noted : (a : Progress) (x : Option (List ℕ)) → NotedAs a a x x []
none_noted Silent x = Keeps-refl x
none_noted Lines x = Appends-nil x
none_noted Stopped x = Keeps-refl x

-- a text after another
noted_on : (a b c : Progress) (x y z : Option (List ℕ)) (t u : List ℕ) → NotedAs a b x y t → NotedAs b c y z u → NotedAs a c x z (t ++ u)
noted_on Silent Silent Silent x y z t u first second = Keeps-trans x y z first second
noted_on Silent Silent Lines x y z t u first second = absurd second
noted_on Silent Silent Stopped x y z t u first second = absurd second
noted_on Silent Lines c x y z t u first second = absurd first
noted_on Silent Stopped c x y z t u first second = absurd first
noted_on Lines Silent c x y z t u first second = absurd first
noted_on Lines Lines Silent x y z t u first second = absurd second
noted_on Lines Lines Lines x y z t u first second = Appends-trans x y z t u first second
noted_on Lines Lines Stopped x y z t u first second =
    (t ++ second.0, second.1, Appends-trans x y z t second.0 first second.2, ap (λ bs. t ++ bs) second.3 ∙ sym (append_assoc t second.0 second.1))
noted_on Lines Stopped Silent x y z t u first second = absurd second
noted_on Lines Stopped Lines x y z t u first second = absurd second
noted_on Lines Stopped Stopped x y z t u first second =
    (first.0, first.1 ++ u, Appends-kept x y z first.0 first.2 second, ap (λ bs. bs ++ u) first.3 ∙ append_assoc first.0 first.1 u)
noted_on Stopped Silent c x y z t u first second = absurd first
noted_on Stopped Lines c x y z t u first second = absurd first
noted_on Stopped Stopped Silent x y z t u first second = absurd second
noted_on Stopped Stopped Lines x y z t u first second = absurd second
noted_on Stopped Stopped Stopped x y z t u first second = Keeps-trans x y z first second

-- the lines of all numbers that were heard
all_noted : {N : Type 0} (contents : N → Option (List ℕ)) (numbers : List ℕ) (old new : Notes N)
    → HearsAll (λ old judged new. Noted contents old new (progress_line judged)) numbers old new → Noted contents old new (flat_map progress_line numbers)
all_noted contents [] old new heard = subst (λ notes. Noted contents old notes []) (sym heard) (none_noted old.progress (contents old.writer))
all_noted contents (number ∷ numbers) old new heard =
    noted_on old.progress heard.0.progress new.progress (contents old.writer) (contents heard.0.writer) (contents new.writer) (progress_line number) (flat_map progress_line numbers)
    heard.1 (all_noted contents numbers heard.0 new heard.2)

-- what was heard of so many schedules
pub noted_so : {N : Type 0} (contents : N → Option (List ℕ)) (judged : ℕ) (old new : Notes N) → HearsOf (λ old judged new. Noted contents old new (progress_line judged)) judged old new
    → Noted contents old new (progress_text judged)
noted_so contents judged old new heard = all_noted contents (millions_to judged) old new heard

-- a schedule that is refused leaves no notes
pub none_left : {N : Type 0} (contents : N → Option (List ℕ)) (nodes : List SetupNode) (text : List ℕ) (notes : Notes N) (fault : Fault ScheduleRefusal) → RefusesTrace nodes text fault
    → LeavesNotes (Noted contents notes notes) fault
none_left contents nodes text notes (Refused refusal) refuses = none_noted notes.progress (contents notes.writer)
none_left contents nodes text notes CannotRead refuses = absurd refuses
none_left contents nodes text notes CannotWrite refuses = absurd refuses
none_left contents nodes text notes OutOfMemory refuses = (0, none_noted notes.progress (contents notes.writer))

-- what an error leaves, by which error it is
pub left_by : {A E : Type 0} (Leaves : E → Type 0) (r : Result A E) (error : E) → IsErrAnd r (λ e. e ≡ error) → Leaves error → IfErr r Leaves
left_by Leaves (Ok found) error is leaves = tt
left_by Leaves (Err e) error is leaves = subst Leaves (sym is) leaves
