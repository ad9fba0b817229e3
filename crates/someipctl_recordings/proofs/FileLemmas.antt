-- Files that are one recording, as they are read one after the other.
use Rattle.std.proofs.Common.{◌≡◌, ℕ, zero, suc, ◌+◌, ◌-◌, ◌*◌, ◌^◌, ◌<◌, ◌≤◌, ◌++◌, List, [], ◌∷◌, length, map, drop, set, get_or, Option, None, Some, Err, refl, sym, ap, subst, ◌∙◌, append_assoc, arith}
use Rattle.std.specs.Bool.{⊤}
use Rattle.std.proofs.lemmas.List.{append-nil, drop-drop, length-append, length-map, map-set}
use Rattle.recording.specs.declared.RecordingError.{RecordingError}
use Rattle.recording.specs.Readers.{CanFollow, ReaderValue, to_come}
use Rattle.recording.specs.Records.{Item}
use Rattle.recording.specs.HeldItems.{held_of}
use Rattle.someipctl_io.specs.Inputs.{WasLeft}
use Rattle.someipctl_recordings.specs.declared.recordings.FileFault.{FileFault}
use Rattle.someipctl_recordings.specs.Coming.{Comes}
use Rattle.someipctl_recordings.specs.Files.{WereLeft, fault_among, fault_from, fault_in, items_of_files, unless_fault}
use Rattle.someipctl_recordings.proofs.ComingLemmas.{begin, comes_both, comes_none, part_file, whole_file}
use Rattle.someipctl_recordings.proofs.RecordedLemmas.{fault-append}

-- ---- what readers had left

-- a file that a reader had left; where it is not known, one without a byte
abbrev left_of : Option (List ℕ) → List ℕ
left_of None = []
left_of (Some bytes) = bytes

was_left : (input : Option (List ℕ)) → WasLeft input (left_of input)
was_left None = tt
was_left (Some bytes) = refl

-- some files
pub record SomeFiles (inputs : List (Option (List ℕ))) : Type 0 where
  pub files : List (List ℕ)
  pub left : WereLeft inputs files

pub some_files : (inputs : List (Option (List ℕ))) → SomeFiles inputs
some_files [] = record { files = []; left = tt }
some_files (input ∷ inputs) = let others = some_files inputs in record { files = left_of input ∷ others.files; left = (was_left input, others.left) }

left_append : (inputs others : List (Option (List ℕ))) (files more : List (List ℕ)) → WereLeft inputs files → WereLeft others more → WereLeft (inputs ++ others) (files ++ more)
left_append [] others [] more left rest = rest
left_append [] others (file ∷ files) more left rest = absurd left
left_append (input ∷ inputs) others [] more left rest = absurd left
left_append (input ∷ inputs) others (file ∷ files) more left rest = (left.0, left_append inputs others files more left.1 rest)

-- ---- files without a fault, and others behind them

abbrev pub Faultless : List (List ℕ) → Type 0
Faultless [] = ⊤
Faultless (file ∷ others) = (fault_among (held_of file) ≡ None) × Faultless others

faultless_append : (files more : List (List ℕ)) → Faultless files → Faultless more → Faultless (files ++ more)
faultless_append [] more none rest = rest
faultless_append (file ∷ files) more none rest = (none.0, faultless_append files more none.1 rest)

items-append : (files more : List (List ℕ)) → Faultless files → items_of_files (files ++ more) ≡ items_of_files files ++ items_of_files more
items-append [] more none = refl
items-append (file ∷ files) more none =
    rw none.0 (ap (λ (l : List Item). held_of file ++ l) (items-append files more none.1) ∙ sym (append_assoc (held_of file) (items_of_files files) (items_of_files more)))

faultless_items : (files : List (List ℕ)) → Faultless files → fault_among (items_of_files files) ≡ None
faultless_items [] none = refl
faultless_items (file ∷ files) none = rw none.0 (fault-append (held_of file) (items_of_files files) none.0 ∙ faultless_items files none.1)

-- the items of a file and of others, by the fault that it has
one_file : (file : List ℕ) (others : List (List ℕ)) (fault : Option RecordingError) → fault_among (held_of file) ≡ fault → items_of_files (file ∷ others) ≡ held_of file ++ unless_fault fault (items_of_files others)
one_file file others fault is = ap (λ f. held_of file ++ unless_fault f (items_of_files others)) is

fault-none : (k : ℕ) (files : List (List ℕ)) → Faultless files → fault_from k files ≡ None
fault-none k [] none = refl
fault-none k (file ∷ files) none = rw none.0 (fault-none (suc k) files none.1)

-- a fault in a file
abbrev pub told : ℕ → RecordingError → FileFault
told n fault = record { file = n; fault = fault }

fault-here : (k : ℕ) (file : List ℕ) (more : List (List ℕ)) (fault : RecordingError) → fault_among (held_of file) ≡ Some fault → fault_from k (file ∷ more) ≡ Some (told k fault)
fault-here k file more fault is = rw is refl

fault-some : (k : ℕ) (files more : List (List ℕ)) (file : List ℕ) (fault : RecordingError) → Faultless files → fault_among (held_of file) ≡ Some fault
    → fault_from k (files ++ file ∷ more) ≡ Some (told (k + length files) fault)
fault-some k [] more file fault none is =
    let same : k ≡ k + 0 = omega arith in
    fault-here k file more fault is ∙ ap (λ n. Some (told n fault)) same
fault-some k (first ∷ files) more file fault none is =
    let same : suc k + length files ≡ k + suc (length files) = omega arith in
    rw none.0 (fault-some (suc k) files more file fault none.1 is ∙ ap (λ n. Some (told n fault)) same)

-- ---- what was read

-- what the reader with this number has left, if there is one and it is known
abbrev pub left_at : List (Option (List ℕ)) → ℕ → Option (List ℕ)
left_at [] k = None
left_at (input ∷ inputs) zero = input
left_at (input ∷ inputs) (suc k) = left_at inputs k

left_at-drop : (inputs : List (Option (List ℕ))) (k : ℕ) → left_at (drop k inputs) 0 ≡ left_at inputs k
left_at-drop [] zero = refl
left_at-drop [] (suc k) = refl
left_at-drop (input ∷ inputs) zero = refl
left_at-drop (input ∷ inputs) (suc k) = left_at-drop inputs k

-- the readers had these left, of which so many are read. None of these has a fault; and of the next as much is read as
-- the reader of the recording tells. These items came in all.
pub record AreRead (inputs ares : List (Option (List ℕ))) (k : ℕ) (r : ReaderValue) (done : List Item) : Type 0 where
  pub before : List (Option (List ℕ))
  pub others : List (Option (List ℕ))
  pub files : List (List ℕ)
  pub own : List Item
  pub is : inputs ≡ before ++ others
  pub same : length inputs ≡ length ares
  pub behind : drop 1 others ≡ drop (suc k) ares
  pub many : k ≡ length before
  pub so_many : k ≡ length files
  pub left : WereLeft before files
  pub faultless : Faultless files
  pub comes : Comes begin r (left_at others 0) (left_at ares k) own
  pub came : done ≡ items_of_files files ++ own
  pub fresh : others ≡ [] → own ≡ []

pub reads_begin : (inputs : List (Option (List ℕ))) (r : ReaderValue) → r ≡ begin → AreRead inputs inputs 0 r []
reads_begin inputs r is = record {
  before = [];
  others = inputs;
  files = [];
  own = [];
  is = refl;
  same = refl;
  behind = refl;
  many = refl;
  so_many = refl;
  left = tt;
  faultless = tt;
  comes = subst (λ r. Comes begin r (left_at inputs 0) (left_at inputs 0) []) (sym is) (comes_none begin (left_at inputs 0));
  came = refl;
  fresh = λ none. refl;
}

-- what the readers have left after one of them was read
pub record IsStep (ares later : List (Option (List ℕ))) (k : ℕ) (now : Option (List ℕ)) : Type 0 where
  pub at : left_at later k ≡ now
  pub behind : drop (suc k) later ≡ drop (suc k) ares
  pub same : length later ≡ length ares

-- one of them was replaced
set_step : (ares : List (Option (List ℕ))) (k : ℕ) (now : Option (List ℕ)) → k < length ares → IsStep ares (set ares k now) k now
set_step [] k now within = absurd (omega (arith, within))
set_step (a ∷ ares) zero now within = record { at = refl; behind = refl; same = refl }
set_step (a ∷ ares) (suc k) now within =
    let others = set_step ares k now (omega (arith, within)) in
    record { at = others.at; behind = others.behind; same = ap suc others.same }

-- a reader was read from
pub is_step : {R : Type 0} (f : R → Option (List ℕ)) (readers : List R) (k : ℕ) (now : R) → k < length readers → IsStep (map f readers) (map f (set readers k now)) k (f now)
is_step f readers k now within =
    subst (λ (l : List (Option (List ℕ))). IsStep (map f readers) l k (f now)) (sym (map-set f readers k now)) (set_step (map f readers) k (f now) (rw (length-map readers f) within))

-- what it had left
left_own : {R : Type 0} (f : R → Option (List ℕ)) (readers : List R) (k : ℕ) (other : R) → k < length readers → f (get_or readers k other) ≡ left_at (map f readers) k
left_own f [] k other within = absurd (omega (arith, within))
left_own f (r ∷ readers) zero other within = refl
left_own f (r ∷ readers) (suc k) other within = left_own f readers k other (omega (arith, within))

-- what came of it
pub comes_own : {R : Type 0} (f : R → Option (List ℕ)) (readers : List R) (k : ℕ) (other : R) (r new : ReaderValue) (now : Option (List ℕ)) (items : List Item) → k < length readers
    → Comes r new (f (get_or readers k other)) now items → Comes r new (left_at (map f readers) k) now items
comes_own f readers k other r new now items within comes = subst (λ (l : Option (List ℕ)). Comes r new l now items) (left_own f readers k other within) comes

pub within_map : {R : Type 0} (f : R → Option (List ℕ)) (readers : List R) (k : ℕ) → k < length readers → k < length (map f readers)
within_map f readers k within = rw (length-map readers f) within

pub past_map : {R : Type 0} (f : R → Option (List ℕ)) (readers : List R) (k : ℕ) → length readers ≤ k → length (map f readers) ≤ k
past_map f readers k past = rw (length-map readers f) past

-- some more items
pub reads_more : (inputs ares later : List (Option (List ℕ))) (k : ℕ) (r new : ReaderValue) (now : Option (List ℕ)) (done items : List Item)
    → AreRead inputs ares k r done → k < length ares → IsStep ares later k now → Comes r new (left_at ares k) now items → AreRead inputs later k new (done ++ items)
reads_more inputs ares later k r new now done items a within step comes = record {
  before = a.before;
  others = a.others;
  files = a.files;
  own = a.own ++ items;
  is = a.is;
  same = a.same ∙ sym step.same;
  behind = a.behind ∙ sym step.behind;
  many = a.many;
  so_many = a.so_many;
  left = a.left;
  faultless = a.faultless;
  comes = subst (λ n. Comes begin new (left_at a.others 0) n (a.own ++ items)) (sym step.at) (comes_both begin r new (left_at a.others 0) (left_at ares k) now a.own items a.comes comes);
  came = ap (λ (l : List Item). l ++ items) a.came ∙ append_assoc (items_of_files a.files) a.own items;
  fresh = λ none. absurd (let len = ap length a.is ∙ length-append a.before a.others in let zero = ap length none in omega (arith, len, zero, a.same, a.many, within));
}

-- ---- the files

-- the files, of which these items came so far
pub record PartFiles (inputs : List (Option (List ℕ))) (done : List Item) : Type 0 where
  pub files : List (List ℕ)
  pub rest : List Item
  pub left : WereLeft inputs files
  pub came : items_of_files files ≡ done ++ rest

part_of : (inputs ares : List (Option (List ℕ))) (k : ℕ) (r : ReaderValue) (done : List Item) (a : AreRead inputs ares k r done) (others : List (Option (List ℕ))) → a.others ≡ others → PartFiles inputs done
part_of inputs ares k r done a [] is = record {
  files = a.files;
  rest = [];
  left = subst (λ (l : List (Option (List ℕ))). WereLeft l a.files) (sym (a.is ∙ ap (λ (l : List (Option (List ℕ))). a.before ++ l) is ∙ append-nil a.before)) a.left;
  came = sym (ap (λ (l : List Item). l ++ []) (a.came ∙ ap (λ (l : List Item). items_of_files a.files ++ l) (a.fresh is)) ∙ append-nil (items_of_files a.files ++ []) ∙ append-nil (items_of_files a.files));
}
part_of inputs ares k r done a (input ∷ others) is =
    let f = part_file r input (left_at ares k) a.own (subst (λ (l : List (Option (List ℕ))). Comes begin r (left_at l 0) (left_at ares k) a.own) is a.comes) in
    let some = some_files others in
    let more = unless_fault (fault_among (held_of f.0)) (items_of_files some.files) in
    record {
      files = a.files ++ f.0 ∷ some.files;
      rest = f.1 ++ more;
      left = subst (λ (l : List (Option (List ℕ))). WereLeft l (a.files ++ f.0 ∷ some.files)) (sym (a.is ∙ ap (λ (l : List (Option (List ℕ))). a.before ++ l) is))
          (left_append a.before (input ∷ others) a.files (f.0 ∷ some.files) a.left (f.2, some.left));
      came = items-append a.files (f.0 ∷ some.files) a.faultless
          ∙ ap (λ (l : List Item). items_of_files a.files ++ (l ++ more)) f.3
          ∙ ap (λ (l : List Item). items_of_files a.files ++ l) (append_assoc a.own f.1 more)
          ∙ sym (append_assoc (items_of_files a.files) a.own (f.1 ++ more))
          ∙ ap (λ (l : List Item). l ++ (f.1 ++ more)) (sym a.came);
    }

pub part_files : (inputs ares : List (Option (List ℕ))) (k : ℕ) (r : ReaderValue) (done : List Item) → AreRead inputs ares k r done → PartFiles inputs done
part_files inputs ares k r done a = part_of inputs ares k r done a a.others refl

-- all files, whose items are these, with the fault that ends them, if one does
pub record WholeFiles (inputs : List (Option (List ℕ))) (items : List Item) (fault : Option FileFault) : Type 0 where
  pub files : List (List ℕ)
  pub left : WereLeft inputs files
  pub ends : fault ≡ fault_in files
  pub came : items_of_files files ≡ items

-- no file is left
pub reads_all : (inputs ares : List (Option (List ℕ))) (k : ℕ) (r : ReaderValue) (done : List Item) → AreRead inputs ares k r done → length ares ≤ k → WholeFiles inputs done None
reads_all inputs ares k r done a past = go a.others refl
  where
    go : (others : List (Option (List ℕ))) → a.others ≡ others → WholeFiles inputs done None
    go [] is = record {
      files = a.files;
      left = subst (λ (l : List (Option (List ℕ))). WereLeft l a.files) (sym (a.is ∙ ap (λ (l : List (Option (List ℕ))). a.before ++ l) is ∙ append-nil a.before)) a.left;
      ends = sym (fault-none 0 a.files a.faultless);
      came = sym (a.came ∙ ap (λ (l : List Item). items_of_files a.files ++ l) (a.fresh is) ∙ append-nil (items_of_files a.files));
    }
    go (input ∷ others) is =
        absurd (let len = ap length a.is ∙ length-append a.before a.others in let some = ap length is in omega (arith, len, some, a.same, a.many, past))

-- what stands at the next reader
next_input : (inputs ares : List (Option (List ℕ))) (k : ℕ) (r : ReaderValue) (done : List Item) (a : AreRead inputs ares k r done) → k < length ares
    → (input : Option (List ℕ)) × (others : List (Option (List ℕ))) × (a.others ≡ input ∷ others)
next_input inputs ares k r done a within = go a.others refl
  where
    go : (others : List (Option (List ℕ))) → a.others ≡ others → (input : Option (List ℕ)) × (rest : List (Option (List ℕ))) × (a.others ≡ input ∷ rest)
    go [] is = absurd (let len = ap length a.is ∙ length-append a.before a.others in let none = ap length is in omega (arith, len, none, a.same, a.many, within))
    go (input ∷ others) is = (input, others, is)

-- at the end of a file the next one begins
pub reads_next : (inputs ares later : List (Option (List ℕ))) (k : ℕ) (r new fresh : ReaderValue) (now : Option (List ℕ)) (done : List Item)
    → AreRead inputs ares k r done → k < length ares → IsStep ares later k now → Comes r new (left_at ares k) now []
    → ((rest : List ℕ) → CanFollow new.is_whole rest → to_come new rest ≡ []) → fault_among done ≡ None → fresh ≡ begin → AreRead inputs later (k + 1) fresh done
reads_next inputs ares later k r new fresh now done a within step comes none faultless is_fresh =
    let n = next_input inputs ares k r done a within in
    let all : Comes begin new n.0 now (a.own ++ []) =
    comes_both begin r new n.0 (left_at ares k) now a.own [] (subst (λ (l : List (Option (List ℕ))). Comes begin r (left_at l 0) (left_at ares k) a.own) n.2 a.comes) comes in
    let f = whole_file new n.0 now (a.own ++ []) all none in
    let held : held_of f.0 ≡ a.own = f.2 ∙ append-nil a.own in
    let own_faultless : fault_among (held_of f.0) ≡ None =
    ap fault_among held ∙ sym (fault-append (items_of_files a.files) a.own (faultless_items a.files a.faultless)) ∙ ap fault_among (sym a.came) ∙ faultless in
    let rest : n.1 ≡ drop (suc k) later = ap (drop 1) (sym n.2) ∙ a.behind ∙ sym step.behind in
    let next : suc k ≡ k + 1 = omega arith in
    let after : drop 1 (drop (suc k) later) ≡ drop (suc (suc k)) later = drop_next (suc k) later in
    let len = length-append a.before (n.0 ∷ []) in
    let files_len = length-append a.files (f.0 ∷ []) in
    subst (λ m. AreRead inputs later m fresh done) next (record {
      before = a.before ++ n.0 ∷ [];
      others = n.1;
      files = a.files ++ f.0 ∷ [];
      own = [];
      is = a.is ∙ ap (λ (l : List (Option (List ℕ))). a.before ++ l) n.2 ∙ sym (append_assoc a.before (n.0 ∷ []) n.1);
      same = a.same ∙ sym step.same;
      behind = ap (drop 1) rest ∙ after;
      many = omega (arith, len, a.many);
      so_many = omega (arith, files_len, a.so_many);
      left = left_append a.before (n.0 ∷ []) a.files (f.0 ∷ []) a.left (f.1, tt);
      faultless = faultless_append a.files (f.0 ∷ []) a.faultless (own_faultless, tt);
      comes = subst (λ r. Comes begin r (left_at n.1 0) (left_at later (suc k)) []) (sym is_fresh)
          (subst (λ (o : Option (List ℕ)). Comes begin begin (left_at n.1 0) o []) (ap (λ (l : List (Option (List ℕ))). left_at l 0) rest ∙ left_at-drop later (suc k)) (comes_none begin (left_at n.1 0)));
      came = a.came ∙ ap (λ (l : List Item). items_of_files a.files ++ l) (sym held)
          ∙ sym (append-nil (items_of_files a.files ++ held_of f.0))
          ∙ ap (λ (l : List Item). l ++ []) (sym (items-append a.files (f.0 ∷ []) a.faultless
          ∙ ap (λ (l : List Item). items_of_files a.files ++ l) (one_file f.0 [] None own_faultless ∙ append-nil (held_of f.0))));
      fresh = λ e. refl;
    })
  where
    drop_next : (m : ℕ) (l : List (Option (List ℕ))) → drop 1 (drop m l) ≡ drop (suc m) l
    drop_next m l = drop-drop 1 m l ∙ ap (λ n. drop n l) (let same : m + 1 ≡ suc m = omega arith in same)

-- a file ends with a fault
pub reads_fault : (inputs ares : List (Option (List ℕ))) (k : ℕ) (r new : ReaderValue) (now : Option (List ℕ)) (done : List Item) (fault : RecordingError)
    → AreRead inputs ares k r done → k < length ares → Comes r new (left_at ares k) now (Err fault ∷ [])
    → ((rest : List ℕ) → CanFollow new.is_whole rest → to_come new rest ≡ []) → fault_among done ≡ None → WholeFiles inputs (done ++ Err fault ∷ []) (Some (told k fault))
reads_fault inputs ares k r new now done fault a within comes none faultless =
    let n = next_input inputs ares k r done a within in
    let all : Comes begin new n.0 now (a.own ++ Err fault ∷ []) =
    comes_both begin r new n.0 (left_at ares k) now a.own (Err fault ∷ []) (subst (λ (l : List (Option (List ℕ))). Comes begin r (left_at l 0) (left_at ares k) a.own) n.2 a.comes) comes in
    let f = whole_file new n.0 now (a.own ++ Err fault ∷ []) all none in
    let own_faultless : fault_among a.own ≡ None = sym (fault-append (items_of_files a.files) a.own (faultless_items a.files a.faultless)) ∙ ap fault_among (sym a.came) ∙ faultless in
    let has : fault_among (held_of f.0) ≡ Some fault = ap fault_among f.2 ∙ fault-append a.own (Err fault ∷ []) own_faultless in
    let some = some_files n.1 in
    record {
      files = a.files ++ f.0 ∷ some.files;
      left = subst (λ (l : List (Option (List ℕ))). WereLeft l (a.files ++ f.0 ∷ some.files)) (sym (a.is ∙ ap (λ (l : List (Option (List ℕ))). a.before ++ l) n.2))
          (left_append a.before (n.0 ∷ n.1) a.files (f.0 ∷ some.files) a.left (f.1, some.left));
      ends = ap (λ m. Some (told m fault)) (a.so_many ∙ from_zero (length a.files)) ∙ sym (fault-some 0 a.files some.files f.0 fault a.faultless has);
      came = items-append a.files (f.0 ∷ some.files) a.faultless
          ∙ ap (λ (l : List Item). items_of_files a.files ++ l) (one_file f.0 some.files (Some fault) has ∙ append-nil (held_of f.0) ∙ f.2)
          ∙ sym (append_assoc (items_of_files a.files) a.own (Err fault ∷ []))
          ∙ ap (λ (l : List Item). l ++ Err fault ∷ []) (sym a.came);
    }
  where
    from_zero : (n : ℕ) → n ≡ 0 + n
    from_zero n = omega arith

-- ---- what is left to read

-- one file less
pub file_less : (n m k place fresh : ℕ) → m ≡ n → k < n → (m - (k + 1)) * (2 ^ 64 + 1) + (2 ^ 64 - fresh) < (n - k) * (2 ^ 64 + 1) + (2 ^ 64 - place)
file_less n m k place fresh same within = omega (arith, same, within)

-- one record less
pub record_less : (n m k place more : ℕ) → m ≡ n → (place < more) × (more < 2 ^ 64) → (m - k) * (2 ^ 64 + 1) + (2 ^ 64 - more) < (n - k) * (2 ^ 64 + 1) + (2 ^ 64 - place)
record_less n m k place more same further = rw same (omega (arith, further.0, further.1))
