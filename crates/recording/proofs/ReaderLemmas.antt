-- What comes next of a reader, by what the bytes that it holds tell.
use Rattle.std.proofs.Common.{◌≡◌, ℕ, ◌+◌, ◌≤◌, Bool, true, false, List, [], ◌∷◌, ◌++◌, length, drop, Option, Some, None, Result, Ok, Err, refl, sym, ap, ◌∙◌, arith}
use Rattle.std.specs.Prelude.{IfOk, IfErr}
use Rattle.std.specs.Io.KnownBytes.{Consumes}
use Rattle.std.proofs.lemmas.List.{append-nil, drop-drop, drop_all, drop-append-le, length-drop, take_rest}
use Rattle.recording.specs.declared.format.Format.{Format}
use Rattle.recording.specs.declared.interface.Interface.{Interface}
use Rattle.recording.specs.declared.packet.Packet.{Packet}
use Rattle.recording.specs.declared.held.Told.{Told}
use Rattle.recording.specs.declared.error.RecordingError.{RecordingError}
use Rattle.recording.specs.declared.reader.Next.{Next}
use Rattle.recording.specs.declared.reader.Next.TheVariants.{Record, Unread, End}
use Rattle.recording.specs.declared.stage.Stage.TheVariants.{Head}
use Rattle.recording.specs.Steps.{IsLast}
use Rattle.recording.specs.Captured.{RecordValue}
use Rattle.recording.specs.View.{record_at, given_in, packet_behind, LiesIn}
use Rattle.recording.specs.Records.{Item, items_after}
use Rattle.recording.specs.Held.{held_limit, wanted, LacksBytes}
use Rattle.recording.specs.Readers.{IsAfterRead, items_by, to_come, ReaderValue, CanFollow, IsNext}
use Rattle.recording.specs.HeldItems.{held_from, held_behind}
use Rattle.recording.specs.Records.{format_of}
use Rattle.recording.specs.Told.{TakesTold, EndsTold}
use Rattle.recording.proofs.RangeLemmas.{given-behind}
use Rattle.recording.proofs.HeldLemmas.{held_from-nil}

module _ (format : Format) (before after : List Interface) (p : ℕ) (bytes : List ℕ) (start : ℕ) (told : Told)
    (within : told.len ≤ length (drop start bytes))
  where
    later : (rest : List ℕ) → drop told.len (drop start bytes ++ rest) ≡ drop (start + told.len) bytes ++ rest
    later rest = drop-append-le told.len (drop start bytes) rest within ∙ ap (λ (b : List ℕ). b ++ rest) (drop-drop told.len start bytes)

    pub comes : (packet : Option Packet) (rest : List ℕ) → told.packet ≡ packet → TakesTold format before after p (drop start bytes) rest told
        → held_from format before p (drop start bytes ++ rest)
        ≡ items_after (Ok (given_in (drop start bytes) packet)) (held_from told.format after (p + told.len) (drop (start + told.len) bytes ++ rest))
    comes packet rest is takes =
        takes
        ∙ ap (λ k. items_after (Ok (given_in (drop start bytes) k)) (held_from told.format after (p + told.len) (drop told.len (drop start bytes ++ rest)))) is
        ∙ ap (λ (b : List ℕ). items_after (Ok (given_in (drop start bytes) packet)) (held_from told.format after (p + told.len) b)) (later rest)

    pub record_comes : (k : Packet) (rest : List ℕ) → start ≤ length bytes → told.packet ≡ Some k → LiesIn (drop start bytes) told.packet → TakesTold format before after p (drop start bytes) rest told
        → held_from format before p (drop start bytes ++ rest)
        ≡ Ok (record_at bytes (packet_behind start k)) ∷ held_from told.format after (p + told.len) (drop (start + told.len) bytes ++ rest)
    record_comes k rest le is lies takes =
        comes (Some k) rest is takes
        ∙ ap (λ (given : Option RecordValue). items_after (Ok given) (held_from told.format after (p + told.len) (drop (start + told.len) bytes ++ rest)))
        (given-behind bytes (drop start bytes) start (length bytes) (Some k) (sym (take_rest bytes start)) le (rw is at lies))

    pub too_few : EndsTold false (drop start bytes) told → LacksBytes (drop (start + told.len) bytes) (wanted told.format (drop (start + told.len) bytes))
    too_few ends = rw (drop-drop told.len start bytes) at ends

    pub nothing : (rest : List ℕ) → EndsTold true (drop start bytes) told → rest ≡ [] → held_from told.format after (p + told.len) (drop (start + told.len) bytes ++ rest) ≡ []
    nothing rest ends is =
        let all : drop (start + told.len) bytes ≡ [] = drop_all (start + told.len) bytes (omega (arith, ends, length-drop start bytes)) in
        ap (λ (b : List ℕ). held_from told.format after (p + told.len) b) (ap (λ (b : List ℕ). b ++ rest) all ∙ is)
        ∙ held_from-nil told.format after (p + told.len)

-- ---- the beginning

pub if_ok : {X E : Type 0} (r : Result X E) (P Q : X → Type 0) → ((x : X) → P x → Q x) → IfOk r P → IfOk r Q
if_ok (Ok x) P Q step holds = step x holds
if_ok (Err e) P Q step holds = tt

pub if_err : {X E : Type 0} (r : Result X E) (P Q : E → Type 0) → ((e : E) → P e → Q e) → IfErr r P → IfErr r Q
if_err (Ok x) P Q step holds = tt
if_err (Err e) P Q step holds = step e holds

can-follow : (a b : Bool) (rest : List ℕ) → a ≡ b → CanFollow a rest → CanFollow b rest
can-follow a b rest is follows = rw (← is) follows

-- what is next of a reader of which the same is to come is next of the other
pub moved : (before inner after : ReaderValue) (next : Next) → inner.is_whole ≡ before.is_whole → before.place ≤ inner.place
    → ((rest : List ℕ) → CanFollow before.is_whole rest → to_come before rest ≡ to_come inner rest) → IsNext inner after next → IsNext before after next
moved before inner after Record whole further same next = (next.0, next.1, omega (arith, further, next.2), λ rest follows. same rest follows ∙ next.3 rest (can-follow _ _ rest (sym whole) follows))
moved before inner after Unread whole further same next =
    (sym whole ∙ next.0, next.1, λ rest. same rest (can-follow false before.is_whole rest (sym (sym whole ∙ next.0)) tt) ∙ next.2 rest, next.3)
moved before inner after End whole further same next = (
  λ rest follows.
      let n = next.0 rest (can-follow _ _ rest (sym whole) follows) in
      (same rest follows ∙ n.0, n.1),
  next.1,
)

pub last-moved : (e : RecordingError) (one other : List Item) → one ≡ other → IsLast e other → IsLast e one
last-moved e one other is last = rw is last

-- after the start of a file the same is to come
pub opened : (format : Format) (interfaces : List Interface) (p len : ℕ) (bytes : List ℕ) (start : ℕ) (rest : List ℕ) → len ≤ length (drop start bytes)
    → format_of (drop start bytes ++ rest) ≡ Some (format, len)
    → items_by Head interfaces p (drop start bytes ++ rest) ≡ held_from format interfaces (p + len) (drop (start + len) bytes ++ rest)
opened format interfaces p len bytes start rest within is =
    ap (held_behind interfaces p (drop start bytes ++ rest)) is
    ∙ ap (λ (b : List ℕ). held_from format interfaces (p + len) b) (drop-append-le len (drop start bytes) rest within ∙ ap (λ (b : List ℕ). b ++ rest) (drop-drop len start bytes))

-- ---- a read

consumes_none : (known : Option (List ℕ)) → Consumes known known []
consumes_none None = tt
consumes_none (Some xs) = refl

abbrev with_held : ReaderValue → List ℕ → Option RecordValue → ReaderValue
with_held r held current = record r { held = held; current = current }

-- no read forgets the record, and changes nothing else
pub unread : (r : ReaderValue) (known : Option (List ℕ)) → (r.is_whole ≡ false → held_limit ≤ length r.held) → IsAfterRead r (with_held r r.held None) known known
unread r known enough = record {
  bytes = [];
  consumed = consumes_none known;
  is = ap (λ (held : List ℕ). with_held r held None) (sym (append-nil r.held));
  whole = λ is. (is, refl);
  end = λ not is. absurd (let same : false ≡ true = sym not ∙ is in cc);
  more = λ not none. enough not;
  most = omega arith;
  full = λ limit. refl;
  forgets = λ not room. let limit = enough not in absurd (omega (arith, limit, room));
}
