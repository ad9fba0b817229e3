-- What comes of a recording, step by step.
use Rattle.std.proofs.Common.{◌≡◌, ℕ, Bool, true, false, List, [], ◌∷◌, ◌++◌, Option, Some, None, Ok, refl, sym, ap, subst, ◌∙◌, append_assoc, inl}
use Rattle.std.specs.Io.KnownBytes.{Consumes, IsAtEnd}
use Rattle.std.proofs.lemmas.List.{append-nil}
use Rattle.recording.specs.declared.Next.TheVariants as next
use Rattle.recording.specs.declared.stage.Stage.TheVariants.{Head}
use Rattle.recording.specs.Captured.{RecordValue}
use Rattle.recording.specs.Records.{Item}
use Rattle.recording.specs.HeldItems.{held_of}
use Rattle.recording.specs.Readers.{ReaderValue, CanFollow, IsNext, IsAfterRead, items_by, to_come}
use Rattle.someipctl_io.specs.Inputs.{WasLeft}
use Rattle.someipctl_io.specs.declared.Fault.{Fault}
use Rattle.someipctl_io.specs.declared.ReadFault.{ReadFault}
use Rattle.someipctl_io.specs.declared.ReadFault.TheVariants as reads
use Rattle.someipctl_io.specs.Faults.{fault_of_read}
use Rattle.someipctl_recordings.specs.Coming.{Comes, EndsAt, IsStopped, MayStop, WantsBytes, coming_items}
use Rattle.someipctl_recordings.specs.declared.read_loop.Coming.{Coming}
use Rattle.someipctl_recordings.specs.declared.read_loop.Coming.TheVariants.{Record}

-- ---- the bytes that a source gives

pub consumes_none : (known : Option (List ℕ)) → Consumes known known []
consumes_none None = tt
consumes_none (Some xs) = refl

consumes_both : (a b c : Option (List ℕ)) (xs ys : List ℕ) → Consumes a b xs → Consumes b c ys → Consumes a c (xs ++ ys)
consumes_both None b c xs ys one other = tt
consumes_both (Some ks) None c xs ys one other = absurd one
consumes_both (Some ks) (Some ls) None xs ys one other = absurd other
consumes_both (Some ks) (Some ls) (Some ms) xs ys one other = one ∙ ap (λ (l : List ℕ). xs ++ l) other ∙ sym (append_assoc xs ys ms)

ends_same : (known : Option (List ℕ)) → IsAtEnd known → EndsAt known known
ends_same None end = tt
ends_same (Some xs) end = end

ends_any : (were are : Option (List ℕ)) → IsAtEnd are → EndsAt were are
ends_any None are end = tt
ends_any (Some xs) are end = end

-- nothing is read at the end
ends_empty : (were are : Option (List ℕ)) (xs : List ℕ) → Consumes were are xs → xs ≡ [] → IsAtEnd were → EndsAt were are
ends_empty None are xs one none end = tt
ends_empty (Some ks) None xs one none end = absurd one
ends_empty (Some ks) (Some ls) xs one none end = sym (one ∙ ap (λ (l : List ℕ). l ++ ls) none) ∙ end

ends_both : (k l m : Option (List ℕ)) (xs : List ℕ) (b c : Bool) → Consumes k l xs → (b ≡ true → EndsAt k l) → ((b ≡ true → IsAtEnd l) → c ≡ true → EndsAt l m) → c ≡ true → EndsAt k m
ends_both None l m xs b c one ends others is = tt
ends_both (Some ks) None m xs b c one ends others is = absurd one
ends_both (Some ks) (Some ls) m xs b c one ends others is = others ends is

-- ---- steps

pub comes_none : (r : ReaderValue) (known : Option (List ℕ)) → Comes r r known known []
comes_none r known = record { seen = []; consumed = consumes_none known; follows = λ rest f. f; came = λ rest f. refl; at_end = λ was is. ends_same known (was is) }

pub comes_both : (a b c : ReaderValue) (k l m : Option (List ℕ)) (items others : List Item) → Comes a b k l items → Comes b c l m others → Comes a c k m (items ++ others)
comes_both a b c k l m items others one other =
    let place : (rest : List ℕ) → (one.seen ++ other.seen) ++ rest ≡ one.seen ++ (other.seen ++ rest) = λ rest. append_assoc one.seen other.seen rest in
    record {
      seen = one.seen ++ other.seen;
      consumed = consumes_both k l m one.seen other.seen one.consumed other.consumed;
      follows = λ rest f. subst (CanFollow a.is_whole) (sym (place rest)) (one.follows (other.seen ++ rest) (other.follows rest f));
      came = λ rest f.
          ap (to_come a) (place rest) ∙ one.came (other.seen ++ rest) (other.follows rest f) ∙ ap (λ (l : List Item). items ++ l) (other.came rest f) ∙ sym (append_assoc items others (to_come c rest));
      at_end = λ was. ends_both k l m one.seen b.is_whole c.is_whole one.consumed (one.at_end was) other.at_end;
    }

-- without a read
quiet : (b c : ReaderValue) (known : Option (List ℕ)) (items : List Item) → c.is_whole ≡ b.is_whole
    → ((rest : List ℕ) → CanFollow c.is_whole rest → to_come b rest ≡ items ++ to_come c rest) → Comes b c known known items
quiet b c known items whole came = record {
  seen = [];
  consumed = consumes_none known;
  follows = λ rest f. rw (← whole) f;
  came = came;
  at_end = λ was is. ends_same known (was (sym whole ∙ is));
}

pub comes_unread : (b c : ReaderValue) (known : Option (List ℕ)) → IsNext b c next.Unread → c.is_whole ≡ b.is_whole → Comes b c known known []
comes_unread b c known is whole = quiet b c known [] whole (λ rest f. is.2 rest)

follows_read : (before after : Bool) (bytes rest : List ℕ) → (before ≡ true → (after ≡ true) × (bytes ≡ [])) → CanFollow after rest → CanFollow before (bytes ++ rest)
follows_read false after bytes rest whole f = tt
follows_read true after bytes rest whole f =
    let w = whole refl in
    ap (λ (l : List ℕ). l ++ rest) w.1 ∙ rw w.0 at f

ends_read : (before after : Bool) (were are : Option (List ℕ)) (bytes : List ℕ) → Consumes were are bytes → (before ≡ true → (after ≡ true) × (bytes ≡ []))
    → (before ≡ false → after ≡ true → (bytes ≡ []) × IsAtEnd are) → (before ≡ true → IsAtEnd were) → after ≡ true → EndsAt were are
ends_read true after were are bytes consumed whole end was is = ends_empty were are bytes consumed (whole refl).1 (was refl)
ends_read false after were are bytes consumed whole end was is = ends_any were are (end refl is).1

left_read : (b c : ReaderValue) (bytes rest : List ℕ)
    → c ≡ record b { held = b.held ++ bytes; taken = c.taken; is_whole = c.is_whole; current = None }
    → to_come b (bytes ++ rest) ≡ to_come c rest
left_read b c bytes rest is =
    ap (λ (l : List ℕ). items_by b.stage b.interfaces b.place l) (sym (append_assoc b.held bytes rest)) ∙ sym (ap (λ r. to_come r rest) is)

pub comes_read : (b c : ReaderValue) (were are : Option (List ℕ)) → IsAfterRead b c were are → Comes b c were are []
comes_read b c were are r = record {
  seen = r.bytes;
  consumed = r.consumed;
  follows = λ rest f. follows_read b.is_whole c.is_whole r.bytes rest r.whole f;
  came = λ rest f. left_read b c r.bytes rest r.is;
  at_end = ends_read b.is_whole c.is_whole were are r.bytes r.consumed r.whole r.end;
}

-- ---- errors of the machine

-- where the next item is not known more bytes are wanted, and such an error may come
pub stopped : {R : Type 0} (fault : Fault R) (a b c : ReaderValue) (k l : Option (List ℕ)) → Comes a b k l [] → IsNext b c next.Unread → c.is_whole ≡ b.is_whole
    → (WantsBytes c → MayStop fault c) → IsStopped a k fault
stopped fault a b c k l came is whole may = record {
  reader = c;
  are = l;
  came = comes_both a b c k l l [] [] came (comes_unread b c l is whole);
  may = may (whole ∙ is.0, is.1);
}

-- an error of a read is one of the machine, of either kind
pub read_may : (R : Type 0) (why : ReadFault) (r : ReaderValue) → WantsBytes r → MayStop {R = R} (fault_of_read why) r
read_may R reads.CannotRead r wants = wants
read_may R reads.OutOfMemory r wants = inl wants

-- ---- the file

-- a reader of which nothing was read yet
abbrev pub begin : ReaderValue
begin = record { stage = Head; interfaces = []; place = 0; held = []; taken = 0; is_whole = false; current = None }

empty : (whole : Bool) → CanFollow whole []
empty true = refl
empty false = tt

at_most : (whole : Bool) (ys : List ℕ) → (whole ≡ true → ys ≡ []) → CanFollow whole ys
at_most true ys end = end refl
at_most false ys end = tt

-- what a source had left, of which these items came, and no more can
pub whole_file : (r : ReaderValue) (were are : Option (List ℕ)) (items : List Item) → Comes begin r were are items
    → ((rest : List ℕ) → CanFollow r.is_whole rest → to_come r rest ≡ []) → (file : List ℕ) × WasLeft were file × (held_of file ≡ items)
whole_file r None are items c none =
    (c.seen ++ [], tt, c.came [] (empty r.is_whole) ∙ ap (λ (l : List Item). items ++ l) (none [] (empty r.is_whole)) ∙ append-nil items)
whole_file r (Some xs) None items c none = absurd c.consumed
whole_file r (Some xs) (Some ys) items c none =
    let f = at_most r.is_whole ys (c.at_end (λ is. absurd (let same : false ≡ true = is in cc))) in
    (xs, refl, ap held_of c.consumed ∙ c.came ys f ∙ ap (λ (l : List Item). items ++ l) (none ys f) ∙ append-nil items)

-- what a source had left, of which these items came so far
pub part_file : (r : ReaderValue) (were are : Option (List ℕ)) (items : List Item) → Comes begin r were are items
    → (file : List ℕ) × (others : List Item) × WasLeft were file × (held_of file ≡ items ++ others)
part_file r None are items c = (c.seen ++ [], to_come r [], tt, c.came [] (empty r.is_whole))
part_file r (Some xs) None items c = absurd c.consumed
part_file r (Some xs) (Some ys) items c =
    let f = at_most r.is_whole ys (c.at_end (λ is. absurd (let same : false ≡ true = is in cc))) in
    (xs, to_come r ys, refl, ap held_of c.consumed ∙ c.came ys f)

-- ---- by the record that was taken

pub comes_taken : (b c : ReaderValue) (were are : Option (List ℕ)) (coming : Coming) (r : RecordValue) → coming ≡ Record → c.current ≡ Some r → Comes b c were are (coming_items coming c.current) → Comes b c were are (Ok r ∷ [])
comes_taken b c were are coming r is taken comes =
    subst (λ (items : List Item). Comes b c were are items) (ap (coming_items coming) taken ∙ ap (λ (k : Coming). coming_items k (Some r)) is) comes

pub comes_empty : (b c : ReaderValue) (were are : Option (List ℕ)) (coming : Coming) → coming ≡ Record → c.current ≡ None → Comes b c were are (coming_items coming c.current) → Comes b c were are []
comes_empty b c were are coming is none comes =
    subst (λ (items : List Item). Comes b c were are items) (ap (coming_items coming) none ∙ ap (λ (k : Coming). coming_items k None) is) comes
