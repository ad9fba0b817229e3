-- What the lines of a step change, line by line.
use Rattle.std.proofs.Common.{◌≡◌, ◌<◌, ◌≤◌, arith, ℕ, suc, ◌+◌, List, [], ◌∷◌, ◌++◌, drop, length, false, get_or, map, slice_set, Option, None, Some, refl, sym, ap, ◌∙◌, append-nil, append_assoc}
use Rattle.std.specs.List.{cons_option, flat_map}
use Rattle.std.specs.Option.{option_map}
use Rattle.std.proofs.lemmas.List.{at_drop_more}
use Rattle.std.proofs.lemmas.Option.{slice_get-map, slice_get_past, slice_get_read}
use Rattle.std.specs.declared.net.socket_addr.SocketAddrV4.{SocketAddrV4}
use Rattle.someip_node_rules.specs.declared.config.Config.{Config}
use Rattle.someip_world_schedule.specs.declared.step.Step.{Step}
use Rattle.someip_world_schedule.specs.declared.step.Step.TheVariants as steps
use Rattle.someip_world_rules.specs.Datagrams.{SentDatagram, datagram_in, datagrams_in}
use Rattle.someip_world_rules.specs.declared.line.Line.{Line}
use Rattle.someip_world_verdict.specs.Books.{Book, LifeKept, NoteKept, note_at}
use Rattle.someip_world_verdict.specs.Booking.{Openings, answered_in, booked, is_injection, is_refused, life_after, long_payload_of, notes_of, number_of, numbered, opened_by, opened_by_all, openings_after, said_by_lines}
use Rattle.someip_world_verdict.specs.Contents.{said_in}
use Rattle.someip_world_verdict.specs.Views.{view_note}
use Rattle.someip_world_verdict.specs.declared.note.Note.{Note}
use Rattle.someip_world_verdict.specs.declared.said.Said.{Said}

-- what is said first opens first
pub opened_in_turn : (n : ℕ) (xs ys : List Said) (o : Openings) → opened_by_all n (xs ++ ys) o ≡ opened_by_all n ys (opened_by_all n xs o)
opened_in_turn n [] ys o = refl
opened_in_turn n (x ∷ xs) ys o = opened_in_turn n xs ys (opened_by n x o)

module _ (n : ℕ) (line : Line) (lines : List Line) where
  pub opened_more : (o : Openings) → opened_by_all n (said_by_lines (line ∷ lines)) o ≡ opened_by_all n (said_by_lines lines) (opened_by_all n (said_by_lines (line ∷ [])) o)
  opened_more o = cases (datagram_in line)
    where
      cases : (d : Option SentDatagram) → opened_by_all n (flat_map said_in (cons_option d (datagrams_in lines))) o
          ≡ opened_by_all n (flat_map said_in (datagrams_in lines)) (opened_by_all n (flat_map said_in (cons_option d [])) o)
      cases None = refl
      cases (Some d) =
          opened_in_turn n (said_in d) (flat_map said_in (datagrams_in lines)) o
          ∙ ap (λ xs. opened_by_all n (flat_map said_in (datagrams_in lines)) (opened_by_all n xs o)) (sym (append-nil (said_in d)))

  pub notes_more : (answers payload : Option ℕ) → notes_of n answers payload (datagrams_in (line ∷ lines)) ≡ notes_of n answers payload (datagrams_in (line ∷ [])) ++ notes_of n answers payload (datagrams_in lines)
  notes_more answers payload = cases (datagram_in line)
    where
      cases : (d : Option SentDatagram) → notes_of n answers payload (cons_option d (datagrams_in lines)) ≡ notes_of n answers payload (cons_option d []) ++ notes_of n answers payload (datagrams_in lines)
      cases None = refl
      cases (Some d) = refl

-- the same of the lines that are left
pub opened_next : (n i : ℕ) (line : Line) (lines : List Line) (o : Openings) → i < length lines → line ≡ get_or lines i line
    → opened_by_all n (said_by_lines (drop (i + 1) lines)) (opened_by_all n (said_by_lines (line ∷ [])) o) ≡ opened_by_all n (said_by_lines (drop i lines)) o
opened_next n i line lines o lt is =
    sym (opened_more n line (drop (i + 1) lines) o) ∙ ap (λ l. opened_by_all n (said_by_lines (l ∷ drop (i + 1) lines)) o) is
    ∙ sym (at_drop_more (λ ls. opened_by_all n (said_by_lines ls) o) lines i line lt)

pub notes_next : (n i : ℕ) (answers payload : Option ℕ) (line : Line) (lines : List Line) (before : List NoteKept) → i < length lines → line ≡ get_or lines i line
    → (before ++ notes_of n answers payload (datagrams_in (line ∷ []))) ++ notes_of n answers payload (datagrams_in (drop (i + 1) lines)) ≡ before ++ notes_of n answers payload (datagrams_in (drop i lines))
notes_next n i answers payload line lines before lt is =
    append_assoc before (notes_of n answers payload (datagrams_in (line ∷ []))) (notes_of n answers payload (datagrams_in (drop (i + 1) lines)))
    ∙ ap (λ xs. before ++ xs)
    (sym (notes_more n line (drop (i + 1) lines) answers payload) ∙ ap (λ l. notes_of n answers payload (datagrams_in (l ∷ drop (i + 1) lines))) is
    ∙ sym (at_drop_more (λ ls. notes_of n answers payload (datagrams_in ls)) lines i line lt))

-- ---- what is kept of a datagram

pub noted : (notes : List Note) (number i : ℕ) (note : Note) → number ≡ i + 1 → i < length notes → note ≡ get_or notes i note → note_at (map view_note notes) number ≡ Some (view_note note)
noted notes number i note is lt at =
    let counted : i + 1 ≡ suc i = omega arith in
    ap (note_at (map view_note notes)) (is ∙ counted) ∙ slice_get-map view_note notes i ∙ ap (option_map view_note) (slice_get_read notes (length notes) i note refl lt at)

pub not_noted : (notes : List Note) (number i : ℕ) → number ≡ i + 1 → length notes ≤ i → note_at (map view_note notes) number ≡ None
not_noted notes number i is past =
    let counted : i + 1 ≡ suc i = omega arith in
    ap (note_at (map view_note notes)) (is ∙ counted) ∙ slice_get-map view_note notes i ∙ ap (option_map view_note) (slice_get_past notes i past)

-- ---- a step

-- a step of a node is no injection
pub no_injection : (step : Step) → ((node : List ℕ) (port : ℕ) (to : SocketAddrV4) (payload : List ℕ) → step ≡ steps.Inject node port to payload → ⊥) → is_injection step ≡ false
no_injection (steps.Inject node port to payload) not = absurd (not node port to payload refl)
no_injection step not = refl

-- a step at a node that did not refuse it changes what is kept so
pub booked_so : (config : Config) (n place : ℕ) (step : Step) (lines : List Line) (life : LifeKept) (book new : Book) → is_refused lines ≡ false → is_injection step ≡ false
    → new.taken ≡ (openings_after config book.notes book.taken life n step lines).taken
    → new.notes ≡ book.notes ++ notes_of n (answered_in book.notes life step) (option_map (number_of book.payloads n) (long_payload_of step)) (datagrams_in lines)
    → new.lives ≡ slice_set book.lives place (life_after config book.notes life step lines (openings_after config book.notes book.taken life n step lines).counters)
    → new.payloads ≡ numbered n (long_payload_of step) book.payloads → new ≡ booked config n place step lines life book
booked_so config n place step lines life book new took own taken notes lives payloads =
    rw (took, own) (λ i. record { taken = taken i; notes = notes i; lives = lives i; payloads = payloads i })
