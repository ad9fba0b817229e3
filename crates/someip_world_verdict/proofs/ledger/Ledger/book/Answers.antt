use Rattle.std.proofs.Common.{◌≡◌, ◌++◌, ◌∙◌, ap, slice_set, sym}
use Rattle.std.proofs.lemmas.List.{map-set}
use Rattle.std.proofs.lemmas.Option.{get_or_from_slice_get}
use Rattle.someip_world_rules.specs.Datagrams.{datagrams_in}
use Rattle.someip_world_verdict.specs.Booking.{answered_in, life_after, notes_of, openings_after}
use Rattle.someip_world_verdict.specs.Views.{view_book, view_life}
use Rattle.someip_world_verdict.proofs.BookingLemmas.{booked_so, no_injection}
use Rattle.someip_world_verdict.proofs.ledger.Ledger.book.Goals as goal

pub returns : goal.returns
returns c = λ life here.
    let config = c.args.done.config.now in
    let n = c.args.done.index in
    let step = c.args.done.step.now in
    let lines = c.args.done.lines.now in
    let book = view_book c.args.self.now in
    let same : c.index_mut.result.now ≡ life = c.index_mut.ensures.value ∙ get_or_from_slice_get c.args.self.now.lives.items c.args.place life _ here in
    booked_so config n c.args.place step lines (view_life life) book _ (sym c.is_refused.ensures ∙ c.if-is_refused.false) (no_injection step c.in_default.not-Inject)
    (c.in_ok-book_at.ensures.taken ∙ ap (λ l. (openings_after config book.notes book.taken (view_life l) n step lines).taken) same)
    (c.in_ok-book_at.ensures.notes
    ∙ ap (λ l. book.notes ++ notes_of n (answered_in book.notes (view_life l) step) c.in_ok-payload.payload (datagrams_in lines)) same
    ∙ ap (λ p. book.notes ++ notes_of n (answered_in book.notes (view_life life) step) p (datagrams_in lines)) c.in_ok-payload.ensures.number)
    (map-set view_life c.args.self.now.lives.items c.args.place c.book_at.new.life
    ∙ ap (slice_set book.lives c.args.place)
    (c.in_ok-book_at.ensures.life ∙ ap (λ l. life_after config book.notes (view_life l) step lines (openings_after config book.notes book.taken (view_life l) n step lines).counters) same))
    c.in_ok-payload.ensures.numbers
