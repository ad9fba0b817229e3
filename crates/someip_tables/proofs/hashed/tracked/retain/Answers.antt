use Rattle.std.proofs.Common.{ap, ◌∙◌, ◌&&◌}
use Rattle.std.specs.Option.{is_some}
use Rattle.std.specs.Map.{keys_of}
use Rattle.someip_tables.specs.hashed.Dues.{at_key}
use Rattle.someip_tables.proofs.about_hashed.Hashed.{distinct_by_order, entries_distinct}
use Rattle.someip_tables.specs.Tables.{map_of}
use Rattle.someip_tables.proofs.Entries.{from_entries-filter}
use Rattle.someip_tables.proofs.about_hashed.RetainedDues.{moment_left, moments-filter}
use Rattle.someip_tables.proofs.hashed.tracked.retain.Goals as goal

pub returns-clause-left : goal.returns-clause-left
returns-clause-left g c = λ p answers.
    ap (map_of g.K.Ord.cmp) (c.retain_entries.ensures.left p answers)
    ∙ from_entries-filter g.met.K.Ord.total g.met.K.Key.exact (λ e. p e.0 e.1) c.args.held.now.entries (entries_distinct g.met.K.Ord.total c.args.held.now.entries (distinct_by_order g.K.Ord.cmp g.met.K.Ord.matches_eq (keys_of c.args.held.now.entries) c.retain_entries.ensures.distinct))

pub returns-clause-tracks : goal.returns-clause-tracks
returns-clause-tracks g c = λ due.
    moments-filter g.met.K.Ord.total g.met.K.Key.exact (λ key. is_some (at_key g.K.Ord.cmp c.retain_entries.new.held.entries key)) due c.args.dues.now c.retain_dues.new.dues c.retain_dues.ensures
    ∙ ap (λ b. b && is_some (at_key g.K.Ord.cmp c.retain_entries.new.held.entries due.key)) (c.requires.tracks due)
    ∙ moment_left g.V.Waits.moment due.at (at_key g.K.Ord.cmp c.args.held.now.entries due.key) (at_key g.K.Ord.cmp c.retain_entries.new.held.entries due.key) (c.retain_entries.ensures.no_other due.key)
