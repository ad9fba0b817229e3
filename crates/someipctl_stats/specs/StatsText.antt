-- What is printed of the figures of a recording.
use Rattle.std.specs.Prelude.{ℕ, if◌then◌else◌, List, [], ◌++◌}
use Rattle.std.specs.FinMap as finite
use Rattle.std.specs.List.{flat_map}
use Rattle.audit_stats.specs.declared.discovery.DiscoveryFigures.{DiscoveryFigures}
use Rattle.audit_stats.specs.declared.events.EventFigures.{EventFigures}
use Rattle.audit_stats.specs.declared.full.Full.{Full}
use Rattle.audit_stats.specs.declared.full.Full.TheVariants as full
use Rattle.audit_stats.specs.declared.keys.Flow.{Flow}
use Rattle.audit_stats.specs.declared.keys.Way.{Way}
use Rattle.audit_stats.specs.declared.methods.MethodFigures.{MethodFigures}
use Rattle.audit_stats.specs.Stats.{Stats, has_told}
use Rattle.someipctl_io.specs.declared.form.Form.{Form}
use Rattle.someipctl_io.specs.ToldLines.{line_text}
use Rattle.someipctl_show.specs.VerdictForms.{no_head}
use Rattle.someipctl_stats.specs.StatsLines.{discovery_line, event_line, full_line, method_line}

-- the lines of some methods, of some events, and of some ways of Service Discovery, in this order
abbrev pub lines_of_methods : Form → List (Flow × MethodFigures) → List ℕ
lines_of_methods form methods = flat_map (λ m. line_text form no_head (method_line m.0 m.1)) methods

abbrev pub lines_of_events : Form → List (Flow × EventFigures) → List ℕ
lines_of_events form events = flat_map (λ e. line_text form no_head (event_line e.0 e.1)) events

abbrev pub lines_of_ways : Form → List (Way × DiscoveryFigures) → List ℕ
lines_of_ways form ways = flat_map (λ w. line_text form no_head (discovery_line w.0 w.1)) ways

-- those of all that is counted, by rising key
abbrev pub methods_text : Form → Stats → List ℕ
methods_text form s = lines_of_methods form (finite.entries s.methods.values)

abbrev pub events_text : Form → Stats → List ℕ
events_text form s = lines_of_events form (finite.entries s.events.values)

abbrev pub discovery_text : Form → Stats → List ℕ
discovery_text form s = lines_of_ways form (finite.entries s.discovery.values)

-- that something is full, if it was told
abbrev pub one_full_text : Form → Stats → Full → List ℕ
one_full_text form s f = if has_told f s then line_text form no_head (full_line f) else []

abbrev pub all_full_text : Form → Stats → List ℕ
all_full_text form s = one_full_text form s full.Methods ++ (one_full_text form s full.Events ++ (one_full_text form s full.Discovery ++ one_full_text form s full.Calls))

-- all figures: methods, events, Service Discovery, and what is full
abbrev pub figures_text : Form → Stats → List ℕ
figures_text form s = methods_text form s ++ (events_text form s ++ (discovery_text form s ++ all_full_text form s))
