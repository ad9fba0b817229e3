use Rattle.std.proofs.Common.{◌≡◌, drop}
use Rattle.std.specs.List.{list_any}
use Rattle.someip_world_verdict.specs.Books.{is_old}
use Rattle.someip_world_verdict.specs.Views.{view_note, view_taken}
use Rattle.someip_world_verdict.proofs.breach.has_old.Given as goal

-- what is left is old where anything is
abbrev pub invariant-loop-said : goal.invariant-loop-said
invariant-loop-said l =
    list_any (is_old (view_taken l.taken) (view_note l.note)) (drop l.said-index l.note.said.items) ≡ list_any (is_old (view_taken l.taken) (view_note l.note)) l.note.said.items
