use Rattle.std.proofs.Common.{◌≡◌, ◌++◌, Some, drop, map}
use Rattle.someipctl_show.specs.Services.{service_in}
use Rattle.someipctl_show.proofs.services.read_services.Given as goal

abbrev pub invariant-loop-word : goal.invariant-loop-word
invariant-loop-word l = map (λ s. Some s) l.services.items ++ map service_in (map (λ w. w.now) (drop l.word-index l.words)) ≡ map service_in (map (λ w. w.now) l.words)
