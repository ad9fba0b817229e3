use Rattle.std.proofs.Common.{◌≡◌, ◌++◌, drop, take, length}
use Rattle.someip_tp.specs.Calls.{MayCalls, answers_to, parts_through, taken_through}
use Rattle.someip_tp.proofs.calls.make_calls.Given as goal

-- what was answered, and what the calls that are left will answer, is what all are to answer
abbrev pub invariant-loop-call : goal.invariant-loop-call
invariant-loop-call g l =
    let parts = g.R.Reassembly.parts in
    let limits = g.R.Reassembly.limits l.fn.store in
    record {
      may : MayCalls limits (drop l.call-index l.calls) (parts l.store);
      answered : l.answers.items ++ answers_to limits (drop l.call-index l.calls) (parts l.store) ≡ answers_to limits l.calls (parts l.fn.store);
      through : parts_through limits (drop l.call-index l.calls) (parts l.store) ≡ parts_through limits l.calls (parts l.fn.store);
      taken : l.taken.items ++ taken_through limits (drop l.call-index l.calls) (parts l.store) ≡ l.fn.taken.items ++ taken_through limits l.calls (parts l.fn.store);
      front : take (length l.fn.taken.items) l.taken.items ≡ l.fn.taken.items;
      bounded : g.R.Reassembly.limits l.store ≡ limits;
    }
