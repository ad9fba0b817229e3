use Rattle.std.proofs.Common.{◌≡◌, ◌+◌, ◌<◌, ◌≤◌, ◌∙◌, length, drop, sym, arith}
use Rattle.std.proofs.lemmas.List.{take_rest, length-drop, drop-drop}
use Rattle.recording.specs.Numbers.{number16}
use Rattle.recording.specs.Interfaces.{option_len, value_len}
use Rattle.recording.proofs.OptionLemmas.{option_in-nil, option_in-last, option_in-cut, option_in-found, option_in-other}
use Rattle.recording.proofs.interface.option_in.Goals as goal
use Rattle.recording.proofs.interface.option_in.Goals.{then-found-eq0-via-then-found-eq0, then-found-eq0-via-else-found-eq0+then-rest-size}

pub returns-then-rest-lt4-clause-none : goal.returns-then-rest-lt4-clause-none
returns-then-rest-lt4-clause-none c =
    let rest = drop c.loop-place.place c.args.options.now in
    let short : length rest < 4 = rw take_rest at c.if-rest-lt4.true in
    sym c.loop-place.invariant ∙ option_in-nil c.args.order c.args.code rest short

pub returns-then-found-eq0-clause-none : goal.returns-then-found-eq0-clause-none
returns-then-found-eq0-clause-none c =
    let rest = drop c.loop-place.place c.args.options.now in
    let long : 4 ≤ length rest = let h = rw take_rest at c.if-rest-lt4.false in omega (arith, h) in
    let code : c.u16_at-found.result ≡ number16 c.args.order rest 0 = rw take_rest at c.u16_at-found.ensures in
    let size : c.u16_at-size.result ≡ value_len c.args.order rest = rw take_rest at c.u16_at-size.ensures in
    sym c.loop-place.invariant ∙
    (elim c.then-found-eq0.branch [
      | then-found-eq0-via-then-found-eq0 w ↦ option_in-last c.args.order c.args.code rest long (sym code ∙ w.if-found-eq0.true)
      | then-found-eq0-via-else-found-eq0+then-rest-size w ↦
          let cut : length rest < 4 + c.u16_at-size.result = rw take_rest at w.if-rest-size.true in
          option_in-cut c.args.order c.args.code rest long (λ is. w.if-found-eq0.false (code ∙ is)) (omega (arith, cut, size))
    ])

pub returns-then-found-code-clause-some : goal.returns-then-found-code-clause-some
returns-then-found-code-clause-some c =
    let rest = drop c.loop-place.place c.args.options.now in
    let long : 4 ≤ length rest = let h = rw take_rest at c.if-rest-lt4.false in omega (arith, h) in
    let code : c.u16_at-found.result ≡ number16 c.args.order rest 0 = rw take_rest at c.u16_at-found.ensures in
    let size : c.u16_at-size.result ≡ value_len c.args.order rest = rw take_rest at c.u16_at-size.ensures in
    let fits : 4 + c.u16_at-size.result ≤ length rest = rw take_rest at c.if-rest-size.false in
    rw (take_rest, size)
    (sym c.loop-place.invariant
    ∙ option_in-found c.args.order c.args.code rest long (λ is. c.if-found-eq0.false (code ∙ is)) (omega (arith, fits, size)) (sym code ∙ c.if-found-code.true))

pub loop-place-preserved : goal.loop-place-preserved
loop-place-preserved c =
    let rest = drop c.loop-place.place c.args.options.now in
    let long : 4 ≤ length rest = let h = rw take_rest at c.if-rest-lt4.false in omega (arith, h) in
    let code : c.u16_at-found.result ≡ number16 c.args.order rest 0 = rw take_rest at c.u16_at-found.ensures in
    let size : c.u16_at-size.result ≡ value_len c.args.order rest = rw take_rest at c.u16_at-size.ensures in
    let fits : 4 + c.u16_at-size.result ≤ length rest = rw take_rest at c.if-rest-size.false in
    rw (size, ← drop-drop (option_len c.args.order rest) c.loop-place.place c.args.options.now)
    (sym (option_in-other c.args.order c.args.code rest long (λ is. c.if-found-eq0.false (code ∙ is)) (omega (arith, fits, size)) (λ is. c.if-found-code.false (code ∙ is)))
    ∙ c.loop-place.invariant)

pub returns-clause-none : goal.returns-clause-none
returns-clause-none c =
    let rest = drop c.loop-place.place c.args.options.now in
    sym c.loop-place.invariant ∙ option_in-nil c.args.order c.args.code rest (omega (arith, length-drop c.loop-place.place c.args.options.now, c.loop-place-test.false))
