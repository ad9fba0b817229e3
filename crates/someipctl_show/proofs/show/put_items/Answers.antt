use Rattle.std.proofs.Common.{◌≡◌, ◌+◌, ◌++◌, [], ap, sym, subst, ◌∙◌, arith, refl, rules, map}
use Rattle.someipctl_io.specs.Discovery.{discovery_in, view_reading}
use Rattle.someipctl_show.specs.Readings.{readings_in}
use Rattle.someipctl_show.proofs.ReadingsLemmas.{left_behind, more}
use Rattle.someip_wire.specs.Reading.{items_of}
use Rattle.someip_wire.specs.View.{view_item}
use Rattle.someipctl_io.specs.Items.{item_len}
use Rattle.someipctl_show.specs.ShownForms.{AreLinesIn, IsItemTextIn}
use Rattle.someipctl_show.specs.ShownText.{shows_fault}
use Rattle.someipctl_io.proofs.SendingLemmas.{OnErr-any}
use Rattle.someipctl_show.proofs.KindLemmas.{sending_start, sending_end, sending_more, sending_stop}
use Rattle.someipctl_show.proofs.ShownTextLemmas.{any_end, any_more, items_len, items_within_datagram}
use Rattle.someipctl_show.proofs.FormLemmas.{next_item_in, some_lines_in}
use Rattle.someipctl_show.proofs.show.put_items.Goals as goal

pub loop-item-init : goal.loop-item-init
loop-item-init g c =
    let same : c.into_iter-item-iterator.result ≡ c.new-item-items.result = search rules in
    let within = items_within_datagram c.args.datagram.now c.new-item-items.result (search rules) in
    let all : c.into_iter-item-iterator.result ≡ items_of c.args.datagram.now = search rules in
    let begins : map view_reading c.args.left.now.now ≡ readings_in c.into_iter-item-iterator.result ++ c.requires.0 = c.requires.1 ∙ ap (λ i. readings_in i ++ c.requires.0) (sym all) in
    (sending_start _ _ (AreLinesIn c.args.form c.args.values.now.types.now c.args.k 0 c.into_iter-item-iterator.result), refl, omega (arith, within, ap items_len same), (c.requires.0, begins, begins), refl)

pub returns-in_err-faulty-clause-err : goal.returns-in_err-faulty-clause-err
returns-in_err-faulty-clause-err g c =
    let types = c.args.values.now.types.now in
    let item = view_item c.in-Some.item in
    let next = c.loop-item.place + item_len item in
    let all : c.into_iter-item-iterator.result ≡ items_of c.args.datagram.now = search rules in
    rw (← all)
    (OnErr-any c.from_residual.result
    (sending_stop _ _ _ _ _ (IsItemTextIn c.args.form types c.args.k c.loop-item.place item) (AreLinesIn c.args.form types c.args.k next c.next.new.self) (AreLinesIn c.args.form types c.args.k 0 c.into_iter-item-iterator.result)
    (next_item_in c.args.form types c.args.k c.loop-item.place _ _ _ _ _ _ item _ c.in-Some.ensures.steps c.loop-item.invariant.0) (rw c.loop-item.invariant.4 at c.in_err-faulty.ensures.err)
    (some_lines_in c.args.form types c.args.k next c.next.new.self)))

pub loop-item-preserved : goal.loop-item-preserved
loop-item-preserved g c =
    let types = c.args.values.now.types.now in
    let item = view_item c.in-Some.item in
    rw c.item_len.ensures (
      sending_more _ _ _ _ _ _ (IsItemTextIn c.args.form types c.args.k c.loop-item.place item) (AreLinesIn c.args.form types c.args.k (c.loop-item.place + item_len item) c.next.new.self) (AreLinesIn c.args.form types c.args.k 0 c.into_iter-item-iterator.result)
          (next_item_in c.args.form types c.args.k c.loop-item.place _ _ _ _ _ _ item _ c.in-Some.ensures.steps c.loop-item.invariant.0) (rw c.loop-item.invariant.4 at c.in_ok-faulty.ensures.ok),
      rw (c.in_ok-faulty.ensures.faulty, c.loop-item.invariant.4) (any_more (shows_fault c.args.values.now.types.now) c.loop-item.faulty _ _ (view_item c.in-Some.item) _ c.in-Some.ensures.steps c.loop-item.invariant.1),
      omega (arith, ap items_len c.in-Some.ensures.steps, c.loop-item.invariant.2),
      (
        c.loop-item.invariant.3.0,
        left_behind (discovery_in (view_item c.in-Some.item)) _ _ _ _ c.next_reading-found.ensures.found (more _ _ _ _ _ c.loop-item.invariant.3.1 c.in-Some.ensures.steps) c.next_reading-found.ensures.left,
        c.loop-item.invariant.3.2,
      ),
      c.in_ok-faulty.ensures.types ∙ c.loop-item.invariant.4,
    )

pub next_reading-found-requires : goal.next_reading-found-requires
next_reading-found-requires g c =
    (_, more _ _ _ _ _ c.loop-item.invariant.3.1 c.in-Some.ensures.steps)

pub returns-clause-left : goal.returns-clause-left
returns-clause-left g c =
    let all : c.into_iter-item-iterator.result ≡ items_of c.args.datagram.now = search rules in
    let others = c.loop-item.invariant.3.0 in
    let rest : map view_reading c.loop-item.left.now ≡ others = c.loop-item.invariant.3.1 ∙ ap (λ i. readings_in i ++ others) c.in-None.ensures.steps.0 in
    (c.loop-item.invariant.3.2 ∙ ap (λ i. readings_in i ++ others) all) ∙ ap (λ r. readings_in (items_of c.args.datagram.now) ++ r) (sym rest)

pub returns-clause-ok : goal.returns-clause-ok
returns-clause-ok g c =
    let types = c.args.values.now.types.now in
    let all : c.into_iter-item-iterator.result ≡ items_of c.args.datagram.now = search rules in
    let none : AreLinesIn c.args.form types c.args.k c.loop-item.place c.loop-item.item-iterator [] = subst (λ i. AreLinesIn c.args.form types c.args.k c.loop-item.place i []) (sym c.in-None.ensures.steps.0) refl in
    rw (← all) (sending_end _ _ _ _ (AreLinesIn c.args.form types c.args.k c.loop-item.place c.loop-item.item-iterator) (AreLinesIn c.args.form types c.args.k 0 c.into_iter-item-iterator.result) c.loop-item.invariant.0 none)

pub returns-clause-faulty : goal.returns-clause-faulty
returns-clause-faulty g c =
    let all : c.into_iter-item-iterator.result ≡ items_of c.args.datagram.now = search rules in
    rw (← all) (any_end (shows_fault c.args.values.now.types.now) _ _ _ c.in-None.ensures.steps.0 c.loop-item.invariant.1)
