use Rattle.std.proofs.Common.{◌++◌, ap, sym, subst, ◌∙◌}
use Rattle.std.specs.Option.{option_to_list}
use Rattle.std.specs.List.Sorted.{IsStrictlySortedBy}
use Rattle.std.proofs.lemmas.List.{append_assoc, append-nil}
use Rattle.audit_index.specs.Slots.{keys_at}
use Rattle.audit_index.proofs.KeysAtLemmas.{IsLeft, from_begin, keys_rise, left_after, left_at_first, none_beyond, one_more}
use Rattle.audit_index.proofs.index.Index.keys_at.Goals as goal

pub loop-slot-init : goal.loop-slot-init
loop-slot-init g c =
    let slots = c.self.inside.slots.keys in
    let begins = c.into_iter-slot-iterator.ensures.into_iter_gives ∙ c.range-slot-items.ensures.between tt in
    record {
      left = subst (IsLeft g.P.Ord.cmp g.K.Ord.cmp c.args.place) (sym begins) (left_at_first g.met.P.Ord.total g.met.P.Key.exact g.K.Ord.cmp c.args.place slots c.range-slot-items.ensures.ordered);
      keys =
          ap (λ ks. ks ++ keys_at g.P.Ord.cmp c.args.place c.into_iter-slot-iterator.result) c.new-keys.ensures.items ∙ ap (keys_at g.P.Ord.cmp c.args.place) begins
          ∙ from_begin g.met.P.Ord.total g.met.P.Key.exact g.K.Ord.cmp c.args.place slots ∙ ap (keys_at g.P.Ord.cmp c.args.place) c.self.view_is;
    }

pub returns-then-not-is_same_key-clause-keys : goal.returns-then-not-is_same_key-clause-keys
returns-then-not-is_same_key-clause-keys g c =
    let left = subst (IsLeft g.P.Ord.cmp g.K.Ord.cmp c.args.place) c.in-Some.ensures.steps c.loop-slot.invariant.left in
    let none = ap (keys_at g.P.Ord.cmp c.args.place) c.in-Some.ensures.steps
    ∙ none_beyond g.met.P.Ord.total g.met.P.Key.exact g.K.Ord.cmp c.args.place c.in-Some.slot.now c.next.new.self left (λ is. let yes = c.is_same_key.ensures.same.1 is in let no = c.if-not-is_same_key.true in cc) in
    sym (append-nil c.loop-slot.keys.items) ∙ ap (λ ks. c.loop-slot.keys.items ++ ks) (sym none) ∙ c.loop-slot.invariant.keys

pub loop-slot-preserved : goal.loop-slot-preserved
loop-slot-preserved g c =
    let left = subst (IsLeft g.P.Ord.cmp g.K.Ord.cmp c.args.place) c.in-Some.ensures.steps c.loop-slot.invariant.left in
    let here = sym c.is_same_key.ensures.test ∙ c.if-not-is_same_key.false in
    record {
      left = left_after g.met.P.Ord.total g.met.P.Key.exact g.K.Ord.cmp c.args.place c.in-Some.slot.now c.next.new.self left;
      keys =
          ap (λ ks. ks ++ keys_at g.P.Ord.cmp c.args.place c.next.new.self) c.in_ok-push_some.ensures
          ∙ append_assoc c.loop-slot.keys.items (option_to_list c.in-Some.slot.now.key) (keys_at g.P.Ord.cmp c.args.place c.next.new.self)
          ∙ ap (λ ks. c.loop-slot.keys.items ++ ks) (sym (one_more g.met.P.Ord.total g.met.P.Key.exact g.K.Ord.cmp c.args.place c.in-Some.slot.now c.next.new.self here) ∙ ap (keys_at g.P.Ord.cmp c.args.place) (sym c.in-Some.ensures.steps))
          ∙ c.loop-slot.invariant.keys;
    }

pub returns-clause-keys : goal.returns-clause-keys
returns-clause-keys g c =
    sym (append-nil c.loop-slot.keys.items) ∙ ap (λ ks. c.loop-slot.keys.items ++ keys_at g.P.Ord.cmp c.args.place ks) (sym c.in-None.ensures.steps.0) ∙ c.loop-slot.invariant.keys

pub returns-then-not-is_same_key-clause-rises : goal.returns-then-not-is_same_key-clause-rises
returns-then-not-is_same_key-clause-rises g c =
    subst (IsStrictlySortedBy g.K.Ord.cmp) (sym (returns-then-not-is_same_key-clause-keys g c ∙ ap (keys_at g.P.Ord.cmp c.args.place) (sym c.self.view_is)))
    (keys_rise g.met.P.Ord.total g.met.P.Key.exact g.K.Ord.cmp c.args.place c.self.inside.slots.keys c.range-slot-items.ensures.ordered)

pub returns-clause-rises : goal.returns-clause-rises
returns-clause-rises g c =
    subst (IsStrictlySortedBy g.K.Ord.cmp) (sym (returns-clause-keys g c ∙ ap (keys_at g.P.Ord.cmp c.args.place) (sym c.self.view_is)))
    (keys_rise g.met.P.Ord.total g.met.P.Key.exact g.K.Ord.cmp c.args.place c.self.inside.slots.keys c.range-slot-items.ensures.ordered)
