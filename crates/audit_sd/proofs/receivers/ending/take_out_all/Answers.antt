use Rattle.audit_sd.proofs.about_receivers.PlacedLemmas.{not_listed}
use Rattle.audit_sd.proofs.receivers.ending.take_out_all.Goals as goal

pub loop-key-init : goal.loop-key-init
loop-key-init c = record {
  rest = λ other none. rw (c.into_iter-key-iterator.ensures.into_iter_gives, c.iter-key-items.ensures.rest) none;
  ends = λ _ _ _ there. there;
  offers = λ _ _ _ there. there;
  owners = λ _ _ _ there. there;
}

pub loop-key-preserved : goal.loop-key-preserved
loop-key-preserved c = record {
  rest = λ other none. let left = c.loop-key.invariant.rest other none in (not_listed other c.in-Some.key.now c.next.new.self (rw c.in-Some.ensures.steps at left)).1;
  ends = λ place other none there.
      let left = c.loop-key.invariant.rest other none in
      c.take_out_held.ensures.ends place other (not_listed other c.in-Some.key.now c.next.new.self (rw c.in-Some.ensures.steps at left)).0 (c.loop-key.invariant.ends place other none there);
  offers = λ place other none there.
      let left = c.loop-key.invariant.rest other none in
      c.take_out_held.ensures.offers place other (not_listed other c.in-Some.key.now c.next.new.self (rw c.in-Some.ensures.steps at left)).0 (c.loop-key.invariant.offers place other none there);
  owners = λ place other none there.
      let left = c.loop-key.invariant.rest other none in
      c.take_out_held.ensures.owners place other (not_listed other c.in-Some.key.now c.next.new.self (rw c.in-Some.ensures.steps at left)).0 (c.loop-key.invariant.owners place other none there);
}
