use Rattle.std.proofs.Common.{sym, ◌∙◌}
use Rattle.audit_index.proofs.OwnerLemmas.{alone, elsewhere, neither}
use Rattle.audit_index.proofs.owners.disown_unless.Goals as goal

pub returns-then-not-is_owner-clause-others : goal.returns-then-not-is_owner-clause-others
returns-then-not-is_owner-clause-others g c = alone g.K.Ord.cmp c.args.address c.args.key _ _ c.remove.ensures.taken

pub returns-then-not-is_owner-clause-first : goal.returns-then-not-is_owner-clause-first
returns-then-not-is_owner-clause-first g c =
    elsewhere g.K.Ord.cmp c.args.address c.args.key _ _ c.remove.ensures.taken c.args.owners.0 (neither _ _ (sym c.is_owner.ensures ∙ c.if-not-is_owner.true)).0

pub returns-then-not-is_owner-clause-second : goal.returns-then-not-is_owner-clause-second
returns-then-not-is_owner-clause-second g c =
    elsewhere g.K.Ord.cmp c.args.address c.args.key _ _ c.remove.ensures.taken c.args.owners.1 (neither _ _ (sym c.is_owner.ensures ∙ c.if-not-is_owner.true)).1
