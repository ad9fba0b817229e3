-- An entry that is of no other kind is an Offer, or a Nack.
use Rattle.std.proofs.Common.{◌≡◌, ℕ, zero, suc, true, false, ◌&&◌, eqb, ltb, arith, refl}
use Rattle.std.proofs.lemmas.Bool.{lt-ltb, ltb-false}
use Rattle.sd_wire.specs.declared.entry.EventgroupEntry.{EventgroupEntry}
use Rattle.sd_wire.specs.declared.entry.EventgroupKind.{EventgroupKind}
use Rattle.sd_wire.specs.declared.entry.EventgroupKind.TheVariants.{Subscribe, Ack}
use Rattle.sd_wire.specs.declared.entry.ServiceEntry.{ServiceEntry}
use Rattle.sd_wire.specs.declared.entry.ServiceKind.{ServiceKind}
use Rattle.sd_wire.specs.declared.entry.ServiceKind.TheVariants.{Find, Offer}
use Rattle.sd_wire.specs.contents.Kinds.{has_type_ack, has_type_find, has_type_offer, has_type_subscribe, is_ack, is_find, is_nack, is_offer, is_stop_offer, is_stop_subscribe, is_subscribe}

not_zero : (ttl : ℕ) → eqb ttl 0 ≡ false → ltb 0 ttl ≡ true
not_zero zero h = absurd (cc)
not_zero (suc ttl) h = lt-ltb 0 (suc ttl) (omega arith)

not_more : (ttl : ℕ) → ltb 0 ttl ≡ false → eqb ttl 0 ≡ true
not_more zero h = refl
not_more (suc ttl) h = let none = ltb-false 0 (suc ttl) h in absurd (omega arith)

offers : (kind : ServiceKind) (ttl : ℕ) → has_type_find kind ≡ false → (has_type_offer kind && eqb ttl 0) ≡ false → (has_type_offer kind && ltb 0 ttl) ≡ true
offers Find ttl find stop = absurd (cc)
offers Offer ttl find stop = not_zero ttl stop

pub is_offer_left : (head : ServiceEntry) → is_find head ≡ false → is_stop_offer head ≡ false → is_offer head ≡ true
is_offer_left head find stop = offers head.kind head.ttl find stop

nacks : (kind : EventgroupKind) (ttl : ℕ) → (has_type_subscribe kind && ltb 0 ttl) ≡ false → (has_type_subscribe kind && eqb ttl 0) ≡ false
    → (has_type_ack kind && ltb 0 ttl) ≡ false → (has_type_ack kind && eqb ttl 0) ≡ true
nacks Subscribe ttl subscribe stop ack = let more = not_zero ttl stop in absurd (cc)
nacks Ack ttl subscribe stop ack = not_more ttl ack

pub is_nack_left : (head : EventgroupEntry) → is_subscribe head ≡ false → is_stop_subscribe head ≡ false → is_ack head ≡ false → is_nack head ≡ true
is_nack_left head subscribe stop ack = nacks head.kind head.ttl subscribe stop ack
