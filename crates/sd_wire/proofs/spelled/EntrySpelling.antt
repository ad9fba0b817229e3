-- An entry at the front of bytes is spelled by them, and one that is spelled is read, whatever follows it.
use Rattle.std.proofs.Common.{◌≡◌, ℕ, ◌+◌, ◌*◌, ◌/◌, ◌%◌, ◌^◌, ◌<◌, ◌≤◌, true, List, ◌++◌, length, get_or, drop, refl, sym, ap, subst, arith}
use Rattle.std.proofs.lemmas.Bool.{eqb-true, ne_eqb}
use Rattle.std.proofs.lemmas.Nat.{from_be_bytes-to_be_bytes_2, from_be_bytes-to_be_bytes_4}
use Rattle.sd_wire.specs.declared.entry.ServiceKind.{ServiceKind}
use Rattle.sd_wire.specs.declared.entry.ServiceKind.TheVariants.{Find, Offer}
use Rattle.sd_wire.specs.declared.entry.EventgroupKind.{EventgroupKind}
use Rattle.sd_wire.specs.declared.entry.EventgroupKind.TheVariants.{Subscribe, Ack}
use Rattle.sd_wire.specs.declared.entry.ServiceEntry.{ServiceEntry}
use Rattle.sd_wire.specs.declared.entry.EventgroupEntry.{EventgroupEntry}
use Rattle.sd_wire.specs.declared.entry.EntryHead.{EntryHead}
use Rattle.sd_wire.specs.declared.entry.EntryHead.TheVariants.{Service, Eventgroup}
use Rattle.sd_wire.specs.layout.Fields.{IsBytes, field16, field24, field32}
use Rattle.sd_wire.specs.layout.Spelling.{Runs, RunsFit, service_type, eventgroup_type, common_bytes, entry_bytes, ServiceFits, EventgroupFits, HeadFits}
use Rattle.sd_wire.specs.decoding.Reading.{SpellsHead}
use Rattle.sd_wire.specs.decoding.Faults.{is_entry_type}
use Rattle.sd_wire.specs.decoding.Program.{runs_in, service_entry_in, eventgroup_entry_in, head_in}
use Rattle.sd_wire.proofs.spelled.TestLemmas.{pick}
use Rattle.sd_wire.proofs.spelled.FieldLemmas.{spells1, spells2, spells3, spells4, field16_fits, field24_fits, field32_fits, field24-spelled}

-- the entry stands in front of the bytes
pub record IsEntry (bytes : List ℕ) (runs : Runs) (head : EntryHead) : Type 0 where
  pub reserved : ℕ
  pub is : entry_bytes reserved runs head ++ drop 16 bytes ≡ bytes
  pub fits : HeadFits head
  pub reserved_fits : reserved < 2 ^ 12

-- ---- what is read is spelled so

module _ (bytes : List ℕ) (fits : IsBytes bytes) (le : 16 ≤ length bytes) where
  -- the first twelve bytes, in front of the others
  common : (kind : ℕ) (tail : List ℕ) → kind ≡ get_or bytes 0 0 → tail ≡ drop 12 bytes
      → common_bytes kind (runs_in bytes) (field16 bytes 4) (field16 bytes 6) (get_or bytes 8 0) (field24 bytes 9) ++ tail ≡ bytes
  common kind tail is behind =
      let counts : 16 * (get_or bytes 3 0 / 16) + get_or bytes 3 0 % 16 ≡ get_or bytes 3 0 = omega arith in
      let ttl = spells3 bytes _ 9 (field24 bytes 9) fits (omega (arith, le)) refl behind in
      let major = spells1 bytes _ 8 (get_or bytes 8 0) (omega (arith, le)) refl ttl in
      let instance = spells2 bytes _ 6 (field16 bytes 6) fits (omega (arith, le)) refl major in
      let service = spells2 bytes _ 4 (field16 bytes 4) fits (omega (arith, le)) refl instance in
      let count = spells1 bytes _ 3 _ (omega (arith, le)) counts service in
      let index2 = spells1 bytes _ 2 (get_or bytes 2 0) (omega (arith, le)) refl count in
      let index1 = spells1 bytes _ 1 (get_or bytes 1 0) (omega (arith, le)) refl index2 in
      spells1 bytes _ 0 kind (omega (arith, le)) is index1

  is_service : (kind : ServiceKind) → service_type kind ≡ get_or bytes 0 0 → IsEntry bytes (runs_in bytes) (Service (service_entry_in kind bytes))
  is_service kind is = record {
    reserved = 0;
    is = common (service_type kind) _ is (spells4 bytes _ 12 (field32 bytes 12) fits (omega (arith, le)) refl refl);
    fits = record {
      service = field16_fits bytes 4 fits;
      instance = field16_fits bytes 6 fits;
      major = fits 8;
      ttl = field24_fits bytes 9 fits;
      minor = field32_fits bytes 12 fits;
    };
    reserved_fits = omega arith;
  }

  is_eventgroup : (kind : EventgroupKind) → eventgroup_type kind ≡ get_or bytes 0 0 → IsEntry bytes (runs_in bytes) (Eventgroup (eventgroup_entry_in kind bytes))
  is_eventgroup kind is =
      let f : ℕ = field16 bytes 12 in
      let whole : 16 * (f / 16) + f % 16 ≡ f = omega arith in
      let eventgroup = spells2 bytes _ 14 (field16 bytes 14) fits (omega (arith, le)) refl refl in
      record {
        reserved = f / 16;
        is = common (eventgroup_type kind) _ is (spells2 bytes _ 12 (16 * (f / 16) + f % 16) fits (omega (arith, le)) whole eventgroup);
        fits = record {
          service = field16_fits bytes 4 fits;
          instance = field16_fits bytes 6 fits;
          major = fits 8;
          ttl = field24_fits bytes 9 fits;
          counter = omega arith;
          eventgroup = field16_fits bytes 14 fits;
        };
        reserved_fits = omega (arith, field16_fits bytes 12 fits);
      }

  pub runs_in-fit : RunsFit (runs_in bytes)
  runs_in-fit = record {
    index1 = fits 1;
    index2 = fits 2;
    count1 = omega (arith, fits 3);
    count2 = omega arith;
  }

-- a type that is none of the first three is the last
last_type : (kind : ℕ) → is_entry_type kind ≡ true → (kind ≡ 0 → ⊥) → (kind ≡ 1 → ⊥) → (kind ≡ 6 → ⊥) → 7 ≡ kind
last_type kind known a b d = sym (eqb-true kind 7 (rw (ne_eqb kind 0 a, ne_eqb kind 1 b, ne_eqb kind 6 d) at known))

-- the entry at the front is spelled by the bytes there
pub is_entry : (bytes : List ℕ) → IsBytes bytes → 16 ≤ length bytes → is_entry_type (get_or bytes 0 0) ≡ true → IsEntry bytes (runs_in bytes) (head_in bytes)
is_entry bytes fits le known =
    let k = get_or bytes 0 0 in
    let P : EntryHead → Type 0 = λ h. IsEntry bytes (runs_in bytes) h in
    pick P k 0 _ _ (λ e. is_service bytes fits le Find (sym e)) (λ a.
    pick P k 1 _ _ (λ e. is_service bytes fits le Offer (sym e)) (λ b.
    pick P k 6 _ _ (λ e. is_eventgroup bytes fits le Subscribe (sym e)) (λ d.
    is_eventgroup bytes fits le Ack (last_type k known a b d))))

-- ---- what is spelled is read

-- these bytes, with any after them, begin with this entry
pub record IsEntryRead (head : EntryHead) (runs : Runs) (first rest : List ℕ) : Type 0 where
  pub length : length first ≡ 16
  pub known : is_entry_type (get_or (first ++ rest) 0 0) ≡ true
  pub is_head : head_in (first ++ rest) ≡ head
  pub are_runs : runs_in (first ++ rest) ≡ runs

runs_read : (r : Runs) → RunsFit r → ((16 * r.count1 + r.count2) / 16 ≡ r.count1) × ((16 * r.count1 + r.count2) % 16 ≡ r.count2)
runs_read r fits = (omega (arith, fits.count1, fits.count2), omega (arith, fits.count1, fits.count2))

runs_same : (r : Runs) (count1 count2 : ℕ) → count1 ≡ r.count1 → count2 ≡ r.count2 → (let q : Runs = record { index1 = r.index1; index2 = r.index2; count1 = count1; count2 = count2 } in q ≡ r)
runs_same r count1 count2 a b = λ i. record { index1 = r.index1; index2 = r.index2; count1 = a i; count2 = b i }

service_read : (e : ServiceEntry) (kind : ServiceKind) (reserved : ℕ) (runs : Runs) (rest : List ℕ) → ServiceFits e → service_entry_in kind (entry_bytes reserved runs (Service e) ++ rest) ≡ record e { kind = kind }
service_read e k reserved runs rest fits =
    rw (
      from_be_bytes-to_be_bytes_2 e.service fits.service,
      from_be_bytes-to_be_bytes_2 e.instance fits.instance,
      field24-spelled e.ttl fits.ttl,
      from_be_bytes-to_be_bytes_4 e.minor fits.minor,
    ) refl

eventgroup_read : (e : EventgroupEntry) (kind : EventgroupKind) (reserved : ℕ) (runs : Runs) (rest : List ℕ) → EventgroupFits e → reserved < 2 ^ 12
    → eventgroup_entry_in kind (entry_bytes reserved runs (Eventgroup e) ++ rest) ≡ record e { kind = kind }
eventgroup_read e k reserved runs rest fits reserved_fits =
    let counter : (16 * reserved + e.counter) % 16 ≡ e.counter = omega (arith, fits.counter) in
    rw (
      from_be_bytes-to_be_bytes_2 e.service fits.service,
      from_be_bytes-to_be_bytes_2 e.instance fits.instance,
      field24-spelled e.ttl fits.ttl,
      from_be_bytes-to_be_bytes_2 (16 * reserved + e.counter) (omega (arith, fits.counter, reserved_fits)),
      counter,
      from_be_bytes-to_be_bytes_2 e.eventgroup fits.eventgroup,
    ) refl

spelled_read : (reserved : ℕ) (runs : Runs) (head : EntryHead) (rest : List ℕ) → reserved < 2 ^ 12 → RunsFit runs → HeadFits head → IsEntryRead head runs (entry_bytes reserved runs head) rest
spelled_read reserved runs (Service e) rest reserved_fits runs_fit fits =
    let r = runs_read runs runs_fit in
    let P : ServiceKind → Type 0 = λ kind. e.kind ≡ kind → IsEntryRead (Service e) runs (entry_bytes reserved runs (Service e)) rest in
    (elim e.kind as P [
      | Find ↦ λ is. record { length = refl; known = rw is refl; is_head = rw is (ap Service (service_read e Find reserved runs rest fits)); are_runs = runs_same runs _ _ r.0 r.1 }
      | Offer ↦ λ is. record { length = refl; known = rw is refl; is_head = rw is (ap Service (service_read e Offer reserved runs rest fits)); are_runs = runs_same runs _ _ r.0 r.1 }
    ]) refl
spelled_read reserved runs (Eventgroup e) rest reserved_fits runs_fit fits =
    let r = runs_read runs runs_fit in
    let P : EventgroupKind → Type 0 = λ kind. e.kind ≡ kind → IsEntryRead (Eventgroup e) runs (entry_bytes reserved runs (Eventgroup e)) rest in
    (elim e.kind as P [
      | Subscribe ↦ λ is. record { length = refl; known = rw is refl; is_head = rw is (ap Eventgroup (eventgroup_read e Subscribe reserved runs rest fits reserved_fits)); are_runs = runs_same runs _ _ r.0 r.1 }
      | Ack ↦ λ is. record { length = refl; known = rw is refl; is_head = rw is (ap Eventgroup (eventgroup_read e Ack reserved runs rest fits reserved_fits)); are_runs = runs_same runs _ _ r.0 r.1 }
    ]) refl

pub entry_read : (head : EntryHead) (runs : Runs) (first rest : List ℕ) → SpellsHead head runs first → IsEntryRead head runs first rest
entry_read head runs first rest s = subst (λ (t : List ℕ). IsEntryRead head runs t rest) (sym s.is) (spelled_read s.reserved runs head rest s.reserved_fits s.runs_fit s.fits)
