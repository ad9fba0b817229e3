-- What names stand for.
use Rattle.std.proofs.Common.{◌≡◌, ℕ, ◌≤◌, true, List, Option, Some, None, refl, sym, ap, ◌∙◌, subst}
use Rattle.std.specs.Option.{is_some}
use Rattle.toml.specs.Data.{Data}
use Rattle.someip_payload_values.specs.Check.{depth}
use Rattle.someip_payload_values.specs.Data.{Form}
use Rattle.someip_payload.specs.Named.{NamedForms, form_named}
use Rattle.someip_payload.specs.ShapeText.{IsTextIn}
use Rattle.someipctl_show.specs.types.Keys.{text_at}
use Rattle.someipctl_show.specs.types.Names.{StandsFor, stands_for, AllStand, Leads, itself, onward}
use Rattle.someipctl_show.specs.types.References.{IsOneOf, Knows, KnowsAll, references}
use Rattle.someipctl_show.proofs.about_types.LinkLemmas.{link}

-- a name that stands for a form, taken apart
pub record Stands (types : Data) (name : List ℕ) (f : Form) : Type 0 where
  pub text : List ℕ
  pub names : NamedForms
  pub is : text_at name types ≡ Some text
  pub stand : (m : List ℕ) (g : Form) → form_named names m ≡ Some g → StandsFor types m g
  pub says : IsTextIn names f text
  pub within : depth f ≤ 64

pub parts_of : (types : Data) (name : List ℕ) (f : Form) → StandsFor types name f → Stands types name f
parts_of types _ _ (stands_for name text names f is stand says within) = record { text = text; names = names; is = is; stand = stand; says = says; within = within }

some_form : (o : Option Form) → is_some o ≡ true → (f : Form) × (o ≡ Some f)
some_form None is = absurd cc
some_form (Some f) is = (f, refl)

pub form_of : (names : NamedForms) (n : List ℕ) → Knows names n → (f : Form) × (form_named names n ≡ Some f)
form_of names n is = some_form (form_named names n) is

-- there is one text
pub same_text : (types : Data) (name a b : List ℕ) → text_at name types ≡ Some a → text_at name types ≡ Some b → a ≡ b
same_text types name a b is same = let e : ◌≡◌ {A = Option (List ℕ)} (Some a) (Some b) = sym is ∙ same in cc

-- what the text of a name refers to stands for something, where the name does
pub refers_to_some : (types : Data) (name text m : List ℕ) (f : Form) → StandsFor types name f → text_at name types ≡ Some text → IsOneOf m (references text) → (g : Form) × StandsFor types m g
refers_to_some types name text m f stands is one =
    let p = parts_of types name f stands in
    let h = (link p.names f p.text p.says).known m (subst (λ (t : List ℕ). IsOneOf m (references t)) (same_text types name text p.text is p.is) one) in
    let found = form_of p.names m h in
    (found.0, p.stand m found.0 found.1)

pub has_text : (types : Data) (name : List ℕ) (f : Form) → StandsFor types name f → (text : List ℕ) × (text_at name types ≡ Some text)
has_text types name f stands = let p = parts_of types name f stands in (p.text, p.is)

-- ---- a chain of names

pub leads_on : (types : Data) (n m k text : List ℕ) → Leads types n m → text_at m types ≡ Some text → IsOneOf k (references text) → Leads types n k
leads_on types n _ k text (itself m) is one = onward n k k text is one (itself k)
leads_on types n m k text (onward _ j _ others there first later) is one = onward n j k others there first (leads_on types j m k text later is one)

-- no name that leads back to itself stands for anything
pub no_cycle : (types : Data) (name : List ℕ) (f : Form) → StandsFor types name f → (text m : List ℕ) → text_at name types ≡ Some text → IsOneOf m (references text) → Leads types m name → ⊥
no_cycle types _ _ (stands_for name text names f is stand says within) other m same one leads =
    let in_text : IsOneOf m (references text) = subst (λ (t : List ℕ). IsOneOf m (references t)) (same_text types name other text same is) one in
    let known = (link names f text says).known m in_text in
    let found = form_of names m known in
    by (λ n g there t k at more back. no_cycle types n g (stand n g there) t k at more back) m leads in_text found.0 found.1
  where
    by : ((n : List ℕ) (g : Form) → form_named names n ≡ Some g → (t k : List ℕ) → text_at n types ≡ Some t → IsOneOf k (references t) → Leads types k n → ⊥)
        → (m : List ℕ) → Leads types m name → IsOneOf m (references text) → (g : Form) → form_named names m ≡ Some g → ⊥
    by again _ (itself n) at g there = again n g there text n is at (itself n)
    by again m (onward _ k _ more has first later) at g there = again m g there more k has first (leads_on types k name m text later is at)

-- ---- a text over names that stand for what they do

-- the text of a name says over names, where all that it refers to are among them, whatever the name stands for
pub says_over : (types : Data) (names : NamedForms) (name text : List ℕ) (g : Form) → AllStand types names → text_at name types ≡ Some text → KnowsAll names (references text) → StandsFor types name g → IsTextIn names g text × (depth g ≤ 64)
says_over types names name text g all is known stands =
    let p = parts_of types name g stands in
    let same : p.text ≡ text = same_text types name p.text text p.is is in
    (subst (λ (t : List ℕ). IsTextIn names g t) same ((link p.names g p.text p.says).again names (agrees p.text p.names p.stand same)), p.within)
  where
    agrees : (t : List ℕ) (others : NamedForms) → ((m : List ℕ) (h : Form) → form_named others m ≡ Some h → StandsFor types m h) → t ≡ text → (n : List ℕ) (h : Form) → IsOneOf n (references t) → form_named others n ≡ Some h
        → form_named names n ≡ Some h
    agrees t others stand same n h one there =
        let found = form_of names n (known n (subst (λ (s : List ℕ). IsOneOf n (references s)) same one)) in
        found.1 ∙ ap (λ (x : Form). Some x) (sym (all.only n found.0 h found.1 (stand n h there)))
