-- Link types and the numbers of their interfaces.
use Rattle.std.proofs.Common.{◌≡◌, ℕ, suc, ◌<◌, ◌≤◌, ◌^◌, Bool, true, false, cond, ◌||◌, eqb, List, [], ◌∷◌, ◌++◌, length, take, Some, refl, sym, ap, subst, ◌∙◌, eq-eqb, append-nil, arith}
use Rattle.std.specs.Prelude.{slice_get}
use Rattle.std.specs.List.{AllByRecursion, list_any}
use Rattle.std.proofs.lemmas.Bool.{eqb-true}
use Rattle.std.proofs.lemmas.List.{take_at}
use Rattle.std.proofs.lemmas.Map.Keys.{IsDistinct-push}
use Rattle.std.proofs.lemmas.Map.Steps.{length-le_from_distinct_below}
use Rattle.std.specs.Cmp.{nat_eq_equiv}
use Rattle.recording.specs.Captured.{RecordValue}
use Rattle.recording_writing.specs.Blocks.{number_of, is_new, is_too_long, links_after}
use Rattle.recording_writing.specs.Files.{IsPacket, AreLinkTypes}

-- the link types with one more, if it is new
abbrev pub links_by : Bool → List ℕ → ℕ → List ℕ
links_by new links link = cond new (links ++ link ∷ []) links

-- ---- numbers

number_step : (is : Bool) (n m : ℕ) → n ≤ m → cond is 0 (suc n) ≤ suc m
number_step true n m le = omega arith
number_step false n m le = omega (arith, le)

pub number_of-le : (links : List ℕ) (link : ℕ) → number_of links link ≤ length links
number_of-le [] link = omega arith
number_of-le (l ∷ links) link = number_step (eqb link l) (number_of links link) (length links) (number_of-le links link)

-- a link type whose number is the next stands nowhere
absent_step : (is others : Bool) (n m : ℕ) → (n ≡ m → others ≡ false) → cond is 0 (suc n) ≡ suc m → (is || others) ≡ false
absent_step true others n m absent same = absurd (omega (arith, same))
absent_step false others n m absent same = absent (omega (arith, same))

pub absent : (links : List ℕ) (link : ℕ) → number_of links link ≡ length links → list_any (eqb link) links ≡ false
absent [] link same = refl
absent (l ∷ links) link same = absent_step (eqb link l) (list_any (eqb link) links) (number_of links link) (length links) (absent links link) same

-- one that is not new stands at its number
found_step : (is : Bool) (l link : ℕ) (links : List ℕ) (n m : ℕ) → eqb link l ≡ is → (n < m → slice_get links n ≡ Some link) → cond is 0 (suc n) < suc m → slice_get (l ∷ links) (cond is 0 (suc n)) ≡ Some link
found_step true l link links n m same others less = ap (λ (x : ℕ). Some x) (sym (eqb-true link l same))
found_step false l link links n m same others less = others (omega (arith, less))

found : (links : List ℕ) (link : ℕ) → number_of links link < length links → slice_get links (number_of links link) ≡ Some link
found [] link less = absurd (omega (arith, less))
found (l ∷ links) link less = found_step (eqb link l) l link links (number_of links link) (length links) refl (found links link) less

-- one that is new stands at its number once it is put behind the others
next_at : (links : List ℕ) (link : ℕ) → slice_get (links ++ link ∷ []) (length links) ≡ Some link
next_at [] link = refl
next_at (l ∷ links) link = next_at links link

pub number_at : (new : Bool) (links : List ℕ) (link : ℕ) → is_new links link ≡ new → slice_get (links_by new links link) (number_of links link) ≡ Some link
number_at true links link is = ap (slice_get (links ++ link ∷ [])) (eqb-true _ _ is) ∙ next_at links link
number_at false links link is =
    let apart : number_of links link ≡ length links → ⊥ = λ same. let both : true ≡ false = sym (eq-eqb _ _ same) ∙ is in cc in
    found links link (omega (arith, number_of-le links link, apart))

pub has_interface : (links : List ℕ) (link : ℕ) → slice_get (links_by (is_new links link) links link) (number_of links link) ≡ Some link
has_interface links link = number_at (is_new links link) links link refl

-- ---- one more

pub stays : (long new : Bool) (links : List ℕ) (link : ℕ) → take (length links) (cond long links (links_by new links link)) ≡ links
stays true new links link = ap (take (length links)) (sym (append-nil links)) ∙ take_at links [] (length links) refl
stays false true links link = take_at links (link ∷ []) (length links) refl
stays false false links link = ap (take (length links)) (sym (append-nil links)) ∙ take_at links [] (length links) refl

fit_push : (links : List ℕ) (link : ℕ) → AllByRecursion (λ l. l < 2 ^ 16) links → link < 2 ^ 16 → AllByRecursion (λ l. l < 2 ^ 16) (links ++ link ∷ [])
fit_push [] link fit fits = (fits, tt)
fit_push (l ∷ links) link fit fits = (fit.0, fit_push links link fit.1 fits)

pub pushed : (links : List ℕ) (link : ℕ) → link < 2 ^ 16 → AreLinkTypes links → number_of links link ≡ length links → AreLinkTypes (links ++ link ∷ [])
pushed links link fits are new = record {
  fit = fit_push links link are.fit fits;
  apart = IsDistinct-push nat_eq_equiv links link are.apart (absent links link new);
}

after_step : (long new : Bool) (links : List ℕ) (link : ℕ) → is_new links link ≡ new → link < 2 ^ 16 → AreLinkTypes links → AreLinkTypes (cond long links (links_by new links link))
after_step true new links link is fits are = are
after_step false true links link is fits are = pushed links link fits are (eqb-true _ _ is)
after_step false false links link is fits are = are

pub once : (links : List ℕ) (k : RecordValue) → IsPacket k → AreLinkTypes links → AreLinkTypes (links_after links k)
once links k fits are = after_step (is_too_long (number_of links k.link) k) (is_new links k.link) links k.link refl fits.link are

-- ---- how many

below_step : (is others : Bool) (q l : ℕ) → eqb q l ≡ is → l < 2 ^ 16 → (others ≡ true → q < 2 ^ 16) → (is || others) ≡ true → q < 2 ^ 16
below_step true others q l same fits rest any = subst (λ n. n < 2 ^ 16) (sym (eqb-true q l same)) fits
below_step false others q l same fits rest any = rest any

below : (links : List ℕ) (q : ℕ) → AllByRecursion (λ l. l < 2 ^ 16) links → list_any (eqb q) links ≡ true → q < 2 ^ 16
below [] q fit any = absurd (let wrong : false ≡ true = any in cc)
below (l ∷ links) q fit any = below_step (eqb q l) (list_any (eqb q) links) q l refl fit.0 (below links q fit.1) any

pub most : (links : List ℕ) → AreLinkTypes links → length links ≤ 65536
most links are = length-le_from_distinct_below links (2 ^ 16) are.apart (λ q any. below links q are.fit any)

-- ---- after a packet that is not too long

pub has_after : (links : List ℕ) (k : RecordValue) → is_too_long (number_of links k.link) k ≡ false → slice_get (links_after links k) (number_of links k.link) ≡ Some k.link
has_after links k short =
    ap (λ (long : Bool). slice_get (cond long links (links_by (is_new links k.link) links k.link)) (number_of links k.link)) short ∙ has_interface links k.link
