-- What tables say, read one after the other.
use Rattle.std.proofs.Common.{◌≡◌, ℕ, suc, ◌+◌, ◌<◌, ◌≤◌, Bool, true, false, cond, ltb, List, [], ◌∷◌, ◌++◌, length, map, get_or, take, drop, append_assoc, append-nil, Option, Some, None, Result, Ok, Err, refl, sym, ap, ◌∙◌, subst, arith, codes, string_bytes}
use Rattle.std.proofs.lemmas.Bool.{ltb-false}
use Rattle.std.proofs.lemmas.List.{drop_all, drop_more, take_more, take-append-drop, map-append, length-map, length-take-le}
use Rattle.toml.specs.Data.{Data}
use Rattle.toml.specs.View.{view, items_of}
use Rattle.toml.specs.declared.value.Value.{Value}
use Rattle.someip_payload_values.specs.declared.error.PayloadError.{PayloadError}
use Rattle.someip_payload_values.specs.declared.error.PayloadError.TheVariants.{TooDeep, BadShape}
use Rattle.someip_payload_values.specs.Check.{checked, depth, is_form}
use Rattle.someip_payload_values.specs.Data.{Form}
use Rattle.someipctl_show.specs.declared.types.key_error.KeyError.{KeyError}
use Rattle.someipctl_show.specs.declared.types.key_error.KeyError.TheVariants as errors
use Rattle.someip_wire.specs.declared.header.MessageType.{MessageType}
use Rattle.someip_payload_values.specs.View.{form}
use Rattle.someip_payload.specs.Named.{NamedForms}
use Rattle.someipctl_show.specs.types.Faults.{NoForm, ShapeTold, TextTold, FailsAt, no_shape, FirstFails, TellsTable, in_message}
use Rattle.someipctl_show.specs.types.Keys.{text_at, FailsBy, TellsAt, IsOnly, id_at, kind_at, label_at}
use Rattle.someipctl_show.specs.types.Says.{IsShapeText, SaysForm, SaysTable, SaysEach, left_after, left_after_all}
use Rattle.someipctl_show.specs.types.Judging.{NotRead, ReadsIn, RefusesForm}
use Rattle.someipctl_show.specs.types.Tables.{elements}
use Rattle.someipctl_show.specs.types.Types.{TypedMessageValue, TypesValue}
use Rattle.someipctl_show.proofs.about_types.LinkLemmas.{link}
use Rattle.someipctl_show.proofs.about_types.WayLemmas.{refers_one, unknown_known}

-- the elements of an array
pub elements-items_of : (ds : List Data) → elements (items_of ds) ≡ ds
elements-items_of [] = refl
elements-items_of (d ∷ ds) = ap (λ (t : List Data). d ∷ t) (elements-items_of ds)

-- ---- shapes

-- a form that payloads can have is not too deep for a text to be read as it
pub shallow : (f : Form) → checked f ≡ Ok tt → depth f ≤ 64
unfolding checked
shallow f h = by (ltb 16 (depth f)) refl h
  where
    by : (deep : Bool) → ltb 16 (depth f) ≡ deep → (let read : Result (Unit {0}) PayloadError = cond deep (Err (TooDeep 0)) (cond (is_form f) (Ok tt) (Err (BadShape 0))) in read ≡ Ok tt) → depth f ≤ 64
    by true is h = absurd cc
    by false is h = omega (arith, ltb-false _ _ is)

-- ---- errors

-- an error that tells of one fact tells also of another, which follows from it
by_too : {P Q : List ℕ → Type 0} (e : KeyError) → ((key : List ℕ) → P key → Q key) → FailsBy P e → FailsBy Q e
by_too errors.OutOfMemory then h = absurd h
by_too (errors.Missing k) then h = then k.now h
by_too (errors.WrongKind k) then h = then k.now h
by_too (errors.OutOfRange k) then h = then k.now h
by_too (errors.BadText place) then h = then (codes "shape") h
by_too errors.BadShape then h = then (codes "shape") h
by_too (errors.Unknown k) then h = then (codes "shape") h
by_too errors.TooMany then h = then (codes "shape") h
by_too (errors.Cycle k) then h = absurd h
by_too (errors.UnknownKey k) then h = absurd h
by_too errors.Clash then h = absurd h

pub tells_too : {P Q : List ℕ → Type 0} (e : KeyError) → ((key : List ℕ) → P key → Q key) → TellsAt P e → TellsAt Q e
tells_too errors.OutOfMemory then h = tt
tells_too {P} {Q} (errors.Missing k) then h = by_too {P = P} {Q = Q} (errors.Missing k) then h
tells_too {P} {Q} (errors.WrongKind k) then h = by_too {P = P} {Q = Q} (errors.WrongKind k) then h
tells_too {P} {Q} (errors.OutOfRange k) then h = by_too {P = P} {Q = Q} (errors.OutOfRange k) then h
tells_too {P} {Q} (errors.BadText place) then h = by_too {P = P} {Q = Q} (errors.BadText place) then h
tells_too {P} {Q} errors.BadShape then h = by_too {P = P} {Q = Q} errors.BadShape then h
tells_too {P} {Q} (errors.Unknown k) then h = by_too {P = P} {Q = Q} (errors.Unknown k) then h
tells_too {P} {Q} errors.TooMany then h = by_too {P = P} {Q = Q} errors.TooMany then h
tells_too (errors.Cycle k) then h = absurd h
tells_too (errors.UnknownKey k) then h = absurd h
tells_too errors.Clash then h = absurd h

-- ---- tables

module _ (names : NamedForms) where
  -- what was read of the tables so far, and what is said of the rest, is said of all
  pub record HasRead (all_left left : ℕ) (front : TypesValue) (rest all : List Data) : Type 0 where
    pub back : (types : TypesValue) → SaysEach names left rest types → SaysEach names all_left all (front ++ types)
    pub forth : (types : TypesValue) → SaysEach names all_left all types → (more : TypesValue) × (types ≡ front ++ more) × SaysEach names left rest more

  at_start : (left : ℕ) (all : List Data) → HasRead left left [] all all
  at_start left all = record { back = λ types h. h; forth = λ types h. (types, refl, h) }

  one_read : (all_left left : ℕ) (front : TypesValue) (d : Data) (rest all : List Data) (t : TypedMessageValue) → SaysTable names left d t → ((other : TypedMessageValue) → SaysTable names left d other → other ≡ t)
      → HasRead all_left left front (d ∷ rest) all → HasRead all_left (left_after names left d) (front ++ t ∷ []) rest all
  one_read all_left left front d rest all t says only h = record {
    back = λ types more. subst (SaysEach names all_left all) (sym (append_assoc front (t ∷ []) types)) (h.back (t ∷ types) (says, more));
    forth = λ types all_said. let found = h.forth types all_said in moved types found.0 found.1 found.2;
  }
    where
      moved : (types more : TypesValue) → types ≡ front ++ more → SaysEach names left (d ∷ rest) more → (later : TypesValue) × (types ≡ (front ++ t ∷ []) ++ later) × SaysEach names (left_after names left d) rest later
      moved types [] is never = absurd never
      moved types (other ∷ later) is (said, others) =
          (later, is ∙ ap (λ (x : TypedMessageValue). front ++ x ∷ later) (only other said) ∙ sym (append_assoc front (t ∷ []) later), others)

  all_read : (all_left left : ℕ) (front : TypesValue) (all : List Data) → HasRead all_left left front [] all → SaysEach names all_left all front × ((types : TypesValue) → SaysEach names all_left all types → types ≡ front)
  all_read all_left left front all h = (subst (SaysEach names all_left all) (append-nil front) (h.back [] tt), λ types said. let found = h.forth types said in by types found.0 found.1 found.2)
    where
      by : (types more : TypesValue) → types ≡ front ++ more → SaysEach names left [] more → types ≡ front
      by types [] is none = is ∙ append-nil front
      by types (t ∷ more) is never = absurd never

  one_said : (left : ℕ) (ds : List Data) (types : TypesValue) (d : Data) (t : TypedMessageValue) → SaysEach names left ds types → SaysTable names (left_after_all names left ds) d t → SaysEach names left (ds ++ d ∷ []) (types ++ t ∷ [])
  one_said left [] [] d t each says = (says, tt)
  one_said left [] (u ∷ types) d t each says = absurd each
  one_said left (e ∷ ds) [] d t each says = absurd each
  one_said left (e ∷ ds) (u ∷ types) d t each says = (each.0, one_said (left_after names left e) ds types d t each.1 says)

  left_more : (left : ℕ) (ds : List Data) (d : Data) → left_after_all names left (ds ++ d ∷ []) ≡ left_after names (left_after_all names left ds) d
  left_more left [] d = refl
  left_more left (e ∷ ds) d = left_more (left_after names left e) ds d

  -- what was read of the first tables is what they say, and it goes on to what all say
  pub record HasReadTo (all_left left : ℕ) (front : TypesValue) (i : ℕ) (values : List Value) : Type 0 where
    pub said : SaysEach names all_left (map view (take i values)) front
    pub read : HasRead all_left left front (map view (drop i values)) (map view values)
    pub rest : left ≡ left_after_all names all_left (map view (take i values))

  module _ (all_left left : ℕ) (front : TypesValue) (i : ℕ) (values : List Value) where
    rest_at : (d : Value) → i < length values → map view (drop i values) ≡ view (get_or values i d) ∷ map view (drop (i + 1) values)
    rest_at d lt = ap (map view) (drop_more values i d lt)

    first_more : (d : Value) → i < length values → map view (take (i + 1) values) ≡ map view (take i values) ++ view (get_or values i d) ∷ []
    first_more d lt = ap (map view) (take_more values i d lt) ∙ map-append view (take i values) (get_or values i d ∷ [])

    pub after_one : (d : Value) (t : TypedMessageValue) (now : ℕ) → i < length values → IsOnly (SaysTable names left (view (get_or values i d))) t → now ≡ left_after names left (view (get_or values i d))
        → HasReadTo all_left left front i values → HasReadTo all_left now (front ++ t ∷ []) (i + 1) values
    after_one d t now lt said is h = record {
      said = rw (first_more d lt) (one_said all_left (map view (take i values)) front (view (get_or values i d)) t h.said (subst (λ n. SaysTable names n (view (get_or values i d)) t) h.rest said.0));
      read =
          subst (λ n. HasRead all_left n (front ++ t ∷ []) (map view (drop (i + 1) values)) (map view values)) (sym is)
          (one_read all_left left front (view (get_or values i d)) (map view (drop (i + 1) values)) (map view values) t said.0 said.1
          (subst (λ (rest : List Data). HasRead all_left left front rest (map view values)) (rest_at d lt) h.read));
      rest =
          is ∙ ap (λ n. left_after names n (view (get_or values i d))) h.rest
          ∙ sym (left_more all_left (map view (take i values)) (view (get_or values i d))) ∙ sym (ap (left_after_all names all_left) (first_more d lt));
    }

    first_fails : (d : Value) (e : KeyError) → i < length values → HasReadTo all_left left front i values → FailsBy (FailsAt names left (view (get_or values i d))) e → ShapeTold names left (view (get_or values i d)) e → FirstFails names all_left (map view values) (i + 1) e
    first_fails d e lt h fails told =
        let parts : map view values ≡ map view (take i values) ++ (view (get_or values i d) ∷ map view (drop (i + 1) values)) =
        ap (map view) (sym (take-append-drop i values) ∙ ap (λ (rest : List Value). take i values ++ rest) (drop_more values i d lt)) ∙ map-append view (take i values) (get_or values i d ∷ drop (i + 1) values) in
        let long : length (map view (take i values)) ≡ i = length-map (take i values) view ∙ length-take-le i values (omega (arith, lt)) in
        let number : i + 1 ≡ suc (length (map view (take i values))) = rw long (omega arith) in
        (map view (take i values), view (get_or values i d), (number, (map view (drop (i + 1) values), parts)), (front, h.said), subst (λ n. FailsBy (FailsAt names n (view (get_or values i d))) e) h.rest fails, subst (λ n. ShapeTold names n (view (get_or values i d)) e) h.rest told)

    pub at_fault : (d : Value) (e : KeyError) → i < length values → HasReadTo all_left left front i values → TellsAt (FailsAt names left (view (get_or values i d))) e → ShapeTold names left (view (get_or values i d)) e → TellsTable (FirstFails names all_left (map view values)) (in_message (i + 1) e)
    at_fault d errors.OutOfMemory lt h tells told = tt
    at_fault d (errors.Missing k) lt h tells told = first_fails d (errors.Missing k) lt h tells told
    at_fault d (errors.WrongKind k) lt h tells told = first_fails d (errors.WrongKind k) lt h tells told
    at_fault d (errors.OutOfRange k) lt h tells told = first_fails d (errors.OutOfRange k) lt h tells told
    at_fault d (errors.BadText place) lt h tells told = first_fails d (errors.BadText place) lt h tells told
    at_fault d errors.BadShape lt h tells told = first_fails d errors.BadShape lt h tells told
    at_fault d (errors.Unknown k) lt h tells told = first_fails d (errors.Unknown k) lt h tells told
    at_fault d errors.TooMany lt h tells told = first_fails d errors.TooMany lt h tells told
    at_fault d (errors.Cycle k) lt h tells told = absurd tells
    at_fault d (errors.UnknownKey k) lt h tells told = absurd tells
    at_fault d errors.Clash lt h tells told = absurd tells

    pub at_end : length values ≤ i → HasReadTo all_left left front i values → IsOnly (SaysEach names all_left (map view values)) front
    at_end le h = all_read all_left left front (map view values) (subst (λ (rest : List Value). HasRead all_left left front (map view rest) (map view values)) (drop_all i values le) h.read)

  pub at_first : (left : ℕ) (values : List Value) → HasReadTo left left [] 0 values
  at_first left values = record { said = tt; read = at_start left (map view values); rest = refl }

-- ---- the values of a table

-- the values at its keys are those of the table that it says, and of no other
pub table_said : (names : NamedForms) (left : ℕ) (d : Data) (t : TypedMessageValue) → id_at (codes "service") d ≡ Some t.service → id_at (codes "method") d ≡ Some t.method → kind_at d ≡ Some t.kind
    → SaysForm names left d t.form × ((f : Form) → SaysForm names left d f → f ≡ t.form) → label_at d ≡ Some t.name → SaysTable names left d t × ((other : TypedMessageValue) → SaysTable names left d other → other ≡ t)
table_said names left d t service method kind form name = (
  record { service = service; method = method; kind = kind; form = form.0; name = name },
  λ other h.
      let a : other.service ≡ t.service = let e = sym h.service ∙ service in cc in
      let b : other.method ≡ t.method = let e = sym h.method ∙ method in cc in
      let c : other.kind ≡ t.kind = let e = sym h.kind ∙ kind in cc in
      let n : other.name ≡ t.name = let e = sym h.name ∙ name in cc in
      same other t a b c (form.1 other.form h.form) n,
)
  where
    same : (x y : TypedMessageValue) → x.service ≡ y.service → x.method ≡ y.method → x.kind ≡ y.kind → x.form ≡ y.form → x.name ≡ y.name → x ≡ y
    same x y a b c f n =
        let first : x ≡ record { service = y.service; method = y.method; kind = x.kind; form = x.form; name = x.name } =
        ap (λ (p : ℕ). record { service = p; method = x.method; kind = x.kind; form = x.form; name = x.name }) a ∙ ap (λ (p : ℕ). record { service = y.service; method = p; kind = x.kind; form = x.form; name = x.name }) b in
        first
        ∙ ap (λ (p : MessageType). record { service = y.service; method = y.method; kind = p; form = x.form; name = x.name }) c
        ∙ ap (λ (p : Form). record { service = y.service; method = y.method; kind = y.kind; form = p; name = x.name }) f
        ∙ ap (λ (p : Option (List ℕ)). record { service = y.service; method = y.method; kind = y.kind; form = y.form; name = p }) n

-- ---- the shape of a text

-- what was read of a text is said by it, once it is accepted
pub read_said : (names : NamedForms) (left rest : ℕ) (text : List ℕ) (f : Form) → ReadsIn names left text f rest → checked f ≡ Ok tt → IsOnly (IsShapeText names left text) f
read_said names left rest text f h good = (record { few = omega (arith, h.counted); says = h.says; good = good }, λ g said. h.only g said.says (shallow g said.good))

-- and nothing is said where it is refused, or none was read
pub refused_none : (names : NamedForms) (left rest : ℕ) (text : List ℕ) (f : Form) → ReadsIn names left text f rest → (checked f ≡ Ok tt → ⊥) → (g : Form) → IsShapeText names left text g → ⊥
refused_none names left rest text f h bad g said = bad (subst (λ (x : Form). checked x ≡ Ok tt) (h.only g said.says (shallow g said.good)) said.good)

pub not_read_none : (names : NamedForms) (left : ℕ) (text : List ℕ) (e : KeyError) → NotRead names left text e → TellsAt (NoForm (IsShapeText names left text)) e
not_read_none names left text (errors.Unknown key) h = (refl, λ g said. unknown_known names (string_bytes key) h.1 ((link names g text said.says).known (string_bytes key) (refers_one names text (string_bytes key) h.0)))
not_read_none names left text errors.TooMany h = (refl, λ g said. omega (arith, h.1, said.few))
not_read_none names left text (errors.BadText place) h = (refl, λ g said. h.1 g said.says (shallow g said.good))
not_read_none names left text errors.OutOfMemory h = tt
not_read_none names left text (errors.Missing k) h = absurd h
not_read_none names left text (errors.WrongKind k) h = absurd h
not_read_none names left text (errors.OutOfRange k) h = absurd h
not_read_none names left text errors.BadShape h = absurd h
not_read_none names left text (errors.Cycle k) h = absurd h
not_read_none names left text (errors.UnknownKey k) h = absurd h
not_read_none names left text errors.Clash h = absurd h

-- a form that is refused is none that the text says
pub refused_tells : (names : NamedForms) (left rest : ℕ) (text : List ℕ) (f : Form) (e : KeyError) → ReadsIn names left text f rest → RefusesForm f e → TellsAt (NoForm (IsShapeText names left text)) e × TextTold names left text e
refused_tells names left rest text f errors.BadShape h bad = ((refl, refused_none names left rest text f h bad), h.known)
refused_tells names left rest text f errors.OutOfMemory h bad = (tt, tt)
refused_tells names left rest text f (errors.Missing k) h bad = absurd bad
refused_tells names left rest text f (errors.WrongKind k) h bad = absurd bad
refused_tells names left rest text f (errors.OutOfRange k) h bad = absurd bad
refused_tells names left rest text f (errors.BadText place) h bad = absurd bad
refused_tells names left rest text f (errors.Unknown k) h bad = absurd bad
refused_tells names left rest text f (errors.Cycle k) h bad = absurd bad
refused_tells names left rest text f errors.TooMany h bad = absurd bad
refused_tells names left rest text f (errors.UnknownKey k) h bad = absurd bad
refused_tells names left rest text f errors.Clash h bad = absurd bad

pub not_read_told : (names : NamedForms) (left : ℕ) (text : List ℕ) (e : KeyError) → NotRead names left text e → TextTold names left text e
not_read_told names left text (errors.Unknown key) h = h
not_read_told names left text errors.TooMany h = (h.0, omega (arith, h.1))
not_read_told names left text (errors.BadText place) h = h.0
not_read_told names left text errors.OutOfMemory h = tt
not_read_told names left text (errors.Missing k) h = absurd h
not_read_told names left text (errors.WrongKind k) h = absurd h
not_read_told names left text (errors.OutOfRange k) h = absurd h
not_read_told names left text errors.BadShape h = absurd h
not_read_told names left text (errors.Cycle k) h = absurd h
not_read_told names left text (errors.UnknownKey k) h = absurd h
not_read_told names left text errors.Clash h = absurd h

-- nothing is told of a shape where another key is told, or none is found there
pub other_told : (P : Type 0) (key : List ℕ) (names : NamedForms) (left : ℕ) (d : Data) (e : KeyError) → (key ≡ codes "shape" → P → (text : List ℕ) → text_at (codes "shape") d ≡ Some text → ⊥) → TellsAt (λ k. (k ≡ key) × P) e → ShapeTold names left d e
other_told P key names left d (errors.Unknown k) other h = λ text is. absurd (other (sym h.0) h.1 text is)
other_told P key names left d errors.TooMany other h = λ text is. absurd (other (sym h.0) h.1 text is)
other_told P key names left d (errors.BadText place) other h = λ text is. absurd (other (sym h.0) h.1 text is)
other_told P key names left d errors.BadShape other h = λ text is. absurd (other (sym h.0) h.1 text is)
other_told P key names left d errors.OutOfMemory other h = λ text is. tt
other_told P key names left d (errors.Missing k) other h = λ text is. tt
other_told P key names left d (errors.WrongKind k) other h = λ text is. tt
other_told P key names left d (errors.OutOfRange k) other h = λ text is. tt
other_told P key names left d (errors.Cycle k) other h = λ text is. tt
other_told P key names left d (errors.UnknownKey k) other h = λ text is. tt
other_told P key names left d errors.Clash other h = λ text is. tt

-- ---- the faults of a table

-- where nothing is found at a key, the table fails at it
pub fails_by : {A : Type 0} (names : NamedForms) (left : ℕ) (d : Data) (key : List ℕ) (found : Option A) (e : KeyError) → (found ≡ None → FailsAt names left d key) → TellsAt (λ k. (k ≡ key) × (found ≡ None)) e → TellsAt (FailsAt names left d) e
fails_by names left d key found e fails tells = tells_too {P = λ k. (k ≡ key) × (found ≡ None)} {Q = FailsAt names left d} e (λ k h. subst (FailsAt names left d) (sym h.0) (fails h.1)) tells

pub form_fails : (names : NamedForms) (left : ℕ) (d : Data) (e : KeyError) → TellsAt (NoForm (SaysForm names left d)) e → TellsAt (FailsAt names left d) e
form_fails names left d e tells = tells_too {P = NoForm (SaysForm names left d)} {Q = FailsAt names left d} e (λ k h. subst (FailsAt names left d) (sym h.0) (no_shape h.1)) tells
