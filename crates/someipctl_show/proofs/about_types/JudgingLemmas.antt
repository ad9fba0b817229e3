-- A name that is judged after those that its text refers to.
use Rattle.std.proofs.Common.{◌≡◌, ℕ, ◌+◌, inl, inr, Bool, true, false, cond, List, [], ◌∷◌, Option, Some, None, Ordering, Less, Equal, Greater, bytes_eq, refl, sym, ap, ◌∙◌, subst, arith}
use Rattle.std.specs.Prelude.{if◌then◌else◌}
use Rattle.std.specs.Option.{is_some, option_and_then}
use Rattle.std.specs.Ordering.{nat_cmp, is_eq, match_ordering}
use Rattle.std.specs.Cmp.Lexicographic.{slice_cmp}
use Rattle.std.proofs.lemmas.Bool.{true≢false}
use Rattle.std.proofs.lemmas.Map.Text.{is_eq-slice_cmp}
use Rattle.std.proofs.lemmas.Slice.Eq.{bytes_eq-Decides}
use Rattle.toml.specs.Data.{Data, Members, no_members, member, get_member, as_str}
use Rattle.someip_payload_values.specs.Data.{Form}
use Rattle.someip_payload.specs.Named.{NamedForms, form_named}
use Rattle.someipctl_show.specs.declared.types.names.Names.{Names}
use Rattle.someipctl_show.specs.types.Judging.{AreApart, AreClosed, IsPut, Judged, KnowsMore, ReadsIn}
use Rattle.someipctl_show.specs.types.Keys.{text_at}
use Rattle.someipctl_show.specs.types.Names.{StandsFor, stands_for, AllStand, written_by, written_in, written_now}
use Rattle.someipctl_show.specs.types.References.{Knows, KnowsAll, count_named, count_of, references, written_out}
use Rattle.someipctl_show.proofs.about_types.NameLemmas.{says_over}

-- names of which one more stands for a form
module _ (old new : NamedForms) (name : List ℕ) (f : Form) (none : form_named old name ≡ None) (put : (n : List ℕ) → form_named new n ≡ (if bytes_eq name n then Some f else form_named old n)) where
  put_new : form_named new name ≡ Some f
  put_new = put name ∙ rw ((bytes_eq-Decides name name).1 refl) refl

  put_other : (n : List ℕ) → bytes_eq name n ≡ false → form_named new n ≡ form_named old n
  put_other n other = put n ∙ rw other refl

  -- what stands for something stands for the same
  put_known : (n : List ℕ) → Knows old n → form_named new n ≡ form_named old n
  put_known n known = by (bytes_eq name n) refl
    where
      by : (b : Bool) → bytes_eq name n ≡ b → form_named new n ≡ form_named old n
      by false other = put_other n other
      by true same =
          let e : name ≡ n = (bytes_eq-Decides name n).0 same in
          absurd (true≢false (sym known ∙ ap (λ (m : List ℕ). is_some (form_named old m)) (sym e) ∙ ap is_some none))

  put_more : KnowsMore old new
  put_more n known = ap is_some (put_known n known) ∙ known

  put_counts : (ns : List (List ℕ)) → KnowsAll old ns → count_named new ns ≡ count_named old ns
  put_counts [] known = refl
  put_counts (n ∷ ns) known =
      let here : count_of (form_named new n) ≡ count_of (form_named old n) = ap count_of (put_known n (known n (inl refl))) in
      let rest = put_counts ns (λ m one. known m (inr one)) in
      omega (arith, here, rest)

  -- ---- the table

  cond_same : (b c : Bool) (x y : ℕ) → b ≡ c → (c ≡ true → x ≡ y) → cond b x 0 ≡ cond c y 0
  cond_same b true x y is same = rw is (same refl)
  cond_same b false x y is same = rw is refl

  same_written : (o : Option (List ℕ)) → ((t : List ℕ) → o ≡ Some t → KnowsAll old (references t)) → written_in new o ≡ written_in old o
  same_written None known = refl
  same_written (Some t) known = put_counts (references t) (known t refl)

  -- a member of another name
  abbrev Closed : NamedForms → List ℕ → Data → Type 0
  Closed names key d = Knows names key → (t : List ℕ) → as_str d ≡ Some t → KnowsAll names (references t)

  at_other : (key : List ℕ) (d : Data) → bytes_eq name key ≡ false → Closed old key d
      → ((if is_some (form_named new key) then written_in new (as_str d) else 0) ≡ (if is_some (form_named old key) then written_in old (as_str d) else 0)) × Closed new key d
  at_other key d other closed =
      let same : form_named new key ≡ form_named old key = put_other key other in (
        cond_same (is_some (form_named new key)) (is_some (form_named old key)) (written_in new (as_str d)) (written_in old (as_str d)) (ap is_some same) (λ known. same_written (as_str d) (closed known)),
        λ known t is m one. put_more m (closed (ap is_some (sym same) ∙ known) t is m one),
      )

  abbrev Kept : Members → ℕ → Type 0
  Kept ms more = (written_by new ms ≡ written_by old ms + more) × AreClosed new ms

  beside : (key : List ℕ) (d : Data) (ms : Members) (more : ℕ) → bytes_eq name key ≡ false → AreClosed old (member key d ms) → Kept ms more → Kept (member key d ms) more
  beside key d ms more other closed rest =
      let here = at_other key d other closed.0 in (omega (arith, here.0, rest.0), (here.1, rest.1))

  absent : (ms : Members) → get_member name ms ≡ None → AreClosed old ms → Kept ms 0
  absent no_members gone closed = (omega arith, tt)
  absent (member key d ms) gone closed = by (slice_cmp nat_cmp name key) (is_eq-slice_cmp name key) (λ e. absent ms e closed.1) gone
    where
      by : (o : Ordering) → is_eq o ≡ bytes_eq name key → (get_member name ms ≡ None → Kept ms 0) → match_ordering o (get_member name ms) (Some d) (get_member name ms) ≡ None → Kept (member key d ms) 0
      by Less is rest e = beside key d ms 0 (sym is) closed (rest e)
      by Equal is rest e = absurd cc
      by Greater is rest e = beside key d ms 0 (sym is) closed (rest e)

  module _ (text : List ℕ) (all : KnowsAll old (references text)) where
    here : (key : List ℕ) (d : Data) (ms : Members) → name ≡ key → as_str d ≡ Some text → get_member key ms ≡ None → AreClosed old ms → Kept (member key d ms) (written_out old text)
    here key d ms same is gone closed =
        let rest = absent ms (ap (λ (n : List ℕ). get_member n ms) same ∙ gone) closed in
        let has : form_named new key ≡ Some f = ap (form_named new) (sym same) ∙ put_new in
        let had : form_named old key ≡ None = ap (form_named old) (sym same) ∙ none in
        let now : (if is_some (form_named new key) then written_in new (as_str d) else 0) ≡ written_out old text = rw (has, is) (put_counts (references text) all) in
        let before : (if is_some (form_named old key) then written_in old (as_str d) else 0) ≡ 0 = rw had refl in
        (omega (arith, now, before, rest.0), (λ known t e m one. put_more m (all_of t e m one), rest.1))
      where
        all_of : (t : List ℕ) → as_str d ≡ Some t → KnowsAll old (references t)
        all_of t e = let q : ◌≡◌ {A = Option (List ℕ)} (Some text) (Some t) = sym is ∙ e in let e2 : text ≡ t = cc in subst (λ (x : List ℕ). KnowsAll old (references x)) e2 all

    present : (ms : Members) (d : Data) → get_member name ms ≡ Some d → as_str d ≡ Some text → AreApart ms → AreClosed old ms → Kept ms (written_out old text)
    present no_members d found is apart closed = absurd cc
    present (member key e ms) d found is apart closed = by (slice_cmp nat_cmp name key) (is_eq-slice_cmp name key) (λ h. present ms d h is apart.1 closed.1) found
      where
        by : (o : Ordering) → is_eq o ≡ bytes_eq name key → (get_member name ms ≡ Some d → Kept ms (written_out old text)) → match_ordering o (get_member name ms) (Some e) (get_member name ms) ≡ Some d
            → Kept (member key e ms) (written_out old text)
        by Less is_other rest h = beside key e ms (written_out old text) (sym is_other) closed (rest h)
        by Equal is_same rest h =
            let same_data : e ≡ d = cc in
            here key e ms ((bytes_eq-Decides name key).0 (sym is_same)) (ap as_str same_data ∙ is) apart.0 closed.1
        by Greater is_other rest h = beside key e ms (written_out old text) (sym is_other) closed (rest h)

-- the value at a key of a table that is a text
text_member : (o : Option Data) (text : List ℕ) → option_and_then as_str o ≡ Some text → (d : Data) × (o ≡ Some d) × (as_str d ≡ Some text)
text_member None text is = absurd cc
text_member (Some d) text is = (d, refl, is)

-- ---- one more

module _ (types : Data) (old new : Names) (name text : List ℕ) (judged : Judged types old) (is : text_at name types ≡ Some text) (known : KnowsAll old.shapes (references text)) where
  module _ (f : Form) (none : form_named old.shapes name ≡ None) (reads : ReadsIn old.shapes old.left text f new.left) (put : (n : List ℕ) → form_named new.shapes n ≡ (if bytes_eq name n then Some f else form_named old.shapes n)) where
    own : StandsFor types name f
    own = stands_for name text old.shapes f is judged.stand.stand reads.says reads.within

    all_stand : AllStand types new.shapes
    all_stand = record {
      stand = λ n g h. stand n g (bytes_eq name n) refl (sym (put n) ∙ h);
      only = λ n g h there stands. only n g h stands (bytes_eq name n) refl (sym (put n) ∙ there);
    }
      where
        stand : (n : List ℕ) (g : Form) (b : Bool) → bytes_eq name n ≡ b → cond b (Some f) (form_named old.shapes n) ≡ Some g → StandsFor types n g
        stand n g true same h =
            let e : f ≡ g = cc in
            subst (λ (m : List ℕ). StandsFor types m g) ((bytes_eq-Decides name n).0 same) (subst (StandsFor types name) e own)
        stand n g false other h = judged.stand.stand n g h

        only : (n : List ℕ) (g h : Form) → StandsFor types n h → (b : Bool) → bytes_eq name n ≡ b → cond b (Some f) (form_named old.shapes n) ≡ Some g → h ≡ g
        only n g h stands true same there =
            let e : f ≡ g = cc in
            let stands_too : StandsFor types name h = subst (λ (m : List ℕ). StandsFor types m h) (sym ((bytes_eq-Decides name n).0 same)) stands in
            let over = says_over types old.shapes name text h judged.stand is known stands_too in
            reads.only h over.0 over.1 ∙ e
        only n g h stands false other there = judged.stand.only n g h there stands

    put_judged : Judged types new
    put_judged =
        let found = text_member (get_member name judged.members) text (subst (λ (d : Data). text_at name d ≡ Some text) judged.is is) in
        let kept = present old.shapes new.shapes name f none put text known judged.members found.0 found.1 found.2 judged.apart judged.closed in
        let now : written_now new.shapes types ≡ written_by new.shapes judged.members = ap (written_now new.shapes) judged.is in
        let before : written_now old.shapes types ≡ written_by old.shapes judged.members = ap (written_now old.shapes) judged.is in
        record {
          stand = all_stand;
          members = judged.members;
          is = judged.is;
          apart = judged.apart;
          closed = kept.1;
          budget = omega (arith, now, before, kept.0, reads.counted, judged.budget);
        }

  pub judged_more : IsPut old new name text → Judged types new × KnowsMore old.shapes new.shapes × Knows new.shapes name
  judged_more (inl (had, same)) = (subst (Judged types) (sym same) judged, λ n h. subst (λ (x : Names). Knows x.shapes n) (sym same) h, subst (λ (x : Names). Knows x.shapes name) (sym same) had)
  judged_more (inr (f, none, reads, put)) = (put_judged f none reads put, put_more old.shapes new.shapes name f none put, ap is_some (put_new old.shapes new.shapes name f none put))
