-- The requests that wait, as a slab and its index.
use Rattle.std.proofs.Common.{◌≡◌, ◌≢◌, ℕ, suc, Bool, true, false, cond, List, [], ◌∷◌, length, Option, None, Some, refl, sym, ap, subst, ◌∙◌}
use Rattle.std.specs.Option.{option_map, unwrap_or}
use Rattle.std.specs.Ordering.{nat_cmp}
use Rattle.std.specs.Cmp.{nat_cmp_total}
use Rattle.std.specs.List.Sorted.{IsStrictlySortedBy}
use Rattle.std.specs.Map.{keys_of, lookup}
use Rattle.std.specs.BTreeMap as tree
use Rattle.std.specs.BTreeMap.{BTreeMap, is_at}
use Rattle.std.specs.FinMap.{nat_cmp-IsAntisymmetric, get, insert, remove, len}
use Rattle.slab.specs.Slab as slab
use Rattle.slab.specs.Slab.{Slab}
use Rattle.someip_tables.specs.Tables.{map_of}
use Rattle.someip_tables.proofs.MapLaws.{remove_absent}
use Rattle.someip_tables.proofs.Entries.{same_by_test, own_test}
use Rattle.someip_tables.proofs.Trees.{get-map_of, map_of-insert, map_of-remove, len-map_of}
use Rattle.someip_rpc.specs.declared.request.Asked.{Asked}
use Rattle.someip_rpc.specs.declared.open.Held.{Held}
use Rattle.someip_rpc.specs.OpenSlab.{Indexes, request_of, requests_of}

-- the request of a token
abbrev at : Slab Held → Option ℕ → Option Asked
at held v = option_map (λ key. request_of (slab.get held key)) v

pub lookup-requests_of : (held : Slab Held) (q : ℕ) (es : List (ℕ × ℕ)) → lookup (is_at (nat_cmp q)) (requests_of held es) ≡ at held (lookup (is_at (nat_cmp q)) es)
lookup-requests_of held q [] = refl
lookup-requests_of held q (e ∷ es) = cases (is_at (nat_cmp q) e.0) (lookup-requests_of held q es)
  where
    cases : (b : Bool) → lookup (is_at (nat_cmp q)) (requests_of held es) ≡ at held (lookup (is_at (nat_cmp q)) es)
        → cond b (Some (request_of (slab.get held e.1))) (lookup (is_at (nat_cmp q)) (requests_of held es)) ≡ at held (cond b (Some e.1) (lookup (is_at (nat_cmp q)) es))
    cases true rest = refl
    cases false rest = rest

pub get-requests : (held : Slab Held) (index : BTreeMap ℕ ℕ) (q : ℕ) → get (map_of nat_cmp (requests_of held index.entries)) q ≡ at held (tree.get nat_cmp index q)
get-requests held index q = get-map_of nat_cmp_total (requests_of held index.entries) q ∙ lookup-requests_of held q index.entries

keys-requests_of : (held : Slab Held) (es : List (ℕ × ℕ)) → keys_of (requests_of held es) ≡ keys_of es
keys-requests_of held [] = refl
keys-requests_of held (e ∷ es) = ap (λ ks. e.0 ∷ ks) (keys-requests_of held es)

length-requests_of : (held : Slab Held) (es : List (ℕ × ℕ)) → length (requests_of held es) ≡ length es
length-requests_of held [] = refl
length-requests_of held (e ∷ es) = ap suc (length-requests_of held es)

pub len-requests : (held : Slab Held) (es : List (ℕ × ℕ)) → IsStrictlySortedBy nat_cmp (keys_of es) → len (map_of nat_cmp (requests_of held es)) ≡ length es
len-requests held es rising =
    let P : List ℕ → Type 0 = IsStrictlySortedBy nat_cmp in
    len-map_of nat_cmp_total nat_cmp-IsAntisymmetric (requests_of held es) (subst P (sym (keys-requests_of held es)) rising) ∙ length-requests_of held es

-- a key of the index has a request
never_gone : (held : Slab Held) (index : BTreeMap ℕ ℕ) (token key : ℕ) → Indexes index held → tree.get nat_cmp index token ≡ Some key → slab.get held key ≡ None → ⊥
never_gone held index token key are is none = absurd_none (sym (are token key is) ∙ ap (option_map (λ h. h.token)) none)
  where
    absurd_none : {n : ℕ} → Some n ≡ None → ⊥
    absurd_none e = cc

same_value : {a b : ℕ} → Some a ≡ Some b → a ≡ b
same_value {a} e = ap (λ v. unwrap_or v a) e

-- the request that a token finds, and that it finds none
pub found : (held : Slab Held) (index : BTreeMap ℕ ℕ) (token key : ℕ) → Indexes index held → tree.get nat_cmp index token ≡ Some key
    → option_map (λ h. h.request) (slab.get held key) ≡ get (map_of nat_cmp (requests_of held index.entries)) token
found held index token key are is = cases (slab.get held key) refl ∙ sym (get-requests held index token ∙ ap (at held) is)
  where
    cases : (v : Option Held) → slab.get held key ≡ v → option_map (λ h. h.request) v ≡ Some (request_of v)
    cases None none = absurd (never_gone held index token key are is none)
    cases (Some h) there = refl

pub not_found : (held : Slab Held) (index : BTreeMap ℕ ℕ) (token : ℕ) → None ≡ tree.get nat_cmp index token → None ≡ get (map_of nat_cmp (requests_of held index.entries)) token
not_found held index token is = sym (get-requests held index token ∙ ap (at held) (sym is))

-- a request is put under a key that had none
module _ (index next : BTreeMap ℕ ℕ) (held left : Slab Held) (token key : ℕ) (request : Asked)
    (updates : (q : ℕ) → tree.get nat_cmp next q ≡ cond (is_at (nat_cmp token) q) (Some key) (tree.get nat_cmp index q))
    (are : Indexes index held) (vacant : slab.get held key ≡ None)
    (changed : slab.get left key ≡ Some (record { token = token; request = request }))
    (others : (other : ℕ) → other ≢ key → slab.get left other ≡ slab.get held other) where
  other_key : (q other : ℕ) → tree.get nat_cmp index q ≡ Some other → other ≢ key
  other_key q other is = λ same. never_gone held index q other are is (ap (slab.get held) same ∙ vacant)

  put_at : (q : ℕ) (b : Bool) (v : Option ℕ) → tree.get nat_cmp index q ≡ v → at left (cond b (Some key) v) ≡ cond b (Some request) (at held v)
  put_at q true v is = ap (λ h. Some (request_of h)) changed
  put_at q false None is = refl
  put_at q false (Some other) is = ap (λ h. Some (request_of h)) (others other (other_key q other is))

  pub requests_put : map_of nat_cmp (requests_of left next.entries) ≡ insert (map_of nat_cmp (requests_of held index.entries)) token request
  requests_put =
      map_of-insert nat_cmp_total nat_cmp-IsAntisymmetric (requests_of held index.entries) (requests_of left next.entries) token request
      (λ q.
      lookup-requests_of left q next.entries ∙ ap (at left) (updates q) ∙ put_at q (is_at (nat_cmp token) q) (tree.get nat_cmp index q) refl
      ∙ ap (cond (is_at (nat_cmp token) q) (Some request)) (sym (lookup-requests_of held q index.entries)))

  put_indexes : (q other : ℕ) (b : Bool) → is_at (nat_cmp token) q ≡ b → cond b (Some key) (tree.get nat_cmp index q) ≡ Some other → option_map (λ h. h.token) (slab.get left other) ≡ Some q
  put_indexes q other true tie is =
      ap (λ k. option_map (λ h. h.token) (slab.get left k)) (sym (same_value is)) ∙ ap (option_map (λ h. h.token)) changed ∙ ap Some (same_by_test nat_cmp-IsAntisymmetric token q tie)
  put_indexes q other false tie is = ap (option_map (λ h. h.token)) (others other (other_key q other is)) ∙ are q other is

  pub indexes_put : Indexes next left
  indexes_put = λ q other is. put_indexes q other (is_at (nat_cmp token) q) refl (sym (updates q) ∙ is)

-- a request is taken out
module _ (index next : BTreeMap ℕ ℕ) (held left : Slab Held) (token key : ℕ)
    (updates : (q : ℕ) → tree.get nat_cmp next q ≡ cond (is_at (nat_cmp token) q) None (tree.get nat_cmp index q))
    (are : Indexes index held) (there : tree.get nat_cmp index token ≡ Some key)
    (others : (other : ℕ) → other ≢ key → slab.get left other ≡ slab.get held other) where
  stays : (q other : ℕ) → is_at (nat_cmp token) q ≡ false → tree.get nat_cmp index q ≡ Some other → other ≢ key
  stays q other apart is = λ same.
      let tokens : token ≡ q = same_value (sym (are token key there) ∙ ap (λ k. option_map (λ h. h.token) (slab.get held k)) (sym same) ∙ are q other is) in
      let tie : is_at (nat_cmp token) q ≡ true = ap (is_at (nat_cmp token)) (sym tokens) ∙ own_test nat_cmp_total token in
      cc

  take_at : (q : ℕ) (b : Bool) (v : Option ℕ) → is_at (nat_cmp token) q ≡ b → tree.get nat_cmp index q ≡ v → at left (cond b None v) ≡ cond b None (at held v)
  take_at q true v tie is = refl
  take_at q false None tie is = refl
  take_at q false (Some other) tie is = ap (λ h. Some (request_of h)) (others other (stays q other tie is))

  pub requests_taken : map_of nat_cmp (requests_of left next.entries) ≡ remove (map_of nat_cmp (requests_of held index.entries)) token
  requests_taken =
      map_of-remove nat_cmp_total nat_cmp-IsAntisymmetric (requests_of held index.entries) (requests_of left next.entries) token
      (λ q.
      lookup-requests_of left q next.entries ∙ ap (at left) (updates q) ∙ take_at q (is_at (nat_cmp token) q) (tree.get nat_cmp index q) refl refl
      ∙ ap (cond (is_at (nat_cmp token) q) None) (sym (lookup-requests_of held q index.entries)))

  take_indexes : (q other : ℕ) (b : Bool) → is_at (nat_cmp token) q ≡ b → cond b None (tree.get nat_cmp index q) ≡ Some other → option_map (λ h. h.token) (slab.get left other) ≡ Some q
  take_indexes q other true tie is = cc
  take_indexes q other false tie is = ap (option_map (λ h. h.token)) (others other (stays q other tie is)) ∙ are q other is

  pub indexes_taken : Indexes next left
  indexes_taken = λ q other is. take_indexes q other (is_at (nat_cmp token) q) refl (sym (updates q) ∙ is)

-- no request is taken out
pub none_taken : (index next : BTreeMap ℕ ℕ) (held : Slab Held) (token : ℕ) → next.entries ≡ index.entries → tree.get nat_cmp index token ≡ None
    → map_of nat_cmp (requests_of held next.entries) ≡ remove (map_of nat_cmp (requests_of held index.entries)) token
none_taken index next held token same none =
    ap (λ es. map_of nat_cmp (requests_of held es)) same
    ∙ sym (remove_absent nat_cmp_total nat_cmp-IsAntisymmetric (map_of nat_cmp (requests_of held index.entries)) token (get-requests held index token ∙ ap (at held) none))
