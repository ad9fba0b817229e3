-- What a call waits for once more was met: it waited before and nothing that was met is about it, or it was called.
use Rattle.std.proofs.Common.{◌≡◌, ◌∷◌, Bool, true, false, if◌then◌else◌, ℕ, List, [], None, Some, arith, refl, sym, ap, ◌∙◌}
use Rattle.std.specs.List.{AllByRecursion, Contains}
use Rattle.std.specs.Ordering.{eq_by_cmp}
use Rattle.std.proofs.lemmas.List.Elements.{Contains-append_right, Contains-get_or}
use Rattle.std.specs.declared.net.socket_addr.SocketAddrV4.{SocketAddrV4}
use Rattle.someip_tables.specs.declared.lasting.Lasting.{Lasting}
use Rattle.someip_tables.proofs.Entries.{own_test, same_by_test}
use Rattle.someip_rpc.specs.IdOrder.{calls_total, exact_calls}
use Rattle.someip_rpc.specs.Ids.{call_cmp}
use Rattle.someip_rpc.specs.declared.call.Awaited.{Awaited}
use Rattle.someip_rpc.specs.declared.call.Call.{Call}
use Rattle.someip_rpc.specs.declared.call.CallKind.{CallKind}
use Rattle.someip_rpc.specs.declared.call.CallKind.TheVariants as calls
use Rattle.someip_rpc.specs.declared.ids.CallKey.{CallKey}
use Rattle.someip_node_rules.specs.declared.config.Config.{Config}
use Rattle.someip_node_rules.specs.histories.CallQuestions.{awaited_at, awaited_from, call_key, called_by}
use Rattle.someip_node_rules.specs.histories.History.{History, met}
use Rattle.someip_node_rules.specs.histories.Items as items
use Rattle.someip_node_rules.specs.histories.Items.{Item}
use Rattle.someip_node_rules.specs.histories.Questions.{clock_at}
use Rattle.someip_node_rules.specs.trails.Trails.{after}

module _ (config : Config) (key : CallKey) (l : Lasting Awaited) where
  -- an item takes no answer to the call, and is no call of its Message ID and session that waits
  abbrev pub IsOther : Item → Type 0
  IsOther x =
      (x ≡ items.AnswerTaken key → ⊥)
      × ((call : Call) (peer : SocketAddrV4) (session : ℕ) → x ≡ items.Called call peer session → call.kind ≡ calls.Request → call_key call session ≡ key → ⊥)

  -- it waited before, and only others were met; or it was called
  pub data Since (h : History) (xs : List Item) : Type 0 where
    Waited : awaited_at config h.items key ≡ Some l → AllByRecursion IsOther xs → Since h xs
    WasCalled : (call : Call) (peer : SocketAddrV4) (session : ℕ) → Contains xs (items.Called call peer session) → call.kind ≡ calls.Request → call_key call session ≡ key → l.value.peer ≡ peer → Since h xs

  -- a call was met first
  by_call : (h : History) (call : Call) (peer : SocketAddrV4) (session : ℕ) (xs : List Item) → AllByRecursion IsOther xs → (kind : CallKind) → call.kind ≡ kind
      → called_by kind (call_key call session) (awaited_from config call peer (clock_at h.items)) key (awaited_at config h.items key) ≡ Some l → Since h (items.Called call peer session ∷ xs)
  by_call h call peer session xs none calls.RequestNoReturn kind is = Waited is (
    (
      (λ e. absurd cc),
      λ c p s e request keyed.
          let one : call ≡ c = cc in
          let other : calls.RequestNoReturn ≡ calls.Request = sym kind ∙ ap (λ x. x.kind) one ∙ request in absurd cc,
    ),
    none,
  )
  by_call h call peer session xs none calls.Request kind is = cases (eq_by_cmp call_cmp key (call_key call session)) refl is
    where
      cases : (b : Bool) → eq_by_cmp call_cmp key (call_key call session) ≡ b
          → (if b then Some (awaited_from config call peer (clock_at h.items)) else awaited_at config h.items key) ≡ Some l → Since h (items.Called call peer session ∷ xs)
      cases true same e =
          let one : awaited_from config call peer (clock_at h.items) ≡ l = cc in
          WasCalled call peer session (Contains-get_or (items.Called call peer session ∷ xs) 0 (items.Called call peer session) (omega arith)) kind
          (sym (same_by_test exact_calls key (call_key call session) same)) (ap (λ x. x.value.peer) (sym one))
      cases false same e = Waited e (
        (
          (λ x. absurd cc),
          λ c p s x request keyed.
              let one : call ≡ c = cc in
              let two : session ≡ s = cc in
              let own = own_test calls_total key in
              let both : call_key call session ≡ key = (λ i. call_key (one i) (two i)) ∙ keyed in
              let other : eq_by_cmp call_cmp key key ≡ false = ap (eq_by_cmp call_cmp key) (sym both) ∙ same in
              let clash = sym own ∙ other in absurd cc,
        ),
        none,
      )

  -- an answer was taken first
  by_answer : (h : History) (k : CallKey) (xs : List Item) → AllByRecursion IsOther xs → (b : Bool) → eq_by_cmp call_cmp key k ≡ b
      → (if b then None else awaited_at config h.items key) ≡ Some l → Since h (items.AnswerTaken k ∷ xs)
  by_answer h k xs none true same e = absurd cc
  by_answer h k xs none false same e =
      Waited e (
        (
          (λ is. let one : k ≡ key = cc in
              let own = own_test calls_total key in
              let other : eq_by_cmp call_cmp key key ≡ false = ap (eq_by_cmp call_cmp key) (sym one) ∙ same in
              let both = sym own ∙ other in absurd cc),
          λ c p s x. absurd cc,
        ),
        none,
      )

  -- any item was met first
  one_more : (h : History) (x : Item) (xs : List Item) → Since (met h x) xs → Since h (x ∷ xs)
  one_more h x xs (WasCalled call peer session among kind keyed to) = WasCalled call peer session (Contains-append_right (x ∷ []) xs (items.Called call peer session) among) kind keyed to
  one_more h (items.Called call peer session) xs (Waited is none) = by_call h call peer session xs none call.kind refl is
  one_more h (items.AnswerTaken k) xs (Waited is none) = by_answer h k xs none (eq_by_cmp call_cmp key k) refl is
  one_more h x xs (Waited is none) = Waited is (((λ e. absurd cc), λ c p s e. absurd cc), none)

  -- all together
  pub since : (h : History) (xs : List Item) → awaited_at config (after h xs).items key ≡ Some l → Since h xs
  since h [] is = Waited is tt
  since h (x ∷ xs) is = one_more h x xs (since (met h x) xs is)
