-- How a verdict on worked runs of two nodes is computed, step by step: the book after each step is written down.
use Rattle.std.proofs.Common.{◌≡◌, ℕ, suc, ◌+◌, true, false, if◌then◌else◌, ◌||◌, cond, List, [], ◌∷◌, slice_get, Option, None, Some, refl, ap, ◌∙◌}
use Rattle.std.specs.Cmp.{nat_cmp_total}
use Rattle.std.specs.FinMap as finite
use Rattle.std.specs.FinMap.{FinMap, get-insert}
use Rattle.std.specs.Ordering.{nat_cmp}
use Rattle.someip_tables.proofs.Entries.{own_test}
use Rattle.someip_node_laws.specs.WorkedExamples.{client, server}
use Rattle.someip_world_schedule.specs.StepNodes.{node_of}
use Rattle.someip_world_schedule.specs.declared.step.Step.{Step}
use Rattle.someip_world_setup.specs.declared.setup_node.SetupNode.{SetupNode}
use Rattle.someip_world_rules.specs.Runs.{place_of}
use Rattle.someip_world_rules.specs.declared.line.Line.{Line}
use Rattle.someip_world_rules.specs.declared.reuse.Reuse.{Reuse}
use Rattle.someip_world_rules.specs.declared.reuse.Reuse.TheVariants.{Broken}
use Rattle.someip_world_rules.specs.WorkedTrace.{AreNamed, a, b}
use Rattle.someip_world_rules.specs.exchanges.KeyOrder.{calls_total}
use Rattle.someip_world_rules.specs.declared.exchanges.exchange_key.CallExchange.{CallExchange}
use Rattle.someip_world_rules.specs.declared.exchanges.exchange_key.ExchangeKey.TheVariants as keys
use Rattle.someip_world_rules.specs.declared.exchanges.naming.Side.{Side}
use Rattle.someip_world_verdict.specs.Books.{Book, LifeKept, NoteKept, TakenKeys, breaks_at, is_after, is_breach, new_life, since_of, taken_at, taken_with}
use Rattle.someip_world_verdict.specs.Booking.{booked}
use Rattle.someip_world_verdict.specs.Judging.{judged_at, judged_from, judged_on, other_lines, own_lines}

-- ---- what is kept

-- the key of the first call of a method by b
abbrev pub called : ℕ → CallExchange
called method = record { client = client; server = server; message = record { service = 0x1111; method = method }; client_id = 0x0102; session = 1 }

-- of an Offer that the first step sent, and of a datagram that names that key
abbrev pub offer_note : NoteKept
offer_note = record { step = 0; answers = None; said = []; stream = None; payload = None }

abbrev pub note : ℕ → Option ℕ → Side → ℕ → NoteKept
note step answers side method = record {
  step = step;
  answers = answers;
  said = record { naming = record { key = keys.Call (called method); side = side }; subscribes = false } ∷ [];
  stream = None;
  payload = None;
}

-- the key is taken by a step
abbrev pub taken_by : ℕ → ℕ → TakenKeys → TakenKeys
taken_by method step taken = taken_with (keys.Call (called method)) step taken

-- of a, whose clock stands at 10, with the requests of its tokens
abbrev pub life_with : FinMap nat_cmp ℕ → LifeKept
life_with tokens = record new_life { clock = 10; tokens = tokens }

-- all of it: b has no tokens
abbrev pub kept : TakenKeys → List NoteKept → FinMap nat_cmp ℕ → Book
kept taken notes tokens = record { taken = taken; notes = notes; lives = life_with tokens ∷ new_life ∷ []; payloads = finite.empty }

-- what stands under the key, and under a token, is what was put there last
pub taken_last : (taken : TakenKeys) (method step : ℕ) → taken_at (taken_by method step taken) (keys.Call (called method)) ≡ Some step
taken_last taken method step =
    get-insert calls_total taken.calls (called method) step (called method)
    ∙ ap (λ b. cond b (Some step) (finite.get taken.calls (called method))) (own_test calls_total (called method))

pub token_last : (tokens : FinMap nat_cmp ℕ) (token sent : ℕ) → finite.get (finite.insert tokens token sent) token ≡ Some sent
token_last tokens token sent =
    get-insert nat_cmp_total tokens token sent token ∙ ap (λ b. cond b (Some sent) (finite.get tokens token)) (own_test nat_cmp_total token)

-- whether the delivery of a datagram that names the key breaks clean reuse, where a step took it
pub breach_is : (timeout : ℕ) (taken : TakenKeys) (life : LifeKept) (step : ℕ) (answers : Option ℕ) (side : Side) (method at : ℕ)
    → is_breach timeout (taken_by method at taken) life (note step answers side method)
    ≡ ((is_after (since_of (note step answers side method) side) (Some at) || false) || false)
breach_is timeout taken life step answers side method at =
    ap (λ at. (is_after (since_of (note step answers side method) side) at || false) || false) (taken_last taken method at)

-- ---- steps

module _ (first second : SetupNode) (named : AreNamed first second) where
  abbrev pub nodes : List SetupNode
  nodes = first ∷ second ∷ []

  at_a : place_of nodes a ≡ Some 0
  at_a = rw named.first_name refl

  at_b : place_of nodes b ≡ Some 1
  at_b = rw (named.first_name, named.second_name) refl

  -- what comes after a step
  abbrev after : ℕ → List Step → List Line → Book → Reuse
  after n steps lines next = judged_from nodes (suc n) next steps (other_lines (n + 1) lines)

  module _ (n : ℕ) (s : Step) (steps : List Step) (lines : List Line) (book : Book) where
    abbrev own : List Line
    own = own_lines (n + 1) lines

    -- a step at the node of a place
    at_place : (place : ℕ) (name : List ℕ) (node : SetupNode) (life : LifeKept) → node_of s ≡ name → place_of nodes name ≡ Some place → slice_get nodes place ≡ Some node
        → slice_get book.lives place ≡ Some life
        → judged_from nodes n book (s ∷ steps) lines ≡ judged_at (after n steps lines) n place s own book (Some node) (Some life)
    at_place place name node life is at here lives =
        ap (λ name. judged_on (after n steps lines) nodes n s own book (place_of nodes name)) is
        ∙ ap (judged_on (after n steps lines) nodes n s own book) at
        ∙ ap (λ node. judged_at (after n steps lines) n place s own book node (slice_get book.lives place)) here
        ∙ ap (judged_at (after n steps lines) n place s own book (Some node)) lives

    -- one that breaks clean reuse is named, and after another the next is judged by what is kept then
    ends : (place : ℕ) (node : SetupNode) (life : LifeKept) → breaks_at node.config.common.reassembly_timeout_ms book life s ≡ true
        → judged_at (after n steps lines) n place s own book (Some node) (Some life) ≡ Broken (n + 1)
    ends place node life breaks = ap (λ broken. if broken then Broken (n + 1) else after n steps lines (booked node.config n place s own life book)) breaks

    goes : (place : ℕ) (node : SetupNode) (life : LifeKept) (next : Book) → breaks_at node.config.common.reassembly_timeout_ms book life s ≡ false
        → booked node.config n place s own life book ≡ next → judged_at (after n steps lines) n place s own book (Some node) (Some life) ≡ after n steps lines next
    goes place node life next unbroken does =
        ap (λ broken. if broken then Broken (n + 1) else after n steps lines (booked node.config n place s own life book)) unbroken
        ∙ ap (after n steps lines) does

    -- at a, and at b
    pub of_a : (life : LifeKept) (next : Book) → node_of s ≡ a → slice_get book.lives 0 ≡ Some life
        → breaks_at first.config.common.reassembly_timeout_ms book life s ≡ false → booked first.config n 0 s own life book ≡ next
        → judged_from nodes n book (s ∷ steps) lines ≡ after n steps lines next
    of_a life next is lives unbroken does = at_place 0 a first life is at_a refl lives ∙ goes 0 first life next unbroken does

    pub of_b : (life : LifeKept) (next : Book) → node_of s ≡ b → slice_get book.lives 1 ≡ Some life
        → breaks_at second.config.common.reassembly_timeout_ms book life s ≡ false → booked second.config n 1 s own life book ≡ next
        → judged_from nodes n book (s ∷ steps) lines ≡ after n steps lines next
    of_b life next is lives unbroken does = at_place 1 b second life is at_b refl lives ∙ goes 1 second life next unbroken does

    pub breaks_of_b : (life : LifeKept) → node_of s ≡ b → slice_get book.lives 1 ≡ Some life
        → breaks_at second.config.common.reassembly_timeout_ms book life s ≡ true → judged_from nodes n book (s ∷ steps) lines ≡ Broken (n + 1)
    breaks_of_b life is lives breaks = at_place 1 b second life is at_b refl lives ∙ ends 1 second life breaks
