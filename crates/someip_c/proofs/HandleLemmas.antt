-- From what a call of a node comes to, to what its number tells.
use Rattle.std.proofs.Common.{◌≡◌, refl, sym, subst, ℕ}
use Rattle.std.specs.Prelude.{List, Option, None, Some, IsSomeAnd}
use Rattle.someip_c_node.specs.declared.outcome.Outcome.{Outcome}
use Rattle.someip_c_node.specs.declared.outcome.Outcome.TheVariants.{Done, Closed, Held, OutputsWait, NothingLeft, BufferTooSmall, NothingDue, NotText, NotToml, Missing, WrongKind, OutOfRange, UnknownKey, Clash, NoSuchNode, BadDelay, ClockPast, NotWanted, Failed, OutOfMemory, NotOffered, Busy, TooLong, UnknownToken, BadErrorCode, UnknownEvent, NotSubscribed, BadStep, PayloadTooLong, NoMemory, BadShape, BadPayload, BadValue}
use Rattle.someip_c_node.specs.Calls.{CNodeView}
use Rattle.someip_c_node.specs.Outcomes.{number_of, outcome_of}
use Rattle.someip_node_rules.specs.histories.History.{History}
use Rattle.someip_node_rules.specs.steps.Steps.{StandsFor}
use Rattle.someip_node_rules.specs.steps.Waking.{IsNextDue}
use Rattle.someip_c.specs.Handles.{Asks, OnNode, Starts, StartsTo, Tells}

-- the number of an outcome tells it
pub decodes : (o : Outcome) → outcome_of (number_of o) ≡ Some o
decodes Done = refl
decodes Closed = refl
decodes Held = refl
decodes OutputsWait = refl
decodes NothingLeft = refl
decodes BufferTooSmall = refl
decodes NothingDue = refl
decodes NotText = refl
decodes NotToml = refl
decodes Missing = refl
decodes WrongKind = refl
decodes OutOfRange = refl
decodes UnknownKey = refl
decodes Clash = refl
decodes NoSuchNode = refl
decodes BadDelay = refl
decodes ClockPast = refl
decodes NotWanted = refl
decodes Failed = refl
decodes OutOfMemory = refl
decodes NotOffered = refl
decodes Busy = refl
decodes TooLong = refl
decodes UnknownToken = refl
decodes BadErrorCode = refl
decodes UnknownEvent = refl
decodes NotSubscribed = refl
decodes BadStep = refl
decodes PayloadTooLong = refl
decodes NoMemory = refl
decodes BadShape = refl
decodes BadPayload = refl
decodes BadValue = refl

pub tells : (P : Outcome → Type 0) (o : Outcome) → P o → Tells (number_of o) P
tells P o p = subst (λ x. IsSomeAnd x P) (sym (decodes o)) p

-- what a handle's node did
pub on_node : (old : Option CNodeView) (does : CNodeView → Outcome → CNodeView → Type 0) (number : ℕ) (new : Option CNodeView) (c : CNodeView) (o : Outcome) (c' : CNodeView)
    → old ≡ Some c → number ≡ number_of o → new ≡ Some c' → does c o c' → OnNode old does number new
on_node old does number new c o c' was is now d =
    subst (λ v. OnNode v does number new) (sym was) (subst (λ n. OnNode (Some c) does n new) (sym is)
    (subst (λ v. OnNode (Some c) does (number_of o) v) (sym now) (tells (λ outcome. does c outcome c') o d)))

-- ---- starts

pub starts : (old : Option CNodeView) (text name : List ℕ) (delay number : ℕ) (new : Option CNodeView) (o : Outcome)
    → old ≡ None → number ≡ number_of o → StartsTo text name delay o new → Starts old text name delay number new
starts old text name delay number new o was is s =
    subst (λ v. Starts v text name delay number new) (sym was) (subst (λ n. Starts None text name delay n new) (sym is)
    (tells (λ outcome. StartsTo text name delay outcome new) o s))

pub held : (old : Option CNodeView) (text name : List ℕ) (delay number : ℕ) (new : Option CNodeView) (c : CNodeView)
    → old ≡ Some c → number ≡ number_of Held → new ≡ Some c → Starts old text name delay number new
held old text name delay number new c was is now = subst (λ v. Starts v text name delay number new) (sym was) (is, now)

-- ---- a node that was lent

-- what a handle's node did, while it was lent
pub on_lent : (old : Option CNodeView) (does : CNodeView → Outcome → CNodeView → Type 0) (number : ℕ) (new : Option CNodeView) (c lent : CNodeView) (o : Outcome) (c' : CNodeView)
    → old ≡ Some c → lent ≡ c → number ≡ number_of o → new ≡ Some c' → does lent o c' → OnNode old does number new
on_lent old does number new c lent o c' was same is now d = on_node old does number new c o c' was is now (subst (λ v. does v o c') same d)

-- something is due
pub asks : (before due : ℕ) (lent : CNodeView) → ((h : History) → StandsFor lent.node h → IsNextDue h due) → (lent.node.tables ≡ None → Some due ≡ None) → Asks before due lent Done lent
asks before due lent is failed = (refl, (is, (λ without. absurd (subst (λ o. IsSomeAnd o (λ _. Unit {0})) (failed without) tt))))

-- a number tells an outcome of which this holds
pub tells_of : (P : Outcome → Type 0) (number : ℕ) (o : Outcome) → number ≡ number_of o → P o → Tells number P
tells_of P number o is p = subst (λ n. Tells n P) (sym is) (tells P o p)
