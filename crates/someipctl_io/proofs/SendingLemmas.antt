-- Texts that are sent one after the other.
use Rattle.std.proofs.Common.{◌≡◌, ℕ, List, [], ◌++◌, take, drop, Option, Result, Ok, Err, refl, sym, subst, ap, ◌∙◌, append_assoc}
use Rattle.std.specs.Result.{OnErr}
use Rattle.std.specs.Io.KnownBytes.{Appends}
use Rattle.std.proofs.KnownBytes.{Appends-trans, Appends-nil}
use Rattle.std.proofs.lemmas.List.{take-append-drop, append-nil}
use Rattle.someipctl_io.specs.Sending.{Sends, Stops}

-- nothing is sent at first
pub Sends-nil : (a : Option (List ℕ)) (held : List ℕ) → Sends a held a held []
Sends-nil a held = record { sent = []; wrote = Appends-nil a; rest = sym (append-nil held) }

-- one text after the other
pub Sends-trans : (a b c : Option (List ℕ)) (held waits new text more : List ℕ) → Sends a held b waits text → Sends b waits c new more → Sends a held c new (text ++ more)
Sends-trans a b c held waits new text more one other = record {
  sent = one.sent ++ other.sent;
  wrote = Appends-trans a b c one.sent other.sent one.wrote other.wrote;
  rest =
      append_assoc one.sent other.sent new ∙ ap (λ (t : List ℕ). one.sent ++ t) other.rest
      ∙ sym (append_assoc one.sent waits more) ∙ ap (λ (t : List ℕ). t ++ more) one.rest ∙ append_assoc held text more;
}

-- a text that stops after one that was sent
pub Stops-after : (a b c : Option (List ℕ)) (held waits text more : List ℕ) → Sends a held b waits text → Stops b waits c more → Stops a held c (text ++ more)
Stops-after a b c held waits text more one other = record { unsent = other.unsent; sends = Sends-trans a b c held waits other.unsent text more one other.sends }

-- a text that stopped, and more that was not sent at all
pub Stops-before : (a b : Option (List ℕ)) (held text more : List ℕ) → Stops a held b text → Stops a held b (text ++ more)
Stops-before a b held text more one = record {
  unsent = one.unsent ++ more;
  sends = record {
    sent = one.sends.sent;
    wrote = one.sends.wrote;
    rest = sym (append_assoc one.sends.sent one.unsent more) ∙ ap (λ (t : List ℕ). t ++ more) one.sends.rest ∙ append_assoc held text more;
  };
}

-- a text of which the first n bytes are written, where nothing was held
pub Stops-at : (a b : Option (List ℕ)) (held text : List ℕ) (n : ℕ) → Appends a b (take n text) → held ≡ [] → Stops a held b text
Stops-at a b held text n wrote none = record {
  unsent = drop n text;
  sends = record { sent = take n text; wrote = wrote; rest = take-append-drop n text ∙ ap (λ (t : List ℕ). t ++ text) (sym none) };
}

-- of what was held the first n bytes are written
pub Stops-flushing : (a b : Option (List ℕ)) (held text : List ℕ) (n : ℕ) → Appends a b (take n text) → held ≡ text → Stops a held b []
Stops-flushing a b held text n wrote is = record {
  unsent = drop n text;
  sends = record { sent = take n text; wrote = wrote; rest = take-append-drop n text ∙ sym is ∙ sym (append-nil held) };
}

-- what holds anyway holds on an error
pub OnErr-any : {T E P : Type 0} (r : Result T E) → P → OnErr r P
OnErr-any (Ok x) p = tt
OnErr-any (Err e) p = p

-- bytes after bytes
pub Appends-more : (a b c : Option (List ℕ)) (front back all : List ℕ) → Appends a b front → Appends b c back → all ≡ front ++ back → Appends a c all
Appends-more a b c front back all one other is = subst (Appends a c) (sym is) (Appends-trans a b c front back one other)

-- a text is written where nothing was held
pub Sends-written : (a b : Option (List ℕ)) (held text : List ℕ) → Appends a b text → held ≡ [] → Sends a held b held text
Sends-written a b held text wrote none = record { sent = text; wrote = wrote; rest = ap (λ (t : List ℕ). text ++ t) none ∙ append-nil text ∙ ap (λ (t : List ℕ). t ++ text) (sym none) }

-- Of a whole text, what is sent so far and what is still to send: what a loop keeps
pub record IsSending (a : Option (List ℕ)) (held : List ℕ) (b : Option (List ℕ)) (waits rest all : List ℕ) : Type 0 where
  pub text : List ℕ
  pub whole : text ++ rest ≡ all
  pub sends : Sends a held b waits text

pub IsSending-start : (a : Option (List ℕ)) (held all : List ℕ) → IsSending a held a held all all
IsSending-start a held all = record { text = []; whole = refl; sends = Sends-nil a held }

pub IsSending-more : (a b c : Option (List ℕ)) (held waits new rest text others all : List ℕ) → IsSending a held b waits rest all → rest ≡ text ++ others → Sends b waits c new text
    → IsSending a held c new others all
IsSending-more a b c held waits new rest text others all s is sends = record {
  text = s.text ++ text;
  whole = append_assoc s.text text others ∙ ap (λ (t : List ℕ). s.text ++ t) (sym is) ∙ s.whole;
  sends = Sends-trans a b c held waits new s.text text s.sends sends;
}

pub IsSending-stop : (a b c : Option (List ℕ)) (held waits rest text others all : List ℕ) → IsSending a held b waits rest all → rest ≡ text ++ others → Stops b waits c text → Stops a held c all
IsSending-stop a b c held waits rest text others all s is stops =
    let whole : (s.text ++ text) ++ others ≡ all = append_assoc s.text text others ∙ ap (λ (t : List ℕ). s.text ++ t) (sym is) ∙ s.whole in
    subst (Stops a held c) whole (Stops-before a c held (s.text ++ text) others (Stops-after a b c held waits s.text text s.sends stops))

pub IsSending-end : (a b : Option (List ℕ)) (held waits rest all : List ℕ) → IsSending a held b waits rest all → rest ≡ [] → Sends a held b waits all
IsSending-end a b held waits rest all s none =
    subst (Sends a held b waits) (sym (append-nil s.text) ∙ ap (λ (t : List ℕ). s.text ++ t) (sym none) ∙ s.whole) s.sends

-- the rest was sent
pub IsSending-last : (a b c : Option (List ℕ)) (held waits new rest all : List ℕ) → IsSending a held b waits rest all → Sends b waits c new rest → Sends a held c new all
IsSending-last a b c held waits new rest all s sends =
    IsSending-end a c held new [] all (IsSending-more a b c held waits new rest rest [] all s (sym (append-nil rest)) sends) refl

pub IsSending-last_stop : (a b c : Option (List ℕ)) (held waits rest all : List ℕ) → IsSending a held b waits rest all → Stops b waits c rest → Stops a held c all
IsSending-last_stop a b c held waits rest all s stops = IsSending-stop a b c held waits rest rest [] all s (sym (append-nil rest)) stops

-- a text of which nothing waits is written whole
pub Sends-all : (a b : Option (List ℕ)) (held waits text : List ℕ) → Sends a held b waits text → held ≡ [] → waits ≡ [] → Appends a b text
Sends-all a b held waits text s none_held none =
    subst (Appends a b) (sym (append-nil s.sent) ∙ ap (λ (t : List ℕ). s.sent ++ t) (sym none) ∙ s.rest ∙ ap (λ (t : List ℕ). t ++ text) none_held) s.wrote

-- a text, and then all that is held
pub Sends-flush : (a b c : Option (List ℕ)) (held waits new text : List ℕ) → Sends a held b waits text → Sends b waits c new [] → Sends a held c new text
Sends-flush a b c held waits new text one other = subst (Sends a held c new) (append-nil text) (Sends-trans a b c held waits new text [] one other)

pub Stops-flush : (a b c : Option (List ℕ)) (held waits text : List ℕ) → Sends a held b waits text → Stops b waits c [] → Stops a held c text
Stops-flush a b c held waits text one other = subst (Stops a held c) (append-nil text) (Stops-after a b c held waits text [] one other)

-- the same text, said otherwise
pub Sends-as : (a b : Option (List ℕ)) (held waits text other : List ℕ) → text ≡ other → Sends a held b waits text → Sends a held b waits other
Sends-as a b held waits text other is = subst (Sends a held b waits) is

pub Stops-as : (a b : Option (List ℕ)) (held text other : List ℕ) → text ≡ other → Stops a held b text → Stops a held b other
Stops-as a b held text other is = subst (Stops a held b) is
