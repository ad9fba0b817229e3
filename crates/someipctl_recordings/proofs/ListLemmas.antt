-- Lists of addresses, word by word.
use Rattle.std.proofs.Common.{◌≡◌, ℕ, List, [], ◌∷◌, ◌++◌, sym, ap, subst, ◌∙◌, append_assoc}
use Rattle.std.proofs.lemmas.List.{append-nil}
use Rattle.someipctl_recordings.specs.Lists.{AreAddresses, HasNoAddress, IsAddress}

are_more : (words : List (List ℕ)) (numbers : List ℕ) (word : List ℕ) (n : ℕ) → AreAddresses words numbers → IsAddress word n → AreAddresses (words ++ word ∷ []) (numbers ++ n ∷ [])
are_more [] [] word n are is = (is, tt)
are_more [] (m ∷ numbers) word n are is = absurd are
are_more (w ∷ words) [] word n are is = absurd are
are_more (w ∷ words) (m ∷ numbers) word n are is = (are.0, are_more words numbers word n are.1 is)

-- the words in front were read as these addresses, and these words are left
abbrev pub ReadTo : List (List ℕ) → List (List ℕ) → List ℕ → Type 0
ReadTo words left numbers = (front : List (List ℕ)) × AreAddresses front numbers × (front ++ left ≡ words)

pub read_more : (words left rest : List (List ℕ)) (word : List ℕ) (numbers : List ℕ) (n : ℕ) → ReadTo words left numbers → left ≡ word ∷ rest → IsAddress word n → ReadTo words rest (numbers ++ n ∷ [])
read_more words left rest word numbers n read next is = (
  read.0 ++ word ∷ [],
  are_more read.0 numbers word n read.1 is,
  append_assoc read.0 (word ∷ []) rest ∙ ap (λ (l : List (List ℕ)). read.0 ++ l) (sym next) ∙ read.2,
)

pub read_all : (words left : List (List ℕ)) (numbers : List ℕ) → ReadTo words left numbers → left ≡ [] → AreAddresses words numbers
read_all words left numbers read none =
    subst (λ (l : List (List ℕ)). AreAddresses l numbers) (sym (append-nil read.0) ∙ ap (λ (l : List (List ℕ)). read.0 ++ l) (sym none) ∙ read.2) read.1

pub read_bad : (words left rest : List (List ℕ)) (word : List ℕ) (numbers : List ℕ) → ReadTo words left numbers → left ≡ word ∷ rest → ((n : ℕ) → IsAddress word n → ⊥) → HasNoAddress words
read_bad words left rest word numbers read next none =
    (read.0, word, rest, sym (ap (λ (l : List (List ℕ)). read.0 ++ l) (sym next) ∙ read.2), none)
