-- What `vectors` promises in each form, and of plain lines.
use Rattle.std.proofs.Common.{◌≡◌, ℕ, ◌+◌, Bool, true, false, List, [], ◌∷◌, ◌++◌, length, decimal, codes, Option, Some, refl, ap₂, subst, ◌∙◌, append_assoc}
use Rattle.std.specs.Prelude.{IfSome}
use Rattle.std.specs.Io.KnownBytes.{Appends}
use Rattle.std.proofs.lemmas.List.{append-nil}
use Rattle.someipctl_io.specs.declared.fault.Fault.{Fault}
use Rattle.someipctl_io.specs.declared.fault.Fault.TheVariants.{Refused, CannotRead, CannotWrite, OutOfMemory}
use Rattle.someipctl_io.specs.declared.form.Form.{Form}
use Rattle.someipctl_io.specs.declared.form.Form.TheVariants.{Plain}
use Rattle.someipctl_io.specs.declared.outcome.Outcome.{Outcome}
use Rattle.someipctl_io.specs.ToldLines.{line_text}
use Rattle.someipctl_io.proofs.InputLemmas.{WasLeft-read}
use Rattle.someipctl_show.specs.declared.vectors.BadVectorLine.{BadVectorLine}
use Rattle.someipctl_show.specs.Vectors.{Judges, RefusesVectors, count_passed, summary_line, verdict_line, verdict_lines, verdicts_text}
use Rattle.someipctl_show.specs.VerdictForms.{JudgesIn, RefusesVectorsIn, no_head, summary_told, vector_head, verdict_lines_in, verdict_told, verdicts_text_in}

pub RefusesVectorsIn-read : (form : Form) (input : Option (List ℕ)) (text : List ℕ) (e : Fault BadVectorLine) (a b : Option (List ℕ)) → IfSome input (λ known. text ≡ known)
    → RefusesVectorsIn form (Some text) e a b → RefusesVectorsIn form input e a b
RefusesVectorsIn-read form input text (Refused bad) a b read r = ((r.0.0, WasLeft-read input text r.0.0 read r.0.1, r.0.2), r.1)
RefusesVectorsIn-read form input text CannotRead a b read r = r
RefusesVectorsIn-read form input text CannotWrite a b read r = record {
  file = r.file;
  left = WasLeft-read input text r.file read r.left;
  sayings = r.sayings;
  says = r.says;
  results = r.results;
  judged = r.judged;
  sent = r.sent;
  unsent = r.unsent;
  wrote = r.wrote;
  beginning = r.beginning;
}
RefusesVectorsIn-read form input text OutOfMemory a b read r = r

-- ---- plain lines

verdict-shape : (k space word end : List ℕ) → ((k ++ []) ++ []) ++ (((space ++ word) ++ []) ++ end) ≡ k ++ ((space ++ (word ++ end)) ++ [])
verdict-shape k space word end = simp (append_assoc, append-nil)

plain_verdict : (k : ℕ) (passed : Bool) → line_text Plain (vector_head k) (verdict_told passed) ≡ verdict_line k passed
plain_verdict k true = verdict-shape (decimal k) (codes " ") (codes "ok") (codes "\n")
plain_verdict k false = verdict-shape (decimal k) (codes " ") (codes "differs") (codes "\n")

plain_verdicts : (k : ℕ) (results : List Bool) → verdict_lines_in Plain k results ≡ verdict_lines k results
plain_verdicts k [] = refl
plain_verdicts k (passed ∷ results) = ap₂ (λ (a b : List ℕ). a ++ b) (plain_verdict k passed) (plain_verdicts (k + 1) results)

summary-shape : (passed p of n end : List ℕ) → ((passed ++ p) ++ ((of ++ n) ++ [])) ++ end ≡ passed ++ (p ++ (of ++ (n ++ (end ++ []))))
summary-shape passed p of n end = simp (append_assoc, append-nil)

plain_summary : (results : List Bool) → line_text Plain no_head (summary_told results) ≡ summary_line results
plain_summary results = summary-shape (codes "passed ") (decimal (count_passed results)) (codes " of ") (decimal (length results)) (codes "\n")

plain_text : (results : List Bool) → verdicts_text_in Plain results ≡ verdicts_text results
plain_text results = ap₂ (λ (a b : List ℕ). a ++ b) (plain_verdicts 1 results) (plain_summary results)

pub judges_plain : (input : Option (List ℕ)) (o : Outcome) (a b : Option (List ℕ)) → JudgesIn Plain input o a b → Judges input o a b
judges_plain input o a b j = record {
  file = j.file;
  left = j.left;
  sayings = j.sayings;
  says = j.says;
  results = j.results;
  judged = j.judged;
  wrote = subst (Appends a b) (plain_text j.results) j.wrote;
  tells = j.tells;
}

pub refuses_plain : (input : Option (List ℕ)) (e : Fault BadVectorLine) (a b : Option (List ℕ)) → RefusesVectorsIn Plain input e a b → RefusesVectors input e a b
refuses_plain input (Refused bad) a b r = r
refuses_plain input CannotRead a b r = r
refuses_plain input CannotWrite a b r = record {
  file = r.file;
  left = r.left;
  sayings = r.sayings;
  says = r.says;
  results = r.results;
  judged = r.judged;
  sent = r.sent;
  unsent = r.unsent;
  wrote = r.wrote;
  beginning = r.beginning ∙ plain_text r.results;
}
refuses_plain input OutOfMemory a b r = r
