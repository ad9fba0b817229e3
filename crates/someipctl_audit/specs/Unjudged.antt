-- What of a recording could not be judged, as the summary of its audit tells it.
use Rattle.std.specs.Prelude.{ℕ, ◌==◌, Bool, true, false, if◌then◌else◌, List, [], ◌∷◌, ◌++◌, codes, decimal, map, ◌&&◌, Option, None, Some}
use Rattle.std.specs.Borrow.{Bor}
use Rattle.std.specs.List.{flat_map}
use Rattle.recording_packets.specs.LeftOut.{total}
use Rattle.recording_packets.specs.declared.LeftOut.{LeftOut}
use Rattle.audit_traffic.specs.declared.ways.OneWay.{OneWay}
use Rattle.audit_traffic.specs.ways.WayTables.{one_ways}
use Rattle.someip_audit.specs.Audits.{AuditState}
use Rattle.someipctl_io.specs.declared.form.Form.{Form}
use Rattle.someipctl_io.specs.declared.form.Form.TheVariants.{Plain, Json}
use Rattle.someipctl_io.specs.ToldLines.{ToldLine, endpoint, field, line_text, number}
use Rattle.someipctl_show.specs.VerdictForms.{no_head, wordless}

-- ---- packets that gave no datagram

-- the kinds of them, in words, and how many of each there were
abbrev pub left_kinds : LeftOut → List (List ℕ × ℕ)
left_kinds l =
    (codes "of another link type", l.link_type) ∷ ((codes "not IPv4", l.not_ipv4) ∷ ((codes "not UDP", l.not_udp) ∷ ((codes "cut short", l.cut) ∷ (
    (codes "with a bad UDP length", l.bad_udp_length) ∷ ((codes "copies", l.copies) ∷ ((codes "fragments without the rest", l.fragments_without_rest) ∷ (
    (codes "fragments that differ", l.fragments_that_differ) ∷ [])))))))

-- by the program's values
abbrev pub kinds_told : List (Bor (List ℕ) × ℕ) → List (List ℕ × ℕ)
kinds_told kinds = map (λ k. (k.0.now, k.1)) kinds

-- how many there were of a kind, if there were any: the first behind a space, and others behind a comma
abbrev pub kind_text : Bool → (List ℕ × ℕ) → List ℕ
kind_text first kind = if kind.1 == 0 then [] else (if first then codes " " else codes ", ") ++ (decimal kind.1 ++ (codes " " ++ kind.0))

-- the next one is the first still, where there were none
abbrev pub is_still_first : Bool → (List ℕ × ℕ) → Bool
is_still_first first kind = first && (kind.1 == 0)

-- those that there were, and the end of the line
abbrev pub left_words : Bool → List (List ℕ × ℕ) → List ℕ
left_words first [] = codes "\n"
left_words first (kind ∷ kinds) = kind_text first kind ++ left_words (is_still_first first kind) kinds

abbrev pub left_out_told : LeftOut → ToldLine
left_out_told l =
    wordless (codes "left-out")
    (field [] (codes "linktype") (number l.link_type) ∷ field [] (codes "notipv4") (number l.not_ipv4) ∷ field [] (codes "notudp") (number l.not_udp)
    ∷ field [] (codes "cut") (number l.cut) ∷ field [] (codes "badlength") (number l.bad_udp_length) ∷ field [] (codes "copies") (number l.copies)
    ∷ field [] (codes "incomplete") (number l.fragments_without_rest) ∷ field [] (codes "differing") (number l.fragments_that_differ) ∷ [])

-- plain `left out 3 not UDP, 2 cut short`
abbrev pub left_out_line : Form → LeftOut → List ℕ
left_out_line Plain l = codes "left out" ++ left_words true (left_kinds l)
left_out_line Json l = line_text Json no_head (left_out_told l)

-- that line, if there were any
abbrev pub left_out_text : Form → LeftOut → List ℕ
left_out_text form l = if total l == 0 then [] else left_out_line form l

-- ---- datagrams that were not looked at

abbrev pub passed_told : ℕ → ToldLine
passed_told n = wordless (codes "not-looked-at") (field [] (codes "datagrams") (number n) ∷ [])

-- how many there were: plain a sentence
abbrev pub passed_line : Form → ℕ → List ℕ
passed_line Plain n = codes "not looked at " ++ (decimal n ++ codes " datagrams\n")
passed_line Json n = line_text Json no_head (passed_told n)

-- that line, if there were any
abbrev pub passed_text : Form → ℕ → List ℕ
passed_text form n = if n == 0 then [] else passed_line form n

-- ---- Offers

abbrev pub no_offer_told : ToldLine
no_offer_told = wordless (codes "no-offer") []

abbrev pub no_offer_line : Form → List ℕ
no_offer_line Plain = codes "no Offer was seen\n"
no_offer_line Json = line_text Json no_head no_offer_told

-- that line, unless an Offer was seen
abbrev pub offer_text : Form → Bool → List ℕ
offer_text form true = []
offer_text form false = no_offer_line form

-- by an audit at its end: one that had no datagram did not begin
abbrev pub was_offered : Option AuditState → Bool
was_offered None = false
was_offered (Some state) = state.is_offered

-- what was not looked at, and whether an Offer was seen
abbrev pub scope_text : Form → ℕ → Bool → List ℕ
scope_text form passed is_offered = passed_text form passed ++ offer_text form is_offered

-- ---- ways that messages went alone

-- `one way FROM TO N`
abbrev pub one_way_told : OneWay → ToldLine
one_way_told one =
    wordless (codes "one-way")
    (field (codes "one way ") (codes "from") (endpoint one.way.from) ∷ field (codes " ") (codes "to") (endpoint one.way.to) ∷ field (codes " ") (codes "messages") (number one.messages) ∷ [])

abbrev pub one_ways_text : Form → List OneWay → List ℕ
one_ways_text form ways = flat_map (λ one. line_text form no_head (one_way_told one)) ways

-- by an audit at its end
abbrev pub ways_alone : Option AuditState → List OneWay
ways_alone None = []
ways_alone (Some state) = one_ways state.ways

-- ---- all of it

-- where these packets gave no datagram, so many datagrams were not looked at, and the audit is this one at its end
abbrev pub unjudged_text : Form → LeftOut → ℕ → Option AuditState → List ℕ
unjudged_text form left_out passed ended = left_out_text form left_out ++ (scope_text form passed (was_offered ended) ++ one_ways_text form (ways_alone ended))
