-- The objects of messages in parts.
use Rattle.std.proofs.Common.{◌≡◌, ℕ, ◌<◌, ◌+◌, List, [], ◌++◌, length, codes, decimal, refl, sym, ap, ◌∙◌, append_assoc}
use Rattle.std.proofs.lemmas.List.{append-nil}
use Rattle.hex.specs.Hex.{encode_lower}
use Rattle.json.specs.Print.{escape, escape_byte}
use Rattle.someip_texts.specs.Words.{hex2, hex4}
use Rattle.someip_wire.specs.Spelling.{MessageValue}
use Rattle.someip_wire.specs.declared.MessageType.{MessageType}
use Rattle.someip_wire.specs.declared.MessageType.TheVariants.{Request, RequestNoReturn, Notification, Response, Error, TpRequest, TpRequestNoReturn, TpNotification, TpResponse, TpError}
use Rattle.someipctl_io.specs.declared.form.Form.TheVariants.{Json}
use Rattle.someipctl_io.specs.JsonTexts.{key_text}
use Rattle.someipctl_io.specs.Lines.{type_name}
use Rattle.someipctl_io.specs.MessageObjects.{code_members, ids_members, interface_members, session_members}
use Rattle.someipctl_io.specs.ToldLines.{end_text, fields_text}
use Rattle.someipctl_io.specs.ToldItems.{message_fields}
use Rattle.someipctl_io.proofs.EscapeLemmas.{escape-hex2, escape-hex4}

-- no byte of the name of a type is escaped
pub escape-type : (kind : MessageType) → escape (type_name kind) ≡ type_name kind
unfolding escape_byte
escape-type Request = refl
escape-type RequestNoReturn = refl
escape-type Notification = refl
escape-type Response = refl
escape-type Error = refl
escape-type TpRequest = refl
escape-type TpRequestNoReturn = refl
escape-type TpNotification = refl
escape-type TpResponse = refl
escape-type TpError = refl

ids-shape : (s m : List ℕ) → codes ",\"service\":\"" ++ (s ++ (codes "\",\"method\":\"" ++ (m ++ codes "\",\"length\":")))
    ≡ ((codes "," ++ (key_text (codes "service") ++ (codes "\"" ++ (s ++ codes "\"")))) ++ ((codes "," ++ (key_text (codes "method") ++ (codes "\"" ++ (m ++ codes "\"")))) ++ []))
    ++ (codes "," ++ key_text (codes "length"))
unfolding escape_byte
ids-shape s m = simp (append_assoc, append-nil)

pub ids-text : (service method : ℕ) → codes ",\"service\":\"" ++ (hex4 service ++ (codes "\",\"method\":\"" ++ (hex4 method ++ codes "\",\"length\":"))) ≡ ids_members service method
ids-text service method = rw (escape-hex4 service, escape-hex4 method) (ids-shape (hex4 service) (hex4 method))

session-shape : (c s : List ℕ) → codes ",\"client\":\"" ++ (c ++ (codes "\",\"session\":\"" ++ (s ++ codes "\"")))
    ≡ (codes "," ++ (key_text (codes "client") ++ (codes "\"" ++ (c ++ codes "\"")))) ++ ((codes "," ++ (key_text (codes "session") ++ (codes "\"" ++ (s ++ codes "\"")))) ++ [])
unfolding escape_byte
session-shape c s = simp (append_assoc, append-nil)

pub session-text : (client session : ℕ) → codes ",\"client\":\"" ++ (hex4 client ++ (codes "\",\"session\":\"" ++ (hex4 session ++ codes "\""))) ≡ session_members client session
session-text client session = rw (escape-hex4 client, escape-hex4 session) (session-shape (hex4 client) (hex4 session))

interface-shape : (i : List ℕ) → codes ",\"interface\":\"" ++ (i ++ codes "\",\"type\":\"")
    ≡ (codes "," ++ (key_text (codes "interface") ++ (codes "\"" ++ (i ++ codes "\"")))) ++ (codes "," ++ (key_text (codes "type") ++ codes "\""))
unfolding escape_byte
interface-shape i = simp append_assoc

pub interface-text : (interface : ℕ) → interface < 256 → codes ",\"interface\":\"" ++ (hex2 interface ++ codes "\",\"type\":\"") ≡ interface_members interface
interface-text interface low = rw (escape-hex2 interface low) (interface-shape (hex2 interface))

code-shape : (c : List ℕ) → codes "\",\"code\":\"" ++ (c ++ codes "\",\"payload\":\"")
    ≡ codes "\"" ++ ((codes "," ++ (key_text (codes "code") ++ (codes "\"" ++ (c ++ codes "\"")))) ++ (codes "," ++ (key_text (codes "payload") ++ codes "\"")))
unfolding escape_byte
code-shape c = simp append_assoc

pub code-text : (code : ℕ) → code < 256 → codes "\",\"code\":\"" ++ (hex2 code ++ codes "\",\"payload\":\"") ≡ code_members code
code-text code low = rw (escape-hex2 code low) (code-shape (hex2 code))

-- a member whose value is a text, behind others
abbrev member_of : List ℕ → List ℕ → List ℕ
member_of key text = codes "," ++ (key_text key ++ (codes "\"" ++ (text ++ codes "\"")))

ids-part : (s m n rest : List ℕ) → ((member_of (codes "service") s ++ (member_of (codes "method") m ++ [])) ++ (codes "," ++ key_text (codes "length"))) ++ (n ++ rest)
    ≡ member_of (codes "service") s ++ (member_of (codes "method") m ++ ((codes "," ++ (key_text (codes "length") ++ n)) ++ rest))
unfolding escape_byte
ids-part s m n rest = simp (append_assoc, append-nil)

session-part : (a b rest : List ℕ) → (a ++ (b ++ [])) ++ rest ≡ a ++ (b ++ rest)
session-part a b rest = simp (append_assoc, append-nil)

type-part : (i t rest : List ℕ) → (member_of (codes "interface") i ++ (codes "," ++ (key_text (codes "type") ++ codes "\""))) ++ (t ++ (codes "\"" ++ rest))
    ≡ member_of (codes "interface") i ++ (member_of (codes "type") t ++ rest)
unfolding escape_byte
type-part i t rest = simp append_assoc

payload-part : (c p : List ℕ) → (member_of (codes "code") c ++ (codes "," ++ (key_text (codes "payload") ++ codes "\""))) ++ (p ++ codes "\"}\n")
    ≡ member_of (codes "code") c ++ (member_of (codes "payload") p ++ codes "}\n")
unfolding escape_byte
payload-part c p = simp append_assoc

all-parts : (a b c d e f g h i end : List ℕ) → a ++ (b ++ (c ++ (d ++ (e ++ (f ++ (g ++ (h ++ (i ++ end)))))))) ≡ (a ++ (b ++ (c ++ (d ++ (e ++ (f ++ (g ++ (h ++ (i ++ []))))))))) ++ end
all-parts a b c d e f g h i end =
    let last : i ++ end ≡ (i ++ []) ++ end = ap (λ (t : List ℕ). t ++ end) (sym (append-nil i)) in
    ap (λ (t : List ℕ). a ++ (b ++ (c ++ (d ++ (e ++ (f ++ (g ++ (h ++ t)))))))) last
    ∙ ap (λ (t : List ℕ). a ++ (b ++ (c ++ (d ++ (e ++ (f ++ (g ++ t))))))) (sym (append_assoc h (i ++ []) end))
    ∙ ap (λ (t : List ℕ). a ++ (b ++ (c ++ (d ++ (e ++ (f ++ t)))))) (sym (append_assoc g (h ++ (i ++ [])) end))
    ∙ ap (λ (t : List ℕ). a ++ (b ++ (c ++ (d ++ (e ++ t))))) (sym (append_assoc f (g ++ (h ++ (i ++ []))) end))
    ∙ ap (λ (t : List ℕ). a ++ (b ++ (c ++ (d ++ t)))) (sym (append_assoc e (f ++ (g ++ (h ++ (i ++ [])))) end))
    ∙ ap (λ (t : List ℕ). a ++ (b ++ (c ++ t))) (sym (append_assoc d (e ++ (f ++ (g ++ (h ++ (i ++ []))))) end))
    ∙ ap (λ (t : List ℕ). a ++ (b ++ t)) (sym (append_assoc c (d ++ (e ++ (f ++ (g ++ (h ++ (i ++ [])))))) end))
    ∙ ap (λ (t : List ℕ). a ++ t) (sym (append_assoc b (c ++ (d ++ (e ++ (f ++ (g ++ (h ++ (i ++ []))))))) end))
    ∙ sym (append_assoc a (b ++ (c ++ (d ++ (e ++ (f ++ (g ++ (h ++ (i ++ [])))))))) end)

-- what a message says, and the end of its object
members-shape : (s m n c ss i t cd p : List ℕ)
    → ((member_of (codes "service") s ++ (member_of (codes "method") m ++ [])) ++ (codes "," ++ key_text (codes "length")))
    ++ (n ++ ((member_of (codes "client") c ++ (member_of (codes "session") ss ++ [])) ++ ((member_of (codes "interface") i ++ (codes "," ++ (key_text (codes "type") ++ codes "\"")))
    ++ (t ++ ((codes "\"" ++ (member_of (codes "code") cd ++ (codes "," ++ (key_text (codes "payload") ++ codes "\"")))) ++ (p ++ codes "\"}\n"))))))
    ≡ (member_of (codes "service") s ++ (member_of (codes "method") m ++ ((codes "," ++ (key_text (codes "length") ++ n)) ++ (member_of (codes "client") c
    ++ (member_of (codes "session") ss ++ (member_of (codes "interface") i ++ (member_of (codes "type") t ++ (member_of (codes "code") cd ++ (member_of (codes "payload") p ++ [])))))))))
    ++ codes "}\n"
members-shape s m n c ss i t cd p =
    let code = member_of (codes "code") cd ++ (codes "," ++ (key_text (codes "payload") ++ codes "\"")) in
    let interface = member_of (codes "interface") i ++ (codes "," ++ (key_text (codes "type") ++ codes "\"")) in
    let head : List ℕ → List ℕ = λ (x : List ℕ). member_of (codes "service") s ++ (member_of (codes "method") m ++ ((codes "," ++ (key_text (codes "length") ++ n)) ++ x)) in
    let next : List ℕ → List ℕ = λ (x : List ℕ). head (member_of (codes "client") c ++ (member_of (codes "session") ss ++ x)) in
    ids-part s m n ((member_of (codes "client") c ++ (member_of (codes "session") ss ++ [])) ++ (interface ++ (t ++ ((codes "\"" ++ code) ++ (p ++ codes "\"}\n")))))
    ∙ ap head (session-part (member_of (codes "client") c) (member_of (codes "session") ss) (interface ++ (t ++ ((codes "\"" ++ code) ++ (p ++ codes "\"}\n")))))
    ∙ ap (λ (x : List ℕ). next (interface ++ (t ++ x))) (append_assoc (codes "\"") code (p ++ codes "\"}\n"))
    ∙ ap next (type-part i t (code ++ (p ++ codes "\"}\n")))
    ∙ ap (λ (x : List ℕ). next (member_of (codes "interface") i ++ (member_of (codes "type") t ++ x))) (payload-part cd p)
    ∙ all-parts (member_of (codes "service") s) (member_of (codes "method") m) (codes "," ++ (key_text (codes "length") ++ n)) (member_of (codes "client") c) (member_of (codes "session") ss)
    (member_of (codes "interface") i) (member_of (codes "type") t) (member_of (codes "code") cd) (member_of (codes "payload") p) (codes "}\n")

pub members-text : (m : MessageValue) (ids session interface code : List ℕ) → ids ≡ ids_members m.header.service m.header.method
    → session ≡ session_members m.header.client m.header.session → interface ≡ interface_members m.header.interface → code ≡ code_members m.header.code.0
    → ids ++ (decimal (8 + length m.payload) ++ (session ++ (interface ++ (escape (type_name m.header.kind) ++ (code ++ (escape (encode_lower m.payload) ++ codes "\"}\n"))))))
    ≡ fields_text Json (message_fields m) ++ end_text Json
members-text m ids session interface code i s f c =
    rw (i, s, f, c)
    (members-shape (escape (hex4 m.header.service)) (escape (hex4 m.header.method)) (decimal (8 + length m.payload)) (escape (hex4 m.header.client)) (escape (hex4 m.header.session))
    (escape (hex2 m.header.interface)) (escape (type_name m.header.kind)) (escape (hex2 m.header.code.0)) (escape (encode_lower m.payload)))
