use Rattle.std.proofs.Common.{◌≡◌, ℕ, List, ◌++◌, append_assoc, refl}
use Rattle.std.specs.Prelude.{option_map, string_bytes}
use Rattle.someipctl_show.specs.types.ValueLine.{read_line}
use Rattle.someipctl_show.proofs.types.value_line.put_read_line.Goals as goal

-- a text to which six were added one after the other
six_added : (old a b c d e f t1 t2 t3 t4 t5 t6 : List ℕ) → t1 ≡ old ++ a → t2 ≡ t1 ++ b → t3 ≡ t2 ++ c → t4 ≡ t3 ++ d → t5 ≡ t4 ++ e → t6 ≡ t5 ++ f
    → t6 ≡ old ++ (a ++ b ++ c ++ d ++ e ++ f)
six_added old a b c d e f t1 t2 t3 t4 t5 t6 e1 e2 e3 e4 e5 e6 = rw (e6, e5, e4, e3, e2, e1) (simp append_assoc)

pub returns : goal.returns
returns c =
    let told = c.in_ok-put.ensures.says in (
      read_line c.args.k (option_map (λ n. string_bytes n.now) c.args.name) told.0 c.args.used c.args.all,
      (told.0, told.1, refl),
      six_added _ _ _ _ _ _ _ _ _ _ _ _ _ c.in_ok-put_number.ensures c.in_ok-push_str.ensures.bytes c.in_ok-put_name.ensures told.2
          c.in_ok-put_used.ensures c.in_ok-push_str-2.ensures.bytes,
    )
