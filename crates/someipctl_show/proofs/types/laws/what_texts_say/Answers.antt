use Rattle.std.proofs.Common.{None, codes, [], ◌∷◌, refl, true≢false, arith}
use Rattle.toml.proofs.OnLiterals.{toml_on_literals}
use Rattle.someip_payload_values.specs.Check.{checked}
use Rattle.someip_payload.specs.ShapeText.{IsTextIn, struct_text, next_member, last_member, member_text, integer_text, u16_text, u8_text}
use Rattle.toml.specs.Data.{table, no_members}
use Rattle.someipctl_show.specs.types.Examples.{speed_data}
use Rattle.someipctl_show.specs.types.Names.{AllStand}
use Rattle.someipctl_show.proofs.types.laws.what_texts_say.Goals as goal

-- where there are no names, none stands for anything
none_stand : AllStand (table no_members) []
none_stand = record { stand = λ n f h. absurd cc; only = λ n f g h s. absurd cc }

pub returns-clause-tables : goal.returns-clause-tables
unfolding toml_on_literals checked
returns-clause-tables c =
    let named : IsTextIn [] _ (codes "struct(u16,u8)") = struct_text None _ (codes "u16,u8") (next_member _ _ (codes "u16") (codes "u8") (member_text None _ (codes "u16") tt (integer_text _ _ u16_text)) (last_member _ (codes "u8") (member_text None _ (codes "u8") tt (integer_text _ _ u8_text)))) in
    record {
      texts = table no_members;
      names = [];
      named = record { texts = refl; stand = none_stand; all = λ n text h. absurd cc; few = omega arith };
      tables = (speed_data ∷ [], refl, (record { service = refl; method = refl; kind = refl; form = (codes "struct(u16,u8)", refl, record { few = omega arith; says = named; good = refl }); name = refl }, tt));
      known = refl;
      apart = refl;
    }

pub returns-clause-empty : goal.returns-clause-empty
unfolding toml_on_literals
returns-clause-empty c = record {
  texts = table no_members;
  names = [];
  named = record { texts = refl; stand = none_stand; all = λ n text h. absurd cc; few = omega arith };
  tables = ([], refl, tt);
  known = refl;
  apart = refl;
}

pub returns-clause-key : goal.returns-clause-key
unfolding toml_on_literals
returns-clause-key c = λ types said. absurd (true≢false said.known)

pub returns-clause-toml : goal.returns-clause-toml
unfolding toml_on_literals
returns-clause-toml c = refl
