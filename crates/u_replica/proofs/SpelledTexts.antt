-- Texts that stand at the front of some bytes, part by part.
use Rattle.std.specs.Prelude.{◌≡◌, ℕ, ℤ, ◌^◌, ◌-◌, List, ◌∷◌, ◌++◌, Ok, codes, None}
use Rattle.std.specs.Fmt.{decimal, signed_decimal}
use Rattle.std.proofs.Common.{sym, ◌∙◌, ap, arith, append_assoc, append-nil}
use Rattle.u_base.specs.FromZero.{number0}
use Rattle.u_base.specs.Signed.{signed}
use Rattle.u_base.proofs.FromZeroLaws.{number0_Reads}
use Rattle.u_base.proofs.SignedLaws.{signed_Reads}
use Rattle.u_name.specs.Name.{Activity}
use Rattle.u_name.specs.NameText.{context_text, call_part, name_text}
use Rattle.u_rule.specs.declared.firing.Firing.{Firing}
use Rattle.u_rule.specs.FiringText.{values_text, written_text, firing_text}

-- a number that is read has its text there
pub number_there : (bs : List ℕ) (n m : ℕ) (rest : List ℕ) → n ≡ m → number0 (2 ^ 64 - 1) bs ≡ Ok (n, rest) → bs ≡ decimal m ++ rest
number_there bs n m rest e h = ((number0_Reads (2 ^ 64 - 1) (omega arith) (omega arith)).sound bs n rest h).1 ∙ ap (λ k. decimal k ++ rest) e

pub signed_there : (bs : List ℕ) (n m : ℤ) (rest : List ℕ) → n ≡ m → signed bs ≡ Ok (n, rest) → bs ≡ signed_decimal m ++ rest
signed_there bs n m rest e h = (signed_Reads.sound bs n rest h).1 ∙ ap (λ k. signed_decimal k ++ rest) e

-- the parts of a name, one behind the other
pub parts_there : (block : List ℕ) (statement initiation : ℕ) (bs at_block behind_block at_statement behind_statement at_initiation rest : List ℕ) → bs ≡ codes "." ++ at_block → at_block ≡ block ++ behind_block → behind_block ≡ codes "." ++ at_statement → at_statement ≡ decimal statement ++ behind_statement → behind_statement ≡ codes "." ++ at_initiation → at_initiation ≡ decimal initiation ++ rest → bs ≡ call_part block statement initiation ++ rest
parts_there block statement initiation bs b1 b2 s1 s2 i1 rest e1 e2 e3 e4 e5 e6 =
    e1 ∙ ap (λ t. 46 ∷ t)
    (e2 ∙ ap (λ t. block ++ t) (e3 ∙ ap (λ t. 46 ∷ t) (e4 ∙ ap (λ t. decimal statement ++ t) (e5 ∙ ap (λ t. 46 ∷ t) e6)))
    ∙ ap (λ t. block ++ (46 ∷ t)) (sym (append_assoc (decimal statement) (46 ∷ decimal initiation) rest))
    ∙ sym (append_assoc block (46 ∷ (decimal statement ++ (46 ∷ decimal initiation))) rest))

-- a name, behind its context
pub name_there : (n : Activity) (bs parts rest : List ℕ) → bs ≡ context_text n.context ++ parts → parts ≡ call_part n.block n.statement n.initiation ++ rest → bs ≡ name_text n ++ rest
unfolding name_text
name_there n bs parts rest e p = e ∙ ap (λ t. context_text n.context ++ t) p ∙ sym (append_assoc (context_text n.context) (call_part n.block n.statement n.initiation) rest)

-- a firing that reads no write
pub firing_there : (f : Firing) (line at_name at_values : List ℕ) → f.write ≡ None → line ≡ codes "f " ++ at_name → at_name ≡ name_text f.activity ++ at_values → at_values ≡ values_text f.values → line ≡ firing_text f
unfolding firing_text
firing_there f line n v none e1 e2 e3 =
    e1 ∙ ap (λ t. codes "f " ++ t) (e2 ∙ ap (λ t. name_text f.activity ++ t) (e3 ∙ sym (append-nil (values_text f.values)) ∙ ap (λ w. values_text f.values ++ written_text w) (sym none)))
