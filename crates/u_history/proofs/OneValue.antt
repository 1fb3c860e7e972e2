-- A write of a cell has one pair of a writer and a value, and a token at a port one value.
use Rattle.std.proofs.Common.{◌≡◌, ◌∙◌, ap, ℕ}
use Rattle.u_rule.specs.EntryOrder.{write_of, written}
use Rattle.u_name.specs.Cell.{CellOf}
use Rattle.u_rule.specs.Parts.{token, TokenParts}
use Rattle.u_rule.specs.declared.parts.Write.{Write}
use Rattle.u_rule.specs.declared.parts.Written.{Written}
use Rattle.u_name.specs.Name.{Activity}
use Rattle.u_value.specs.declared.value.Value.{Value}
use Rattle.u_rule.specs.declared.entry.Entry.TheVariants as entries

-- a write of a cell has one writer and one value, a token at a port one value
pub one_pair : (l : CellOf) (a b : Written) → entries.Write (write_of l a.writer a.value) ≡ entries.Write (write_of l b.writer b.value) → a ≡ b
one_pair l a b e =
    let w : write_of l a.writer a.value ≡ write_of l b.writer b.value = cc in
    ap (λ (n : Activity). written n a.value) (ap (λ (x : Write). x.writer) w) ∙ ap (λ (v : Value). written b.writer v) (ap (λ (x : Write). x.value) w)

pub one_value : (n : Activity) (p : ℕ) (a b : Value) → entries.Token (token n p a) ≡ entries.Token (token n p b) → a ≡ b
one_value n p a b e = let t : token n p a ≡ token n p b = cc in ap (λ (x : TokenParts). x.value) t
