-- A question is the same as itself alone.
use Rattle.std.proofs.Common.{◌≡◌, ◌∙◌, ◌==◌, ◌&&◌, ap, refl, subst, ℕ, Bool, true, List, IsTrue}
use Rattle.std.specs.Prelude.{◌↔◌}
use Rattle.std.specs.Cmp.{signed_Decides, booleans_Decides}
use Rattle.std.proofs.lemmas.Bool.{false≢true, and_parts}
use lib.Pointwise.{pointwise}
use Rattle.std.specs.Cmp.Lexicographic.{bytes_decides, pointwise_decides}
use Rattle.u_check.specs.Tables.{TableRows, same_question}
use Rattle.u_check.specs.declared.question.Plain.{Plain}
use Rattle.u_check.specs.declared.question.Plain.TheVariants as plains
use Rattle.u_check.specs.declared.question.Operands.{Operands}
use Rattle.u_check.specs.declared.question.Operands.TheVariants.{One, Two, Three, Four}
use Rattle.u_check.specs.declared.question.Question.{Question}
use Rattle.u_check.specs.contracts.question.PlainPartialEq.TheImpl as plain_eq
use Rattle.u_check.specs.contracts.question.OperandsPartialEq.TheImpl as operands_eq
use Rattle.u_check.specs.contracts.question.PlainEq.TheImpl.Laws as plain_laws
use Rattle.u_check.specs.contracts.question.QuestionEq.TheImpl.Laws as question_laws

plain_exact : (a b : Plain) → (plain_eq.ghosts).eq a b ≡ true → a ≡ b
plain_exact (plains.Int x) (plains.Int y) h = ap (λ z. plains.Int z) ((signed_Decides x y).0 h)
plain_exact (plains.Int x) (plains.Bool y) h = absurd (false≢true h)
plain_exact (plains.Bool x) (plains.Int y) h = absurd (false≢true h)
plain_exact (plains.Bool x) (plains.Bool y) h = ap (λ z. plains.Bool z) ((booleans_Decides x y).0 h)

operands_exact : (a b : Operands) → (operands_eq.ghosts).eq a b ≡ true → a ≡ b
operands_exact (One a) (One w) h = ap (λ v. One v) (plain_exact a w h)
operands_exact (One a) (Two w x) h = absurd (false≢true h)
operands_exact (One a) (Three w x y) h = absurd (false≢true h)
operands_exact (One a) (Four w x y z) h = absurd (false≢true h)
operands_exact (Two a b) (One w) h = absurd (false≢true h)
operands_exact (Two a b) (Two w x) h =
    let p0 = and_parts ((plain_eq.ghosts).eq a w) ((plain_eq.ghosts).eq b x) h in
    let e0 = plain_exact a w p0.0 in
    let e1 = plain_exact b x p0.1 in
    ap (λ v. Two v b) e0 ∙ ap (λ v. Two w v) e1
operands_exact (Two a b) (Three w x y) h = absurd (false≢true h)
operands_exact (Two a b) (Four w x y z) h = absurd (false≢true h)
operands_exact (Three a b c) (One w) h = absurd (false≢true h)
operands_exact (Three a b c) (Two w x) h = absurd (false≢true h)
operands_exact (Three a b c) (Three w x y) h =
    let p0 = and_parts ((plain_eq.ghosts).eq a w) (((plain_eq.ghosts).eq b x && (plain_eq.ghosts).eq c y)) h in
    let p1 = and_parts ((plain_eq.ghosts).eq b x) ((plain_eq.ghosts).eq c y) p0.1 in
    let e0 = plain_exact a w p0.0 in
    let e1 = plain_exact b x p1.0 in
    let e2 = plain_exact c y p1.1 in
    ap (λ v. Three v b c) e0 ∙ ap (λ v. Three w v c) e1 ∙ ap (λ v. Three w x v) e2
operands_exact (Three a b c) (Four w x y z) h = absurd (false≢true h)
operands_exact (Four a b c d) (One w) h = absurd (false≢true h)
operands_exact (Four a b c d) (Two w x) h = absurd (false≢true h)
operands_exact (Four a b c d) (Three w x y) h = absurd (false≢true h)
operands_exact (Four a b c d) (Four w x y z) h =
    let p0 = and_parts ((plain_eq.ghosts).eq a w) (((plain_eq.ghosts).eq b x && ((plain_eq.ghosts).eq c y && (plain_eq.ghosts).eq d z))) h in
    let p1 = and_parts ((plain_eq.ghosts).eq b x) (((plain_eq.ghosts).eq c y && (plain_eq.ghosts).eq d z)) p0.1 in
    let p2 = and_parts ((plain_eq.ghosts).eq c y) ((plain_eq.ghosts).eq d z) p1.1 in
    let e0 = plain_exact a w p0.0 in
    let e1 = plain_exact b x p1.0 in
    let e2 = plain_exact c y p2.0 in
    let e3 = plain_exact d z p2.1 in
    ap (λ v. Four v b c d) e0 ∙ ap (λ v. Four w v c d) e1 ∙ ap (λ v. Four w x v d) e2 ∙ ap (λ v. Four w x y v) e3

names_exact : (a b : List ℕ) → pointwise ◌==◌ a b ≡ true → a ≡ b
names_exact a b h = (bytes_decides a b).0 h

question_exact : (a b : Question) → same_question a b ≡ true → a ≡ b
question_exact a b h =
    let p = and_parts (pointwise ◌==◌ a.service b.service) ((operands_eq.ghosts).eq a.operands b.operands) h in
    let e = names_exact a.service b.service p.0 in
    let q = operands_exact a.operands b.operands p.1 in
    ap (λ (s : List ℕ). record { service = s; operands = a.operands }) e ∙ ap (λ (o : Operands). record { service = b.service; operands = o }) q

-- what is found to be the same question is the very one
pub same_question_is : (a b : Question) → IsTrue (same_question a b) ↔ (a ≡ b)
same_question_is a b = (question_exact a b, λ e. subst (λ (x : Question). same_question a x ≡ true) e (itself a))
  where
    itself : (x : Question) → same_question x x ≡ true
    itself x = question_laws.laws-law.refl x

plain_itself : (x : Plain) → (plain_eq.ghosts).eq x x ≡ true
plain_itself x = plain_laws.laws-law.refl x

abbrev row_eq : Question × Plain → Question × Plain → Bool
row_eq p q = same_question p.0 q.0 && (plain_eq.ghosts).eq p.1 q.1

row_decides : (p q : Question × Plain) → IsTrue (row_eq p q) ↔ (p ≡ q)
row_decides p q = (to, λ e. subst (λ (x : Question × Plain). row_eq p x ≡ true) e (itself p))
  where
    to : row_eq p q ≡ true → p ≡ q
    to h =
        let k = and_parts (same_question p.0 q.0) ((plain_eq.ghosts).eq p.1 q.1) h in
        ap (λ (x : Question). (x, p.1)) (question_exact p.0 q.0 k.0) ∙ ap (λ (y : Plain). (q.0, y)) (plain_exact p.1 q.1 k.1)

    itself : (x : Question × Plain) → row_eq x x ≡ true
    itself x = rw ((same_question_is x.0 x.0).1 refl, plain_itself x.1) refl

-- rows are found to be the same exactly where they are
pub same_rows : (xs ys : TableRows) → IsTrue (pointwise (λ (p q : Question × Plain). same_question p.0 q.0 && (plain_eq.ghosts).eq p.1 q.1) xs ys) ↔ (xs ≡ ys)
same_rows xs ys = pointwise_decides row_decides xs ys
