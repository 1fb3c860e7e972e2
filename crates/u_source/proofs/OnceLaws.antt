-- A text has its tokens once: no two lists of them, and none where one cannot be read.
use Rattle.std.proofs.Common.{◌≡◌, ℕ, List, [], ◌∷◌, take, drop, refl, sym, ◌∙◌, ap, subst, Result, Ok, Err, MatchResult, Vec, Global}
use Rattle.u_source.specs.declared.place.Position.{Position}
use Rattle.u_source.specs.declared.source_error.Problem.{Problem}
use Rattle.u_source.specs.declared.source_error.Problem.TheVariants.{BadByte}
use Rattle.u_source.specs.declared.source_error.SourceError.{SourceError}
use Rattle.u_source.specs.declared.source_error.SourceError.TheVariants.{Refused, NoMemory}
use Rattle.u_source.specs.declared.token.Word.{Word}
use Rattle.u_source.specs.Tokens.{TokenParts, token}
use Rattle.u_source.specs.Places.{start, place_after}
use Rattle.u_source.specs.Words.{Found, token_at}
use Rattle.u_source.specs.Lexing.{behind_gap, IsNext, Reads, IsGap, IsStuck, AreTokens, IsNoToken, IsLexError}

no_token : token_at [] ≡ Err BadByte
unfolding token_at
no_token = refl

-- where nothing but blanks and comments stand, no token is next
pub none_next : (p : Position) (bs : List ℕ) (t : TokenParts) (q : Position) (rest : List ℕ) → IsGap bs → IsNext p bs t q rest → ⊥
none_next p bs t q rest g n =
    let e : token_at (behind_gap bs) ≡ Err BadByte = ap token_at g ∙ no_token in
    let h : token_at (behind_gap bs) ≡ Ok (t.word, n.len) = n.there in
    cc

-- one token is next at most
pub record Same (t u : TokenParts) (q r : Position) (bs cs : List ℕ) : Type 0 where
  pub token : t ≡ u
  pub place : q ≡ r
  pub rest : bs ≡ cs

abbrev found : Word × ℕ → Found
found x = Ok x

found_once : (x y : Word × ℕ) → found x ≡ found y → x ≡ y
found_once x y h = cc

pub next_once : (p : Position) (bs : List ℕ) (t u : TokenParts) (q r : Position) (cs ds : List ℕ) → IsNext p bs t q cs → IsNext p bs u r ds → Same t u q r cs ds
next_once p bs t u q r cs ds n m =
    let h : token_at (behind_gap bs) ≡ Ok (t.word, n.len) = n.there in
    let k : token_at (behind_gap bs) ≡ Ok (u.word, m.len) = m.there in
    let x : Word × ℕ = (t.word, n.len) in
    let y : Word × ℕ = (u.word, m.len) in
    let same : x ≡ y = found_once x y (sym h ∙ k) in
    let w : t.word ≡ u.word = ap (λ z. z.0) same in
    let l : n.len ≡ m.len = ap (λ z. z.1) same in
    let a : t.place ≡ u.place = n.place ∙ sym m.place in
    let e : token t.word t.place ≡ token u.word u.place = ap (λ x. token x t.place) w ∙ ap (λ x. token u.word x) a in
    let f : place_after t.place (take n.len (behind_gap bs)) ≡ place_after u.place (take m.len (behind_gap bs)) = ap (λ x. place_after x (take n.len (behind_gap bs))) a ∙ ap (λ x. place_after u.place (take x (behind_gap bs))) l in
    let g : drop n.len (behind_gap bs) ≡ drop m.len (behind_gap bs) = ap (λ x. drop x (behind_gap bs)) l in
    record { token = e; place = n.after ∙ f ∙ sym m.after; rest = n.rest ∙ g ∙ sym m.rest }

-- the same tokens are read
pub reads_once : (p : Position) (bs : List ℕ) (ts us : List TokenParts) (q r : Position) (cs ds : List ℕ) → Reads p bs ts q cs → IsGap cs → Reads p bs us r ds → IsGap ds → ts ≡ us
reads_once p bs [] [] q r cs ds h g k f = refl
reads_once p bs [] (u ∷ us) q r cs ds h g k f = absurd (none_next p bs u k.0 k.1 (subst IsGap h.1 g) k.2)
reads_once p bs (t ∷ ts) [] q r cs ds h g k f = absurd (none_next p bs t h.0 h.1 (subst IsGap k.1 f) h.2)
reads_once p bs (t ∷ ts) (u ∷ us) q r cs ds h g k f =
    let s : Same t u h.0 k.0 h.1 k.1 = next_once p bs t u h.0 k.0 h.1 k.1 h.2 k.2 in
    let v : Reads h.0 h.1 us r ds = subst (λ x. Reads x h.1 us r ds) (sym s.place) (subst (λ x. Reads k.0 x us r ds) (sym s.rest) k.3) in
    let e : ts ≡ us = reads_once h.0 h.1 ts us q r cs ds h.3 g v f in
    ap (λ x. x ∷ ts) s.token ∙ ap (λ xs. u ∷ xs) e

-- no reading gets stuck where another comes to the end
pub never_stuck : (p : Position) (bs : List ℕ) (ts us : List TokenParts) (q r : Position) (cs ds : List ℕ) (z : Position) (problem : Problem) → Reads p bs ts q cs → IsGap cs → Reads p bs us r ds → IsStuck r ds z problem → ⊥
never_stuck p bs [] [] q r cs ds z problem h g k f = f.more (subst IsGap (h.1 ∙ sym k.1) g)
never_stuck p bs [] (u ∷ us) q r cs ds z problem h g k f = none_next p bs u k.0 k.1 (subst IsGap h.1 g) k.2
never_stuck p bs (t ∷ ts) [] q r cs ds z problem h g k f =
    let a : token_at (behind_gap ds) ≡ Err problem = f.there in
    let b : token_at (behind_gap bs) ≡ Ok (t.word, h.2.len) = h.2.there in
    let e : token_at (behind_gap ds) ≡ token_at (behind_gap bs) = ap (λ x. token_at (behind_gap x)) k.1 in
    cc
never_stuck p bs (t ∷ ts) (u ∷ us) q r cs ds z problem h g k f =
    let s : Same t u h.0 k.0 h.1 k.1 = next_once p bs t u h.0 k.0 h.1 k.1 h.2 k.2 in
    let v : Reads h.0 h.1 us r ds = subst (λ x. Reads x h.1 us r ds) (sym s.place) (subst (λ x. Reads k.0 x us r ds) (sym s.rest) k.3) in
    never_stuck h.0 h.1 ts us q r cs ds z problem h.3 g v f

pub same_tokens : (bytes : List ℕ) (ts us : List TokenParts) → AreTokens bytes ts → AreTokens bytes us → ts ≡ us
same_tokens bytes ts us a b = reads_once start bytes ts us a.place b.place a.rest b.rest a.reads a.whole b.reads b.whole

pub not_both : (bytes : List ℕ) (ts : List TokenParts) (z : Position) (problem : Problem) → AreTokens bytes ts → IsNoToken bytes z problem → ⊥
not_both bytes ts z problem a b = never_stuck start bytes ts b.tokens a.place b.place a.rest b.rest z problem a.reads a.whole b.reads b.stuck

-- a text that has tokens is answered by them, or by want of memory
pub read_back : (bytes : List ℕ) (ts : List TokenParts) (result : Result (Vec TokenParts Global) SourceError) → MatchResult result (λ v. AreTokens bytes v.items) (λ e. IsLexError bytes e) → AreTokens bytes ts → MatchResult result (λ v. v.items ≡ ts) (λ e. e ≡ NoMemory)
read_back bytes ts (Ok v) h a = same_tokens bytes v.items ts h a
read_back bytes ts (Err (Refused z problem)) h a = absurd (not_both bytes ts z problem a h)
read_back bytes ts (Err NoMemory) h a = refl
