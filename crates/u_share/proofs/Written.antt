-- Known bytes of readers and writers, one call after another.
use Rattle.std.proofs.Common.{◌∙◌, sym, ap, refl, ℕ, List, [], ◌++◌, Option, Some, None, append_assoc, append-nil}
use Rattle.std.specs.Io.KnownBytes.{Appends, Keeps, Consumes}
use Rattle.u_share.specs.Headline.{WritesFront, WritesAt}
use Rattle.u_share.specs.declared.fault.ShareFault.{ShareFault}
use Rattle.u_share.specs.declared.fault.ShareFault.TheVariants as faults

pub appends_none : (a : Option (List ℕ)) → Appends a a []
appends_none None = tt
appends_none (Some xs) = sym (append-nil xs)

pub appends_more : (a b c : Option (List ℕ)) (xs ys : List ℕ) → Appends a b xs → Appends b c ys → Appends a c (xs ++ ys)
appends_more None b c xs ys p q = tt
appends_more (Some ps) None c xs ys p q = absurd p
appends_more (Some ps) (Some qs) None xs ys p q = absurd q
appends_more (Some ps) (Some qs) (Some rs) xs ys p q = q ∙ ap (λ (t : List ℕ). t ++ ys) p ∙ append_assoc ps xs ys

pub appends_kept : (a b c : Option (List ℕ)) (xs : List ℕ) → Appends a b xs → Keeps b c → Appends a c xs
appends_kept None b c xs p q = tt
appends_kept (Some ps) None c xs p q = absurd p
appends_kept (Some ps) (Some qs) None xs p q = absurd q
appends_kept (Some ps) (Some qs) (Some rs) xs p q = q ∙ p

pub kept : (a : Option (List ℕ)) → Keeps a a
kept None = tt
kept (Some xs) = refl

pub kept_appends : (a b : Option (List ℕ)) → Keeps a b → Appends a b []
kept_appends a b k = appends_kept a a b [] (appends_none a) k

pub consumes_none : (a : Option (List ℕ)) → Consumes a a []
consumes_none None = tt
consumes_none (Some xs) = refl

pub kept_consumes : (a b : Option (List ℕ)) → Keeps a b → Consumes a b []
kept_consumes None b k = tt
kept_consumes (Some xs) None k = absurd k
kept_consumes (Some xs) (Some ys) k = sym k

pub consumes_more : (a b c : Option (List ℕ)) (xs ys : List ℕ) → Consumes a b xs → Consumes b c ys → Consumes a c (xs ++ ys)
consumes_more None b c xs ys p q = tt
consumes_more (Some ps) None c xs ys p q = absurd p
consumes_more (Some ps) (Some qs) None xs ys p q = absurd q
consumes_more (Some ps) (Some qs) (Some rs) xs ys p q = p ∙ ap (λ (t : List ℕ). xs ++ t) q ∙ sym (append_assoc xs ys rs)

-- fronts

pub front_all : (a b : Option (List ℕ)) (t : List ℕ) → Appends a b t → WritesFront a b t
front_all a b t p = record { front = t; rest = []; is = sym (append-nil t); written = p }

pub front_none : (a b : Option (List ℕ)) (t : List ℕ) → Keeps a b → WritesFront a b t
front_none a b t k = record { front = []; rest = t; is = refl; written = kept_appends a b k }

pub front_behind : (a b c : Option (List ℕ)) (xs t : List ℕ) → Appends a b xs → WritesFront b c t → WritesFront a c (xs ++ t)
front_behind a b c xs t p q = record {
  front = xs ++ q.front;
  rest = q.rest;
  is = ap (λ (y : List ℕ). xs ++ y) q.is ∙ sym (append_assoc xs q.front q.rest);
  written = appends_more a b c xs q.front p q.written;
}

pub front_more : (a b : Option (List ℕ)) (t more : List ℕ) → WritesFront a b t → WritesFront a b (t ++ more)
front_more a b t more q = record {
  front = q.front;
  rest = q.rest ++ more;
  is = ap (λ (y : List ℕ). y ++ more) q.is ∙ append_assoc q.front q.rest more;
  written = q.written;
}

-- at a fault

pub at_fault : (fault : ShareFault) (a b : Option (List ℕ)) (t : List ℕ) → Appends a b t → WritesAt fault a b t
at_fault faults.Full a b t p = p
at_fault faults.NotReadable a b t p = p
at_fault faults.NotWritten a b t p = front_all a b t p
at_fault faults.NoMemory a b t p = front_all a b t p

pub fault_behind : (fault : ShareFault) (a b c : Option (List ℕ)) (xs t : List ℕ) → Appends a b xs → WritesAt fault b c t → WritesAt fault a c (xs ++ t)
fault_behind faults.Full a b c xs t p q = appends_more a b c xs t p q
fault_behind faults.NotReadable a b c xs t p q = appends_more a b c xs t p q
fault_behind faults.NotWritten a b c xs t p q = front_behind a b c xs t p q
fault_behind faults.NoMemory a b c xs t p q = front_behind a b c xs t p q
