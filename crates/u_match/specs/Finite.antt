-- Things of a kind.
-- some x has P
abbrev pub HasSome : {X : Type 0} → (X → Type 0) → Type 0
HasSome {X} P = (x : X) × P x
