-- The firings whose bucket is in a mask of 64 bits.
use Rattle.std.specs.Prelude.{◌≡◌, IsTrue, ℕ, ◌/◌, ◌%◌, ◌^◌, ◌==◌, Bool, List, filter}
use Rattle.u_claims.specs.Buckets.{bucket}
use Rattle.u_name.specs.Name.{Activity}
use Rattle.u_rule.specs.declared.entry.Entry.{Entry}
use Rattle.u_rule.specs.declared.entry.Entry.TheVariants.{Token as token_entry}
use Rattle.u_rule.specs.declared.firing.Firing.{Firing}
use Rattle.u_rule.specs.Parts.{TokenParts}

-- whether the activity's bucket is in the mask: bit b of the mask stands for bucket b
abbrev pub has_bucket : ℕ → Activity → Bool
has_bucket buckets a = (buckets / 2 ^ bucket a) % 2 == 1

-- whether the firing's is
abbrev pub is_in : ℕ → Firing → Bool
is_in buckets f = has_bucket buckets f.activity

-- those of the list whose bucket is in the mask, in their order
abbrev pub those_in : ℕ → List Firing → List Firing
those_in buckets fs = filter (is_in buckets) fs

-- the entry is a token whose activity has its bucket in the mask
abbrev pub IsTokenIn : ℕ → Entry → Type 0
IsTokenIn buckets e = (t : TokenParts) × (e ≡ token_entry t) × IsTrue (has_bucket buckets t.activity)
