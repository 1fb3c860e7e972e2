-- What is done with the symbol that stands first, by the kind of the token that stands next.
use Rattle.std.specs.Prelude.{ℕ, Bool, true, false, cond, ◌&&◌, ◌==◌, List, [], ◌∷◌, Option, Some, None, Result, Ok, Err}
use Rattle.u_base.specs.WholeWords.{is}
use Rattle.u_source.specs.declared.choosing.Placed.{Placed}
use Rattle.u_source.specs.declared.choosing.Step.{Step}
use Rattle.u_source.specs.declared.mark.Mark.{Mark}
use Rattle.u_source.specs.declared.part.Fallback.{Fallback}
use Rattle.u_source.specs.declared.part.Fallback.TheVariants as fallback
use Rattle.u_source.specs.declared.part.Kind.{Kind}
use Rattle.u_source.specs.declared.part.Kind.TheVariants.{Sign, Name, Number, TwoTo63}
use Rattle.u_source.specs.declared.part.Outcome.{Outcome}
use Rattle.u_source.specs.declared.part.Outcome.TheVariants as outcome
use Rattle.u_source.specs.declared.part.Part.{Part}
use Rattle.u_source.specs.declared.part.Row.{Row}
use Rattle.u_source.specs.declared.part.Stop.{Stop}
use Rattle.u_source.specs.declared.part.Stop.TheVariants.{Wants, TooDeep}
use Rattle.u_source.specs.declared.rule.Rule.{Rule}
use Rattle.u_source.specs.declared.rule.Rule.TheVariants.{Nothing}
use Rattle.u_source.specs.declared.rule.Symbol.{Symbol}
use Rattle.u_source.specs.declared.rule.Symbol.TheVariants as symbol
use Rattle.u_source.specs.declared.source_error.Expected.TheVariants as expected
use Rattle.u_source.specs.Marks.{mark_text}
use Rattle.u_source.specs.Parts.{rows, otherwise}
use Rattle.u_source.specs.Rules.{symbols}

-- two tokens are of one kind
abbrev pub is_kind : Kind → Kind → Bool
is_kind (Sign m) (Sign w) = is (mark_text m) (mark_text w)
is_kind Name Name = true
is_kind Number Number = true
is_kind TwoTo63 TwoTo63 = true
is_kind k w = false

-- what a token chooses among these: what stands beside the first kind that it is of
abbrev pub outcome_among : List Row → Kind → Option Outcome
outcome_among [] k = None
outcome_among (r ∷ rs) k = cond (is_kind r.kind k) (Some r.outcome) (outcome_among rs k)

abbrev pub chosen : Part → Kind → Option Outcome
chosen x k = outcome_among (rows x) k

-- some part is nested one level deeper
abbrev pub deepens : List Symbol → Bool
deepens [] = false
deepens (symbol.Inner x ∷ ss) = true
deepens (s ∷ ss) = deepens ss

-- so many tokens are taken, and the right side of this rule comes in the symbol's place
abbrev pub goes : ℕ → Rule → Result Step Stop
goes n r = Ok (record { taken = n; rule = r; made = None })

-- a keyword or a sign has to stand next
abbrev pub sign_step : Mark → Kind → Result Step Stop
sign_step m k = cond (is_kind (Sign m) k) (goes 1 Nothing) (Err (Wants (expected.Mark m)))

-- the next token chose this rule, which may need a level of nesting
abbrev pub taken_step : Rule → ℕ → Result Step Stop
taken_step r room = cond (room == 0 && deepens (symbols r)) (Err TooDeep) (goes 1 r)

abbrev pub step_by_fallback : Fallback → Result Step Stop
step_by_fallback (fallback.Goes r) = goes 0 r
step_by_fallback (fallback.Wants e) = Err (Wants e)

-- the next token chose nothing
abbrev pub other_step : Part → Result Step Stop
other_step x = step_by_fallback (otherwise x)

abbrev pub step_by : Option Outcome → Part → ℕ → Result Step Stop
step_by (Some (outcome.Goes r)) x room = taken_step r room
step_by (Some (outcome.Stops s)) x room = Err s
step_by None x room = other_step x

-- a part of the source has to stand next
abbrev pub part_step : Part → ℕ → Kind → Result Step Stop
part_step x room k = step_by (chosen x k) x room

abbrev pub symbol_step : Symbol → ℕ → ℕ → Kind → Result Step Stop
symbol_step (symbol.Sign m) at room k = sign_step m k
symbol_step (symbol.Part x) at room k = part_step x room k
symbol_step (symbol.Inner x) at room k = part_step x room k
symbol_step (symbol.Make f) at room k = Ok (record { taken = 0; rule = Nothing; made = Some (record { form = f; token = at }) })

-- what is done with a symbol where a token of this kind stands next
abbrev pub step_of : Placed → Kind → Result Step Stop
step_of s k = symbol_step s.symbol s.at s.room k
