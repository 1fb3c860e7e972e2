-- The rules of the checker that a block keeps by itself, whatever the other blocks of its program are.
use Rattle.std.specs.Prelude.{◌≡◌, ℕ, Bool, true, false, [], Some, List, take, slice_get, Contains}
use Rattle.std.specs.List.{list_all}
use Rattle.u_program.specs.declared.program.Destination.{Destination}
use Rattle.u_program.specs.Parts.{StatementParts, BlockParts}
use Rattle.u_check.specs.Rules.{statement_at, Arc, destination_of, itself_keeps, destination_keeps, main_name, same_name, names_block, is_param_in, gives_block}
use Rattle.u_check.specs.declared.rule.Rule.{Rule}
use Rattle.u_check.specs.declared.rule.Rule.TheVariants.{BeginComesFirst, RegionExists, DestinationExists, BeginAndBackTakeNothing, EnterReachesItsLoop, ApplyNamesBack, BackIsNamed, LoopStatementsInLoops, LastSendsToLeave, LeaveSendsOut, EndInOuterRegion, OwnRegion, PortsAreFed, ParamsComeInOrder}

-- each statement of the block keeps the rule, its destinations apart
abbrev pub StatementsKeep : Rule → BlockParts → Type 0
StatementsKeep rule b = (n : ℕ) (s : StatementParts) → statement_at b.statements n ≡ Some s → itself_keeps rule [] b n s ≡ true

-- each arc of the block keeps the rule
abbrev pub ArcsKeep : Rule → BlockParts → Type 0
ArcsKeep rule b = (a : Arc) (s : StatementParts) (d : Destination) → statement_at b.statements a.statement ≡ Some s → destination_of b.statements a ≡ Some d → destination_keeps rule b s d ≡ true

-- It keeps each rule but those on the names of blocks: that they differ, that there is a `main` with one parameter, and
-- that constants name blocks.
pub record KeepsItself (b : BlockParts) : Type 0 where
  pub begins : StatementsKeep BeginComesFirst b
  pub regions : StatementsKeep RegionExists b
  pub reaches : ArcsKeep DestinationExists b
  pub takes : ArcsKeep BeginAndBackTakeNothing b
  pub enters : StatementsKeep EnterReachesItsLoop b
  pub enters_loop : ArcsKeep EnterReachesItsLoop b
  pub names_backs : StatementsKeep ApplyNamesBack b
  pub named_backs : StatementsKeep BackIsNamed b
  pub turns : StatementsKeep LoopStatementsInLoops b
  pub leaves_last : ArcsKeep LastSendsToLeave b
  pub leaves_out : ArcsKeep LeaveSendsOut b
  pub ends : StatementsKeep EndInOuterRegion b
  pub own_region : ArcsKeep OwnRegion b
  pub fed : StatementsKeep PortsAreFed b
  pub params : StatementsKeep ParamsComeInOrder b

-- it takes one argument where it is `main`
abbrev pub TakesOne : BlockParts → Type 0
TakesOne b = same_name b.name main_name ≡ true → is_param_in (statement_at b.statements 2) ≡ false

-- each block keeps those rules, and takes one argument where it is `main`
abbrev pub KeepEach : List BlockParts → Type 0
KeepEach bs = (b : BlockParts) → Contains bs b → KeepsItself b × TakesOne b

-- no block has the name of one before it
abbrev pub NamesDiffer : List BlockParts → Type 0
NamesDiffer bs = (n : ℕ) (b : BlockParts) → slice_get bs n ≡ Some b → names_block (take n bs) b.name ≡ false

-- each procedure that a statement of the second blocks gives is one of the first
abbrev pub give_blocks : List BlockParts → List BlockParts → Bool
give_blocks all bs = list_all (λ (b : BlockParts). list_all (λ (s : StatementParts). gives_block all s.kind) b.statements) bs
