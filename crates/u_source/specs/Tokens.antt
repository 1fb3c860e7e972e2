-- A token, without where it lies in memory.
use Rattle.u_source.specs.declared.place.Position.{Position}
use Rattle.u_source.specs.declared.token.Word.{Word}

pub record TokenParts : Type 0 where
  pub word : Word
  pub place : Position

abbrev pub token : Word → Position → TokenParts
token w p = record { word = w; place = p }
