-- The keywords and signs of the notation, and which of them stands at the front of some bytes.
use Rattle.std.specs.Prelude.{ℕ, cond, ◌==◌, List, [], ◌∷◌, Option, Some, None, codes}
use Rattle.std.specs.List.{starts_with}
use Rattle.u_base.specs.WholeWords.{is}
use Rattle.u_source.specs.declared.mark.Mark.{Mark}
use Rattle.u_source.specs.declared.mark.Mark.TheVariants.{Def, If, Else, Loop, While, For, In, Next, Give, Array, Length, And, Or, Not, True, False}
use Rattle.u_source.specs.declared.mark.Mark.TheVariants.{Dots, AtMost, AtLeast, Equal, Unequal, OpenParenthesis, CloseParenthesis, OpenBrace, CloseBrace, OpenBracket, CloseBracket, Comma, Semicolon, Becomes, Plus, Minus, Times, Divide, Remainder, Less, Greater}

-- the bytes of a keyword or sign
abbrev pub mark_text : Mark → List ℕ
mark_text Def = codes "def"
mark_text If = codes "if"
mark_text Else = codes "else"
mark_text Loop = codes "loop"
mark_text While = codes "while"
mark_text For = codes "for"
mark_text In = codes "in"
mark_text Next = codes "next"
mark_text Give = codes "give"
mark_text Array = codes "array"
mark_text Length = codes "length"
mark_text And = codes "and"
mark_text Or = codes "or"
mark_text Not = codes "not"
mark_text True = codes "true"
mark_text False = codes "false"
mark_text Dots = codes ".."
mark_text AtMost = codes "<="
mark_text AtLeast = codes ">="
mark_text Equal = codes "=="
mark_text Unequal = codes "!="
mark_text OpenParenthesis = codes "("
mark_text CloseParenthesis = codes ")"
mark_text OpenBrace = codes "{"
mark_text CloseBrace = codes "}"
mark_text OpenBracket = codes "["
mark_text CloseBracket = codes "]"
mark_text Comma = codes ","
mark_text Semicolon = codes ";"
mark_text Becomes = codes "="
mark_text Plus = codes "+"
mark_text Minus = codes "-"
mark_text Times = codes "*"
mark_text Divide = codes "/"
mark_text Remainder = codes "%"
mark_text Less = codes "<"
mark_text Greater = codes ">"

abbrev pub keywords : List Mark
keywords =
    Def ∷ If ∷ Else ∷ Loop ∷ While ∷ For ∷ In ∷ Next
    ∷ Give ∷ Array ∷ Length ∷ And ∷ Or ∷ Not ∷ True ∷ False ∷ []

-- those of two bytes before those of one, so that the first that fits is the longest
abbrev pub signs : List Mark
signs =
    Dots ∷ AtMost ∷ AtLeast ∷ Equal ∷ Unequal ∷ OpenParenthesis ∷ CloseParenthesis ∷ OpenBrace
    ∷ CloseBrace ∷ OpenBracket ∷ CloseBracket ∷ Comma ∷ Semicolon ∷ Becomes ∷ Plus ∷ Minus
    ∷ Times ∷ Divide ∷ Remainder ∷ Less ∷ Greater ∷ []

-- the one of these that the whole word is
abbrev pub keyword_among : List Mark → List ℕ → Option Mark
keyword_among [] w = None
keyword_among (m ∷ ms) w = cond (is w (mark_text m)) (Some m) (keyword_among ms w)

-- the first of these with which the bytes begin
abbrev pub sign_among : List Mark → List ℕ → Option Mark
sign_among [] bs = None
sign_among (m ∷ ms) bs = cond (starts_with ◌==◌ bs (mark_text m)) (Some m) (sign_among ms bs)
