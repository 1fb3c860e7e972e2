-- The words for what a replica did.
use Rattle.std.specs.Prelude.{ℕ, ◌==◌, if◌then◌else◌, List, [], ◌∷◌, ◌++◌, codes}
use Rattle.std.specs.Fmt.{decimal}
use Rattle.u_name.specs.Name.{Activity}
use Rattle.u_name.specs.NameText.{name_text}
use Rattle.u_pictures.specs.declared.happening.Deed.{Deed}
use Rattle.u_pictures.specs.declared.happening.Deed.TheVariants as deeds
use Rattle.u_pictures.specs.declared.happening.Happening.{Happening}

-- `BLOCK.STATEMENT.INITIATION`: an activity's name without its context
unfoldable pub short_name : Activity → List ℕ
short_name a = a.block ++ (46 ∷ (decimal a.statement ++ (46 ∷ decimal a.initiation)))

-- `nothing new`, `N new`
abbrev pub new_words : ℕ → List ℕ
new_words n = if n == 0 then codes "nothing new" else decimal n ++ codes " new"

-- `starts again, with N firings, had N`
abbrev pub again_words : ℕ → ℕ → List ℕ
again_words had has = codes "starts again, with " ++ (decimal has ++ (codes " firings, had " ++ decimal had))

-- what stands on the node
unfoldable pub words : Deed → List ℕ
words (deeds.Fires a) = codes "fires " ++ short_name a
words deeds.Idles = codes "fires nothing"
words (deeds.Asks k) = codes "asks " ++ decimal k
words (deeds.Answers s) = codes "answers"
words (deeds.Takes from n) = codes "takes " ++ new_words n
words (deeds.Merges k n) = codes "merges " ++ new_words n
words deeds.Saves = codes "saves"
words (deeds.Restarts had has) = again_words had has

-- the same with the whole name of the activity
unfoldable pub full_words : Deed → List ℕ
full_words (deeds.Fires a) = codes "fires " ++ name_text a
full_words d = words d

-- what happened, in those words, one after another
abbrev pub all_words : List Happening → List (List ℕ)
all_words [] = []
all_words (h ∷ hs) = full_words h.deed ∷ all_words hs
