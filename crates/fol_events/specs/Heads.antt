-- The first word of each event line.
use Rattle.std.specs.Prelude.{List, [], ◌∷◌, codes, Option}
use Rattle.std.specs.List.{find}
use Rattle.std.specs.Str.{bytes_eq}
use Rattle.fol_model.specs.LineWords.{Word}
use Rattle.fol_events.specs.declared.heads.Head.{Head}
use Rattle.fol_events.specs.declared.heads.Head.TheVariants as heads

abbrev pub head_spelled : Head → Word
head_spelled heads.Load = codes "load"
head_spelled heads.Unload = codes "unload"
head_spelled heads.Post = codes "post"
head_spelled heads.Open = codes "open"
head_spelled heads.Begin = codes "begin"
head_spelled heads.End = codes "end"
head_spelled heads.Close = codes "close"
head_spelled heads.Finish = codes "finish"
head_spelled heads.Stop = codes "stop"

abbrev pub all_heads : List Head
all_heads = heads.Begin ∷ heads.End ∷ heads.Post ∷ heads.Load ∷ heads.Unload ∷ heads.Open ∷ heads.Close ∷ heads.Finish ∷ heads.Stop ∷ []

-- the first word that a word is
unfoldable pub head_of : Word → Option Head
head_of w = find (λ h. bytes_eq w (head_spelled h)) all_heads
