-- Letters, and the entries that stand for them in the history.
use Rattle.std.specs.Prelude.{ℕ, List, [], ◌∷◌, Option, Some, None}
use Rattle.fol_model.specs.declared.places.ChunkPos.{ChunkPos}
use Rattle.fol_model.specs.declared.actions.Action.{Action}
use Rattle.fol_model.specs.declared.events.Entry.{Entry}
use Rattle.fol_model.specs.declared.events.Event.TheVariants.{Post}
use Rattle.fol_inbox.specs.declared.letter.Letter.{Letter}
use Rattle.fol_inbox.specs.declared.letter.Receipt.{Receipt}

abbrev pub letter : ℕ → ℕ → ChunkPos → ℕ → Action → Letter
letter sender place chunk delay action = record { sender = sender; place = place; chunk = chunk; delay = delay; action = action }

-- the letter that is held, if one is
abbrev pub held_list : Option Letter → List Letter
held_list None = []
held_list (Some l) = l ∷ []

-- the post of the letter by the seat n, with what the receipt says of the answer
abbrev pub post_of : ℕ → Letter → Receipt → Entry
post_of n l r = record { by = n; event = Post n l.chunk l.delay l.action r.answer }

-- the posts of the letters, in order, each with its receipt
abbrev pub posts_of : ℕ → List Letter → List Receipt → List Entry
posts_of n [] rs = []
posts_of n (l ∷ ls) [] = []
posts_of n (l ∷ ls) (r ∷ rs) = post_of n l r ∷ posts_of n ls rs
