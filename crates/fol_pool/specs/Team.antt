-- The seats of a world on their way through the threads.
use Rattle.std.specs.Prelude.{◌≡◌, List, [], ◌∷◌}
use Rattle.fol_live.specs.Seat.{LiveId, Shown}
use Rattle.fol_pool.specs.Works.{IsBack, Rests}

-- it is a worker's seat of this world, whose ticks are whole, and which holds none
pub record IsReady (lock : LiveId) (s : Shown) : Type 0 where
  pub own : s.lock ≡ lock
  pub rests : Rests s

-- the seats that were given came back, each in its place, and their ticks are whole
abbrev pub AreBack : List Shown → List Shown → Type 0
AreBack [] [] = Unit {0}
AreBack (g ∷ gs) (b ∷ bs) = IsBack g b × AreBack gs bs
AreBack gs bs = ⊥
