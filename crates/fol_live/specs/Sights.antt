-- What a seat keeps of the history that it has seen.
use Rattle.std.specs.Prelude.{ℕ, ◌≡◌, ◌<◌, false, IsTrue, List, length}
use Rattle.fol_model.specs.declared.openings.Opening.{Opening}
use Rattle.fol_model.specs.declared.events.Entry.{Entry}
use Rattle.fol_model.specs.World.{World}
use Rattle.fol_model.specs.Run.{world}
use Rattle.fol_core.specs.Answers.{is_owing}
use Rattle.fol_live.specs.declared.sight.Sight.{Sight}

-- no region that is Ready owes a tick
abbrev pub NoneOwing : World → Type 0
NoneOwing w = (r : ℕ) → 0 < r → r < w.grid.next → is_owing w r ≡ false

-- it tells how long the history is, and that no Ready region owes a tick after it only where that is so
pub record IsSight (o : Opening) (h : List Entry) (s : Sight) : Type 0 where
  pub front : s.front ≡ length h
  pub none_owing : IsTrue s.none_owing → NoneOwing (world o h)
