-- Runs that grow at their end, and the world along them.
use Rattle.std.proofs.Common.{◌≡◌, refl, false, List, [], ◌∷◌, ◌++◌}
use Rattle.fol_model.specs.World.{World}
use Rattle.fol_model.specs.Run.{after, after_all, Allowed, RunFrom}
use Rattle.fol_model.specs.declared.events.Entry.{Entry}

pub run_more : (w : World) (es : List Entry) (e : Entry) → RunFrom w es → (after_all w es).finished ≡ false → Allowed (after_all w es) e.event → RunFrom w (es ++ e ∷ [])
run_more w [] e run free ok = (free, ok, tt)
run_more w (x ∷ es) e run free ok = (run.0, run.1, run_more (after w x.event) es e run.2 free ok)

-- the world after entries, and then after more
pub world_both : (w : World) (es fs : List Entry) → after_all w (es ++ fs) ≡ after_all (after_all w es) fs
world_both w [] fs = refl
world_both w (e ∷ es) fs = world_both (after w e.event) es fs

pub world_more : (w : World) (es : List Entry) (e : Entry) → after_all w (es ++ e ∷ []) ≡ after (after_all w es) e.event
world_more w es e = world_both w es (e ∷ [])
