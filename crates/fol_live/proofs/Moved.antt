-- What holds of worlds holds of what they are known to be.
use Rattle.std.proofs.Common.{◌≡◌, refl, sym, subst, ℕ, List, []}
use Rattle.fol_model.specs.declared.events.Entry.{Entry}
use Rattle.fol_model.specs.declared.openings.Opening.{Opening}
use Rattle.fol_model.specs.GridNumbers.{IsGrid}
use Rattle.fol_offers.proofs.Turns.{turns_first}
use Rattle.fol_live.specs.Kept.{Keeps}
use Rattle.fol_live.specs.Shown.{Shown}

pub carried : (P : Shown → Shown → Type 0) {a b c d : Shown} → a ≡ b → d ≡ c → P a c → P b d
carried P {a} {b} {c} {d} from to p = subst (λ (x : Shown). P x d) from (subst (λ (y : Shown). P a y) (sym to) p)

-- a world in which nothing was recorded is kept
pub kept_none : (w : ℕ) (o : Opening) (h : List Entry) → IsGrid o.grid → h ≡ [] → Keeps w o h
kept_none w o h grid none = rw none (record { grid = grid; run = tt; signed = tt; turns = turns_first w [] refl })
