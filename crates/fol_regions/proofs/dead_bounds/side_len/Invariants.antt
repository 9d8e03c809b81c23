use Rattle.std.proofs.Common.{◌≡◌, ℕ, ◌<◌, get_or}
use Rattle.std.specs.Prelude.{pos, ◌+ℤ◌}
use Rattle.fol_model.specs.declared.places.SectionPos.{SectionPos}
use Rattle.fol_regions.proofs.dead_bounds.side_len.Given as goal

abbrev pub invariant-loop-i : goal.invariant-loop-i
invariant-loop-i l = (k : ℕ) (d : SectionPos) → k < l.i → get_or l.list k d ≡ record { x = (get_or l.list 0 d).x +ℤ pos k; z = (get_or l.list 0 d).z }
