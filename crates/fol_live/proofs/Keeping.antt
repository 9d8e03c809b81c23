-- What holds of a history holds of its beginnings, and what its seats add to it.
use Rattle.std.proofs.Common.{ℕ, ◌∙◌, ap, List, [], ◌∷◌, ◌++◌, append_assoc}
use Rattle.std.specs.List.{AllByRecursion}
use Rattle.fol_model.specs.declared.openings.Opening.{Opening}
use Rattle.fol_model.specs.declared.events.Entry.{Entry}
use Rattle.fol_model.specs.World.{start}
use Rattle.fol_core.proofs.FinishedRun.{before_entry}
use Rattle.fol_seat_laws.specs.Signed.{IsSigned}
use Rattle.fol_offers.specs.InTurn.{TakeTurns}
use Rattle.fol_live.specs.Kept.{Keeps}

pub all_first : (P : Entry → Type 0) (xs ys : List Entry) → AllByRecursion P (xs ++ ys) → AllByRecursion P xs
all_first P [] ys all = tt
all_first P (x ∷ xs) ys all = (all.0, all_first P xs ys all.1)

pub turns_before : (w : ℕ) (h rest : List Entry) → TakeTurns w (h ++ rest) → TakeTurns w h
turns_before w h rest turns = record {
  turns = λ before e after k r is begins. turns.turns before e (after ++ rest) k r (ap (λ (es : List Entry). es ++ rest) is ∙ append_assoc before (e ∷ after) rest) begins;
  below = all_first _ h rest turns.below;
}

pub keeps_first : (w : ℕ) (o : Opening) (h rest : List Entry) → Keeps w o (h ++ rest) → Keeps w o h
keeps_first w o h rest keeps = record {
  grid = keeps.grid;
  run = before_entry (start o) h rest keeps.run;
  signed = all_first IsSigned h rest keeps.signed;
  turns = turns_before w h rest keeps.turns;
}
