-- What a worker's claim answers.
use Rattle.std.specs.Prelude.{◌≡◌, ◌≢◌, ℕ}
use Rattle.fol_slots.specs.declared.answer.Claim.{Claim}
use Rattle.fol_slots.specs.declared.answer.Claim.TheVariants.{Claimed, Taken}
use Rattle.fol_slots.specs.declared.word.Word.TheVariants.{Ready}
use Rattle.fol_slots.specs.Shown.{Worker, holding, missing}

module _ {T : Type 0} where
  -- The answer to a claim of slot i by the seat s, which is t afterwards.
  -- Claimed has a fit body, and the seat holds the slot with it. Taken has the word that was found, which is not Ready, and the seat has noted it.
  abbrev pub Claims : (T → Type 0) → Worker T → ℕ → Claim T → Worker T → Type 0
  Claims fit s i (Claimed x) t = fit x × (t ≡ holding s i x)
  Claims fit s i (Taken w) t = (w ≢ Ready) × (t ≡ missing s i w)
