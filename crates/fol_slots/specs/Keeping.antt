-- What the keeper's try answers.
use Rattle.std.specs.Prelude.{◌≡◌, ℕ, ◌≤◌, IsSomeAnd}
use Rattle.fol_slots.specs.declared.answer.Keep.{Keep}
use Rattle.fol_slots.specs.declared.answer.Keep.TheVariants.{Kept, Busy}
use Rattle.fol_slots.specs.declared.word.Word.TheVariants as words
use Rattle.fol_slots.specs.Shown.{Keeper, FoundOnlyAt, place_at, keeping, finding}
use Rattle.fol_slots.specs.Moments.{WordIs}

module _ {T : Type 0} where
  -- The answer to a try of slot i by the keeper's seat k, which is l afterwards.
  -- The body last offered there is fit. After Kept the slot has it. After Busy the seat shows the worker as found, which is one of those
  -- that have seats, and which no other slot shows.
  abbrev pub Keeps : (T → Type 0) → Keeper T → ℕ → Keep → Keeper T → Type 0
  Keeps fit k i Kept l = IsSomeAnd (place_at k i).offered fit × (l ≡ keeping k i (place_at k i).offered)
  Keeps fit k i (Busy w) l = IsSomeAnd (place_at k i).offered fit × (1 ≤ w) × (w ≤ k.workers) × FoundOnlyAt k w i × (l ≡ finding k i w)

  -- The word of slot i after the try: Kept, or Ticking with the worker that was found.
  abbrev pub WordAfter : (T → Type 0) → Keep → ℕ → Keeper T → Type 0
  WordAfter fit Kept i l = WordIs fit l i words.Kept
  WordAfter fit (Busy w) i l = WordIs fit l i (words.Ticking w)
