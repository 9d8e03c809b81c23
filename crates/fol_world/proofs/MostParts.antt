-- Wishes and a release: how many sections are present then, and how many parts are made at most.
use Rattle.std.proofs.Common.{◌≡◌, ℕ, ◌+◌, ◌*◌, ◌/◌, ◌≤◌, arith, true, not, inl, inr, List, [], ◌∷◌, length}
use Rattle.std.specs.Prelude.{min}
use Rattle.std.specs.List.{AllByRecursion}
use Rattle.std.proofs.lemmas.Bool.{cases_Bool, cases_lt, leb-true}
use Rattle.std.proofs.lemmas.List.Sums.{count_by-le-length}
use Rattle.std.proofs.Math.Nat.{min-eq_left, min-eq_right, min-le_right}
use Rattle.fol_model.specs.declared.places.ChunkPos.{ChunkPos}
use Rattle.fol_model.specs.declared.places.SectionPos.{SectionPos}
use Rattle.fol_model.specs.declared.tasks.Wish.{Wish}
use Rattle.fol_model.specs.ActionStep.{Recorded}
use Rattle.fol_model.specs.Add.{add, is_full, wanted}
use Rattle.fol_model.specs.End.{accepted, all_accepted}
use Rattle.fol_model.specs.Holds.{posted}
use Rattle.fol_model.specs.Geometry.{is_chunk, section_of}
use Rattle.fol_model.specs.GridNumbers.{IsGrid}
use Rattle.fol_model.specs.GridState.{GridState, is_present, present_count}
use Rattle.fol_model.specs.Rules.{Rules}
use Rattle.fol_model.specs.Universe.{square}
use Rattle.fol_model.specs.World.{World}
use Rattle.fol_laws.proofs.AddKeeps.{present_add}
use Rattle.fol_laws.proofs.FloorDivision.{around_in_limits}
use Rattle.fol_laws.proofs.NewCounters.{grid_put_back}
use Rattle.fol_laws.proofs.SectionOrder.{near_rows}
use Rattle.fol_laws.proofs.SoundRuns.{Ending, accepted_ending}
use Rattle.fol_laws.proofs.WishLimits.{WishOk}
use Rattle.fol_sections.proofs.Lengths.{length-square}
use Rattle.fol_world.specs.MostParts.{parts_at_most}

-- ---- the sections that holds add

pub wanted_few : (g : GridState) (c : ChunkPos) → IsGrid g.grid → is_chunk c ≡ true → wanted g c ≤ 289
unfolding wanted
wanted_few g c grid within =
    let n = section_of g.grid c in
    let near = (near_rows n g.grid.create (λ (s : SectionPos). not (is_present g s)) (λ s h. around_in_limits g.grid c s grid within (leb-true _ _ h))).1 in
    omega (arith, near, count_by-le-length (λ (s : SectionPos). not (is_present g s)) (square n g.grid.create), length-square n g.grid.create grid.create_high)

pub added_few : (g : GridState) (c : ChunkPos) → Rules g → IsGrid g.grid → is_chunk c ≡ true → present_count (add g c) ≤ present_count g + 289
added_few g c rules grid within = omega (arith, present_add g c rules grid within, wanted_few g c grid within)

wished_few : (rec : Recorded) (w : World) (x : Wish) (r : ℕ) → Ending r w → WishOk rec x → present_count (accepted w x).grid ≤ present_count w.grid + 289
unfolding accepted posted
wished_few rec w x r e ok = elim (cases_Bool (is_full w.grid x.chunk)) [
  | inl full ↦ rw (full, grid_put_back w x.action x.back) (omega arith)
  | inr room ↦ rw room (added_few w.grid x.chunk e.sound.rules e.sound.grid ok.chunk)
]

pub all_wished_few : (rec : Recorded) (w : World) (xs : List Wish) (r : ℕ) → Ending r w → AllByRecursion (WishOk rec) xs
    → present_count (all_accepted w xs).grid ≤ present_count w.grid + 289 * length xs
all_wished_few rec w [] r e ok = omega arith
all_wished_few rec w (x ∷ xs) r e ok =
    omega (arith, wished_few rec w x r e ok.0, all_wished_few rec (accepted w x) xs r (accepted_ending rec w x r e ok.0) ok.1)

-- ---- the parts that a release makes

ninths_less : (a b : ℕ) → a ≤ b → min a 16384 / 9 ≤ min b 16384 / 9
ninths_less a b l = elim (cases_lt 16384 b) [
  | inl high ↦ let e : min b 16384 ≡ 16384 = min-eq_right (omega arith) in let d = min-le_right a 16384 in rw e (omega arith)
  | inr low ↦ let e : min b 16384 ≡ b = min-eq_left low in let d : min a 16384 ≡ a = min-eq_left (omega arith) in rw (e, d) (omega arith)
]

ninth_below : (k p m : ℕ) → 9 * k ≤ p → p ≤ 16384 → p ≤ m → k ≤ min m 16384 / 9
ninth_below k p m nine most l = let x : min p 16384 ≡ p = min-eq_left most in let y = ninths_less p m l in let z : p / 9 ≤ min m 16384 / 9 = rw x at y in omega arith

-- with fewer sections, and holds to come, there are fewer
pub parts_less : (g h : GridState) (n m : ℕ) → present_count h + 289 * n ≤ present_count g + 289 * m → parts_at_most h n ≤ parts_at_most g m
unfolding parts_at_most
parts_less g h n m l = ninths_less _ _ l

-- so many that have nine sections each
pub parts_enough : (g h : GridState) (k n : ℕ) → 9 * k ≤ present_count h → Rules h → present_count h ≤ present_count g + 289 * n → k ≤ parts_at_most g n
unfolding parts_at_most
parts_enough g h k n nine rules l = ninth_below k (present_count h) _ nine rules.count l
