-- One hold less and the begin of a tick keep the rules.
use Rattle.std.proofs.Common.{◌≡◌, ℕ, arith, refl}
use Rattle.std.proofs.lemmas.Grind.{common_steps}
use Rattle.fol_model.specs.declared.places.ChunkPos.{ChunkPos}
use Rattle.fol_model.specs.declared.regions.State.TheVariants.{Ready}
use Rattle.fol_model.specs.GridState.{GridState, empty}
use Rattle.fol_model.specs.declared.grids.Grid.{Grid}
use Rattle.fol_model.specs.Universe.{all_sections}
use Rattle.fol_laws.proofs.ListCounts.{count_by-none}
use Rattle.fol_model.specs.Drop.{drop_hold}
use Rattle.fol_model.specs.Begin.{begin}
use Rattle.fol_model.specs.Rules.{Rules}
use Rattle.fol_laws.proofs.SamePlaces.{same_chunk-true}

pub drop_keeps : (g : GridState) (c : ChunkPos) → Rules g → Rules (drop_hold g c)
unfolding drop_hold
drop_keeps g c rules = grind (arith, common_steps, same_chunk-true)

pub begin_keeps : (g : GridState) (r : ℕ) → Rules g → g.state r ≡ Ready → Rules (begin g r)
unfolding begin
begin_keeps g r rules e = grind (arith, common_steps)

pub empty_keeps : (grid : Grid) → Rules (empty grid)
empty_keeps grid = record {
  section_limits = λ s h. absurd (omega arith);
  chunk_limits = λ k h. absurd (omega arith);
  owner_lives = λ s h. absurd (omega arith);
  has_section = λ r h. absurd (h refl);
  count = omega (arith, count_by-none _ (λ s. refl) all_sections);
  margin = λ k s h. absurd (omega arith);
  together = λ a b h. absurd (omega arith);
  waiting = λ u t h. absurd (cc);
  awaited = λ u t h. absurd (cc);
  has_pair = λ u h. absurd (cc);
  given = λ r h. absurd (h refl);
  below_next = λ r h. absurd (h refl);
  next_id = omega arith;
  nine_ready = λ r h. absurd (cc);
  nine_ticking = λ r h. absurd (cc);
}
