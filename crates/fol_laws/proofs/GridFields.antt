-- What the steps of the grid do to its fields.
use Rattle.std.proofs.Common.{◌≡◌, ℕ, ◌+◌, ◌-◌, ◌≤◌, ◌<◌, refl, arith, false, inl, inr, ◌&&◌, not}
use Rattle.std.specs.Prelude.{◌≢◌, nat_eq, nat_le, nat_lt}
use Rattle.std.proofs.lemmas.Grind.{common_steps}
use Rattle.std.proofs.lemmas.Bool.{cases_Bool, and_parts, and_right, leb-true, ne_eqb}
use Rattle.fol_model.specs.declared.places.ChunkPos.{ChunkPos}
use Rattle.fol_model.specs.declared.grids.Grid.{Grid}
use Rattle.fol_model.specs.declared.regions.State.TheVariants.{Ticking}
use Rattle.fol_model.specs.GridNumbers.{IsGrid}
use Rattle.fol_model.specs.GridState.{GridState, at_chunk}
use Rattle.fol_model.specs.Drop.{drop_hold}
use Rattle.fol_model.specs.Begin.{begin}
use Rattle.fol_model.specs.Release.{release, must_wait, cleans, is_part_id, is_new_part, parts}
use Rattle.fol_model.specs.Rules.{Rules}
use Rattle.fol_laws.proofs.OrderSteps.{less}

pub grid_ok : (a b : Grid) → a ≡ b → IsGrid b → IsGrid a
grid_ok a b e h = rw e h

pub holds_drop : (g : GridState) (c q : ChunkPos) → (drop_hold g c).holds q ≡ at_chunk g.holds c (g.holds c - 1) q
unfolding drop_hold
holds_drop g c q = refl

pub grid_drop : (g : GridState) (c : ChunkPos) → (drop_hold g c).grid ≡ g.grid
unfolding drop_hold
grid_drop g c = refl

pub state_drop : (g : GridState) (c : ChunkPos) → (drop_hold g c).state ≡ g.state
unfolding drop_hold
state_drop g c = refl

-- fewer holds keep the rules
pub fewer_keeps : (g : GridState) (f : ChunkPos → ℕ) → Rules g → ((c : ChunkPos) → f c ≤ g.holds c) → Rules (record g { holds = f })
fewer_keeps g f rules less = record {
  section_limits = rules.section_limits;
  chunk_limits = λ c h. rules.chunk_limits c (omega (arith, less c));
  owner_lives = rules.owner_lives;
  has_section = rules.has_section;
  count = rules.count;
  margin = λ c s h. rules.margin c s (omega (arith, less c));
  together = rules.together;
  waiting = rules.waiting;
  awaited = rules.awaited;
  has_pair = rules.has_pair;
  given = rules.given;
  below_next = rules.below_next;
  next_id = rules.next_id;
  nine_ready = rules.nine_ready;
  nine_ticking = rules.nine_ticking;
}

pub begin_holds : (g : GridState) (r : ℕ) → (begin g r).holds ≡ g.holds
unfolding begin
begin_holds g r = refl

pub begin_grid : (g : GridState) (r : ℕ) → (begin g r).grid ≡ g.grid
unfolding begin
begin_grid g r = refl

pub begin_owner : (g : GridState) (r : ℕ) → (begin g r).owner ≡ g.owner
unfolding begin
begin_owner g r = refl

pub begin_here : (g : GridState) (r : ℕ) → (begin g r).state r ≡ Ticking
unfolding begin
begin_here g r = grind (arith, common_steps)

pub begin_ticking : (g : GridState) (r q : ℕ) → g.state q ≡ Ticking → (begin g r).state q ≡ Ticking
unfolding begin
begin_ticking g r q h = grind (arith, common_steps)

-- the release of one Ticking region leaves another Ticking
module _ (g : GridState) (t r : ℕ) (rules : Rules g) (other : g.state r ≡ Ticking) (differs : r ≢ t) where
  pub no_part : is_part_id g t r ≡ false
  no_part = elim (cases_Bool (is_part_id g t r)) [
    | inl e ↦ let a = and_parts (nat_le 2 (parts g t)) (nat_le g.next r && nat_lt r (g.next + parts g t)) e in
        let b = and_parts (nat_le g.next r) (nat_lt r (g.next + parts g t)) a.1 in
        let l : g.next ≤ r = leb-true _ _ b.0 in let m : r < g.next = rules.below_next r (λ d. cc) in absurd (omega arith)
    | inr e ↦ e
  ]

  pub no_new_part : is_new_part g t r ≡ false
  no_new_part = and_right (not (must_wait g t) && cleans g t) (is_part_id g t r) no_part

  no_wait : g.waits r t ≡ false
  no_wait = elim (cases_Bool (g.waits r t)) [ inl e ↦ let x = rules.waiting r t e in absurd (cc) | inr e ↦ e ]

  pub ticking_release : (release g t).state r ≡ Ticking
  unfolding release
  ticking_release = let n : nat_eq r t ≡ false = ne_eqb _ _ differs in elim (cases_Bool (must_wait g t)) [
    | inl w ↦ rw (w, n, no_wait) other
    | inr w ↦ elim (cases_Bool (cleans g t)) [
      | inl k ↦ rw (w, k, no_part, n, no_wait) other
      | inr k ↦ rw (w, k, n) other
    ]
  ]
