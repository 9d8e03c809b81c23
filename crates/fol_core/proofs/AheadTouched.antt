-- Which regions an event may touch, and which of them are Ready, as the tables tell it while regions are prepared.
use Rattle.std.proofs.Common.{◌≡◌, ◌≢◌, ℕ, ◌<◌, refl, sym, ◌∙◌, ap, Bool, true, false, inl, inr, ◌&&◌, List}
use Rattle.std.specs.Prelude.{nat_eq, nat_lt, filter, IfSome, Option, Some, None}
use Rattle.std.proofs.lemmas.Bool.{cases_Bool, and_from, false_from_ne_true, lt-ltb, true≢false}
use Rattle.fol_model.specs.declared.events.Entry.{Entry}
use Rattle.fol_model.specs.declared.openings.Opening.{Opening}
use Rattle.fol_model.specs.declared.places.ChunkPos.{ChunkPos}
use Rattle.fol_model.specs.declared.regions.State.{State}
use Rattle.fol_model.specs.declared.regions.State.TheVariants.{Dead}
use Rattle.fol_model.specs.Add.{is_full, is_near, wanted}
use Rattle.fol_model.specs.Geometry.{section_of}
use Rattle.fol_model.specs.GridState.{GridState, is_ready}
use Rattle.fol_model.specs.Run.{world}
use Rattle.fol_model.specs.Universe.{numbers_below}
use Rattle.fol_model.specs.World.{World}
use Rattle.fol_early_laws.specs.EarlyBegins.{ahead_of}
use Rattle.fol_region_tables.proofs.Chosen.{filter_like, filter_twice}
use Rattle.fol_regions.specs.Answers.{state_answer}
use Rattle.fol_regions.specs.Table.{grid_state}
use Rattle.fol_regions.specs.Touched.{is_touched}
use Rattle.fol_world.specs.declared.tables.Tables.{Tables}
use Rattle.fol_core.specs.Ahead.{StandsAhead, may_touch}
use Rattle.fol_core.specs.Answers.{state_result}
use Rattle.fol_core.proofs.Ahead.{good_now, next_is}
use Rattle.fol_core.proofs.AheadAnswers.{state_unmarked}

-- what an event may touch does not ask which regions tick
touched_marked : (w : World) (p : ℕ → Bool) (c : ChunkPos) (r : ℕ) → is_touched (ahead_of w p).grid c r ≡ is_touched w.grid c r
unfolding ahead_of is_full wanted is_near
touched_marked w p c r = refl

-- whether what is told of a region's state is Ready
abbrev pub is_ready_answer : Option State → Bool
is_ready_answer None = false
is_ready_answer (Some st) = is_ready st

module _ (o : Opening) (h : List Entry) (p : ℕ → Bool) (t : Tables) (s : StandsAhead o h p t) where
  touched_now : (c : ChunkPos) (r : ℕ) → is_touched (grid_state t.regions) c r ≡ is_touched (world o h).grid c r
  touched_now c r = ap (λ g. is_touched g c r) s.stands.fits.regions ∙ ap (λ (v : World). is_touched v.grid c r) s.runs.ahead.is.same ∙ touched_marked (world o h) p c r

  lives : (r : ℕ) → is_ready ((world o h).grid.state r) ≡ true → (world o h).grid.state r ≢ Dead
  lives r e d = let y : is_ready Dead ≡ true = rw d at e in true≢false (sym y)

  given : (r : ℕ) → is_ready ((world o h).grid.state r) ≡ true → nat_lt 0 r ≡ true
  given r e = lt-ltb 0 r ((good_now o h p t s).sound.rules.given r (lives r e))

  -- ---- whether a region is Ready
  pub ready_marked : (r : ℕ) → p r ≡ true → is_ready ((world o h).grid.state r) ≡ true
  ready_marked r k = let e = s.runs.ahead.is.ready r k in rw e refl

  pub given_marked : (r : ℕ) → p r ≡ true → (r < (world o h).grid.next) × (is_ready ((world o h).grid.state r) ≡ true)
  given_marked r k = let ready = ready_marked r k in ((good_now o h p t s).sound.rules.below_next r (lives r ready), ready)

  pub ready_unmarked : (r : ℕ) → p r ≡ false → is_ready ((world o h).grid.state r) ≡ is_ready_answer (state_answer (grid_state t.regions) r)
  ready_unmarked r off = by_result ∙ ap is_ready_answer (sym (state_unmarked o h p t s r off))
    where
      by_result : is_ready ((world o h).grid.state r) ≡ is_ready_answer (state_result (world o h) r)
      by_result = elim (cases_Bool (nat_lt 0 r && nat_lt r (world o h).grid.next)) [
        | inl k ↦ rw k refl
        | inr k ↦ rw k (false_from_ne_true (is_ready ((world o h).grid.state r)) (λ y.
            let below = lt-ltb r (world o h).grid.next ((good_now o h p t s).sound.rules.below_next r (lives r y)) in
            true≢false (sym (and_from (nat_lt 0 r) (nat_lt r (world o h).grid.next) (given r y) below) ∙ k)))
      ]

  -- ---- the Ready ones of those that the tables name
  pick : (c : ChunkPos) (r : ℕ) → (is_ready ((world o h).grid.state r) && is_touched (grid_state t.regions) c r) ≡ may_touch (world o h) c r
  pick c r = let same = touched_now c r in elim (cases_Bool (is_ready ((world o h).grid.state r))) [ inl e ↦ let l = given r e in rw (same, e, l) refl | inr e ↦ rw (same, e) refl ]

  pub ready_touched : (c : ChunkPos) (ids : List ℕ) → ids ≡ filter (is_touched (grid_state t.regions) c) (numbers_below (grid_state t.regions).next)
      → filter (λ r. is_ready ((world o h).grid.state r)) ids ≡ filter (may_touch (world o h) c) (numbers_below (world o h).grid.next)
  ready_touched c ids e =
      ap (filter (λ r. is_ready ((world o h).grid.state r))) (e ∙ ap (λ n. filter (is_touched (grid_state t.regions) c) (numbers_below n)) (next_is o h p t s))
      ∙ filter_twice (λ r. is_ready ((world o h).grid.state r)) (is_touched (grid_state t.regions) c) (numbers_below (world o h).grid.next)
      ∙ filter_like _ _ (pick c) (numbers_below (world o h).grid.next)

  -- ---- one of them alone
  pub alone_touched : (c : ChunkPos) (one : Option ℕ) → IfSome one (λ id. (r : ℕ) → is_touched (grid_state t.regions) c r ≡ nat_eq id r)
      → IfSome one (λ id. (r : ℕ) → may_touch (world o h) c r ≡ (is_ready ((world o h).grid.state r) && nat_eq id r))
  alone_touched c None alone = tt
  alone_touched c (Some id) alone = λ r. sym (pick c r) ∙ ap (λ (b : Bool). is_ready ((world o h).grid.state r) && b) (alone r)

  pub holds_now : (c : ChunkPos) → (grid_state t.regions).holds c ≡ (world o h).grid.holds c
  unfolding ahead_of
  holds_now c = ap (λ (g : GridState). g.holds c) s.stands.fits.regions ∙ ap (λ (v : World). v.grid.holds c) s.runs.ahead.is.same

  pub owner_now : (c : ChunkPos) → (grid_state t.regions).owner (section_of (grid_state t.regions).grid c) ≡ (world o h).grid.owner (section_of (world o h).grid.grid c)
  unfolding ahead_of
  owner_now c = ap (λ (g : GridState). g.owner (section_of g.grid c)) s.stands.fits.regions ∙ ap (λ (v : World). v.grid.owner (section_of v.grid.grid c)) s.runs.ahead.is.same
