-- What is in hands stays there where no tick begins or ends.
use Rattle.std.proofs.Common.{◌≡◌, ℕ, refl, sym, ◌∙◌, ap, true, false, inl, inr, ◌&&◌}
use Rattle.std.specs.Prelude.{nat_lt, Option, Some, None}
use Rattle.std.proofs.Math.Path.{fun_ext}
use Rattle.std.proofs.lemmas.Bool.{cases_Bool, true≢false}
use Rattle.fol_model.specs.declared.places.ChunkPos.{ChunkPos}
use Rattle.fol_model.specs.declared.regions.State.TheVariants.{Ticking}
use Rattle.fol_model.specs.declared.events.Event.{Event}
use Rattle.fol_model.specs.Geometry.{section_of}
use Rattle.fol_model.specs.GridState.{GridState, is_ticking}
use Rattle.fol_model.specs.ActionStep.{Recorded}
use Rattle.fol_model.specs.Job.{Job}
use Rattle.fol_model.specs.OpenTick.{is_begin, is_end}
use Rattle.fol_model.specs.World.{World}
use Rattle.fol_model.specs.Run.{Allowed, after}
use Rattle.fol_laws.proofs.AddTarget.{is_ticking-true}
use Rattle.fol_laws.proofs.SoundState.{SoundWorld}
use Rattle.fol_laws.proofs.TickedBefore.{ticked_before}
use Rattle.fol_laws.proofs.TickingKept.{Kept, kept_after}
use Rattle.fol_world.specs.Hands.{at_rest, in_hands, owner_of, ticker, went}
use Rattle.fol_world.proofs.GridRuns.{grid_after}

-- what ticks at a chunk, by its owner
pub ticker_on : (g : GridState) (c : ChunkPos) → is_ticking (g.state (owner_of g c)) ≡ true → ticker g c ≡ owner_of g c
unfolding ticker
ticker_on g c h = rw h refl

pub ticker_off : (g : GridState) (c : ChunkPos) → is_ticking (g.state (owner_of g c)) ≡ false → ticker g c ≡ 0
unfolding ticker
ticker_off g c h = rw h refl

ticks_is : (g : GridState) (r : ℕ) → g.state r ≡ Ticking → is_ticking (g.state r) ≡ true
ticks_is g r h = rw h refl

module _ (w v : World) (grid : v.grid.grid ≡ w.grid.grid) (kept : (r : ℕ) → w.grid.state r ≡ Ticking → Kept r w v) (back : (r : ℕ) → v.grid.state r ≡ Ticking → w.grid.state r ≡ Ticking) where
  owner_same : (c : ChunkPos) → owner_of v.grid c ≡ v.grid.owner (section_of w.grid.grid c)
  owner_same c = ap (λ g. v.grid.owner (section_of g c)) grid

  pub ticker_same : (c : ChunkPos) → ticker v.grid c ≡ ticker w.grid c
  ticker_same c = let s = section_of w.grid.grid c in elim (cases_Bool (is_ticking (w.grid.state (owner_of w.grid c)))) [
    | inl h ↦ let t : w.grid.state (owner_of w.grid c) ≡ Ticking = is_ticking-true _ h in
        let k = kept (owner_of w.grid c) t in
        let o : owner_of v.grid c ≡ owner_of w.grid c = owner_same c ∙ (k.sections s).0 refl in
        ticker_on v.grid c (ap (λ r. is_ticking (v.grid.state r)) o ∙ ticks_is v.grid (owner_of w.grid c) k.ticks) ∙ o ∙ sym (ticker_on w.grid c h)
    | inr h ↦ elim (cases_Bool (is_ticking (v.grid.state (owner_of v.grid c)))) [
      | inl x ↦ let t : w.grid.state (owner_of v.grid c) ≡ Ticking = back (owner_of v.grid c) (is_ticking-true _ x) in
          let o : owner_of w.grid c ≡ owner_of v.grid c = ((kept (owner_of v.grid c) t).sections s).1 (sym (owner_same c)) in
          absurd (true≢false (sym (ap (λ r. is_ticking (w.grid.state r)) o ∙ ticks_is w.grid (owner_of v.grid c) t) ∙ h))
      | inr x ↦ ticker_off v.grid c x ∙ sym (ticker_off w.grid c h)
    ]
  ]

  hand_same : (c : ChunkPos) → in_hands v.grid v.recorded c ≡ in_hands w.grid w.recorded c
  unfolding in_hands
  hand_same c = let e = ticker_same c in elim (cases_Bool (is_ticking (w.grid.state (owner_of w.grid c)))) [
    | inl h ↦ let at = ticker_on w.grid c h in let k = kept (owner_of w.grid c) (is_ticking-true _ h) in
        rw (e, at) (ap (λ (f : Recorded). nat_lt 0 (owner_of w.grid c) && f c) k.recorded)
    | inr h ↦ let at = ticker_off w.grid c h in rw (e, at) refl
  ]

  pub hands_same : in_hands v.grid v.recorded ≡ in_hands w.grid w.recorded
  hands_same = fun_ext hand_same

  pub went_same : (since : ℕ → ℕ) (c : ChunkPos) (n : ℕ) → went v.grid since c n ≡ went w.grid since c n
  unfolding went
  went_same since c n = let e = ticker_same c in rw e refl

  pub rest_same : (since : ℕ → ℕ) (n : ℕ) (o : Option Job) → at_rest v.grid since n o ≡ at_rest w.grid since n o
  rest_same since n None = refl
  rest_same since n (Some j) = let e = went_same since j.chunk n in rw e refl

-- the same for an event that begins and ends no tick
module _ (w : World) (e : Event) (sound : SoundWorld w) (ok : Allowed w e) (no_begin : (r : ℕ) → is_begin r e ≡ false) (no_end : (r : ℕ) → is_end r e ≡ false) where
  pub kept_by : (r : ℕ) → w.grid.state r ≡ Ticking → Kept r w (after w e)
  kept_by r t = kept_after r w e sound t ok (no_end r)

  pub back_by : (r : ℕ) → (after w e).grid.state r ≡ Ticking → w.grid.state r ≡ Ticking
  back_by r t = elim (ticked_before r w e t) [ inl k ↦ k.0 | inr b ↦ absurd (true≢false (sym b ∙ no_begin r)) ]

  pub hands_by : in_hands (after w e).grid (after w e).recorded ≡ in_hands w.grid w.recorded
  hands_by = hands_same w (after w e) (grid_after w e) kept_by back_by

  pub rest_by : (since : ℕ → ℕ) (n : ℕ) (o : Option Job) → at_rest (after w e).grid since n o ≡ at_rest w.grid since n o
  rest_by = rest_same w (after w e) (grid_after w e) kept_by back_by

  pub went_by : (since : ℕ → ℕ) (c : ChunkPos) (n : ℕ) → went (after w e).grid since c n ≡ went w.grid since c n
  went_by = went_same w (after w e) (grid_after w e) kept_by back_by
