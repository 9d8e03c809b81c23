-- Where no region ticks the store has all that the world has.
use Rattle.std.proofs.Common.{◌≡◌, ◌≢◌, ℕ, refl, sym, ◌∙◌, true, false, inl, inr, not}
use Rattle.std.specs.Prelude.{nat_eq, map, Option, Some, None}
use Rattle.std.specs.List.{AllByRecursion, find, list_any}
use Rattle.std.proofs.Math.Path.{fun_ext}
use Rattle.std.proofs.lemmas.Bool.{cases_Bool, eqb-false, true≢false}
use Rattle.fol_model.specs.declared.places.ChunkPos.{ChunkPos}
use Rattle.fol_model.specs.declared.regions.State.{State}
use Rattle.fol_model.specs.declared.regions.State.TheVariants.{Transient, Ready, Ticking, Dead}
use Rattle.fol_model.specs.GridState.{GridState, is_dead, is_ticking}
use Rattle.fol_model.specs.Universe.{numbers_below}
use Rattle.fol_model.specs.Job.{Job}
use Rattle.fol_model.specs.Rules.{Rules}
use Rattle.fol_model.specs.World.{World}
use Rattle.fol_model.specs.Outputs.{region_row, region_rows}
use Rattle.fol_laws.proofs.AddTarget.{is_ticking-true}
use Rattle.fol_laws.proofs.NumberOrder.{in_numbers}
use Rattle.fol_laws.proofs.SoundState.{SoundWorld}
use Rattle.fol_store.specs.Stock.{Stock, flat_of, jobs_of, bag_of}
use Rattle.fol_world.specs.Hands.{at_rest, in_hands, owner_of, rests, went}
use Rattle.fol_world.specs.Bags.{StoredIn}
use Rattle.fol_world.specs.Closings.{HasRow, live_in, row_in, ticks_in}
use Rattle.fol_world.proofs.Flats.{outside_none}
use Rattle.fol_world.proofs.HandSteps.{ticker_off}
use Rattle.fol_world.proofs.KeyedRows.{map_passing, none_passes, passing}
use Rattle.fol_world.proofs.LeastFound.{holds_of, kept_number}
use Rattle.fol_world.proofs.UnsettledBags.{not_dead}

pub dead_not : (s : State) → not (is_dead s) ≡ true → s ≢ Dead
dead_not s h e = let k : false ≡ true = rw e at h in absurd (cc)

pub ticking_lives : (s : State) → is_ticking s ≡ true → not (is_dead s) ≡ true
ticking_lives Transient h = refl
ticking_lives Ready h = refl
ticking_lives Ticking h = refl
ticking_lives Dead h = absurd (true≢false (sym h))

-- a region that is not Dead is in the list of those
pub in_live : (g : GridState) (r : ℕ) → Rules g → g.state r ≢ Dead → list_any (nat_eq r) (live_in g) ≡ true
in_live g r rules h = kept_number (λ r. not (is_dead (g.state r))) r (numbers_below g.next) (not_dead (g.state r) h) (in_numbers g.next r (rules.below_next r h))

-- no region ticks
pub calm : (g : GridState) → Rules g → find (ticks_in g) (live_in g) ≡ None → (r : ℕ) → is_ticking (g.state r) ≡ false
calm g rules none r = elim (cases_Bool (is_ticking (g.state r))) [
  | inl e ↦ let t : g.state r ≡ Ticking = is_ticking-true _ e in
      let l = in_live g r rules (λ d. let k : Ticking ≡ Dead = sym t ∙ d in absurd (cc)) in
      let f = holds_of (λ r. ticks_in g r ≡ false) r (live_in g) (none_passes (ticks_in g) (live_in g) none) l in absurd (true≢false (sym e ∙ f))
  | inr e ↦ e
]

module _ (w : World) (k : Stock) (since : ℕ → ℕ) (s : SoundWorld w) (stored : StoredIn k w since) (still : (r : ℕ) → is_ticking (w.grid.state r) ≡ false) where
  free_hands : (c : ChunkPos) → in_hands w.grid w.recorded c ≡ false
  unfolding in_hands
  free_hands c = let e = ticker_off w.grid c (still (owner_of w.grid c)) in rw e refl

  pub all_flat : flat_of k ≡ w.flat
  all_flat = stored.flat ∙ outside_none (in_hands w.grid w.recorded) w.flat free_hands

  none_went : (c : ChunkPos) (n : ℕ) → went w.grid since c n ≡ false
  unfolding went
  none_went c n = let e = ticker_off w.grid c (still (owner_of w.grid c)) in rw e refl

  rests_all : (n : ℕ) (o : Option Job) → w.jobs n ≡ o → at_rest w.grid since n o ≡ o
  rests_all n None e = refl
  rests_all n (Some j) e = elim (cases_Bool (nat_eq j.taker 0)) [
    | inl t ↦ let z = none_went j.chunk n in rw (t, z) refl
    | inr t ↦ let q : w.grid.state j.taker ≡ Ticking = (s.each n j e).takes (eqb-false _ _ t) in
        let f = still j.taker in absurd (let m : is_ticking Ticking ≡ false = rw q at f in true≢false m)
  ]

  pub all_jobs : jobs_of k ≡ w.jobs
  all_jobs = stored.jobs ∙ fun_ext (λ n. rests_all n (w.jobs n) refl)

  rests_there : (r : ℕ) → not (is_dead (w.grid.state r)) ≡ true → rests w.grid r ≡ true
  rests_there r h = let e = still r in rw (h, e) refl

  same_row : (r : ℕ) → not (is_dead (w.grid.state r)) ≡ true → row_in w.grid (bag_of k) r ≡ region_row w r
  same_row r h = let b = stored.bags r in let t = b.counter (rests_there r h) in let o = b.owes (rests_there r h) in rw (t, o) refl

  -- the rows of the bags are those of the regions
  pub rows_of_bags : map (row_in w.grid (bag_of k)) (live_in w.grid) ≡ region_rows w
  unfolding region_rows
  rows_of_bags = map_passing (row_in w.grid (bag_of k)) (region_row w) (λ r. not (is_dead (w.grid.state r))) same_row (numbers_below w.grid.next)

  pub have_rows : AllByRecursion (HasRow w.grid (bag_of k)) (live_in w.grid)
  have_rows = passing (λ r. not (is_dead (w.grid.state r))) (HasRow w.grid (bag_of k)) (λ r h. let d = dead_not (w.grid.state r) h in record {
    above = s.rules.given r d;
    below = s.rules.below_next r d;
    here = (stored.bags r).here ∙ rests_there r h;
  }) (numbers_below w.grid.next)
