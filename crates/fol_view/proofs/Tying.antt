-- Each step keeps the rule of the two copies.
use Rattle.std.proofs.Common.{◌≡◌, ◌≢◌, ℕ, List, [], ◌∷◌, ◌++◌, set, sym, refl, ◌∙◌, subst, ⊎_elim, Option, Some, None}
use mathlib.Core.Option.{some, some-ne-none}
use lib.ListN.{get_elem?}
use Rattle.crossbeam_utils.specs.Register.{Admits, TurnsAt, Turns, Forks, Merges}
use Rattle.atomic_table.proofs.Lists.{at_set, at_snoc}
use Rattle.fol_view.specs.Publications.{Listed}
use Rattle.fol_view.specs.Boards.{Showing, MayShow, listed_of}
use Rattle.fol_view.specs.Ties.{Ties, Tied}

tied_set : (x : Option Showing) (views : List (Option Listed)) (seat : ℕ) (w : Option Listed) → Tied x views → Ties x w → Tied x (set views seat w)
tied_set x views seat w h mine j u e = ⊎_elim (λ (t : (j ≡ seat) × (w ≡ u)). subst (λ (v : Option Listed). Ties x v) t.1 mine) (λ (t : (j ≢ seat) × (get_elem? views j ≡ some u)). h j u t.1) (at_set views seat j w u e)

tied_more : (x : Option Showing) (views : List (Option Listed)) (w : Option Listed) → Tied x views → Ties x w → Tied x (views ++ w ∷ [])
tied_more x views w h mine j u e = ⊎_elim (λ (t : get_elem? views j ≡ some u). h j u t) (λ (t : w ≡ u). subst (λ (v : Option Listed). Ties x v) t mine) (at_snoc views w u j e)

ties_none : (x : Option Showing) → Ties x None
ties_none None = tt
ties_none (Some q) = tt

pub admits : Admits Tied None
admits x views h = tied_more x views None h (ties_none x)

pub begins : Tied None (None ∷ [])
begins = tied_more None [] None (λ j u e. absurd (some-ne-none u (sym e))) tt

pub reads : (seat : ℕ) (v : Option Listed) → Turns Tied seat v (λ x. x) (λ v x y w. (w ≡ v) × Ties y v)
reads seat v x views h at = (v, tied_set x views seat v h (h seat v at), (refl, h seat v at))

moves : (x : Option Showing) (p : Showing) (v : Option Listed) → MayShow x p → Ties x v → Ties (Some p) v
moves x p None may t = tt
moves None p (Some l) may t = absurd t
moves (Some q) p (Some l) may t = sym may ∙ t

pub shows : (seat : ℕ) (v : Option Listed) (x : Option Showing) (p : Showing) → MayShow x p → TurnsAt Tied seat v x (Some p) (λ v x y w. w ≡ listed_of y)
shows seat v x p may views h at = (listed_of (Some p), tied_set (Some p) views seat (listed_of (Some p)) (λ j u e. moves x p u may (h j u e)) refl, refl)

pub tells : (seat : ℕ) (v : Option Listed) → Forks Tied seat v v v
tells seat v x views h at = tied_more x (set views seat v) v (tied_set x views seat v h (h seat v at)) (h seat v at)

pub hears : (seat : ℕ) (v : Option Listed) (other : ℕ) (w : Option Listed) → Merges Tied seat v other w w None
hears seat v other w x views h at two there =
    let was : get_elem? views other ≡ some w = ⊎_elim (λ (t : (other ≡ seat) × (w ≡ w)). absurd (two t.0)) (λ (t : (other ≢ seat) × (get_elem? views other ≡ some w)). t.1) (at_set views seat other w w there) in
    tied_set x (set views seat w) other None (tied_set x views seat w h (h other w was)) (ties_none x)
