-- What changes where a block of pages changes.
use Rattle.std.proofs.Common.{◌≡◌, ℕ, ◌+◌, ◌-◌, List, [], ◌∷◌, length, refl, ◌∙◌, ap, arith}
use Rattle.std.specs.Prelude.{All, slice_set}
use Rattle.std.specs.Global.{Vec}
use Rattle.std.specs.List.{insert, remove}
use Rattle.std.specs.List.Sorted.{IsStrictlySortedBy}
use Rattle.std.proofs.lemmas.List.{length-set}
use Rattle.std.proofs.lemmas.List.Edits.{length-insert, length-remove}
use Rattle.std.proofs.lemmas.List.Sums.{sum_by-insert}
use Rattle.fol_model.specs.declared.openings.BlockAt.{BlockAt}
use Rattle.fol_model.specs.declared.places.BlockPos.{BlockPos}
use Rattle.fol_blocks.specs.Pages.{ArePages, Found, IsPage, Lacking, blocks_on}
use Rattle.fol_blocks.specs.Order.{by_place}
use Rattle.fol_blocks.specs.Weights.{Clears, OneMore, Puts}
use Rattle.fol_blocks.proofs.Weighing.{absent, order_inserted, order_removed, order_replaced, puts_more, removed, replaced}

-- one block
pub alone : (ps qs : List (Vec BlockAt)) (y : BlockAt) → All IsPage qs → ps ≡ [] → blocks_on qs ≡ y ∷ blocks_on ps → ArePages qs × (1 ≡ length (blocks_on qs))
unfolding IsStrictlySortedBy
alone ps qs y s none e =
    let one : blocks_on qs ≡ y ∷ [] = e ∙ ap (λ l. y ∷ blocks_on l) none in
    (record { order = rw one (tt, tt); sizes = s }, rw one refl)

module _ (ps qs : List (Vec BlockAt)) (n k : ℕ) (a : ArePages ps) (len : n ≡ length (blocks_on ps)) (s : All IsPage qs) where
  -- a block takes the place of another
  module _ (y : BlockAt) (f : Found (blocks_on ps) y.at k) (e : blocks_on qs ≡ slice_set (blocks_on ps) k y) where
    pub set_order : IsStrictlySortedBy by_place (blocks_on qs)
    set_order = rw e (order_replaced (blocks_on ps) k y a.order f)

    pub set_pages : ArePages qs × (n ≡ length (blocks_on qs))
    set_pages = (record { order = set_order; sizes = s }, omega (arith, ap length e, length-set (blocks_on ps) k y))

    pub set_puts : Puts (blocks_on ps) (blocks_on qs) y
    set_puts = rw e (replaced (blocks_on ps) k y a.order f)

  -- a block is put in
  module _ (y : BlockAt) (f : Lacking (blocks_on ps) y.at k) (e : blocks_on qs ≡ insert (blocks_on ps) k y) where
    pub in_order : IsStrictlySortedBy by_place (blocks_on qs)
    in_order = rw e (order_inserted (blocks_on ps) k y a.order f)

    pub in_pages : ArePages qs × (n + 1 ≡ length (blocks_on qs))
    in_pages = (record { order = in_order; sizes = s }, omega (arith, ap length e, length-insert (blocks_on ps) k y f.0))

    in_more : OneMore (blocks_on ps) (blocks_on qs) y
    in_more w = let one = sum_by-insert w (blocks_on ps) k y in rw e (omega (arith, one))

    pub in_puts : Puts (blocks_on ps) (blocks_on qs) y
    in_puts = puts_more (blocks_on ps) (blocks_on qs) y (absent (blocks_on ps) k y.at f) in_more

  -- a block is taken out
  module _ (b : BlockPos) (f : Found (blocks_on ps) b k) (e : blocks_on qs ≡ remove (blocks_on ps) k) where
    pub out_order : IsStrictlySortedBy by_place (blocks_on qs)
    out_order = rw e (order_removed (blocks_on ps) k a.order)

    pub out_pages : ArePages qs × (n - 1 ≡ length (blocks_on qs))
    out_pages = (record { order = out_order; sizes = s }, omega (arith, ap length e, length-remove (blocks_on ps) k f.0))

    pub out_clears : Clears (blocks_on ps) (blocks_on qs) b
    out_clears = rw e (removed (blocks_on ps) k b (record { at = b; id = 0 }) a.order f)
