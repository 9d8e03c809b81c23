use Rattle.std.proofs.Common.{◌≡◌, ◌++◌, ◌∙◌, ap, get_or, arith, length, take, take-append-drop}
use Rattle.fol_blocks.specs.declared.pages.TheConstants.{HALF_PAGE}
use Rattle.fol_blocks.specs.Pages.{blocks_on}
use Rattle.fol_blocks.proofs.OnPages.{split_blocks, split_sizes}
use Rattle.fol_blocks.proofs.pages.split.Goals as goal
use Rattle.fol_blocks.proofs.pages.split.Goals.{In-Ok}

-- the two halves are the page
whole : (c : In-Ok) → c.split_off.new.self.items ++ c.in_ok-back.back.items ≡ (get_or c.reserve.new.self.items c.args.i c.index_mut-page.result.now).items
whole c =
    ap (λ xs. xs ++ c.in_ok-back.back.items) c.in_ok-back.ensures.items
    ∙ ap (λ xs. take HALF_PAGE c.index_mut-page.result.now.items ++ xs) c.in_ok-back.ensures.tail
    ∙ take-append-drop HALF_PAGE c.index_mut-page.result.now.items
    ∙ ap (λ p. p.items) c.index_mut-page.ensures.value

front : (c : In-Ok) → length c.split_off.new.self.items ≡ HALF_PAGE
front c = omega (arith, c.in_ok-back.ensures.len, c.split_off.new.self.ok)

back : (c : In-Ok) → length c.in_ok-back.back.items ≡ HALF_PAGE
back c =
    omega (
      arith,
      c.in_ok-back.ensures.tail_len,
      c.in_ok-back.back.ok,
      c.index_mut-page.result.now.ok,
      c.requires.full c.index_mut-page.result.now,
      ap (λ p. length p.items) c.index_mut-page.ensures.value,
      ap (λ ps. length (get_or ps c.args.i c.index_mut-page.result.now).items) c.in_ok-reserve.ensures.items,
    )

pub returns-clause-blocks : goal.returns-clause-blocks
returns-clause-blocks c =
    split_blocks c.reserve.new.self.items c.args.i c.index_mut-page.result.now c.split_off.new.self c.in_ok-back.back (omega arith) (front c) (back c) (whole c) c.insert.new.self.items c.in-Ok.ensures.items
    ∙ ap blocks_on c.in_ok-reserve.ensures.items

pub returns-clause-sizes : goal.returns-clause-sizes
returns-clause-sizes c =
    split_sizes c.reserve.new.self.items c.args.i c.index_mut-page.result.now c.split_off.new.self c.in_ok-back.back (omega arith) (front c) (back c) (whole c) c.insert.new.self.items c.in-Ok.ensures.items
    (rw c.in_ok-reserve.ensures.items c.requires.sizes)
