use Rattle.std.proofs.Common.{◌<◌, ◌≤◌, get_or, length, refl, ◌∙◌, ap, arith}
use Rattle.fol_blocks.specs.Pages.{Found, Lacking}
use Rattle.fol_blocks.proofs.Spots.{found_on, has_spot, lacking_behind, lacking_on, order_on, takes_spot}
use Rattle.fol_blocks.proofs.pages.search.Goals as goal

pub place_of-requires : goal.place_of-requires
place_of-requires c = rw (c.deref.ensures.value, c.index-pages-page.is) (order_on c.args.pages.now c.page_around-page.result c.index-pages-page.result c.requires.order (omega arith))

pub returns-in-Ok : goal.returns-in-Ok
returns-in-Ok c =
    let page = c.deref.ensures.value ∙ ap (λ p. p.items) c.index-pages-page.is in
    let in_pages : c.page_around-page.result < length c.args.pages.now = omega arith in
    let f : Found (get_or c.args.pages.now c.page_around-page.result c.index-pages-page.result).items c.args.at c.in-Ok.index = rw page at c.in-Ok.ensures in
    (has_spot c.args.pages.now c.page_around-page.result c.in-Ok.index c.index-pages-page.result in_pages f.0, found_on c.args.pages.now c.args.at c.page_around-page.result c.in-Ok.index c.index-pages-page.result in_pages f)

pub returns-in-Err : goal.returns-in-Err
returns-in-Err c =
    let page = c.deref.ensures.value ∙ ap (λ p. p.items) c.index-pages-page.is in
    let in_pages : c.page_around-page.result < length c.args.pages.now = omega arith in
    let f : Lacking (get_or c.args.pages.now c.page_around-page.result c.index-pages-page.result).items c.args.at c.in-Err.index = rw page at c.in-Err.ensures in
    (takes_spot c.args.pages.now c.page_around-page.result c.in-Err.index c.index-pages-page.result in_pages f.0, lacking_on c.args.pages.now c.args.at c.page_around-page.result c.in-Err.index c.index-pages-page.result in_pages c.page_around-page.ensures.around f)

pub returns-then-page-pages : goal.returns-then-page-pages
returns-then-page-pages c =
    let l : length c.args.pages.now ≤ c.page_around-page.result = omega arith in (
      (omega arith, λ d k. absurd (omega arith), λ k. refl),
      lacking_behind c.args.pages.now c.args.at c.page_around-page.result l c.page_around-page.ensures.around,
    )
