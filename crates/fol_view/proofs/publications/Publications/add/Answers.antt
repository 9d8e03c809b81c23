use Rattle.std.proofs.Common.{sym, ◌∙◌, ap, subst}
use Rattle.fol_view.specs.Publications.{Listed, MayFollow}
use Rattle.fol_view.proofs.Adding.{adds_moves}
use Rattle.fol_view.proofs.publications.Publications.add.Goals as goal

pub compare_exchange-found-requires : goal.compare_exchange-found-requires
compare_exchange-found-requires c =
    let h = c.requires.head in
    let book = ap (λ (x : Listed). x.book) c.self.view_is in
    let offer = c.plain-offer.ensures in
    let pen = c.no_pen-pen.ensures in
    let may : MayFollow c.self.inside.seen.log c.args.publication.now = subst (λ (x : Listed). MayFollow x.list c.args.publication.now) (sym c.self.view_is) c.requires.next in (
      ap (λ w. w.tracked) h,
      book ∙ sym (ap (λ w. w.book) h),
      pen.0 ∙ (book ∙ sym (ap (λ w. w.book) h)),
      offer.0,
      rw (ap (λ w. w.key) h, pen.1, offer.1, offer.3) (adds_moves c.self.inside.seen.log c.args.publication.now c.self.inside.count (sym c.self.invariant.count_is) may),
    )
