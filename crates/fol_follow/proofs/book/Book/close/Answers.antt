use Rattle.fol_follow.specs.Meaning.{Meaning}
use Rattle.fol_follow.proofs.Turning.{closes}
use Rattle.fol_follow.proofs.book.Book.close.Goals as goal

pub returns : goal.returns
returns c =
    let m : Meaning = c.close.result in
    closes c.args.seats.items m c.into_closing.result c.close.ensures.seats c.close.ensures.others c.into_closing.ensures.history c.into_closing.ensures.run c.into_closing.ensures.left
