use Rattle.std.proofs.Common.{◌+◌, ◌-◌, arith}
use Rattle.fol_follow.specs.Books.{book_id}
use Rattle.fol_server.specs.Dealt.{IsNewPage}
use Rattle.fol_server.proofs.Dealt.{next}
use Rattle.fol_server.proofs.dealing.next_page.Goals as goal

pub returns-clause-left : goal.returns-clause-left
returns-clause-left c =
    let n = next (IsNewPage (book_id c.args.book.now)) c.args.number (4 - c.args.number) (4 - (c.args.number + 1)) c.args.pages.now.items c.remove.result c.remove.new.self.items
    (omega (arith, c.requires.low)) c.requires.left c.remove.ensures.value c.remove.ensures.items in
    n.left
