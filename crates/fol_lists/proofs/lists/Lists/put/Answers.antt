use Rattle.std.proofs.Common.{[], arith}
use Rattle.fol_lists.proofs.Pieces.{total_put, put_is}
use Rattle.fol_lists.proofs.Views.{numbered_is}
use Rattle.fol_lists.proofs.lists.Lists.put.Goals as goal

pub extend-requires-clause-room : goal.extend-requires-clause-room
extend-requires-clause-room g c = rw c.clear.ensures (omega (arith, c.requires.room, total_put c.args.self.now.lists c.args.n c.requires.number [] c.args.xs.now))

pub returns : goal.returns
returns g c = rw (c.extend.ensures, c.clear.ensures) (numbered_is _ _ c.args.self.now.room (put_is c.args.self.now.lists c.args.n c.requires.number [] c.args.xs.now))
