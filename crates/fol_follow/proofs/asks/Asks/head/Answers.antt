use Rattle.std.proofs.Common.{◌≡◌, rules}
use Rattle.std.specs.Option.{unwrap_or}
use Rattle.std.specs.BTreeMap.{get}
use Rattle.fol_follow.specs.Table.{pair_cmp}
use Rattle.fol_follow.proofs.asks.Asks.head.Goals as goal

pub returns : goal.returns
returns c =
    let found : c.unwrap_or.result ≡ unwrap_or (get pair_cmp c.self.inside.heads (c.args.entity, c.args.due)) 0 = search rules in
    let ahead = rw (← c.self.view_is) at c.requires in
    rw (← c.self.view_is, found) (c.self.invariant.last c.args.entity c.args.due ahead.ahead)
