use Rattle.std.proofs.lemmas.List.{nil_from_length}
use Rattle.fol_script.proofs.Keeping.{put_last}
use Rattle.fol_script.proofs.kept.Kept.keep.Goals as goal

pub returns-then-is_above : goal.returns-then-is_above
returns-then-is_above g c = λ up.
    let rising = c.args.self.now.rising.items in
    let entries = c.args.self.now.mixed.entries in
    put_last g.K.Ord.cmp g.met.K.Ord.total rising entries c.push.new.self.items c.args.key c.args.value (nil_from_length entries (c.is_empty.ensures.0 c.if-is_empty.true)) c.in_ok-push.ensures.items (c.is_above.ensures c.if-is_above.true) up
