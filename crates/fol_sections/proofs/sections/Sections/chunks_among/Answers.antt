use Rattle.std.proofs.Common.{◌∙◌, ap, arith, ◌++◌}
use Rattle.std.specs.Prelude.{flat_map}
use Rattle.fol_sections.proofs.HeldChunks.{listed_known, listed_words}
use Rattle.fol_sections.proofs.sections.Sections.chunks_among.Goals as goal

pub list_all-requires-clause-known : goal.list_all-requires-clause-known
list_all-requires-clause-known c = listed_known c.self.inside.grid c.self.inside.holds.entries c.self.inside.pages.entries c.self.inside.count c.self.invariant.0

pub list_all-requires-clause-room : goal.list_all-requires-clause-room
list_all-requires-clause-room c =
    let room = rw (← c.self.view_is) at c.requires.room in
    let words = listed_words c.self.inside.grid c.self.inside.holds.entries c.self.inside.pages.entries c.self.inside.filled.items c.self.inside.died.items c.self.inside.spare c.self.inside.count c.self.invariant.0 in
    omega (arith, room, words.1 c.args.list.now)

pub returns-clause-chunks : goal.returns-clause-chunks
returns-clause-chunks c =
    let words = listed_words c.self.inside.grid c.self.inside.holds.entries c.self.inside.pages.entries c.self.inside.filled.items c.self.inside.died.items c.self.inside.spare c.self.inside.count c.self.invariant.0 in
    rw (← c.self.view_is) (c.list_all.ensures.listed ∙ ap (λ f. c.args.out.now.items ++ flat_map f c.args.list.now) words.0)
