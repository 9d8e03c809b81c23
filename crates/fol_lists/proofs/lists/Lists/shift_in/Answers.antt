use Rattle.std.proofs.Common.{◌≡◌, ◌∙◌, ◌++◌, ap, arith, drop, length, take}
use Rattle.fol_lists.specs.Numbered.{shifted}
use Rattle.fol_lists.proofs.Views.{all_written, listed_changed, numbered_is}
use Rattle.fol_lists.proofs.lists.Lists.shift_in.Goals as goal

pub returns : goal.returns
returns g c =
    let s = c.self.inside in
    let long = c.shift_list.ensures.len ∙ ap length c.deref_mut.ensures.value in
    let all : take s.cells.len (c.shift_list.new.cells ++ drop (length c.shift_list.new.cells) s.cells.items) ≡ c.shift_list.new.cells = all_written c.shift_list.new.cells s.cells.items s.cells.len long (omega arith) in
    let shifts = rw (c.deref.ensures.value, c.deref_mut.ensures.value) at c.shift_list.ensures.shifted in
    rw (all, ← c.self.view_is)
    (numbered_is _ _ s.room
    (listed_changed s.cells.items c.shift_list.new.cells s.spans.items s.spans.items s.numbers c.args.n (λ xs. shifted xs c.args.start c.args.end c.args.by c.args.xs.now) (omega arith) (omega arith) shifts))
