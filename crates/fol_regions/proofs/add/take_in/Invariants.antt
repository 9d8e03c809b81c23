use Rattle.std.proofs.Common.{◌≡◌, take}
use Rattle.fol_regions.specs.Added.{Gathers, gathered, is_drawn}
use Rattle.fol_regions.proofs.add.take_in.Given as goal

abbrev pub invariant-loop-id : goal.invariant-loop-id
invariant-loop-id l = record {
  gathers : Gathers l.initial.tables l.tables l.target (is_drawn l.initial.tables l.target) (take l.id-index l.near);
  change : l.change ≡ gathered l.initial.change l.target (is_drawn l.initial.tables l.target) (take l.id-index l.near);
}
