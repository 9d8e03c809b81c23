use Rattle.std.proofs.Common.{◌≡◌, take, []}
use Rattle.fol_regions.specs.Changes.{into}
use Rattle.fol_regions.specs.Released.{Joins}
use Rattle.fol_regions.proofs.release.join_all.Given as goal

abbrev pub invariant-loop-u : goal.invariant-loop-u
invariant-loop-u l = record {
  joins : Joins l.initial.tables l.tables l.id (take l.u-index l.ids);
  change : l.change ≡ record { created = []; dead = take l.u-index l.ids; merges = into l.id (take l.u-index l.ids); parts = [] };
}
