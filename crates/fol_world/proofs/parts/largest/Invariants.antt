use Rattle.std.proofs.Common.{◌≡◌, true}
use Rattle.std.specs.Prelude.{nat_eq}
use Rattle.std.specs.List.{list_any}
use Rattle.std.specs.Option.{ForSome}
use Rattle.fol_world.proofs.parts.largest.Given as goal

abbrev pub invariant-loop-id : goal.invariant-loop-id
invariant-loop-id l = record {
  among : ForSome l.largest (λ id. list_any (nat_eq id) l.ids ≡ true);
}
