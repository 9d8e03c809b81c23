-- Tasks that came are handed on, one behind the other.
use Rattle.std.proofs.Common.{◌≡◌, length, ◌∙◌, arith}
use Rattle.fol_store.specs.Stock.{Stock, next_of}
use Rattle.fol_store.specs.Steps.{SameMeaning, Roomier}

-- what more room leaves as it was stays so through a later step
pub through : (a b c : Stock) → Roomier a b → SameMeaning b c → SameMeaning a c
unfolding next_of
through a b c roomier same =
    let bags : length b.bags ≡ length a.bags = roomier.next in
    record {
      found = λ k. same.found k ∙ roomier.found k;
      bags = same.bags ∙ bags;
      spare = omega (arith, same.spare, roomier.spare);
      slots = omega (arith, same.slots, roomier.slots);
    }

-- and one such step behind another
pub both : (a b c : Stock) → SameMeaning a b → SameMeaning b c → SameMeaning a c
both a b c first later = record {
  found = λ k. later.found k ∙ first.found k;
  bags = later.bags ∙ first.bags;
  spare = omega (arith, first.spare, later.spare);
  slots = omega (arith, first.slots, later.slots);
}

pub roomier : (a b : Stock) → Roomier a b → SameMeaning a b
unfolding next_of
roomier a b more = record {
  found = more.found;
  bags = more.next;
  spare = omega (arith, more.spare);
  slots = omega (arith, more.slots);
}
