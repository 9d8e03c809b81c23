use Rattle.std.proofs.Common.{◌≡◌, ◌∙◌, sym, ap, subst, arith, ℕ}
use Rattle.std.specs.Prelude.{None, Some}
use Rattle.fol_slots.specs.Shown.{Worker}
use Rattle.fol_offers.specs.Offered.{Offered}
use Rattle.fol_live.specs.Hands.{MissesThese}
use Rattle.fol_live.specs.Rounds.{numbers_from}
use Rattle.fol_live.proofs.Trying.{misses_more, misses_none, no_region}
use Rattle.fol_live.proofs.hand.Hand.claim_within.Goals as goal

pub loop-i-init : goal.loop-i-init
loop-i-init c =
    let w : Worker Offered = c.self.inside.worker in
    let free : w.slot ≡ None = rw c.self.view_is c.requires.free in
    record {
      reached = omega arith;
      empty = no_region c.self.inside.region w c.self.invariant free;
      missed = subst (λ (x : Worker Offered). MissesThese x w (numbers_from c.args.first c.args.first)) c.self.view_is (misses_none w c.args.first);
    }

pub invariant_of-self : goal.invariant_of-self
invariant_of-self c =
    let w : Worker Offered = c.self.inside.worker in
    let free : w.slot ≡ None = rw c.self.view_is c.requires.free in
    let before = c.self.invariant.free (no_region c.self.inside.region w c.self.invariant free) in
    let same = ap (λ (x : Worker Offered). x.slot) c.loop-i.invariant.missed.is in
    let claimed = ap (λ (x : Worker Offered). x.claimed) c.loop-i.invariant.missed.is in
    record {
      free = λ e. (same ∙ c.requires.free, claimed ∙ ap (λ (x : Worker Offered). x.claimed) (sym c.self.view_is) ∙ before.1);
      has = λ r e. absurd (none_is r (sym c.loop-i.invariant.empty ∙ e));
    }
  where
    none_is : (r : ℕ) → None ≡ Some r → ⊥
    none_is r e = cc

pub loop-i-preserved : goal.loop-i-preserved
loop-i-preserved c =
    let told = c.in-Taken.ensures in
    let low = c.loop-i.invariant.reached in
    record {
      reached = omega (arith, low);
      empty = c.loop-i.invariant.empty;
      missed = misses_more c.args.self.now c.loop-i.self-inside.worker c.try_claim.new.seat c.args.first c.loop-i.i c.in-Taken.field-0 low c.loop-i.invariant.missed told.0 told.1;
    }
