use Rattle.std.proofs.Common.{rules, ◌≡◌, subst, sym, false}
use Rattle.fol_core.specs.Meaning.{is_prepared}
use Rattle.fol_offers.specs.InTurn.{IsFree}
use Rattle.fol_offers.specs.PassedTicks.{PassesMany}
use Rattle.fol_offers.specs.Shown.{Shown}
use Rattle.fol_offers.proofs.Facts.{free_unprepared}
use Rattle.fol_offers.proofs.PassedTicks.{passes_many, passes_none}
use Rattle.fol_offers.proofs.QuietTicks.{tied_passes}
use Rattle.fol_offers.proofs.offers.Offers.pass_next.Goals as goal

pub returns-in_default-clause-passed : goal.returns-in_default-clause-passed
returns-in_default-clause-passed c = passes_none c.args.self.now.core c.args.by

pub invariant_of-self : goal.invariant_of-self
invariant_of-self c =
    let s = c.self.inside in
    let free : IsFree s.keeper.workers s.core.history c.args.by = subst (λ (v : Shown). IsFree v.workers v.core.history c.args.by) (sym c.self.view_is) c.requires.free in
    let unprepared : is_prepared s.core c.in-Some.region ≡ false = free_unprepared s.core c.in-Some.region c.self.invariant.grid (search rules) (search rules) in
    (tied_passes s.core c.pass-passed.new.self s.keeper s.places c.args.by c.in-Some.region c.pass-passed.result c.self.invariant (search rules) unprepared free c.pass-passed.ensures.passed).0

pub returns-clause-passed : goal.returns-clause-passed
returns-clause-passed c =
    let s = c.self.inside in
    subst (λ (v : Shown). PassesMany v.core c.pass-passed.new.self c.args.by c.pass-passed.result) c.self.view_is
    (passes_many s.core c.pass-passed.new.self c.args.by c.in-Some.region c.pass-passed.result c.pass-passed.ensures.passed)

pub returns-clause-free : goal.returns-clause-free
returns-clause-free c =
    let s = c.self.inside in
    let free : IsFree s.keeper.workers s.core.history c.args.by = subst (λ (v : Shown). IsFree v.workers v.core.history c.args.by) (sym c.self.view_is) c.requires.free in
    let unprepared : is_prepared s.core c.in-Some.region ≡ false = free_unprepared s.core c.in-Some.region c.self.invariant.grid (search rules) (search rules) in
    (tied_passes s.core c.pass-passed.new.self s.keeper s.places c.args.by c.in-Some.region c.pass-passed.result c.self.invariant (search rules) unprepared free c.pass-passed.ensures.passed).1
