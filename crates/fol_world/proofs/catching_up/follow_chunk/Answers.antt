use Rattle.std.proofs.Common.{◌≡◌, ℕ, ◌∙◌, refl, sym, ap, arith, true, false, filter}
use Rattle.std.specs.Prelude.{nat_lt}
use Rattle.std.proofs.lemmas.Bool.{lt-ltb}
use Rattle.fol_model.specs.ActionStep.{at_id}
use Rattle.fol_model.specs.Universe.{all_chunks}
use Rattle.fol_model.specs.Outputs.{is_chunk_of}
use Rattle.fol_laws.proofs.FunctionsChanged.{at_here}
use Rattle.fol_regions.specs.Table.{grid_state}
use Rattle.fol_store.specs.Bag.{Bag}
use Rattle.fol_store.specs.Stock.{bag_of}
use Rattle.fol_world.proofs.CatchingUp.{caught_gain, caught_lose, caught_none, own_place}
use Rattle.fol_world.proofs.ChunkLists.{kept_listed, loaded_within}
use Rattle.fol_world.proofs.catching_up.follow_chunk.Goals as goal

pub gain-requires-clause-known : goal.gain-requires-clause-known
gain-requires-clause-known c = let h = c.requires.here in rw h refl

pub gain-requires-clause-order : goal.gain-requires-clause-order
gain-requires-clause-order c w = (c.requires.follows w).order

pub lose-requires-clause-known : goal.lose-requires-clause-known
lose-requires-clause-known c = let h = c.requires.here in rw h refl

pub lose-requires-clause-order : goal.lose-requires-clause-order
lose-requires-clause-order c w = (c.requires.follows w).order

pub lose-requires-clause-no_task : goal.lose-requires-clause-no_task
lose-requires-clause-no_task c home =
    let e : (grid_state c.args.regions.now).holds c.args.c ≡ 0 = omega (arith, c.holds.ensures, c.if-holds-eq0.true) in
    c.requires.tasks c.args.c (rw e refl)

pub unsettle-requires : goal.unsettle-requires
unsettle-requires c = let h = c.requires.here in record { known = rw h refl }

pub returns-then-holds-eq0-clause-own : goal.returns-then-holds-eq0-clause-own
returns-then-holds-eq0-clause-own c =
    let e : (grid_state c.args.regions.now).holds c.args.c ≡ 0 = omega (arith, c.holds.ensures, c.if-holds-eq0.true) in
    let none : is_chunk_of (grid_state c.args.regions.now) c.args.region c.args.c ≡ false = rw e refl in
    caught_lose c.args.c (filter (is_chunk_of (grid_state c.args.regions.now) c.args.region) all_chunks) (bag_of c.args.store.now c.args.region) (bag_of c.lose.new.self c.args.region) c.requires.home c.requires.follows
    c.lose.ensures.own (ap (λ p. p c.args.c) (kept_listed (is_chunk_of (grid_state c.args.regions.now) c.args.region) (loaded_within (grid_state c.args.regions.now) c.args.region c.keeps_rules.ensures)) ∙ none)

pub returns-then-holds-eq0-clause-bags : goal.returns-then-holds-eq0-clause-bags
returns-then-holds-eq0-clause-bags c = own_place (bag_of c.args.store.now) (bag_of c.lose.new.self) c.args.region c.lose.ensures.others

pub returns-then-has_section-clause-own : goal.returns-then-has_section-clause-own
returns-then-has_section-clause-own c =
    let loaded : nat_lt 0 ((grid_state c.args.regions.now).holds c.args.c) ≡ true = lt-ltb _ _ (omega (arith, c.holds.ensures, c.if-holds-eq0.false)) in
    let own = sym c.has_section.ensures ∙ c.if-has_section.true in
    let one : is_chunk_of (grid_state c.args.regions.now) c.args.region c.args.c ≡ true = rw (loaded, own) refl in
    caught_gain c.args.c (filter (is_chunk_of (grid_state c.args.regions.now) c.args.region) all_chunks) (bag_of c.args.store.now c.args.region) (bag_of c.gain.new.self c.args.region) c.requires.home c.requires.follows
    c.gain.ensures.own (ap (λ p. p c.args.c) (kept_listed (is_chunk_of (grid_state c.args.regions.now) c.args.region) (loaded_within (grid_state c.args.regions.now) c.args.region c.keeps_rules.ensures)) ∙ one)

pub returns-then-has_section-clause-bags : goal.returns-then-has_section-clause-bags
returns-then-has_section-clause-bags c = own_place (bag_of c.args.store.now) (bag_of c.gain.new.self) c.args.region c.gain.ensures.others

pub returns-else-has_section-clause-own : goal.returns-else-has_section-clause-own
returns-else-has_section-clause-own c =
    caught_none (filter (is_chunk_of (grid_state c.args.regions.now) c.args.region) all_chunks) (bag_of c.args.store.now c.args.region) (bag_of c.unsettle.new.self c.args.region)
    (ap (λ (f : ℕ → Bag). f c.args.region) c.unsettle.ensures.bags ∙ at_here (bag_of c.args.store.now) c.args.region _)

pub returns-else-has_section-clause-bags : goal.returns-else-has_section-clause-bags
returns-else-has_section-clause-bags c =
    let own = ap (λ (f : ℕ → Bag). f c.args.region) c.unsettle.ensures.bags ∙ at_here (bag_of c.args.store.now) c.args.region _ in
    c.unsettle.ensures.bags ∙ ap (λ (b : Bag). at_id (bag_of c.args.store.now) c.args.region b) (sym own)
