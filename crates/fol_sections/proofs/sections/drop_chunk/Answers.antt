use Rattle.std.proofs.Common.{◌≡◌, ℕ, ◌+◌, sym, ◌∙◌, ap, arith, true, false, cond}
use Rattle.std.specs.Prelude.{nat_eq}
use Rattle.std.proofs.lemmas.Bool.{eq-eqb, ne_eqb, le-leb}
use Rattle.fol_laws.proofs.Distances.{self_distance}
use Rattle.fol_laws.proofs.SamePlaces.{same_section-self}
use Rattle.fol_sections.specs.Pages.{chunks_at, near_at}
use Rattle.fol_sections.proofs.DeadSteps.{square_none}
use Rattle.fol_sections.proofs.sections.drop_chunk.Goals as goal

pub count_chunk-requires-clause-here : goal.count_chunk-requires-clause-here
count_chunk-requires-clause-here c = c.requires.here c.args.home (le-leb _ _ (omega (arith, self_distance c.args.home)))

pub returns-then-count_chunk-eq0-clause-near : goal.returns-then-count_chunk-eq0-clause-near
returns-then-count_chunk-eq0-clause-near c = λ s.
    let home = ap (λ b. chunks_at c.count_chunk.new.pages.entries c.args.home + cond b 1 0) (sym (same_section-self c.args.home)) ∙ c.count_chunk.ensures.chunks c.args.home in
    let last : nat_eq (chunks_at c.args.pages.now.entries c.args.home) 1 ≡ true = eq-eqb _ _ (omega (arith, home, c.count_chunk.ensures.after, c.if-count_chunk-eq0.true)) in
    rw last (omega (arith, c.empty_square.ensures.near s, c.count_chunk.ensures.near s))

pub returns-else-count_chunk-eq0-clause-near : goal.returns-else-count_chunk-eq0-clause-near
returns-else-count_chunk-eq0-clause-near c = λ s.
    let home = ap (λ b. chunks_at c.count_chunk.new.pages.entries c.args.home + cond b 1 0) (sym (same_section-self c.args.home)) ∙ c.count_chunk.ensures.chunks c.args.home in
    let other : nat_eq (chunks_at c.args.pages.now.entries c.args.home) 1 ≡ false = ne_eqb _ _ (λ e. c.if-count_chunk-eq0.false (omega (arith, home, c.count_chunk.ensures.after, e))) in
    rw other (omega (arith, c.count_chunk.ensures.near s))

pub returns-else-count_chunk-eq0-clause-died : goal.returns-else-count_chunk-eq0-clause-died
returns-else-count_chunk-eq0-clause-died c =
    c.requires.none ∙ sym (square_none (λ q. nat_eq (near_at c.count_chunk.new.pages.entries q) 0) c.args.home c.args.radius (λ q w.
    ne_eqb _ _ (λ e. absurd (omega (arith, e, c.count_chunk.ensures.near q, c.requires.near_low q, ap (λ b. cond {A = ℕ} b 1 0) w)))))
