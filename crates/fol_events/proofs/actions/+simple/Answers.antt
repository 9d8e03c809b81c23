use Rattle.std.proofs.Common.{◌≡◌, ◌∙◌, ◌-◌, true, false, refl, sym, ap, Err}
use Rattle.fol_model.specs.Nesting.{deed_of}
use Rattle.fol_events.specs.declared.faults.Fault.{Fault}
use Rattle.fol_events.proofs.Posting.{no_post, no_chunk, no_delay, no_inner, no_words, simple_post, delay_is, post_words}
use Rattle.fol_events.proofs.actions.+simple.Goals as goal

pub returns-then-not-is_post-clause-none : goal.returns-then-not-is_post-clause-none
returns-then-not-is_post-clause-none t c e =
    no_post c.args.posts c.args.word.now c.args.words.now (rw e at c.plain.ensures.none) (λ both. let k : false ≡ true = c.if-not-is_post.ensures.1 both in cc)

pub returns-in_err-chunk-clause-none : goal.returns-in_err-chunk-clause-none
returns-in_err-chunk-clause-none t c e = no_chunk c.args.posts c.args.word.now c.args.words.now (c.if-not-is_post.ensures.0 refl).1 c.in_err-chunk.ensures.none

pub returns-in_err-delay-clause-none : goal.returns-in_err-delay-clause-none
returns-in_err-delay-clause-none t c e = no_delay c.args.posts c.args.word.now c.args.words.now c.chunk.new.self c.in_ok-chunk.chunk (c.if-not-is_post.ensures.0 refl).1 c.in_ok-chunk.ensures.found.1 c.in_err-delay.ensures.none

pub returns-in_err-next-clause-none : goal.returns-in_err-next-clause-none
returns-in_err-next-clause-none t c e =
    no_inner c.args.posts c.args.word.now c.args.words.now c.chunk.new.self c.positive.new.self c.in_ok-chunk.chunk c.in_ok-delay.delay (c.if-not-is_post.ensures.0 refl).1 c.in_ok-chunk.ensures.found.1 c.in_ok-delay.ensures.found.2
    (no_words (c.args.posts - 1) c.positive.new.self c.in_err-next.ensures.none)

pub returns-in_err-inner-clause-none : goal.returns-in_err-inner-clause-none
returns-in_err-inner-clause-none t c e =
    let same = rw e at c.from_residual-in_err-inner.ensures in
    let none = c.in_err-inner.ensures.none (ap (λ (f : Fault). Err f) (sym same.1)) in
    no_inner c.args.posts c.args.word.now c.args.words.now c.chunk.new.self c.positive.new.self c.in_ok-chunk.chunk c.in_ok-delay.delay (c.if-not-is_post.ensures.0 refl).1 c.in_ok-chunk.ensures.found.1 c.in_ok-delay.ensures.found.2
    (λ d h f. none d h (sym c.in_ok-next.ensures.found ∙ f))

pub returns-clause-found : goal.returns-clause-found
returns-clause-found t c =
    let post = c.if-not-is_post.ensures.0 refl in
    let chunk = c.in_ok-chunk.ensures.found in
    let delay = c.in_ok-delay.ensures.found in
    let inner = c.in_ok-inner.ensures.found in
    rw c.in_ok-new.ensures (
      simple_post c.args.posts c.in_ok-chunk.chunk c.in_ok-delay.delay (deed_of c.in_ok-inner.inner) post.0 chunk.0 (delay_is c.in_ok-delay.delay delay.0 delay.1) inner.0,
      post_words c.args.word.now c.args.words.now c.chunk.new.self c.positive.new.self c.in_ok-chunk.chunk c.in_ok-delay.delay (deed_of c.in_ok-inner.inner) post.1 chunk.1 delay.2 (c.in_ok-next.ensures.found ∙ inner.1),
    )
