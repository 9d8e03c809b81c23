-- The words of the end of a tick behind its first word.
use Rattle.std.proofs.Common.{◌≡◌, ℕ, sym, ◌∙◌, List, [], ◌∷◌, ◌++◌, decimal, append-nil}
use Rattle.std.specs.Prelude.{codes}
use Rattle.fol_model.specs.declared.tasks.Ran.{Ran}
use Rattle.fol_model.specs.declared.events.Accept.{Accept}
use Rattle.fol_model.specs.declared.events.Event.TheVariants.{End}
use Rattle.fol_model.specs.LineWords.{Word}
use Rattle.fol_model.specs.ReportWords.{ran_words, accept_words, event_words}
use Rattle.fol_events.specs.declared.heads.Head.TheVariants as heads
use Rattle.fol_events.specs.InRange.{Is64, RanInRange, AcceptInRange, EndInRange}
use Rattle.fol_events.specs.Pieces.{NoneIn, one_word, counted, CountInRange}
use Rattle.fol_events.specs.Bodies.{NoBody}
use Rattle.fol_events.proofs.AnswerWords.{ran_cuts, accept_cuts}
use Rattle.fol_events.proofs.Lists.{counted_cuts}

abbrev behind_ran : List Accept → List Word
behind_ran xs = codes "accepted" ∷ counted accept_words xs

abbrev behind_tick : List Ran → List Accept → List Word
behind_tick rs xs = codes "ran" ∷ (counted ran_words rs ++ behind_ran xs)

abbrev behind_region : ℕ → List Ran → List Accept → List Word
behind_region tick rs xs = codes "tick" ∷ decimal tick ∷ behind_tick rs xs

-- the words up to the tasks that ran
pub record UpToRan (ws now : List Word) (worker region tick : ℕ) : Type 0 where
  pub at_region : List Word
  pub at_tick : List Word
  pub ticks : List Word
  pub at_ran : List Word
  pub worker_is : ws ≡ decimal worker ∷ at_region
  pub region_is : at_region ≡ decimal region ∷ at_tick
  pub tick_word : at_tick ≡ codes "tick" ∷ ticks
  pub tick_is : ticks ≡ decimal tick ∷ at_ran
  pub ran_word : at_ran ≡ codes "ran" ∷ now

pub no_region : (ws now : List Word) (k : ℕ) → ws ≡ decimal k ∷ now → NoneIn one_word Is64 now → NoBody heads.End ws
no_region ws now k f none worker region tick rs xs r e = none region (behind_region tick rs xs) r.wide_region cc

pub no_tick : (ws at ticks now : List Word) (k n : ℕ) → ws ≡ decimal k ∷ at → at ≡ decimal n ∷ ticks → ticks ≡ codes "tick" ∷ now → NoneIn one_word Is64 now → NoBody heads.End ws
no_tick ws at ticks now k n f g h none worker region tick rs xs r e = none tick (behind_tick rs xs) r.wide_tick cc

at_count : (ws now : List Word) (k n m worker region tick : ℕ) (rs : List Ran) (xs : List Accept) → UpToRan ws now k n m → codes "end" ∷ ws ≡ event_words (End worker region tick rs xs) → now ≡ counted ran_words rs ++ behind_ran xs
at_count ws now k n m worker region tick rs xs u e =
    let a = u.worker_is in
    let b = u.region_is in
    let c = u.tick_word in
    let d = u.tick_is in
    let f = u.ran_word in
    cc

-- behind the tasks that ran stands what behind theirs does
behind : (ws now next : List Word) (k n m worker region tick : ℕ) (ran rs : List Ran) (xs : List Accept) → UpToRan ws now k n m → now ≡ counted ran_words ran ++ next → CountInRange RanInRange ran → EndInRange worker region tick rs xs → codes "end" ∷ ws ≡ event_words (End worker region tick rs xs) → next ≡ behind_ran xs
behind ws now next k n m worker region tick ran rs xs u f kind r e =
    counted_cuts ran_words RanInRange ran_cuts ran rs next (behind_ran xs) kind (r.rans, r.each_ran) (sym f ∙ at_count ws now k n m worker region tick rs xs u e)

pub no_accepted : (ws now next : List Word) (k n m : ℕ) (ran : List Ran) → UpToRan ws now k n m → now ≡ counted ran_words ran ++ next → CountInRange RanInRange ran → ((more : List Word) → next ≡ codes "accepted" ∷ more → ⊥) → NoBody heads.End ws
no_accepted ws now next k n m ran u f kind none worker region tick rs xs r e = none (counted accept_words xs) (behind ws now next k n m worker region tick ran rs xs u f kind r e)

pub no_accepts : (ws now next last : List Word) (k n m : ℕ) (ran : List Ran) → UpToRan ws now k n m → now ≡ counted ran_words ran ++ next → CountInRange RanInRange ran → next ≡ codes "accepted" ∷ last → NoneIn (counted accept_words) (CountInRange AcceptInRange) last → NoBody heads.End ws
no_accepts ws now next last k n m ran u f kind g none worker region tick rs xs r e =
    let b = behind ws now next k n m worker region tick ran rs xs u f kind r e in
    let whole : last ≡ counted accept_words xs = cc in
    none xs [] (r.answers, r.each_answer) (whole ∙ sym (append-nil (counted accept_words xs)))

pub no_more : (ws now next last end : List Word) (k n m : ℕ) (ran : List Ran) (accepts : List Accept) → UpToRan ws now k n m → now ≡ counted ran_words ran ++ next → CountInRange RanInRange ran → next ≡ codes "accepted" ∷ last → last ≡ counted accept_words accepts ++ end → CountInRange AcceptInRange accepts → (end ≡ [] → ⊥) → NoBody heads.End ws
no_more ws now next last end k n m ran accepts u f kind g h like none worker region tick rs xs r e =
    let b = behind ws now next k n m worker region tick ran rs xs u f kind r e in
    let whole : last ≡ counted accept_words xs = cc in
    none (counted_cuts accept_words AcceptInRange accept_cuts accepts xs end [] like (r.answers, r.each_answer) (sym h ∙ whole ∙ sym (append-nil (counted accept_words xs))))
