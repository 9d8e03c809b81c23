-- The words of a post behind its first word.
use Rattle.std.proofs.Common.{◌≡◌, ℕ, ◌≤◌, sym, ◌∙◌, true, List, ◌∷◌, ◌++◌, decimal}
use Rattle.fol_model.specs.declared.places.ChunkPos.{ChunkPos}
use Rattle.fol_model.specs.declared.actions.Action.{Action}
use Rattle.fol_model.specs.declared.events.Accept.{Accept}
use Rattle.fol_model.specs.declared.events.Event.TheVariants.{Post}
use Rattle.fol_model.specs.Geometry.{is_chunk}
use Rattle.fol_model.specs.LineWords.{Word}
use Rattle.fol_model.specs.ReportWords.{chunk_words, accept_words, action_words}
use Rattle.fol_events.specs.declared.heads.Head.TheVariants as heads
use Rattle.fol_events.specs.InRange.{Is32, AcceptInRange, PostInRange}
use Rattle.fol_events.specs.Pieces.{NoneIn, NotSpelt, one_word}
use Rattle.fol_events.specs.Bodies.{IsBody, NoBody}
use Rattle.fol_events.specs.Postable.{IsPostable, posted_words}
use Rattle.fol_events.proofs.AnswerWords.{accept_cuts}
use Rattle.fol_events.proofs.Posting.{delay_is, is_delay_in}

pub in_post : (c : ChunkPos) (d : ℕ) (x : Action) → is_chunk c ≡ true → 1 ≤ d → d ≤ 1000000 → IsPostable x → PostInRange c d x
in_post c d x chunk low high h = record { chunk = chunk; delay = delay_is d low high; action = h.action; may_post = h.may_post; entity = h.entity }

postable : (c : ChunkPos) (d : ℕ) (x : Action) → PostInRange c d x → IsPostable x
postable c d x h = record { action = h.action; may_post = h.may_post; entity = h.entity }

pub no_post_delay : (ws at now : List Word) (k : ℕ) (b : ChunkPos) → ws ≡ decimal k ∷ at → at ≡ chunk_words b ++ now → NoneIn one_word (λ n. (1 ≤ n) × (n ≤ 1000000)) now → NoBody heads.Post ws
no_post_delay ws at now k b f g none caller c d x a r e = none d (accept_words a ++ action_words x) (is_delay_in d r.1.delay) cc

pub no_post_action : (ws at delayed behind now : List Word) (k n : ℕ) (b : ChunkPos) (answer : Accept) → ws ≡ decimal k ∷ at → at ≡ chunk_words b ++ delayed → delayed ≡ decimal n ∷ behind → behind ≡ accept_words answer ++ now → AcceptInRange answer → NotSpelt posted_words IsPostable now → NoBody heads.Post ws
unfolding action_words
no_post_action ws at delayed behind now k n b answer f g h i kind none caller c d x a r e =
    let answered : behind ≡ accept_words a ++ action_words x = cc in
    none x (postable c d x r.1) (accept_cuts answer a now (action_words x) kind r.2 (sym i ∙ answered))

pub is_post : (ws at delayed behind now : List Word) (k n : ℕ) (b : ChunkPos) (x : Action) (answer : Accept) → ws ≡ decimal k ∷ at → at ≡ chunk_words b ++ delayed → delayed ≡ decimal n ∷ behind → behind ≡ accept_words answer ++ now → now ≡ posted_words x → Is32 k → PostInRange b n x → AcceptInRange answer → IsBody heads.Post (Post k b n x answer) ws
unfolding action_words
is_post ws at delayed behind now k n b x answer f g h i j small post kind = ((small, post, kind), cc)
