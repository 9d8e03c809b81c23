-- The first word of an event's line.
use Rattle.std.proofs.Common.{◌≡◌, refl, sym, ap, subst, ◌∙◌, List, ◌∷◌, drop, Some, None}
use Rattle.fol_model.specs.declared.events.Event.{Event}
use Rattle.fol_model.specs.declared.events.Event.TheVariants.{Load, Unload, Post, PhaseOpen, Begin, End, PhaseClose, Finish, Stop}
use Rattle.fol_model.specs.LineWords.{Word}
use Rattle.fol_model.specs.ReportWords.{event_words}
use Rattle.fol_text_laws.proofs.OneSpelling.{find_spelled}
use Rattle.fol_events.specs.declared.heads.Head.{Head}
use Rattle.fol_events.specs.declared.heads.Head.TheVariants as heads
use Rattle.fol_events.specs.Heads.{head_spelled, all_heads, head_of}
use Rattle.fol_events.specs.InRange.{InRange}
use Rattle.fol_events.specs.Bodies.{NoBody}

pub head_is : (w : Word) (h : Head) → head_of w ≡ Some h → w ≡ head_spelled h
unfolding head_of
head_is w h e = find_spelled head_spelled w all_heads h e

pub head_again : (h : Head) → head_of (head_spelled h) ≡ Some h
unfolding head_of
head_again heads.Load = refl
head_again heads.Unload = refl
head_again heads.Post = refl
head_again heads.Open = refl
head_again heads.Begin = refl
head_again heads.End = refl
head_again heads.Close = refl
head_again heads.Finish = refl
head_again heads.Stop = refl

abbrev pub head_in : Event → Head
head_in (Load caller c a) = heads.Load
head_in (Unload caller c a) = heads.Unload
head_in (Post caller c d x a) = heads.Post
head_in (PhaseOpen n) = heads.Open
head_in (Begin worker region) = heads.Begin
head_in (End worker region tick rs xs) = heads.End
head_in PhaseClose = heads.Close
head_in Finish = heads.Finish
head_in (Stop caller) = heads.Stop

begins : (e : Event) → event_words e ≡ head_spelled (head_in e) ∷ drop 1 (event_words e)
begins (Load caller c a) = refl
begins (Unload caller c a) = refl
begins (Post caller c d x a) = refl
begins (PhaseOpen n) = refl
begins (Begin worker region) = refl
begins (End worker region tick rs xs) = refl
begins PhaseClose = refl
begins Finish = refl
begins (Stop caller) = refl

first_word : (e : Event) (w : Word) (ws : List Word) → w ∷ ws ≡ event_words e → w ≡ head_spelled (head_in e)
first_word e w ws eq = let b = begins e in cc

-- a word that is no first word begins no event
pub no_head : (w : Word) (ws : List Word) → head_of w ≡ None → (e : Event) → w ∷ ws ≡ event_words e → ⊥
no_head w ws none e eq =
    let k : head_of w ≡ Some (head_in e) = ap head_of (first_word e w ws eq) ∙ head_again (head_in e) in
    let n : None ≡ Some (head_in e) = sym none ∙ k in
    absurd cc

no_body : (e : Event) (ws : List Word) → NoBody (head_in e) ws → InRange e → head_spelled (head_in e) ∷ ws ≡ event_words e → ⊥
no_body (Load caller c a) ws n r eq = n caller c a r eq
no_body (Unload caller c a) ws n r eq = n caller c a r eq
no_body (Post caller c d x a) ws n r eq = n caller c d x a r eq
no_body (PhaseOpen k) ws n r eq = n k r eq
no_body (Begin worker region) ws n r eq = n worker region r eq
no_body (End worker region tick rs xs) ws n r eq = n worker region tick rs xs r eq
no_body PhaseClose ws n r eq = n eq
no_body Finish ws n r eq = n eq
no_body (Stop caller) ws n r eq = n caller r eq

same_head : (g h : Head) → head_spelled g ≡ head_spelled h → g ≡ h
same_head g h e = let k : Some g ≡ Some h = sym (head_again g) ∙ ap head_of e ∙ head_again h in cc

-- words that do not follow their first word in the line of an event are in no line behind it
pub no_event : (h : Head) (ws : List Word) → NoBody h ws → (e : Event) → InRange e → head_spelled h ∷ ws ≡ event_words e → ⊥
no_event h ws n e r eq =
    let k : h ≡ head_in e = same_head h (head_in e) (first_word e (head_spelled h) ws eq) in
    no_body e ws (subst (λ (x : Head). NoBody x ws) k n) r (ap (λ (x : Head). head_spelled x ∷ ws) (sym k) ∙ eq)
