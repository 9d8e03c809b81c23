-- Histories with the same events are runs alike, and lead to one world.
use Rattle.std.proofs.Common.{◌≡◌, refl, sym, ◌∙◌, ap, List, [], ◌∷◌}
use Rattle.fol_model.specs.declared.openings.Opening.{Opening}
use Rattle.fol_model.specs.declared.events.Event.{Event}
use Rattle.fol_model.specs.declared.events.Entry.{Entry}
use Rattle.fol_model.specs.World.{World, start}
use Rattle.fol_model.specs.Run.{after, after_all, Allowed, RunFrom}
use Rattle.fol_laws.specs.ByUnread.{SameEvents}

same_allowed : (w : World) (e f : Event) → e ≡ f → Allowed w e → Allowed w f
same_allowed w e f p a = rw p at a

same_run : (w v : World) (es : List Entry) → w ≡ v → RunFrom w es → RunFrom v es
same_run w v es p r = rw p at r

same_events : (w : World) (xs ys : List Entry) → SameEvents xs ys → RunFrom w xs → RunFrom w ys × (after_all w ys ≡ after_all w xs)
same_events w [] [] s run = (tt, refl)
same_events w [] (y ∷ ys) s run = absurd s
same_events w (x ∷ xs) [] s run = absurd s
same_events w (x ∷ xs) (y ∷ ys) s run =
    let p : after w x.event ≡ after w y.event = ap (after w) s.0 in
    let i = same_events (after w y.event) xs ys s.1 (same_run _ _ xs p run.2) in
    ((run.0, same_allowed w x.event y.event s.0 run.1, i.0), i.1 ∙ ap (λ (v : World). after_all v xs) (sym p))

pub by_unread : (o : Opening) (xs ys : List Entry) → SameEvents xs ys → RunFrom (start o) xs → RunFrom (start o) ys × (after_all (start o) ys ≡ after_all (start o) xs)
by_unread o xs ys s run = same_events (start o) xs ys s run
