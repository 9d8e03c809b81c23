-- No event of a run posts an arrival.
use Rattle.std.proofs.Common.{◌≡◌, true, false, refl, List, [], ◌∷◌, length, not, ◌&&◌}
use Rattle.std.specs.Prelude.{nat_le}
use Rattle.std.specs.List.{list_all}
use Rattle.std.proofs.lemmas.Bool.{and_parts, not-true}
use Rattle.fol_model.specs.declared.actions.Action.{Action}
use Rattle.fol_model.specs.declared.actions.Action.TheVariants as action
use Rattle.fol_model.specs.declared.events.Event.{Event}
use Rattle.fol_model.specs.declared.events.Event.TheVariants.{Load, Unload, Post, PhaseOpen, Begin, End, PhaseClose, Finish, Stop}
use Rattle.fol_model.specs.declared.events.Entry.{Entry}
use Rattle.fol_model.specs.Deed.{Deed}
use Rattle.fol_model.specs.Nesting.{deed_of}
use Rattle.fol_model.specs.Limits.{is_post, is_arrival, is_simple, may_post}
use Rattle.fol_model.specs.World.{World, start}
use Rattle.fol_model.specs.Run.{Allowed, RunFrom, after}
use Rattle.fol_report_laws.specs.Told.{PostsNoArrival}
use Rattle.fol_report_laws.specs.Laws.{RunPostsNoArrival, NoArrivals}

simple_arrives_not : (d : Deed) → is_simple d ≡ true → is_arrival d.plain ≡ false
simple_arrives_not d h =
    let p = and_parts (list_all is_post d.wraps) (nat_le (length d.wraps) 7 && not (is_arrival d.plain)) h in
    not-true (is_arrival d.plain) (and_parts (nat_le (length d.wraps) 7) (not (is_arrival d.plain)) p.1).1

posted_arrives_not : (a : Action) → may_post a ≡ true → is_arrival (deed_of a).plain ≡ false
posted_arrives_not (action.Set at id) h = refl
posted_arrives_not (action.Copy at to) h = refl
posted_arrives_not (action.Load c) h = refl
posted_arrives_not (action.Unload c) h = refl
posted_arrives_not (action.Post c d inner) h = simple_arrives_not inner (and_parts (nat_le (length inner.wraps) 6) (is_simple inner) h).1
posted_arrives_not (action.Send e to) h = refl
posted_arrives_not (action.Arrive e) h = absurd (let k = h in cc)
posted_arrives_not (action.Every p left inner) h = simple_arrives_not inner h

allowed_posts_no_arrival : (w : World) (e : Event) → Allowed w e → PostsNoArrival e
allowed_posts_no_arrival w (Load caller c answer) h = tt
allowed_posts_no_arrival w (Unload caller c answer) h = tt
allowed_posts_no_arrival w (Post caller c d a answer) h = posted_arrives_not a h.3
allowed_posts_no_arrival w (PhaseOpen n) h = tt
allowed_posts_no_arrival w (Begin worker region) h = tt
allowed_posts_no_arrival w (End worker region tick ran accepts) h = tt
allowed_posts_no_arrival w PhaseClose h = tt
allowed_posts_no_arrival w Finish h = tt
allowed_posts_no_arrival w (Stop caller) h = tt

from_world : (w : World) (es : List Entry) → RunFrom w es → NoArrivals es
from_world w [] h = tt
from_world w (e ∷ es) h = (allowed_posts_no_arrival w e.event h.1, from_world (after w e.event) es h.2)

pub run_posts_no_arrival : RunPostsNoArrival
run_posts_no_arrival o es h = from_world (start o) es h
