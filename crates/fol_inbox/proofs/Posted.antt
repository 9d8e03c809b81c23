-- What a post through the seat comes to.
use Rattle.std.proofs.Common.{◌≡◌, ℕ, ◌+◌, true, false, inl, inr, List, [], ◌∷◌, ◌++◌, length, sym, refl, ap, ◌∙◌, subst, arith, append-nil, append_assoc, length-append}
use Rattle.std.specs.Prelude.{Ok, Err}
use Rattle.std.proofs.lemmas.Bool.{cases_Bool}
use Rattle.fol_model.specs.declared.places.ChunkPos.{ChunkPos}
use Rattle.fol_model.specs.declared.actions.Action.{Action}
use Rattle.fol_model.specs.declared.openings.Opening.{Opening}
use Rattle.fol_model.specs.declared.events.Accept.{Accept}
use Rattle.fol_model.specs.declared.events.Accept.TheVariants as accepts
use Rattle.fol_model.specs.declared.events.Entry.{Entry}
use Rattle.fol_model.specs.declared.events.Event.TheVariants.{Post}
use Rattle.fol_model.specs.Add.{is_full}
use Rattle.fol_model.specs.World.{World}
use Rattle.fol_model.specs.Run.{world}
use Rattle.fol_core.specs.declared.answers.Posting.{Posting}
use Rattle.fol_core.specs.declared.answers.Posting.TheVariants.{Full, Over, Posted}
use Rattle.fol_core.specs.Answers.{post_result}
use Rattle.fol_core.specs.Meaning.{Records, Stays, Unchanged, world_of}
use Rattle.fol_live.specs.Calls.{Posts, Turn}
use Rattle.fol_live.specs.Seat.{Shown, meaning_of}
use Rattle.fol_live.proofs.OwnTurns.{none_does, one_does}
use Rattle.fol_inbox.specs.declared.letter.Letter.{Letter}
use Rattle.fol_inbox.specs.declared.letter.Receipt.{Receipt}
use Rattle.fol_inbox.specs.Drains.{PostsNone, PostsOne, is_finished}
use Rattle.fol_inbox.specs.Letters.{letter, post_of}
use Rattle.fol_inbox.specs.Receipts.{post_places}
use Rattle.fol_inbox.proofs.Places.{places_more, places_same}

module _ (old now new : Shown) (t : Turn old now new) (hand : new.hand ≡ old.hand) where
  -- the letter was posted
  posts_one : (l : Letter) (r : Receipt) → Records (meaning_of now) (meaning_of new) old.number (Post old.number l.chunk l.delay l.action r.answer)
      → r.sender ≡ l.sender → r.place ≡ l.place → r.entry + 1 ≡ length new.seen → PostsOne old new l r
  posts_one l r told sender place last =
      let e : Entry = post_of old.number l r in
      let looks = t.looks in
      let before : List Entry = old.seen ++ (looks.between ++ looks.learnt) in
      let seen : new.seen ≡ before ++ e ∷ [] = told.history ∙ ap (λ (es : List Entry). es ++ e ∷ []) looks.seen in
      let long : length new.seen ≡ length before + 1 = ap length seen ∙ length-append before (e ∷ []) in
      record {
        does = one_does old now new e.event refl t told;
        hand = hand;
        place = ap (λ (es : List Entry). post_places old.number 0 es) seen ∙ places_more old.number old.seen looks.between looks.learnt l r looks.others looks.late (omega (arith, last, long));
        sender = sender;
        letter = place;
      }

  -- none was
  posts_nothing : Stays (meaning_of now) (meaning_of new) → PostsNone old new
  posts_nothing told =
      let looks = t.looks in
      record {
        does = none_does old now new t told;
        hand = hand;
        place = ap (λ (es : List Entry). post_places old.number 0 es) (told.history ∙ looks.seen) ∙ places_same old.number old.seen looks.between looks.learnt looks.others looks.late;
      }

finished_still : (now new : Shown) → Stays (meaning_of now) (meaning_of new) → (world_of (meaning_of now)).finished ≡ true → is_finished new ≡ true
finished_still now new told over = ap (λ (m : Opening × List Entry). (world m.0 m.1).finished) (λ i. (told.opening i, told.history i)) ∙ over

stays : (s u : Shown) → Unchanged (meaning_of s) (meaning_of u) → Stays (meaning_of s) (meaning_of u)
stays s u told = record { opening = told.opening; history = told.history; prepared = told.prepared }

-- Over is the answer of a finished world alone
over_finished : (w : World) (c : ChunkPos) (x y : Action) → Over y ≡ post_result w c x → w.finished ≡ true
over_finished w c x y is = elim (cases_Bool w.finished) [
  | inl over ↦ over
  | inr free ↦ elim (cases_Bool (is_full w.grid c)) [
    | inl full ↦ let t = rw (free, full) at is in absurd (cc)
    | inr room ↦ let t = rw (free, room) at is in absurd (cc)
  ]
]

over_same : (w : World) (c : ChunkPos) (x y : Action) → Over y ≡ post_result w c x → y ≡ x
over_same w c x y is = let over = over_finished w c x y is in let t : Over y ≡ Over x = rw over at is in cc

-- ---- the answers of the world

pub posts_posted : (old new : Shown) (l : Letter) (n : ℕ) (r : Receipt) → Posts old new l.chunk l.delay l.action (Ok (Posted n)) → (r.sender ≡ l.sender) × (r.place ≡ l.place) → r.answer ≡ accepts.Posted n → r.entry + 1 ≡ length new.seen
    → PostsOne old new l r
posts_posted old new l n r did names answer last =
    let told : Records (meaning_of did.now) (meaning_of new) old.number (Post old.number l.chunk l.delay l.action r.answer)
    = subst (λ (a : Accept). Records (meaning_of did.now) (meaning_of new) old.number (Post old.number l.chunk l.delay l.action a)) (sym answer) did.recorded in
    posts_one old did.now new did.turn did.hand l r told names.0 names.1 last

pub posts_full : (old new : Shown) (l : Letter) (present wanted : ℕ) (r : Receipt) → Posts old new l.chunk l.delay l.action (Ok (Full present wanted)) → (r.sender ≡ l.sender) × (r.place ≡ l.place) → r.answer ≡ accepts.Full present wanted
    → r.entry + 1 ≡ length new.seen → PostsOne old new l r
posts_full old new l present wanted r did names answer last =
    let told : Records (meaning_of did.now) (meaning_of new) old.number (Post old.number l.chunk l.delay l.action r.answer)
    = subst (λ (a : Accept). Records (meaning_of did.now) (meaning_of new) old.number (Post old.number l.chunk l.delay l.action a)) (sym answer) did.recorded in
    posts_one old did.now new did.turn did.hand l r told names.0 names.1 last

same_letter : (l : Letter) (a : Action) → a ≡ l.action → letter l.sender l.place l.chunk l.delay a ≡ l
same_letter l a same = ap (λ (x : Action). letter l.sender l.place l.chunk l.delay x) same

pub posts_over : (old new : Shown) (l : Letter) (a : Action) → Posts old new l.chunk l.delay l.action (Ok (Over a))
    → (letter l.sender l.place l.chunk l.delay a ≡ l) × PostsNone old new × (is_finished new ≡ true)
posts_over old new l a did =
    let told : Stays (meaning_of did.now) (meaning_of new) = stays did.now new did.recorded in
    let w : World = world_of (meaning_of did.now) in (
      same_letter l a (over_same w l.chunk l.action a did.answer),
      posts_nothing old did.now new did.turn did.hand told,
      finished_still did.now new told (over_finished w l.chunk l.action a did.answer),
    )

pub posts_refused : (old new : Shown) (l : Letter) (a : Action) → Posts old new l.chunk l.delay l.action (Err a)
    → (letter l.sender l.place l.chunk l.delay a ≡ l) × PostsNone old new
posts_refused old new l a did = (same_letter l a did.back, posts_nothing old did.now new did.turn did.hand did.refused)
