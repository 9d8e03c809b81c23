-- What a turn adds to what its seat knows, by what the core recorded in it.
use Rattle.std.proofs.Common.{◌≡◌, false, refl, sym, ◌∙◌, ap, subst, List, [], ◌∷◌, ◌++◌, append_assoc}
use Rattle.std.proofs.lemmas.List.{append-nil}
use Rattle.fol_model.specs.declared.events.Event.{Event}
use Rattle.fol_model.specs.declared.events.Entry.{Entry}
use Rattle.fol_core.specs.Meaning.{Records, Stays}
use Rattle.fol_live.specs.Calls.{Turn}
use Rattle.fol_live.specs.Goes.{Does, Goes, deeds, does_both, does_looks, goes_both, goes_looks}
use Rattle.fol_live.specs.OneTurn.{EndsStill, EndsWith}
use Rattle.fol_live.specs.Seat.{Shown, meaning_of}
use Rattle.fol_seat_laws.specs.Signed.{is_start}

append_cancel : (xs ys zs : List Entry) → xs ++ ys ≡ xs ++ zs → ys ≡ zs
append_cancel [] ys zs same = same
append_cancel (x ∷ xs) ys zs same = append_cancel xs ys zs (cc)

-- from where it had the turn on, the seat added these entries
pub goes_turn : (old now new : Shown) (xs : List Entry) → Turn old now new → new.seen ≡ now.seen ++ xs → Goes now new xs
goes_turn old now new xs t seen =
    let same : t.added ≡ xs = append_cancel now.seen t.added xs (sym t.adds.seen ∙ seen) in
    record {
      lock = t.adds.lock;
      opening = t.adds.opening;
      number = t.adds.number;
      rest = xs;
      seen = seen;
      own_is = (let own = t.adds.own in rw same at own);
      mine = t.adds.mine ∙ ap (λ (es : List Entry). now.mine ++ es) same;
      keeps = λ before. t.adds.keeps;
    }

pub goes_still : (old now new : Shown) → Turn old now new → new.seen ≡ now.seen → Goes now new []
goes_still old now new t same = goes_turn old now new [] t (same ∙ sym (append-nil now.seen))

pub one_own : (old now new : Shown) (event : Event) → Turn old now new → Records (meaning_of now) (meaning_of new) old.number event → EndsWith old new event
one_own old now new event t told =
    let e : Entry = record { by = old.number; event = event } in
    let l = t.looks in
    record {
      learnt = l.learnt;
      late = l.late;
      goes = goes_both old now new l.learnt (e ∷ []) (goes_looks old now l) (goes_turn old now new (e ∷ []) t told.history);
      others = l.between ++ l.learnt;
      last = told.history ∙ ap (λ (es : List Entry). es ++ e ∷ []) l.seen ∙ append_assoc old.seen (l.between ++ l.learnt) (e ∷ []);
      keeps = t.adds.keeps;
    }

pub none_own : (old now new : Shown) → Turn old now new → Stays (meaning_of now) (meaning_of new) → EndsStill old new
none_own old now new t told =
    let l = t.looks in
    record {
      learnt = l.learnt;
      late = l.late;
      goes = subst (λ (es : List Entry). Goes old new es) (append-nil l.learnt) (goes_both old now new l.learnt [] (goes_looks old now l) (goes_still old now new t told.history));
      keeps = t.adds.keeps;
    }

-- without the Begins that it learnt of: the seat recorded just this event
pub one_does : (old now new : Shown) (event : Event) → is_start event ≡ false → Turn old now new → Records (meaning_of now) (meaning_of new) old.number event
    → Does old new ((record { by = old.number; event = event }) ∷ [])
one_does old now new event is t told =
    let e : Entry = record { by = old.number; event = event } in
    let one : deeds (e ∷ []) ≡ e ∷ [] = rw is refl in
    does_both old now new [] (e ∷ []) (does_looks old now t.looks) (record { own = e ∷ []; goes = goes_turn old now new (e ∷ []) t told.history; deeds_are = one })

-- or nothing
pub none_does : (old now new : Shown) → Turn old now new → Stays (meaning_of now) (meaning_of new) → Does old new []
none_does old now new t told = does_both old now new [] [] (does_looks old now t.looks) (record { own = []; goes = goes_still old now new t told.history; deeds_are = refl })
