-- What the writer shows, and what stays true of its publications.
use Rattle.std.proofs.Common.{◌≡◌, ℕ, ◌≤◌, List, [], ◌∷◌, ◌++◌, fold, length, All, sym, refl, ap, ◌∙◌, subst, arith, append-nil, append_assoc, length-append, Option, Some}
use Rattle.std.specs.Prelude.{Result}
use Rattle.std.specs.declared.alloc.AllocError.{AllocError}
use Rattle.std.proofs.lemmas.List.Elements.{All-weaker, All-push}
use Rattle.crossbeam_utils.specs.Register.{TurnsAt}
use Rattle.fol_model.specs.declared.events.Entry.{Entry}
use Rattle.fol_model.specs.declared.openings.Opening.{Opening}
use Rattle.fol_lock.specs.Log.{StartsWith}
use Rattle.fol_live.specs.Calls.{ListsOwners}
use Rattle.fol_live.specs.Goes.{Does}
use Rattle.fol_live.specs.Seat.{Shown}
use Rattle.fol_live.specs.declared.answers.Owners.{Owners}
use Rattle.fol_live.proofs.OwnTurns.{none_does}
use Rattle.fol_model.specs.Outputs.{owner_rows}
use Rattle.fol_model.specs.Run.{world}
use Rattle.logbook.specs.Pages.{Named}
use Rattle.fol_view.specs.Publications.{IsPublication, Listed, MayFollow, Publication, head_of, publication, publication_of}
use Rattle.fol_view.specs.Boards.{CanPublish, MayShow, Published, Showing, listed_of, showing}
use Rattle.fol_view.specs.Looks.{HasBook}
use Rattle.fol_view.specs.Writing.{Writes}
use Rattle.fol_view.specs.Ties.{Tied}
use Rattle.fol_view.proofs.Tying.{shows}

-- ---- the copies

folded : (s : Option Showing) (others : List Showing) (p : Showing) → fold (λ (s : Option Showing) (o : Showing). Some o) s (others ++ p ∷ []) ≡ Some p
folded s [] p = refl
folded s (x ∷ xs) p = folded (Some x) xs p

pub turns : (seat : ℕ) (v : Option Listed) (shown : Option Showing) (log : List Showing) (next : Option Showing) → CanPublish shown log → next ≡ fold (λ (s : Option Showing) (o : Showing). Some o) shown log
    → TurnsAt Tied seat v shown next (λ v x y w. w ≡ listed_of y)
turns seat v shown log next can is =
    let last : next ≡ Some can.last = is ∙ (ap (λ l. fold (λ (s : Option Showing) (o : Showing). Some o) shown l) can.is ∙ folded shown can.others can.last) in
    subst (λ (y : Option Showing). TurnsAt Tied seat v shown y (λ v x y w. w ≡ listed_of y)) (sym last) (shows seat v shown can.last can.may)

pub published : (before after : Option Showing) (log : List Showing) (v : Option Listed) → after ≡ fold (λ (s : Option Showing) (o : Showing). Some o) before log → v ≡ listed_of after → Published log after v
published before after log v is view others last e =
    let a : after ≡ Some last = is ∙ (ap (λ l. fold (λ (s : Option Showing) (o : Showing). Some o) before l) e ∙ folded before others last) in (a, view ∙ ap listed_of a)

pub puts : (shown : Option Showing) (before after : List Showing) (p : Showing) → MayShow shown p → after ≡ before ++ p ∷ [] → CanPublish shown after
puts shown before after p may is = record { others = before; last = p; is = is; may = may }

-- ---- the list of the writer

starts_length : {X : Type 0} (xs ys : List X) → StartsWith ys xs → length xs ≤ length ys
starts_length xs ys s = let e = ap length s.1 ∙ length-append xs s.0 in omega arith

starts_more : {X : Type 0} (xs ys zs : List X) → StartsWith ys xs → StartsWith zs ys → StartsWith zs xs
starts_more xs ys zs s t = (s.0 ++ t.0, t.1 ∙ (ap (λ l. l ++ t.0) s.1 ∙ append_assoc xs s.0 t.0))

-- its seat asked for the owners
pub went_on : {s t : Shown} {r : Result Owners AllocError} → ListsOwners s t r → Does s t []
went_on {s} {t} l = none_does s l.now t l.turn l.same

pub is_now : (t : Shown) (p : Publication) → p.front ≡ length t.seen → p.rows ≡ owner_rows (world t.opening t.seen) → p ≡ publication_of t.opening t.seen
is_now t p front rows = λ i. publication (front i) (rows i)

-- its seat has seen more
pub still : {ds : List Entry} (s t : Shown) (list : List Publication) → Does s t ds → All (IsPublication s.opening s.seen) list → All (IsPublication t.opening t.seen) list
still s t list d all = All-weaker (IsPublication s.opening s.seen) (IsPublication t.opening t.seen)
    (λ p i. record { prefix = i.prefix; starts = starts_more i.prefix s.seen t.seen i.starts (d.goes.rest, d.goes.seen); is = i.is ∙ ap (λ (o : Opening). publication_of o i.prefix) (sym d.goes.opening) }) list all

-- it has published what its seat has seen now
pub more : (t : Shown) (list : List Publication) (p : Publication) → All (IsPublication t.opening t.seen) list → p ≡ publication_of t.opening t.seen → All (IsPublication t.opening t.seen) (list ++ p ∷ [])
more t list p all is = All-push (IsPublication t.opening t.seen) list p all (record { prefix = t.seen; starts = ([], sym (append-nil t.seen)); is = is })

pub follows : (t : Shown) (list : List Publication) (p : Publication) → All (IsPublication t.opening t.seen) list → p ≡ publication_of t.opening t.seen → MayFollow list p
follows t list p all is = All-weaker (IsPublication t.opening t.seen) (λ (q : Publication). q.front ≤ p.front)
    (λ q i. let l = starts_length i.prefix t.seen i.starts in let a = ap (λ (r : Publication). r.front) i.is in let b = ap (λ (r : Publication). r.front) is in omega arith) list all

-- ---- what the writer keeps

-- where nothing was published
pub kept : (s t : Shown) (all : Listed) (front : ℕ) (head : Named) (shown : Option Showing) → Does s t [] → Writes s all front head shown → Writes t all front head shown
kept s t all front head shown does w = record { head_is = w.head_is; shows = w.shows; each = still s t all.list does w.each; front_is = w.front_is }

-- where this was
pub grown : (s t : Shown) (all new : Listed) (front : ℕ) (head : Named) (before shown : Option Showing) (p : Publication) → Does s t [] → Writes s all front head before
    → p ≡ publication_of t.opening t.seen → new.book ≡ all.book → new.list ≡ all.list ++ p ∷ [] → shown ≡ Some (showing new p) → (n : ℕ) → n ≡ p.front → Writes t new n head shown
grown s t all new front head before shown p does w is book list shows n front_is = record {
  head_is = w.head_is ∙ ap head_of (sym book);
  shows = subst (λ (x : Option Showing). HasBook x new.book) (sym shows) refl;
  each = subst (λ (l : List Publication). All (IsPublication t.opening t.seen) l) (sym list) (more t all.list p (still s t all.list does w.each) is);
  front_is = (p, (all.list, list), front_is);
}
