-- The actions of a script's lines may be posted.
use Rattle.std.proofs.Common.{◌≡◌, ℕ, suc, refl, true, false, ◌&&◌, length, IsTrue, arith}
use Rattle.std.specs.Prelude.{not, nat_le}
use Rattle.std.specs.List.{list_all}
use Rattle.std.proofs.lemmas.Bool.{and_parts, and_from, le-leb, leb-true}
use Rattle.fol_model.specs.declared.actions.Action.{Action}
use Rattle.fol_model.specs.declared.actions.Action.TheVariants as action
use Rattle.fol_model.specs.Deed.{Deed}
use Rattle.fol_model.specs.Nesting.{deed_of}
use Rattle.fol_model.specs.Limits.{is_action, is_arrival, is_count, is_deed, is_delay, is_plain, is_post, is_simple, is_wrap, may_post}
use Rattle.fol_model.specs.IsScript.{is_line_action, sends_entity}

-- within the limits, with posts alone round what it does
record LineDeed (d : Deed) : Type 0 where
  within : is_deed d ≡ true
  simple : is_simple d ≡ true

line_deed : (a : Action) → IsTrue (is_line_action a) → LineDeed (deed_of a)
line_deed a line =
    let both = and_parts (is_deed (deed_of a) && is_simple (deed_of a)) (sends_entity (deed_of a).plain) line in
    let parts = and_parts (is_deed (deed_of a)) (is_simple (deed_of a)) both.0 in
    record { within = parts.0; simple = parts.1 }

-- ---- the action itself

pub line_within : (a : Action) → IsTrue (is_line_action a) → IsTrue (is_action a)
line_within a line = (line_deed a line).within

fewer : (n : ℕ) → nat_le (suc n) 7 ≡ true → nat_le n 6 ≡ true
fewer n h = le-leb n 6 (omega (arith, leb-true (suc n) 7 h))

simple_may : (a : Action) → is_simple (deed_of a) ≡ true → may_post a ≡ true
simple_may (action.Set at id) h = refl
simple_may (action.Copy at to) h = refl
simple_may (action.Load c) h = refl
simple_may (action.Unload c) h = refl
simple_may (action.Post c d inner) h =
    let posts = list_all is_post inner.wraps in
    let calm = not (is_arrival inner.plain) in
    let parts = and_parts posts (nat_le (suc (length inner.wraps)) 7 && calm) h in
    let room = and_parts (nat_le (suc (length inner.wraps)) 7) calm parts.1 in
    let few : nat_le (length inner.wraps) 6 ≡ true = fewer (length inner.wraps) room.0 in
    let seven : nat_le (length inner.wraps) 7 ≡ true = le-leb (length inner.wraps) 7 (omega (arith, leb-true (length inner.wraps) 6 few)) in
    and_from (nat_le (length inner.wraps) 6) (is_simple inner) few
    (and_from posts (nat_le (length inner.wraps) 7 && calm) parts.0 (and_from (nat_le (length inner.wraps) 7) calm seven room.1))
simple_may (action.Send id to) h = refl
simple_may (action.Arrive e) h = let never : false ≡ true = h in absurd (cc)
simple_may (action.Every p left inner) h = let never : false ≡ true = h in absurd (cc)

pub line_may : (a : Action) → IsTrue (is_line_action a) → IsTrue (may_post a)
line_may a line = simple_may a (line_deed a line).simple

-- ---- the action, repeated

pub repeated_within : (p n : ℕ) (a : Action) → IsTrue (is_delay p && is_count n) → IsTrue (is_line_action a) → IsTrue (is_action (action.Every p n (deed_of a)))
repeated_within p n a limits line =
    let wraps = list_all is_wrap (deed_of a).wraps in
    let parts = and_parts wraps (is_plain (deed_of a).plain) (line_deed a line).within in
    and_from ((is_delay p && is_count n) && wraps) (is_plain (deed_of a).plain) (and_from (is_delay p && is_count n) wraps limits parts.0) parts.1

pub repeated_may : (p n : ℕ) (a : Action) → IsTrue (is_line_action a) → IsTrue (may_post (action.Every p n (deed_of a)))
repeated_may p n a line = (line_deed a line).simple
