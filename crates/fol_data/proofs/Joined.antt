-- Deadlines that move from one counter to another.
use Rattle.std.proofs.Common.{◌≡◌, ℕ, ◌+◌, ◌-◌, ◌≤◌, refl, sym, ap, arith, Option, Some, None}
use Rattle.std.specs.Option.{option_map, option_or, ForSome}
use Rattle.std.proofs.Math.Path.{fun_ext}
use borrow.Author.Differences.{ints}
use Rattle.fol_queues.specs.declared.dated.Dated.{Dated}
use Rattle.fol_queues.specs.Waiting.{raised, job_of}
use Rattle.fol_data.specs.Rests.{offset, IsInTime}
use Rattle.fol_data.proofs.Parted.{with_rests}

module _ (from to : ℕ) where
  -- the task is as far ahead of the one counter as it was of the other
  raised_deadline : (d : Dated) → IsInTime from d → (raised (offset from to) d).deadline + from ≡ d.deadline + to
  raised_deadline d h = let l : from + 1 ≤ d.deadline = h.low in omega (arith, ints)

  -- so it is the same queued task
  raised_job : (d : Dated) → IsInTime from d → job_of to (raised (offset from to) d) ≡ job_of from d
  raised_job d h =
      let l : from + 1 ≤ d.deadline = h.low in
      let e : (raised (offset from to) d).deadline + from ≡ d.deadline + to = raised_deadline d h in
      let same : (raised (offset from to) d).deadline - to ≡ d.deadline - from = omega arith in
      rw same refl

  -- and it is in time
  raised_in_time : (d : Dated) → IsInTime from d → IsInTime to (raised (offset from to) d)
  raised_in_time d h =
      let l : from + 1 ≤ d.deadline = h.low in
      let u : d.deadline ≤ from + 1000000 = h.high in
      let e : (raised (offset from to) d).deadline + from ≡ d.deadline + to = raised_deadline d h in
      record { low = omega arith; high = omega arith }

  -- of one number
  joined_rests : (p q : Option Dated) → ForSome q (IsInTime from) → option_map (job_of to) (option_or p (option_map (raised (offset from to)) q)) ≡ option_or (option_map (job_of to) p) (option_map (job_of from) q)
  joined_rests (Some d) q h = refl
  joined_rests None None h = refl
  joined_rests None (Some d) h = ap Some (raised_job d (h d refl))

  -- of one number
  joined_in_time : (p q : Option Dated) → ForSome p (IsInTime to) → ForSome q (IsInTime from) → ForSome (option_or p (option_map (raised (offset from to)) q)) (IsInTime to)
  joined_in_time (Some d) q h k x e = h x e
  joined_in_time None None h k x e = h x e
  joined_in_time None (Some d) h k x e =
      let same : raised (offset from to) d ≡ x = cc in
      rw (sym same) (raised_in_time d (k d refl))

  module _ (own others joined : ℕ → Option Dated) where
    -- the queued tasks of both, where the deadlines of the others moved
    pub all_joined : joined ≡ (λ n. option_or (own n) (option_map (raised (offset from to)) (others n))) → ((n : ℕ) → ForSome (others n) (IsInTime from))
        → with_rests to joined ≡ λ n. option_or (option_map (job_of to) (own n)) (option_map (job_of from) (others n))
    all_joined e h = rw e (fun_ext (λ n. joined_rests (own n) (others n) (h n)))

    -- the deadlines of both are ahead of the counter that stays
    pub all_in_time : joined ≡ (λ n. option_or (own n) (option_map (raised (offset from to)) (others n))) → ((n : ℕ) → ForSome (own n) (IsInTime to)) → ((n : ℕ) → ForSome (others n) (IsInTime from))
        → (n : ℕ) → ForSome (joined n) (IsInTime to)
    all_in_time e h k n = rw e (joined_in_time (own n) (others n) (h n) (k n))
