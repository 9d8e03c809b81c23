use Rattle.std.proofs.Common.{◌≡◌, ◌-◌, ◌<◌, take, length, get_or, refl, sym, ◌∙◌, arith, length-take}
use Rattle.std.proofs.lemmas.List.{get_or_read, get_or_default}
use Rattle.fol_keyed.proofs.Merged.{merging_begins, merging_first, merging_second, merging_ends_at, goes_after, goes_before}
use Rattle.fol_keyed.proofs.rows.merge.Goals as goal
use Rattle.fol_keyed.proofs.rows.merge.Goals.{else-i-gt0-via-then-i-gt0+else-is_after, else-i-gt0-via-else-i-gt0}

pub loop-j-init : goal.loop-j-init
loop-j-init g c =
    let long : length (take c.args.kept c.args.rows.now) ≡ c.args.kept = omega (arith, length-take c.args.kept c.args.rows.now) in
    record {
      merging = rw long at (merging_begins g.T.Row.order g.met.T.Row.total (take c.args.kept c.args.rows.now) c.args.others.now c.args.rows.now (rw long refl) (omega arith));
      first_bound = omega arith;
      second_bound = omega arith;
    }

pub loop-j-smaller-then-is_after : goal.loop-j-smaller-then-is_after
loop-j-smaller-then-is_after g c = omega arith

pub loop-j-preserved-then-is_after : goal.loop-j-preserved-then-is_after
loop-j-preserved-then-is_after g c =
    let first_in : c.loop-j.i - 1 < length c.loop-j.rows = omega arith in
    let second_in : c.loop-j.j - 1 < length c.args.others.now = omega arith in
    let row = get_or_read c.loop-j.rows (c.loop-j.i - 1) c.index-rows-i-then-is_after.result first_in c.index-rows-i-then-is_after.is in
    let other = get_or_read c.args.others.now (c.loop-j.j - 1) c.index-others-j.result second_in c.index-others-j.is in
    let after = rw (sym (row c.index-rows-i.result)) at (sym c.is_after.ensures ∙ c.if-is_after.true) in
    record {
      merging =
          merging_first g.T.Row.order g.met.T.Row.total _ _ c.requires.order c.requires.others_order c.loop-j.rows (c.loop-j.i - 1) c.loop-j.j c.loop-j.i c.index-rows-i-then-is_after.result (omega arith) c.loop-j.invariant.merging
          (λ d. sym (row d)) (λ d l. goes_after g.T.Row.order g.met.T.Row.total (take c.args.kept c.args.rows.now) c.args.others.now (c.loop-j.j - 1) c.index-rows-i-then-is_after.result c.index-others-j.result (λ d. sym (other d)) after d);
      first_bound = omega arith;
      second_bound = omega arith;
    }

pub loop-j-preserved : goal.loop-j-preserved
loop-j-preserved g c =
    let second_in : c.loop-j.j - 1 < length c.args.others.now = omega arith in
    let mine = get_or_read c.args.others.now (c.loop-j.j - 1) c.index-others-j-else-i-gt0.result second_in c.index-others-j-else-i-gt0.is in
    record {
      merging =
          merging_second g.T.Row.order g.met.T.Row.total _ _ c.requires.order c.requires.others_order c.loop-j.rows c.loop-j.i (c.loop-j.j - 1) c.loop-j.j c.index-others-j-else-i-gt0.result (omega arith) c.loop-j.invariant.merging
          (λ d. sym (mine d))
          (λ d l.
          elim c.else-i-gt0.branch [
            | else-i-gt0-via-then-i-gt0+else-is_after w ↦
                let first_in : c.loop-j.i - 1 < length c.loop-j.rows = omega arith in
                let other = get_or_read c.args.others.now (c.loop-j.j - 1) w.index-others-j.result second_in w.index-others-j.is in
                let same = mine w.index-others-j.result ∙ sym (other w.index-others-j.result) in
                let not_after = rw (sym same) at (sym w.is_after.ensures ∙ w.if-is_after.false) in
                goes_before g.T.Row.order g.met.T.Row.total _ _ c.loop-j.rows c.loop-j.i c.loop-j.j (c.loop-j.j - 1) (get_or c.loop-j.rows (c.loop-j.i - 1) w.index-rows-i.result) c.index-others-j-else-i-gt0.result c.requires.apart c.loop-j.invariant.merging l
                (omega arith) (λ d. get_or_default c.loop-j.rows (c.loop-j.i - 1) d w.index-rows-i.result first_in) (λ d. sym (mine d)) not_after d
            | else-i-gt0-via-else-i-gt0 w ↦ absurd (omega (arith, w.if-i-gt0.false))
          ]);
      first_bound = omega arith;
      second_bound = omega arith;
    }

pub returns-clause-same : goal.returns-clause-same
returns-clause-same g c = (merging_ends_at g.T.Row.order g.met.T.Row.total _ _ c.requires.order c.requires.others_order c.loop-j.rows c.loop-j.i 0 c.loop-j.j (omega arith) c.loop-j.invariant.merging).0

pub returns-clause-order : goal.returns-clause-order
returns-clause-order g c = (merging_ends_at g.T.Row.order g.met.T.Row.total _ _ c.requires.order c.requires.others_order c.loop-j.rows c.loop-j.i 0 c.loop-j.j (omega arith) c.loop-j.invariant.merging).1
