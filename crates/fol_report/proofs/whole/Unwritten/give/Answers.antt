use Rattle.std.proofs.Common.{◌≡◌, ◌+◌, ◌-◌, ◌++◌, take, drop, length, sym, ap, ◌∙◌, arith}
use Rattle.std.proofs.lemmas.List.{length-take-le}
use Rattle.std.proofs.lemmas.Slice.{take-put_mid}
use Rattle.fol_report.specs.Histories.{lines_left}
use Rattle.fol_report.proofs.Given.{left_both, taken_both}
use Rattle.fol_report.proofs.whole.Unwritten.give.Goals as goal

pub returns-clause-left : goal.returns-clause-left
returns-clause-left c =
    let lines = lines_left c.args.self.now.lines in
    let foot = c.args.self.now.foot.now in
    let given = rw c.requires at c.give-len.ensures.bytes in
    let taken : c.give-len.result ≡ length (take 4096 lines) = omega (arith, ap length given, length-take-le c.give-len.result c.give-len.new.bytes (omega arith)) in
    ap (λ t. t ++ c.split_at.result.1.now) (rw c.requires at c.give-len.ensures.left)
    ∙ ap (λ t. drop 4096 lines ++ t) c.split_at.ensures.back
    ∙ sym (left_both 4096 c.give-len.result c.min-count.result lines foot taken (omega (arith, c.min-count.ensures)))

pub returns-clause-bytes : goal.returns-clause-bytes
returns-clause-bytes c =
    let lines = lines_left c.args.self.now.lines in
    let foot = c.args.self.now.foot.now in
    let len = c.give-len.result in
    let count = c.min-count.result in
    let given = rw c.requires at c.give-len.ensures.bytes in
    let taken : len ≡ length (take 4096 lines) = omega (arith, ap length given, length-take-le len c.give-len.new.bytes (omega arith)) in
    let next = c.copy_from_slice.ensures.after ∙ c.split_at.ensures.front in
    take-put_mid len (len + count - len) c.give-len.new.bytes c.copy_from_slice.new.self (len + count) (omega (arith, ap length next, length-take-le count foot (omega (arith, c.min-count.ensures)))) (omega arith)
    ∙ ap (λ t. t ++ c.copy_from_slice.new.self) given
    ∙ ap (λ t. take 4096 lines ++ t) next
    ∙ sym (taken_both 4096 len count lines foot taken (omega (arith, c.min-count.ensures)))
