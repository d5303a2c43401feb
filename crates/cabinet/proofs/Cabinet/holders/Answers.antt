use Rattle.std.proofs.Common.{◌≡◌, ◌+◌, ◌*◌, ◌%◌, ◌^◌, ltb, get_or, sym, ap, ◌∙◌, pow-suc, add-one, arith}
use Rattle.cabinet.proofs.Sixteen.{holders_none, holders_more, picked_bit}
use Rattle.cabinet.proofs.Cabinet.holders.Goals as goal

pub loop-i-init : goal.loop-i-init
loop-i-init c = (omega arith, sym (holders_none _ _))

pub loop-i-preserved : goal.loop-i-preserved
loop-i-preserved c =
    let i = c.loop-i.i in
    let lengths = c.args.self.now.acknowledged in
    let bit = picked_bit (ltb c.args.entries (get_or lengths i 0)) i c.loop-i-test.true in
    let shifted = ap (λ n. n * 2 ^ i % 65536) c.from.ensures in
    let double : 2 ^ (i + 1) ≡ 2 ^ i * 2 = ap (λ n. 2 ^ n) (add-one i) ∙ pow-suc 2 i in
    let more = holders_more lengths c.args.entries i c.loop-i.set c.loop-i.invariant.1 in
    (omega (arith, shifted, bit.1, double, c.loop-i.invariant.0), ap (λ n. c.loop-i.set + n) (shifted ∙ bit.0) ∙ more)
