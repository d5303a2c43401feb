use Rattle.std.proofs.Common.{◌≡◌, ◌^◌, ◌<◌}
use Rattle.cabinet.specs.Records.{holders_below}
use Rattle.cabinet.proofs.Cabinet.holders.Given as goal

-- the holders among the cabinets so far, a set of those alone
abbrev pub invariant-loop-i : goal.invariant-loop-i
invariant-loop-i l = (l.set < 2 ^ l.i) × (l.set ≡ holders_below l.self.acknowledged l.entries l.i)
