use Rattle.std.proofs.Common.{◌≡◌, length}
use Rattle.entries.specs.Histories.{codes_of, faultless, goes_on}
use Rattle.entries.proofs.histories.are_faultless.Given as goal

-- what is left to check decides for the whole list
abbrev pub invariant-loop-entry : goal.invariant-loop-entry
invariant-loop-entry g l =
    faultless (codes_of g.K.OrderKind.decode) l.cabinets l.most (g.E.InOrder.rest l.fn.entries)
    ≡ goes_on (codes_of g.K.OrderKind.decode) l.cabinets l.most l.last (g.E.InOrder.rest l.entries)

abbrev pub decreases-loop-entry : goal.decreases-loop-entry
decreases-loop-entry g l = length (g.E.InOrder.rest l.entries)
