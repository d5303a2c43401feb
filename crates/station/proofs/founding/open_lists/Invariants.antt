use Rattle.std.proofs.Common.{◌≡◌, ℕ, ◌≤◌, cond, ltb, [], ◌∷◌}
use Rattle.station.proofs.founding.open_lists.Given as goal

-- the lists of the owners so far are the entry alone, the others as they were
abbrev pub invariant-loop-owner : goal.invariant-loop-owner
invariant-loop-owner g l =
    (l.owner ≤ l.cabinets)
    × ((p : ℕ) → g.J.Journal.lists l.journal p ≡ cond (ltb p l.owner) (l.opening ∷ []) (g.J.Journal.lists l.initial.journal p))
    × (g.J.Journal.owners l.journal ≡ g.J.Journal.owners l.initial.journal)
    × (g.J.Journal.limit l.journal ≡ g.J.Journal.limit l.initial.journal)
