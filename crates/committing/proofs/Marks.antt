-- One more entry of a rising mark. Assumes nothing.
use Rattle.std.proofs.Common.{◌≡◌, ℕ, suc, ◌+◌, Bool, true, false, List, get_or, sym, refl, ap, ◌∙◌, ap₂}
use Rattle.std.proofs.lemmas.Bool.{cond-true, cond-false}
use Rattle.journal.specs.declared.Entry.{Entry}
use Rattle.journal.specs.Entries.{blank}
use Rattle.cabinet.specs.Records.{holders_below}
use Rattle.configurations.specs.Configurations.{members_before, commits_entry, commits}
use Rattle.committing.specs.Committing.{risen, rest_at}
use Rattle.committing.specs.declared.Rest.{Rest}

-- whether a set commits the entry at a position, by the members before it and the entry
pub commits_is : (quorum : ℕ → ℕ → Bool) (l : List Entry) (mark members set : ℕ) (e : Entry) → get_or l mark blank ≡ e → members ≡ members_before l mark
    → commits_entry quorum members e set ≡ commits quorum l set mark
commits_is quorum l mark members set e at so_far =
    ap₂ (λ (e : Entry) m. commits_entry quorum m e set) (sym at) so_far

module _ (quorum : ℕ → ℕ → Bool) (l : List Entry) (lengths : List ℕ) where
  -- with no entry left, the mark stays
  pub risen_none : (mark : ℕ) → risen quorum l lengths 0 mark ≡ mark
  unfolding risen
  risen_none mark = refl

  -- an entry that is committed lets the mark rise by one
  pub risen_more : (n mark : ℕ) → commits quorum l (holders_below lengths mark 16) mark ≡ true → risen quorum l lengths (suc n) mark ≡ risen quorum l lengths n (mark + 1)
  unfolding risen
  risen_more n mark carried = cond-true _ _ _ carried

  -- one that is not stops it
  pub risen_stops : (n mark : ℕ) → commits quorum l (holders_below lengths mark 16) mark ≡ false → risen quorum l lengths (suc n) mark ≡ mark
  unfolding risen
  risen_stops n mark waits = cond-false _ _ _ waits

-- a mark that has risen as far as it can rests there, with the members before it
pub rest_of : (l : List Entry) (mark members r : ℕ) → members ≡ members_before l mark → mark ≡ r → ◌≡◌ {A = Rest} (record { mark = mark; members = members }) (rest_at l r)
rest_of l mark members r so_far reached = ap (λ m. record { mark = mark; members = m }) so_far ∙ ap (rest_at l) reached
