use Rattle.std.proofs.Common.{◌≡◌, ℕ, ◌^◌, ◌<◌, true, Some, None, Option, sym, refl, subst}
use Rattle.std.specs.Prelude.{MatchOption, is_some}
use lib.Bits.{bit_and}
use Rattle.std.proofs.lemmas.Bool.{both_ways}
use Rattle.quorum.specs.Sets.{has}
use Rattle.quorum.specs.Masks.{in_and, to_and, has_below}
use Rattle.planning.specs.Changes.{Shared, FirstShared}
use Rattle.planning.proofs.Lowest.{IsLowest, lowest_tells}
use Rattle.planning.proofs.shared.Goals as goal

module _ (m a b : ℕ) (small : m < 2 ^ 16) where
  -- the members that are in both sets
  abbrev common : ℕ
  common = bit_and (bit_and m a) b

  -- a shared cabinet is one of them
  is_common : (i : ℕ) → Shared m a b i → has common i ≡ true
  is_common i s = to_and (bit_and m a) b i (to_and m a i s.0 s.1) s.2

  first_shared : (o : Option ℕ) → IsLowest (has common) o → MatchOption o ((i : ℕ) → Shared m a b i → ⊥) (λ i. FirstShared m a b i)
  first_shared None none = λ i s. both_ways (has common i) (none i (has_below m i small s.0)) (is_common i s)
  first_shared (Some i) found =
      let outer = in_and (bit_and m a) b i found.1 in
      let inner = in_and m a i outer.0 in
      record { shared = (inner.0, inner.1, outer.1); first = λ k h s. both_ways (has common k) (found.2 k h) (is_common k s) }

  is_found : (o : Option ℕ) → IsLowest (has common) o → (i : ℕ) → Shared m a b i → is_some o ≡ true
  is_found None none i s = absurd (first_shared None none i s)
  is_found (Some j) found i s = refl

pub returns : goal.returns
returns g c =
    let m = c.args.members in
    let a = c.args.a in
    let b = c.args.b in
    let o : Option ℕ = c.lowest_of.result in
    let small = c.ranges.members.fits in
    let told = subst (IsLowest (has (bit_and (bit_and m a) b))) (sym c.lowest_of.ensures) (lowest_tells (has (bit_and (bit_and m a) b))) in
    record {
      found = first_shared m a b small o told;
      quorums = λ by-a by-b. let s = g.met.R.QuorumRule.share_member c.args.rule.now m a b by-a by-b in is_found m a b small o told s.0 (s.1, s.2, s.3);
    }
