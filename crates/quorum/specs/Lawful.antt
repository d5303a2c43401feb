-- The laws of both rules, proved. Assumes nothing.
use Rattle.std.specs.Prelude.{◌*◌, bit_and, nat_lt}
use Rattle.std.proofs.Common.{ap, arith}
use Rattle.std.proofs.lemmas.Bool.{lt-ltb, ltb-true}
use Rattle.quorum.specs.Sets.{has, count}
use Rattle.quorum.specs.Rules.{MembersCount, Grows, ShareMember}
use Rattle.quorum.specs.MajorityRule.{size_of, majority}
use Rattle.quorum.specs.GroupRule.{counts, won, by_groups}
use Rattle.quorum.specs.Masks.{and_again, and_grows, in_and}
use Rattle.quorum.specs.Weighing.{weigh_same, weigh_mono, weigh_share}
use Rattle.quorum.specs.Grouping.{won_members, won_grows, won_counts, won_share}
use Rattle.quorum.specs.declared.Groups.{Groups}

pub majority_members_count : MembersCount majority
majority_members_count m a =
    ap (λ n. nat_lt (size_of m) (2 * n)) (weigh_same (λ _. 1) 16 (has (bit_and (bit_and a m) m)) (has (bit_and a m)) (and_again a m))

pub majority_grows : Grows majority
majority_grows m a b sub quorum =
    let more = ltb-true (size_of m) (2 * size_of (bit_and a m)) quorum in
    let grown = weigh_mono (λ _. 1) 16 (has (bit_and a m)) (has (bit_and b m)) (and_grows a b m sub) in
    lt-ltb (size_of m) (2 * size_of (bit_and b m)) (omega arith)

pub majority_share_member : ShareMember majority majority
majority_share_member m a b by-a by-b =
    let more-a = ltb-true (size_of m) (2 * size_of (bit_and a m)) by-a in
    let more-b = ltb-true (size_of m) (2 * size_of (bit_and b m)) by-b in
    let shared = weigh_share (λ _. 1) 16 (has m) (has (bit_and a m)) (has (bit_and b m)) (λ i h. (in_and a m i h).1) (λ i h. (in_and b m i h).1) (omega arith) in
    let i = shared.0 in
    let of-a = in_and a m i shared.1 in
    let of-b = in_and b m i shared.2 in
    (i, of-a.1, of-a.0, of-b.0)

module _ (rule : Groups) where
  pub groups_members_count : MembersCount (by_groups rule)
  groups_members_count m a =
      ap (λ n. nat_lt (count 4 (counts rule m)) (2 * n)) (weigh_same (λ _. 1) 4 (won rule m (bit_and a m)) (won rule m a) (won_members rule m a))

  pub groups_grow : Grows (by_groups rule)
  groups_grow m a b sub quorum =
      let more = ltb-true (count 4 (counts rule m)) (2 * count 4 (won rule m a)) quorum in
      let grown = weigh_mono (λ _. 1) 4 (won rule m a) (won rule m b) (won_grows rule m a b sub) in
      lt-ltb (count 4 (counts rule m)) (2 * count 4 (won rule m b)) (omega arith)

  pub groups_share_member : ShareMember (by_groups rule) (by_groups rule)
  groups_share_member m a b by-a by-b =
      let more-a = ltb-true (count 4 (counts rule m)) (2 * count 4 (won rule m a)) by-a in
      let more-b = ltb-true (count 4 (counts rule m)) (2 * count 4 (won rule m b)) by-b in
      let group = weigh_share (λ _. 1) 4 (counts rule m) (won rule m a) (won rule m b) (won_counts rule m a) (won_counts rule m b) (omega arith) in
      won_share rule m a b group.0 group.1 group.2
