use Rattle.std.proofs.Common.{◌≡◌, ℕ, ◌+◌, ◌-◌, ◌<◌, ◌≤◌, true, false, List, [], ◌∷◌, ◌++◌, length, take, drop, set, sym, refl, ap, ◌∙◌, subst, ap₂, arith}
use Rattle.std.proofs.lemmas.List.{take_more_set, drop-set-lt, drop-drop, length-take-le}
use Rattle.quorum.specs.Sets.{has, count}
use Rattle.quorum.specs.Weighing.{weigh_none}
use Rattle.questions.proofs.Enrolling.{Ascending, count_up, count_member, count_other, ascending_none, ascending_member, ascending_other, enrolled}
use Rattle.questions.proofs.members_of.enroll.Goals as goal

pub loop-cabinet-init : goal.loop-cabinet-init
loop-cabinet-init c = (sym (weigh_none (λ _. 1) (has c.args.members)), ascending_none c.args.members, refl)

pub loop-cabinet-preserved-then-not-contains : goal.loop-cabinet-preserved-then-not-contains
loop-cabinet-preserved-then-not-contains c =
    let m : ℕ = c.args.members in
    let i : ℕ = c.loop-cabinet.cabinet in
    let none : has m i ≡ false = sym c.if-not-contains.ensures in
    (c.loop-cabinet.invariant.0 ∙ count_other m i none, ascending_other m i (take c.loop-cabinet.next c.loop-cabinet.list) c.loop-cabinet.invariant.1 none, c.loop-cabinet.invariant.2)

-- one more member still has its place
room_left : (m i next places : ℕ) → next ≡ count i (has m) → i < 16 → has m i ≡ true → count 16 (has m) ≤ places → next < places
room_left m i next places so_far below there room =
    let rest : i + 1 + (15 - i) ≡ 16 = omega arith in
    omega (arith, count_member m i there, count_up (has m) (i + 1) (15 - i), ap (λ k. count k (has m)) rest)

pub bounds-list-next : goal.bounds-list-next
bounds-list-next c =
    room_left c.args.members c.loop-cabinet.cabinet c.loop-cabinet.next (length c.loop-cabinet.list) c.loop-cabinet.invariant.0 c.loop-cabinet-test.true (sym c.if-not-contains.ensures)
    (omega (arith, c.requires, c.loop-cabinet.auto.list))

pub overflow_add-next : goal.overflow_add-next
overflow_add-next c = let low : c.loop-cabinet.next < length c.loop-cabinet.list = bounds-list-next c in omega arith

pub loop-cabinet-preserved : goal.loop-cabinet-preserved
loop-cabinet-preserved c =
    let m : ℕ = c.args.members in
    let i : ℕ = c.loop-cabinet.cabinet in
    let next : ℕ = c.loop-cabinet.next in
    let list : List ℕ = c.loop-cabinet.list in
    let before : List ℕ = c.args.list.now in
    let there : has m i ≡ true = sym c.if-not-contains.ensures in
    let low : next < length list = bounds-list-next c in
    let front : take next list ++ i ∷ [] ≡ take (next + 1) (set list next i) = sym (take_more_set list next i low) in (
      ap (λ n. n + 1) c.loop-cabinet.invariant.0 ∙ count_member m i there,
      (let P : List ℕ → Type 0 = λ xs. Ascending m (i + 1) xs in subst P front (ascending_member m i (take next list) c.loop-cabinet.invariant.1 there)),
      drop-set-lt (next + 1) list next i (omega arith) ∙ sym (drop-drop 1 next list) ∙ ap (λ (xs : List ℕ). drop 1 xs) c.loop-cabinet.invariant.2 ∙ drop-drop 1 next before,
    )

pub returns : goal.returns
returns c =
    let m : ℕ = c.args.members in
    let next : ℕ = c.loop-cabinet.next in
    let list : List ℕ = c.loop-cabinet.list in
    let end : c.loop-cabinet.cabinet ≡ 16 = omega (arith, c.loop-cabinet-test.false, c.loop-cabinet.auto.cabinet-end) in
    let all : next ≡ count 16 (has m) = c.loop-cabinet.invariant.0 ∙ ap (λ n. count n (has m)) end in
    let fits : count 16 (has m) ≤ length list = omega (arith, c.requires, c.loop-cabinet.auto.list) in
    let front : Ascending m 16 (take (count 16 (has m)) list)
    = (let P : ℕ × ℕ → Type 0 = λ p. Ascending m p.0 (take p.1 list) in subst P (ap₂ (λ a b. (a, b)) end all) c.loop-cabinet.invariant.1) in
    record {
      front = enrolled m (take (count 16 (has m)) list) c.ranges.members.fits front (length-take-le (count 16 (has m)) list fits);
      rest = ap (λ n. drop n list) (sym all) ∙ c.loop-cabinet.invariant.2 ∙ ap (λ n. drop n c.args.list.now) all;
    }
