-- The worked cases, each by computing. Assumes nothing.
use Rattle.std.proofs.Common.{◌≡◌, ℕ, Bool, true, false, ◌&&◌, List, length, Ok, Err, refl}
use Rattle.refusal.specs.declared.Refusal.TheVariants.{EpochsSpent, VoterAhead}
use Rattle.quorum.specs.Sets.{weigh}
use Rattle.journal.specs.declared.Entry.{Entry}
use Rattle.cabinet.specs.declared.Cabinet.{Cabinet}
use Rattle.cabinet.specs.declared.Reply.TheVariants.{Promise}
use Rattle.cabinet.specs.Records.{promises}
use Rattle.cabinet.specs.Steps.{leaves}
use Rattle.configurations.specs.Configurations.{each_in_play, last_before, members_before, each_from}
use Rattle.messages.specs.Messages.{candidate_step}
use Rattle.served.specs.Worked.{seven, Worked}

-- what three answers make when the entries between them ask nothing
three : (a b c : Bool) → (a && true && true && b && true && true && c) ≡ (a && b && c)
three true true c = refl
three true false c = refl
three false b c = refl

-- what two make
two : (b c : Bool) → (b && true && true && c) ≡ (b && c)
two true c = refl
two false c = refl

-- in play at mark 3
at_3 : (test : ℕ → Bool) → each_in_play test seven 3 ≡ (test 7 && test 11 && test 26)
unfolding last_before each_from
at_3 test = three (test 7) (test 11) (test 26)

-- in play at mark 4
at_4 : (test : ℕ → Bool) → each_in_play test seven 4 ≡ (test 11 && test 26)
unfolding last_before each_from
at_4 test = two (test 11) (test 26)

-- in play at mark 7
at_7 : (test : ℕ → Bool) → each_in_play test seven 7 ≡ test 26
unfolding last_before each_from
at_7 test = refl

-- a candidate as late as the voter
answered : (l : List Entry) (c : Cabinet) (epoch : ℕ) → c.accepted ≡ 5 → length l ≡ 3
    → candidate_step l c epoch 5 3 ≡ Ok (leaves (promises epoch c) l Promise)
answered l c epoch a n = simp (a, n)

-- one with a shorter list
behind : (l : List Entry) (c : Cabinet) (epoch : ℕ) → c.accepted ≡ 5 → length l ≡ 3 → candidate_step l c epoch 5 2 ≡ Err VoterAhead
behind l c epoch a n = simp (a, n)

-- one of an earlier epoch
before : (l : List Entry) (c : Cabinet) (epoch : ℕ) → c.accepted ≡ 5 → length l ≡ 3 → candidate_step l c epoch 3 9 ≡ Err VoterAhead
before l c epoch a n = simp (a, n)

-- every worked case
pub worked : Worked
unfolding weigh last_before members_before each_from
worked = record {
  first_of_3 = refl;
  first_of_0 = refl;
  last_of_15 = refl;
  spent_of_14 = (EpochsSpent, refl, refl);
  three_of_four = refl;
  two_of_four = refl;
  the_heavy = refl;
  the_light = refl;
  in_play_at_3 = at_3;
  in_play_at_4 = at_4;
  in_play_at_7 = at_7;
  new_alone = refl;
  old_alone = refl;
  old_and_new = refl;
  as_late = answered;
  shorter = λ l c epoch a n. (VoterAhead, behind l c epoch a n, refl);
  earlier = λ l c epoch a n. (VoterAhead, before l c epoch a n, refl);
  code = refl;
}
